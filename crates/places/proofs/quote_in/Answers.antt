-- `places::quote_in` meets its contract: the string ends at the first quote. Assumes nothing.
use mathlib.Core.Path.{◌≡◌, ◌∙◌}
use borrow.Author.Rules.{rules}
use Rattle.std.proofs.Common.{tests}
use Rattle.std.specs.List.{position_or_len}
use Rattle.std.proofs.lemmas.Iterator.{YieldsList-from_slice}
use Rattle.std.proofs.lemmas.Iterator.Search.{position_from_yields_List}
use Rattle.places.proofs.PlaceLaws.{is_quote, string_cut, first_or_length}
use Rattle.places.proofs.quote_in.Goals as goal

pub returns-clause-is : goal.returns-clause-is
unfolding is_quote
returns-clause-is c =
    let found = position_from_yields_List is_quote _ _ c.position.result c.position.ensures.ran (YieldsList-from_slice c.args.rest.now cc) (λ x r q k. search (rules, tests)) in
    let e : c.unwrap_or.result ≡ position_or_len is_quote c.args.rest.now = c.unwrap_or.ensures ∙ first_or_length c.args.rest.now c.position.result found in
    rw e (string_cut c.args.rest.now)
