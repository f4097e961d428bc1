-- `token_reader::entry_at` meets its contract: past the end the table's entry is that of 0. Assumes nothing.
use mathlib.Core.Path.{sym, ap, ◌∙◌}
use Prim.Native.Nat.{◌<◌, ◌≤◌}
use lib.ListN.{length, get_or, get_or-eq_default}
use borrow.Author.Tests.{ltb-true, ltb-false}
use Rattle.std.proofs.lemmas.Grind.{get_or_default_zero}
use Rattle.tokens.specs.Table.{entry_of}
use Rattle.tokens.proofs.ClassLaws.{no_entry}
use Rattle.token_reader.proofs.entry_at.Goals as goal

pub returns-in-None : goal.returns-in-None
returns-in-None c =
    let past : length c.args.text.now ≤ c.args.at = ltb-false _ _ (sym c.in-None.ensures.lookup.0) in
    no_entry ∙ ap entry_of (sym (get_or-eq_default c.args.text.now 0 past))

pub returns-in-Some : goal.returns-in-Some
returns-in-Some c =
    let text = c.args.text.now in
    let inside : c.args.at < length text = ltb-true _ _ (sym c.in-Some.ensures.lookup.0) in
    c.entry_of.ensures ∙ ap entry_of (c.in-Some.ensures.lookup.1 ∙ get_or_default_zero text c.args.at _ inside)
