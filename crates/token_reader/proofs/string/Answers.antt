-- `token_reader::string` meets its contract: the tests decide `string_to` at the run's end. Assumes nothing.
use mathlib.Core.Path.{◌≡◌, refl, ◌∙◌, sym}
use mathlib.Core.Logic.{◌≢◌}
use Prim.Native.Nat.{◌<◌, ◌≤◌}
use lib.ListN.{length, get_or}
use borrow.Author.Tests.{le-leb, lt-leb, eq-eqb, ne_eqb, ltb-true, ltb-false}
use Rattle.std.proofs.lemmas.Grind.{get_or_default_zero}
use Rattle.tokens.specs.Tokens.{string_token}
use Rattle.token_reader.proofs.string.Goals as goal

pub returns-in-None : goal.returns-in-None
unfolding string_token
returns-in-None c =
    let past : length c.args.text.now ≤ c.long_run_end-end.result = ltb-false _ _ (sym c.in-None.ensures.lookup.0) in
    rw (← c.long_run_end-end.ensures.place, le-leb _ _ past) refl

pub returns-in-Some-eq34 : goal.returns-in-Some-eq34
unfolding string_token
returns-in-Some-eq34 c =
    let text = c.args.text.now in
    let end = c.long_run_end-end.result in
    let inside : end < length text = ltb-true _ _ (sym c.in-Some-eq34.ensures.lookup.0) in
    let quote : get_or text end 0 ≡ 34 = sym (get_or_default_zero text end _ inside) ∙ (sym c.in-Some-eq34.ensures.lookup.1 ∙ c.in-Some-eq34.field-0-test) in
    rw (← c.long_run_end-end.ensures.place, lt-leb _ _ inside, eq-eqb _ _ quote) c.within.ensures

pub returns-in-Some : goal.returns-in-Some
unfolding string_token
returns-in-Some c =
    let text = c.args.text.now in
    let end = c.long_run_end-end.result in
    let inside : end < length text = ltb-true _ _ (sym c.in-Some.ensures.lookup.0) in
    let other : get_or text end 0 ≢ 34 = λ e. c.in-Some.field-0-test.1 (c.in-Some.ensures.lookup.1 ∙ (get_or_default_zero text end _ inside ∙ e)) in
    rw (← c.long_run_end-end.ensures.place, lt-leb _ _ inside, ne_eqb _ _ other) c.one_byte.ensures
