-- `compiling::compile_under` meets its contract: by what is found; the second pass writes what the first has counted. Assumes nothing.
use Rattle.std.specs.Prelude.{Err}
use Rattle.compiling.proofs.Outcomes.{accepts, place_inside, same_table, no_more, new_table}
use Rattle.compiling.specs.Outcome.{said, told_of, compiled_under}
use Rattle.compiling.specs.declared.Refused.{Refused}
use Rattle.compiling.specs.declared.Unaccepted.{Unaccepted}
use lib.ListN.{length}
use native.Mathlib.Omega.{arith}
use mathlib.Core.Path.{◌∙◌, sym, ap}
use borrow.Author.Rules.{rules}
use Rattle.compiling.proofs.compile_under.Goals as goal

pub refusal_of-requires : goal.refusal_of-requires
refusal_of-requires c = λ f q.
    let e = sym c.in-Err.is ∙ c.recognise.ensures in
    place_inside c.args.text.now c.args.version (length c.args.table.now) (ap (λ (w : Unaccepted). Err w) (sym q) ∙ e)

pub read_all-requires : goal.read_all-requires
read_all-requires c =
    let a = c.args in
    let h = accepts a.version a.text.now (length a.table.now) _ _ (sym c.in-Ok.is ∙ c.recognise.ensures) in
    omega (arith, h.short)

pub overflow_mul-result : goal.overflow_mul-result
unfolding said
overflow_mul-result c =
    let a = c.args in
    let h = accepts a.version a.text.now (length a.table.now) _ _ (sym c.in-Ok.is ∙ c.recognise.ensures) in
    omega (arith, no_more h c.read_all.ensures, h.short)

pub returns-in-Err : goal.returns-in-Err
unfolding compiled_under told_of
returns-in-Err c =
    let a = c.args in
    let e = sym c.in-Err.is ∙ c.recognise.ensures in
    (ap (λ (r : Refused). Err r) c.refusal_of.ensures ∙ ap (told_of a.text.now) e, same_table a.version a.text.now a.table.now e)

pub returns-in-Ok : goal.returns-in-Ok
unfolding said compiled_under told_of
returns-in-Ok c =
    let a = c.args in
    let e = sym c.in-Ok.is ∙ c.recognise.ensures in
    (ap (told_of a.text.now) e, new_table (accepts a.version a.text.now (length a.table.now) _ _ e) c.read_all.ensures)
