-- `choices::lasts` meets its contract: the first `i` cells have their last choices, and the others 0. Assumes nothing.
use Rattle.questions.specs.Columns.{count_at}
use Rattle.questions.proofs.PlaceLaws.{first_of, first_none, fill_more}
use Rattle.questions.specs.Questions.{count_of}
use lib.ListN.{length, get_or, get_or-replicate, length-set}
use native.Mathlib.Omega.{arith}
use Prim.Native.Nat.{ℕ, ◌≤◌, ◌<◌, ◌-◌}
use mathlib.Core.Path.{◌≡◌, refl, ap, ◌∙◌}
use Rattle.choices.proofs.lasts.Goals as goal

pub loop-i-init : goal.loop-i-init
loop-i-init c = (refl, (λ k h. get_or-replicate 6 k 0 0 h ∙ first_none (λ k. count_of c.args.s.now (get_or c.args.heads.now k 0) - 1) k))

pub overflow_add-count_at : goal.overflow_add-count_at
overflow_add-count_at c =
    let counted : count_at c.args.s.now (get_or c.args.heads.now c.loop-i.i 0) < length c.args.s.now = c.requires.inside c.loop-i.i (omega arith) in
    omega (arith, counted)

pub overflow_add-count_at-in-loop-i : goal.overflow_add-count_at-in-loop-i
overflow_add-count_at-in-loop-i c =
    let counted : count_at c.args.s.now (get_or c.args.heads.now c.loop-i.i 0) < length c.args.s.now = c.requires.inside c.loop-i.i (omega arith) in
    omega (arith, counted)

pub bounds-s-head : goal.bounds-s-head
bounds-s-head c =
    let counted : count_at c.args.s.now (get_or c.args.heads.now c.loop-i.i 0) < length c.args.s.now = c.requires.inside c.loop-i.i (omega arith) in
    omega (arith, counted)

pub overflow_cast-count_at : goal.overflow_cast-count_at
overflow_cast-count_at c =
    let counted : count_at c.args.s.now (get_or c.args.heads.now c.loop-i.i 0) < length c.args.s.now = c.requires.inside c.loop-i.i (omega arith) in
    omega (arith, counted)

pub overflow_add-count_at-in-loop-i-2 : goal.overflow_add-count_at-in-loop-i-2
overflow_add-count_at-in-loop-i-2 c =
    let counted : count_at c.args.s.now (get_or c.args.heads.now c.loop-i.i 0) < length c.args.s.now = c.requires.inside c.loop-i.i (omega arith) in
    omega (arith, counted)

pub bounds-s-count_at : goal.bounds-s-count_at
bounds-s-count_at c =
    let counted : count_at c.args.s.now (get_or c.args.heads.now c.loop-i.i 0) < length c.args.s.now = c.requires.inside c.loop-i.i (omega arith) in
    omega (arith, counted)

pub overflow_sub-ends : goal.overflow_sub-ends
overflow_sub-ends c = c.requires.some c.loop-i.i (omega arith)

pub loop-i-preserved : goal.loop-i-preserved
loop-i-preserved c = (
  simp length-set c.loop-i.invariant.0,
  fill_more 6 (λ k. count_of c.args.s.now (get_or c.args.heads.now k 0) - 1) c.loop-i.ends c.loop-i.i _ (omega arith) refl c.loop-i.invariant.1,
)

pub returns : goal.returns
returns c =
    let e : c.loop-i.i ≡ c.args.n = omega arith in
    λ k h. c.loop-i.invariant.1 k h ∙ ap (λ (n : ℕ). first_of n (λ k. count_of c.args.s.now (get_or c.args.heads.now k 0) - 1) k) e
