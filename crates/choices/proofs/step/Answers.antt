-- `choices::step` meets its contract: the choices and a unit for the column before k count one row more. Assumes nothing.
use Rattle.pages.proofs.Digits.{counts_length}
use Rattle.pages.proofs.Combinations.{as_many}
use Rattle.pages.proofs.Stepping.{Carried, carry_one, hand_on, take_next, pick_set, Passed, none_passed, pass_on, moved_at, all_passed, moved_on, moved_round}
use Rattle.pages.specs.Rows.{counts_by, row_of, Picked}
use lib.ListN.{length, length-set}
use native.Mathlib.Omega.{arith}
use Prim.Native.Nat.{suc, ◌≤◌, ◌-◌}
use mathlib.Core.Path.{◌≡◌}
use Rattle.choices.proofs.step.Goals as goal

pub loop-k-init : goal.loop-k-init
loop-k-init c =
    let many = as_many c.requires.combines in
    (omega (arith, counts_length c.args.lasts.now, c.requires.few.six), c.requires.values_are, carry_one _ _ c.requires.few.six c.requires.combines, none_passed _ _)

pub overflow_add-next : goal.overflow_add-next
overflow_add-next c = omega (arith, c.requires.few.few (c.loop-k.k - 1) (omega arith))

pub overflow_cast-values : goal.overflow_cast-values
overflow_cast-values c = omega (arith, c.requires.few.few (c.loop-k.k - 1) (omega arith))

pub offset_bounds-grid-next : goal.offset_bounds-grid-next
offset_bounds-grid-next c = omega (arith, c.requires.few.few (c.loop-k.k - 1) (omega arith))

pub bounds-grid-next : goal.bounds-grid-next
bounds-grid-next c = omega (arith, c.requires.few.few (c.loop-k.k - 1) (omega arith))

pub returns-then-choice-lasts : goal.returns-then-choice-lasts
returns-then-choice-lasts c =
    let e : c.loop-k.k ≡ suc (c.loop-k.k - 1) = omega arith in
    let six = c.requires.few.six in
    moved_on _ _ _ _ _ _ (pick_set _ _ _ _ _ c.loop-k.invariant.0 (omega arith) c.loop-k.invariant.1)
    (moved_at _ _ c.loop-k.choices (c.loop-k.k - 1) _ (rw e at c.loop-k.invariant.3) (omega arith) c.if-choice-lasts.true)
    (take_next c.args.lasts.now _ (c.loop-k.k - 1) c.loop-k.choices (omega arith) (rw e at c.loop-k.invariant.2) c.if-choice-lasts.true)

pub loop-k-preserved : goal.loop-k-preserved
loop-k-preserved c =
    let e : c.loop-k.k ≡ suc (c.loop-k.k - 1) = omega arith in
    let six = c.requires.few.six in (
      simp length-set c.loop-k.invariant.0,
      pick_set _ _ _ _ _ c.loop-k.invariant.0 (omega arith) c.loop-k.invariant.1,
      hand_on c.args.lasts.now _ (c.loop-k.k - 1) c.loop-k.choices (omega arith) (rw e at c.loop-k.invariant.2) (omega arith),
      pass_on _ _ c.loop-k.choices (c.loop-k.k - 1) _ (rw e at c.loop-k.invariant.3) (omega arith),
    )

pub returns : goal.returns
returns c = moved_round _ _ _ _ _ _ c.loop-k.invariant.1 (all_passed (omega arith) c.loop-k.invariant.3) c.requires.combines c.loop-k.k (omega arith) c.loop-k.invariant.2
