-- `choices::choices_of` meets its contract: from k on `choices` has the digits of the row, and `rest` is what the columns before are to hold. Assumes nothing.
use Rattle.pages.proofs.Digits.{counts_length, no_digits, Digits, more_digits}
use Rattle.pages.specs.Rows.{counts_by}
use lib.ListN.{length, get_or, length-set, drop_of_length-le}
use native.Mathlib.Omega.{arith}
use native.Mathlib.Nat.{mod-lt, div-one}
use Prim.Native.Nat.{suc, ◌+◌, ◌%◌, ◌≤◌, ◌<◌, ◌-◌}
use mathlib.Core.Path.{◌≡◌, refl, sym}
use Rattle.choices.proofs.choices_of.Goals as goal

pub loop-k-init : goal.loop-k-init
loop-k-init c =
    let none = drop_of_length-le (counts_by c.args.lasts.now) {i = 6} (omega (arith, counts_length c.args.lasts.now)) in
    (refl, record { some = rw none (no_digits _); left = rw none (sym (div-one c.args.row)) })

pub overflow_cast-n : goal.overflow_cast-n
overflow_cast-n c = omega (arith, c.requires.few (c.loop-k.k - 1) (omega arith))

pub overflow_add-n : goal.overflow_add-n
overflow_add-n c = omega (arith, c.requires.few (c.loop-k.k - 1) (omega arith))

pub overflow_cast-choices : goal.overflow_cast-choices
overflow_cast-choices c =
    let n = get_or c.args.lasts.now (c.loop-k.k - 1) 0 + 1 in
    let left : c.loop-k.rest % n < n = mod-lt c.loop-k.rest (omega arith) in
    omega (arith, c.requires.few (c.loop-k.k - 1) (omega arith), left)

pub loop-k-preserved : goal.loop-k-preserved
loop-k-preserved c =
    let lasts = c.args.lasts.now in
    let j = c.loop-k.k - 1 in
    let e : c.loop-k.k ≡ suc j = omega arith in (
      simp length-set (omega arith),
      more_digits lasts c.args.row j c.loop-k.choices c.loop-k.rest (omega arith) (omega arith) (rw e at c.loop-k.invariant.1),
    )

pub returns : goal.returns
returns c = let e : c.loop-k.k ≡ 0 = omega arith in (rw e at c.loop-k.invariant.1).some
