-- `numbers::literals::magnitude` meets its contract. The invariant: the rest of the text, after what is read, gives what the whole text gives. Assumes nothing.
use Rattle.numbers.proofs.Reading.{SoFar, at_start, after_point, after_digit, after_other, small, at_end}
use Rattle.numbers.proofs.Rounded.{whole_cast}
use lib.ListN.{length}
use native.Mathlib.Omega.{arith}
use Prim.Native.Nat.{◌-◌}
use Rattle.numbers.proofs.literals.magnitude.Goals as goal
use Rattle.numbers.proofs.literals.magnitude.Goals.{then-b-eq46, else-b-eq46+then-b-ge48, else-b-eq46+else-b-ge48}

pub loop-b-init : goal.loop-b-init
loop-b-init c = at_start _

pub overflow_mul-digits : goal.overflow_mul-digits
overflow_mul-digits c = omega (arith, (small c.requires (after_digit c.loop-b.invariant (omega arith) c.if-b-eq46.false c.if-b-ge48.true)).digits)

pub overflow_cast-digits : goal.overflow_cast-digits
overflow_cast-digits c = omega (arith, (small c.requires (after_digit c.loop-b.invariant (omega arith) c.if-b-eq46.false c.if-b-ge48.true)).digits)

pub overflow_add-digits : goal.overflow_add-digits
overflow_add-digits c = omega (arith, (small c.requires (after_digit c.loop-b.invariant (omega arith) c.if-b-eq46.false c.if-b-ge48.true)).digits)

pub overflow_mul-power : goal.overflow_mul-power
overflow_mul-power c = omega (arith, (small c.requires (after_digit c.loop-b.invariant (omega arith) c.if-b-eq46.false c.if-b-ge48.true)).power)

pub loop-b-preserved : goal.loop-b-preserved
loop-b-preserved c =
    elim c.if-b-eq46.branch [
      | then-b-eq46 w ↦ rw (w.digits-is, w.power-is, w.scale-is) (after_point c.loop-b.invariant c.loop-b-test.true w.if-b-eq46.true)
      | else-b-eq46+then-b-ge48 w ↦ rw (w.digits-is, w.power-is, w.scale-is) (after_digit c.loop-b.invariant c.loop-b-test.true w.if-b-eq46.false w.if-b-ge48.true)
      | else-b-eq46+else-b-ge48 w ↦ rw (w.digits-is, w.power-is, w.scale-is) (after_other c.loop-b.invariant c.loop-b-test.true w.if-b-eq46.false w.if-b-ge48.false)
    ]

pub int_to_float-result : goal.int_to_float-result
int_to_float-result c = whole_cast _ (small c.requires c.loop-b.invariant).digits

pub int_to_float-result-2 : goal.int_to_float-result-2
int_to_float-result-2 c = whole_cast _ (small c.requires c.loop-b.invariant).power

pub returns : goal.returns
returns c = at_end c.requires c.loop-b.invariant (omega arith)
