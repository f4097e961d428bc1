-- `slots::is_plain` meets its contract: bytes above a space are no blanks. Assumes nothing.
use Rattle.slots.proofs.SlotLaws.{plain_on, plain_end}
use Rattle.tokens.specs.Blanks.{unblanked}
use native.Mathlib.Omega.{arith}
use lib.ListN.{length, drop}
use Prim.Native.Nat.{ℕ, ◌-◌}
use mathlib.Core.Path.{◌≡◌}
use Rattle.slots.proofs.is_plain.Goals as goal

pub loop-c-init : goal.loop-c-init
loop-c-init c = λ h. h

pub returns-then-c-le32 : goal.returns-then-c-le32
returns-then-c-le32 c = λ h. absurd (let z : ◌≡◌ {A = ℕ} 0 1 = cc in omega arith)

pub loop-c-preserved : goal.loop-c-preserved
loop-c-preserved c = λ h. c.loop-c.invariant (plain_on c.args.path.now c.loop-c.c-index c.loop-c-test.true (omega (arith, c.type_inv.path c.loop-c.c-index)) c.if-c-le32.false h)

pub returns : goal.returns
returns c = λ h. c.loop-c.invariant (plain_end c.args.path.now c.loop-c.c-index c.loop-c-test.false)
