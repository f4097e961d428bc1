-- `slots::is_plain` meets its contract: bytes above a space are no blanks. Assumes nothing.
use Rattle.slots.proofs.SlotLaws.{plain_on, plain_end}
use Rattle.tokens.specs.Blanks.{unblanked}
use native.Mathlib.Omega.{arith}
use lib.ListN.{length, drop}
use Prim.Native.Nat.{ℕ, ◌-◌}
use mathlib.Core.Path.{◌≡◌}
use Rattle.slots.proofs.is_plain.Given as goal

abbrev pub invariant-loop-c : goal.invariant-loop-c
invariant-loop-c l = unblanked (drop l.c-index l.path) ≡ drop l.c-index l.path → unblanked l.path ≡ l.path
