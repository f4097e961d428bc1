-- `lock_pieces::put` meets its contract: the first `i` bytes are put. Assumes nothing.
use Prim.Native.Nat.{◌+◌}
use native.Mathlib.Omega.{arith}
use borrow.Author.Rules.{rules}
use mathlib.Core.Path.{refl}
use Rattle.locks.proofs.PutLaws.{paste_none, paste_on, paste_long, paste_all}
use lib.Seq.{paste}
use lib.ListN.{length}
use mathlib.Core.Path.{◌≡◌}
use Prim.Native.Nat.{◌≤◌, ◌-◌}
use Rattle.lock_pieces.proofs.put.Given as goal

abbrev pub invariant-loop-i : goal.invariant-loop-i
invariant-loop-i l = (l.room ≡ paste l.initial.room l.at l.bytes l.i) × (l.i ≤ length l.bytes) × (length l.room ≡ length l.initial.room)
