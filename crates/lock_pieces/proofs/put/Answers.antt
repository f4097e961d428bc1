-- `lock_pieces::put` meets its contract: the first `i` bytes are put. Assumes nothing.
use Prim.Native.Nat.{◌+◌}
use native.Mathlib.Omega.{arith}
use borrow.Author.Rules.{rules}
use mathlib.Core.Path.{refl}
use Rattle.locks.proofs.PutLaws.{paste_none, paste_on, paste_long, paste_all}
use lib.Seq.{paste}
use lib.ListN.{length}
use mathlib.Core.Path.{◌≡◌}
use Prim.Native.Nat.{◌≤◌, ◌-◌}
use Rattle.lock_pieces.proofs.put.Goals as goal

pub loop-i-init : goal.loop-i-init
loop-i-init c = (paste_none c.args.room.now c.args.at c.args.bytes.now, omega arith, refl)

pub loop-i-preserved : goal.loop-i-preserved
loop-i-preserved c =
    let o = paste_on c.args.room.now c.args.at c.args.bytes.now c.loop-i.i _ c.loop-i.invariant.0 (omega arith) (omega arith) in
    (o, omega arith, paste_long c.args.room.now c.args.at c.args.bytes.now (c.loop-i.i + 1) _ o (omega arith) (omega arith))

pub returns : goal.returns
returns c = paste_all c.args.room.now c.args.at c.args.bytes.now c.loop-i.i _ c.loop-i.invariant.0 (omega arith) (omega arith)
