-- `lock_pieces::put_quoted` meets its contract. Assumes nothing.
use native.Mathlib.Omega.{arith}
use Rattle.locks.proofs.PutLaws.{put_both}
use lib.ListN.{length-append}
use borrow.Author.Rules.{rules}
use Rattle.lock_pieces.proofs.put_quoted.Goals as goal

pub put-end-requires : goal.put-end-requires
put-end-requires c = omega (arith, simp length-append at c.requires)

pub put-requires : goal.put-requires
put-requires c = omega (arith, simp length-append at c.requires)

pub returns : goal.returns
returns c = put_both c.put-start.ensures (put_both c.put-end.ensures c.put.ensures (simp length-append (omega (arith, simp length-append at c.requires)))) c.requires
