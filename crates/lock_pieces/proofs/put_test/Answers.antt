-- `lock_pieces::put_test` meets its contract: a case for each sort. Assumes nothing.
use Rattle.locks.proofs.PutLaws.{room_left}
use Rattle.locks.specs.Reading.{comparator_for}
use Rattle.permits.specs.Permits.{sign_of}
use mathlib.Core.List.{[], ◌∷◌}
use native.Mathlib.Omega.{arith}
use Rattle.locks.proofs.TestLaws.{text_equal, text_member, text_order}
use Rattle.locks.proofs.PutLaws.{put_both}
use lib.ListN.{length, length-append}
use mathlib.Core.Path.{ap}
use borrow.Author.Rules.{rules}
use Rattle.lock_pieces.proofs.put_test.Goals as goal

pub put_attribute-left-requires : goal.put_attribute-left-requires
put_attribute-left-requires c = omega (arith, simp length-append at (ap length (text_equal _ c.args.mark c.args.path.now c.args.value.now c.in-1.is)))

pub put-between-requires : goal.put-between-requires
put-between-requires c = omega (arith, simp length-append at (ap length (text_equal _ c.args.mark c.args.path.now c.args.value.now c.in-1.is)))

pub put_quoted-requires : goal.put_quoted-requires
put_quoted-requires c = omega (arith, simp length-append at (ap length (text_equal _ c.args.mark c.args.path.now c.args.value.now c.in-1.is)), length-append c.args.value.now (34 ∷ []))

pub returns-in-1 : goal.returns-in-1
returns-in-1 c =
    let e = text_equal _ c.args.mark c.args.path.now c.args.value.now c.in-1.is in
    let k = length-append c.args.value.now (34 ∷ []) in
    rw e (put_both c.put_attribute-left.ensures (put_both c.put-between.ensures c.put_quoted.ensures (room_left _ c.put_attribute-left.ensures (rw e at c.requires))) (rw e at c.requires))

pub put_quoted-left-requires : goal.put_quoted-left-requires
put_quoted-left-requires c = omega (arith, simp length-append at (ap length (text_member _ c.args.mark c.args.path.now c.args.value.now (omega arith) c.in-2.is)), length-append c.args.value.now (34 ∷ []))

pub put-between-requires-in-2 : goal.put-between-requires-in-2
put-between-requires-in-2 c = omega (arith, simp length-append at (ap length (text_member _ c.args.mark c.args.path.now c.args.value.now (omega arith) c.in-2.is)), length-append c.args.value.now (34 ∷ []))

pub put_attribute-requires : goal.put_attribute-requires
put_attribute-requires c = omega (arith, simp length-append at (ap length (text_member _ c.args.mark c.args.path.now c.args.value.now (omega arith) c.in-2.is)), length-append c.args.value.now (34 ∷ []))

pub returns-in-2 : goal.returns-in-2
returns-in-2 c =
    let e = text_member _ c.args.mark c.args.path.now c.args.value.now (omega arith) c.in-2.is in
    let k = length-append c.args.value.now (34 ∷ []) in
    rw e (put_both c.put_quoted-left.ensures (put_both c.put-between-in-2.ensures c.put_attribute.ensures (room_left _ c.put_quoted-left.ensures (rw e at c.requires))) (rw e at c.requires))

pub put_attribute-left-requires-in_default : goal.put_attribute-left-requires-in_default
put_attribute-left-requires-in_default c = omega (arith, simp length-append at (ap length (text_order c.args.sort c.args.mark c.args.path.now c.args.value.now (omega arith) (omega arith))))

pub put_mark-between-requires : goal.put_mark-between-requires
put_mark-between-requires c = omega (arith, simp length-append at (ap length (text_order c.args.sort c.args.mark c.args.path.now c.args.value.now (omega arith) (omega arith))), length-append (sign_of (comparator_for c.args.mark)) (32 ∷ []))

pub put-requires : goal.put-requires
put-requires c = omega (arith, simp length-append at (ap length (text_order c.args.sort c.args.mark c.args.path.now c.args.value.now (omega arith) (omega arith))), length-append (sign_of (comparator_for c.args.mark)) (32 ∷ []))

pub returns-in_default : goal.returns-in_default
returns-in_default c =
    let e = text_order c.args.sort c.args.mark c.args.path.now c.args.value.now (omega arith) (omega arith) in
    let k = length-append (sign_of (comparator_for c.args.mark)) (32 ∷ []) in
    rw e (put_both c.put_attribute-left-in_default.ensures (put_both c.put_mark-between.ensures c.put.ensures (room_left _ c.put_attribute-left-in_default.ensures (rw e at c.requires))) (rw e at c.requires))
