-- `tallies::counting::clear` meets its contract: the counts passed are 0. Assumes nothing.
use Rattle.tallies.proofs.Groups.{cleared}
use lib.Seq.{take_all}
use lib.ListN.{length, take, replicate, length-set}
use native.Mathlib.Omega.{arith}
use Prim.Native.Nat.{◌-◌, ◌≤◌}
use mathlib.Core.Path.{◌≡◌, refl, sym, ◌∙◌}
use Rattle.tallies.proofs.counting.clear.Goals as goal

pub loop-i-init : goal.loop-i-init
loop-i-init c = (c.requires, omega arith, refl)

pub loop-i-preserved : goal.loop-i-preserved
loop-i-preserved c =
    let l = c.loop-i in
    (length-set l.counts l.i 0 ∙ l.invariant.0, omega arith, cleared l.counts l.i (omega arith) l.invariant.2)

pub shape_of-counts : goal.shape_of-counts
shape_of-counts c = c.loop-i.invariant.0 ∙ sym c.requires

pub returns : goal.returns
returns c =
    let l = c.loop-i in
    let last : l.i ≡ 612 = omega arith in
    sym (take_all 612 l.counts (omega arith)) ∙ (rw last at l.invariant.2)
