-- `tallies::counting::add_up` meets its contract: the sums so far stand behind the eight groups. Assumes nothing.
use Rattle.tallies.proofs.Groups.{summed_none, summed_more, summed_all, still_few}
use Rattle.pages.specs.Tally.{group_size}
use native.Mathlib.Omega.{arith}
use Prim.Native.Nat.{◌-◌}
use mathlib.Core.Path.{◌≡◌, sym, ◌∙◌}
use Rattle.tallies.proofs.counting.add_up.Goals as goal

pub loop-i-init : goal.loop-i-init
loop-i-init c = (omega arith, summed_none _ c.requires.counts_len)

pub sum_at-sum-requires : goal.sum_at-sum-requires
sum_at-sum-requires c =
    let s = c.loop-i.invariant.1 in
    record {
      counts_len = s.whole;
      counts_few = still_few c.requires.counts_len s c.requires.counts_few;
      i_lt_group_size = c.loop-i-test.true;
    }

pub offset_bounds-counts-i : goal.offset_bounds-counts-i
offset_bounds-counts-i c = omega (arith, c.loop-i.invariant.1.whole)

pub bounds-counts-i : goal.bounds-counts-i
bounds-counts-i c = omega (arith, c.loop-i.invariant.1.whole)

pub loop-i-preserved : goal.loop-i-preserved
loop-i-preserved c = (omega arith, summed_more c.requires.counts_len c.loop-i.invariant.1 c.loop-i-test.true c.sum_at-sum.ensures)

pub shape_of-counts : goal.shape_of-counts
shape_of-counts c = c.loop-i.invariant.1.whole ∙ sym c.requires.counts_len

pub returns : goal.returns
returns c =
    let l = c.loop-i in
    let last : l.i ≡ group_size = omega arith in
    summed_all (rw last at l.invariant.1)
