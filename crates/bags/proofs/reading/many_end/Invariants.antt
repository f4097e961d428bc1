-- `bags::reading::many_end` meets its contract: the things left end where all do. Assumes nothing.
use Rattle.std.proofs.Common.{◌≡◌, ◌-◌}
use Rattle.bags.specs.Reading.{many}
use Rattle.bags.proofs.reading.many_end.Given as goal

abbrev pub invariant-loop : goal.invariant-loop
invariant-loop g l = many (l.n - l.counter) (g.T.Thing.ending l.s) l.next ≡ many l.n (g.T.Thing.ending l.s) l.at
