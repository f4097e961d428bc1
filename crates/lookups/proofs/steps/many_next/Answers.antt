-- `lookups::steps::many_next` meets its contract: the things left end where all do. Assumes nothing.
use Rattle.std.proofs.Common.{◌≡◌, ◌+◌, ◌-◌, ◌*◌, arith, sym, ◌∙◌}
use Rattle.bags.proofs.ReadLaws.{First, first, many_more, many_done, same_end}
use Rattle.lookups.proofs.StepLaws.{two_more}
use Rattle.lookups.proofs.steps.many_next.Goals as goal

pub loop-init : goal.loop-init
loop-init g c = let e : c.args.n - 2 * 0 ≡ c.args.n = omega arith in rw e

pub next-second-requires : goal.next-second-requires
next-second-requires g c =
    let one : First (g.T.Thing.ending c.args.s.now) (c.args.n - 2 * c.loop.counter) c.loop.next c.requires.0 = first _ _ _ _ (omega arith) (c.loop.invariant ∙ c.requires.1) in
    (one.stop, one.ends)

pub next-next-requires : goal.next-next-requires
next-next-requires g c =
    let one : First (g.T.Thing.ending c.args.s.now) (c.args.n - 2 * c.loop.counter) c.loop.next c.requires.0 = first _ _ _ _ (omega arith) (c.loop.invariant ∙ c.requires.1) in
    let two : First (g.T.Thing.ending c.args.s.now) (c.args.n - 2 * c.loop.counter - 1) c.next-second.result c.requires.0 = first _ _ _ _ (omega arith) (rw (same_end one.ends c.next-second.ensures) at one.later) in
    (two.stop, two.ends)

pub loop-preserved : goal.loop-preserved
loop-preserved g c =
    let e : c.args.n - 2 * (c.loop.counter + 1) ≡ c.args.n - 2 * c.loop.counter - 2 = omega arith in
    rw e (two_more _ _ _ _ _ (omega arith) c.next-second.ensures c.next-next.ensures ∙ c.loop.invariant)

pub next-requires : goal.next-requires
next-requires g c =
    let one : First (g.T.Thing.ending c.args.s.now) (c.args.n - 2 * c.loop.counter) c.loop.next c.requires.0 = first _ _ _ _ (omega arith) (c.loop.invariant ∙ c.requires.1) in
    (one.stop, one.ends)

pub returns-then-n-eq1 : goal.returns-then-n-eq1
returns-then-n-eq1 g c = sym c.loop.invariant ∙ many_more _ _ _ _ (omega arith) c.next.ensures ∙ many_done _ _ _ (omega arith)

pub returns : goal.returns
returns g c = sym c.loop.invariant ∙ many_done _ _ _ (omega arith)
