-- `bags::reading::many_end` meets its contract: the things left end where all do. Assumes nothing.
use Rattle.std.proofs.Common.{◌≡◌, ◌+◌, ◌-◌, arith, refl, sym, ◌∙◌}
use Rattle.bags.proofs.ReadLaws.{many_done, many_stop, many_more}
use Rattle.bags.proofs.reading.many_end.Goals as goal

pub loop-init : goal.loop-init
loop-init g c = let e : c.args.n - 0 ≡ c.args.n = omega arith in rw e

pub returns-in_err-next : goal.returns-in_err-next
returns-in_err-next g c =
    c.from_residual.ensures ∙ sym (many_stop _ _ _ (omega arith) (sym c.end.ensures ∙ c.in_err-next.was)) ∙ c.loop.invariant

pub loop-preserved : goal.loop-preserved
loop-preserved g c =
    let e : c.args.n - (c.loop.counter + 1) ≡ c.args.n - c.loop.counter - 1 = omega arith in
    rw e (sym (many_more _ _ _ _ (omega arith) (sym c.end.ensures ∙ c.in_ok-next.was)) ∙ c.loop.invariant)

pub returns : goal.returns
returns g c = sym (many_done _ _ _ (omega arith)) ∙ c.loop.invariant
