-- `questions::elements::occurs` meets its contract: the name is among those left exactly when it is among all. Assumes nothing.
use borrow.Author.Rules.{rules}
use mathlib.Core.Path.{◌≡◌, refl, sym, ◌∙◌}
use native.Mathlib.Omega.{arith}
use Rattle.bags.proofs.ReadLaws.{first, many_more}
use Rattle.bags.specs.Reading.{many, each}
use Rattle.questions.proofs.ColumnLaws.{name_same}
use Rattle.questions.proofs.DifferLaws.{among_done, among_here, among_on}
use Rattle.questions.specs.Distinct.{among}
use Rattle.std.proofs.Common.{◌≡◌, ◌-◌, ◌+◌}
use Rattle.questions.proofs.elements.occurs.Goals as goal

pub loop-init : goal.loop-init
loop-init g c = let e : c.args.n - 0 ≡ c.args.n = omega arith in rw e (refl, refl)

pub next-e-requires : goal.next-e-requires
next-e-requires g c =
    let f = first (g.T.Thing.ending c.args.s.now) (c.args.n - c.loop.counter) c.loop.next c.requires.0 (omega arith) (c.loop.invariant.0 ∙ c.requires.1) in
    (f.stop, f.ends)

pub name_end-end-requires : goal.name_end-end-requires
name_end-end-requires g c = c.next-e.ensures

pub returns-then-same : goal.returns-then-same
returns-then-same g c =
    among_here _ _ _ _ (omega arith) _ c.next-e.ensures _ (name_same _ _ _ _ _ _ c.name_end-end.ensures _ c.same.ensures ∙ c.if-same.true)
    ∙ c.loop.invariant.1

pub loop-preserved : goal.loop-preserved
loop-preserved g c =
    let e : c.args.n - (c.loop.counter + 1) ≡ c.args.n - c.loop.counter - 1 = omega arith in
    rw e (
      sym (many_more _ _ _ _ (omega arith) c.next-e.ensures) ∙ c.loop.invariant.0,
      among_on _ _ _ _ (omega arith) _ c.next-e.ensures _ (name_same _ _ _ _ _ _ c.name_end-end.ensures _ c.same.ensures ∙ c.if-same.false)
          ∙ c.loop.invariant.1,
    )

pub returns : goal.returns
returns g c = among_done _ _ _ _ _ (omega arith) ∙ c.loop.invariant.1
