-- `questions::elements::all_differ` meets its contract: those left are different exactly when all are. Assumes nothing.
use borrow.Author.Rules.{rules}
use mathlib.Core.Path.{◌≡◌, refl, sym, ◌∙◌}
use native.Mathlib.Omega.{arith}
use Rattle.bags.proofs.ReadLaws.{first, many_more}
use Rattle.bags.specs.Reading.{many, each}
use Rattle.questions.proofs.ColumnLaws.{name_among}
use Rattle.questions.proofs.DifferLaws.{differ_done, differ_twice, differ_on}
use Rattle.questions.specs.Distinct.{distinct}
use Rattle.std.proofs.Common.{◌≡◌, ◌-◌, ◌+◌}
use Rattle.questions.proofs.elements.all_differ.Goals as goal

pub loop-i-init : goal.loop-i-init
loop-i-init g c = let e : c.args.n - 0 ≡ c.args.n = omega arith in rw e (refl, refl)

pub next-e-requires : goal.next-e-requires
next-e-requires g c =
    let f = first (g.T.Thing.ending c.args.s.now) (c.args.n - c.loop-i.i) c.loop-i.next c.requires.0 (omega arith) (c.loop-i.invariant.0 ∙ c.requires.1) in
    (f.stop, f.ends)

pub name_end-end-requires : goal.name_end-end-requires
name_end-end-requires g c = c.next-e.ensures

pub occurs-requires : goal.occurs-requires
occurs-requires g c = (c.requires.0, sym (many_more _ _ _ _ (omega arith) c.next-e.ensures) ∙ c.loop-i.invariant.0 ∙ c.requires.1)

pub returns-then-occurs : goal.returns-then-occurs
returns-then-occurs g c =
    differ_twice _ _ _ _ (omega arith) _ c.next-e.ensures (name_among _ _ _ _ _ _ c.name_end-end.ensures _ c.occurs.ensures ∙ c.if-occurs.true)
    ∙ c.loop-i.invariant.1

pub loop-i-preserved : goal.loop-i-preserved
loop-i-preserved g c =
    let e : c.args.n - (c.loop-i.i + 1) ≡ c.args.n - c.loop-i.i - 1 = omega arith in
    rw e (
      sym (many_more _ _ _ _ (omega arith) c.next-e.ensures) ∙ c.loop-i.invariant.0,
      differ_on _ _ _ _ (omega arith) _ c.next-e.ensures (name_among _ _ _ _ _ _ c.name_end-end.ensures _ c.occurs.ensures ∙ c.if-occurs.false)
          ∙ c.loop-i.invariant.1,
    )

pub returns : goal.returns
returns g c = differ_done _ _ _ _ (omega arith) ∙ c.loop-i.invariant.1
