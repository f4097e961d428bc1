-- `questions::elements::all_differ` meets its contract: those left are different exactly when all are. Assumes nothing.
use borrow.Author.Rules.{rules}
use mathlib.Core.Path.{◌≡◌, refl, sym, ◌∙◌}
use native.Mathlib.Omega.{arith}
use Rattle.bags.proofs.ReadLaws.{first, many_more}
use Rattle.bags.specs.Reading.{many, each}
use Rattle.questions.proofs.ColumnLaws.{name_among}
use Rattle.questions.proofs.DifferLaws.{differ_done, differ_twice, differ_on}
use Rattle.questions.specs.Distinct.{distinct}
use Rattle.std.proofs.Common.{◌-◌}
use Rattle.questions.proofs.elements.all_differ.Given as goal

abbrev pub invariant-loop-i : goal.invariant-loop-i
invariant-loop-i g l =
    (many (l.n - l.i) (g.T.Thing.ending l.s) l.next ≡ many l.n (g.T.Thing.ending l.s) l.at)
    × (distinct (each (l.n - l.i) (g.T.Thing.ending l.s) (g.T.Unrepeated.name l.s) l.next) ≡ distinct (each l.n (g.T.Thing.ending l.s) (g.T.Unrepeated.name l.s) l.at))
