-- `questions::elements::occurs` meets its contract: the name is among those left exactly when it is among all. Assumes nothing.
use borrow.Author.Rules.{rules}
use mathlib.Core.Path.{◌≡◌, refl, sym, ◌∙◌}
use native.Mathlib.Omega.{arith}
use Rattle.bags.proofs.ReadLaws.{first, many_more}
use Rattle.bags.specs.Reading.{many, each}
use Rattle.questions.proofs.ColumnLaws.{name_same}
use Rattle.questions.proofs.DifferLaws.{among_done, among_here, among_on}
use Rattle.questions.specs.Distinct.{among}
use Rattle.std.proofs.Common.{◌-◌}
use Rattle.questions.proofs.elements.occurs.Given as goal

abbrev pub invariant-loop : goal.invariant-loop
invariant-loop g l =
    (many (l.n - l.counter) (g.T.Thing.ending l.s) l.next ≡ many l.n (g.T.Thing.ending l.s) l.from)
    × (among l.x (each (l.n - l.counter) (g.T.Thing.ending l.s) (g.T.Unrepeated.name l.s) l.next) ≡ among l.x (each l.n (g.T.Thing.ending l.s) (g.T.Unrepeated.name l.s) l.from))
