-- `utf8::is_utf8` meets its contract. The invariant: the whole is UTF-8 exactly when what is left of it is. Assumes nothing.
use native.Mathlib.Omega.{arith}
use Rattle.utf8.proofs.Fours.{past_four, utf8_past}
use Rattle.utf8.proofs.Places.{utf8_end, utf8_stops, utf8_on, stays_in}
use Rattle.slices.proofs.Decided.{yes_to, no_to, carried}
use Rattle.utf8.specs.Characters.{Utf8}
use mathlib.Core.Path.{sym, ◌∙◌}
use mathlib.Core.Logic.Iff
use Rattle.utf8.proofs.is_utf8.Goals as goal

pub loop-i-init : goal.loop-i-init
loop-i-init c = (omega arith, Iff.rfl)

pub loop-i-preserved-then-s-i-le127 : goal.loop-i-preserved-then-s-i-le127
loop-i-preserved-then-s-i-le127 c = (omega arith, Iff.trans c.loop-i.invariant.1 (past_four Utf8 c.args.s.now c.loop-i.i (utf8_past _) (omega arith) c.if-s-i-le127.true))

pub character-n-requires : goal.character-n-requires
character-n-requires c = tt

pub returns-then-n-eq0 : goal.returns-then-n-eq0
returns-then-n-eq0 c = carried c.loop-i.invariant.1 (no_to (utf8_stops _ _ c.loop-i-test.true (sym c.character-n.ensures ∙ c.if-n-eq0.true)))

pub overflow_add-i-in-loop-i : goal.overflow_add-i-in-loop-i
overflow_add-i-in-loop-i c = omega (arith, stays_in _ _ _ c.loop-i-test.true c.character-n.ensures)

pub loop-i-smaller : goal.loop-i-smaller
loop-i-smaller c = omega (arith, stays_in _ _ _ c.loop-i-test.true c.character-n.ensures)

pub loop-i-preserved : goal.loop-i-preserved
loop-i-preserved c = (stays_in _ _ _ c.loop-i-test.true c.character-n.ensures, Iff.trans c.loop-i.invariant.1 (utf8_on _ _ _ c.loop-i-test.true c.character-n.ensures (omega arith)))

pub returns : goal.returns
returns c = carried c.loop-i.invariant.1 (yes_to (utf8_end _ _ c.loop-i-test.false))
