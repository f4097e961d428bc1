-- `ways::settled_as` meets its contract. Assumes nothing.
use Rattle.meaning.specs.Conditions.{settled, settled_if}
use Rattle.meaning.specs.declared.Verdict.{Verdict}
use Rattle.meaning.specs.declared.Verdict.TheVariants.{Yes, No, Missing}
use mathlib.Core.Bool.{Bool, true, false}
use mathlib.Core.Path.{◌≡◌, refl}
use Rattle.ways.proofs.settled_as.Goals as goal

-- a verdict that is not Missing stays
stays : (b : Bool) (v : Verdict) → (v ≡ Missing → ⊥) → v ≡ settled_if b v
unfolding settled_if settled
stays true Yes n = refl
stays false Yes n = refl
stays true No n = refl
stays false No n = refl
stays b Missing n = absurd (n refl)

pub returns-then-settles : goal.returns-then-settles
unfolding settled_if settled
returns-then-settles c = rw (c.if-settles.true, c.in-Missing.is) refl

pub returns-else-settles : goal.returns-else-settles
unfolding settled_if settled
returns-else-settles c = rw (c.if-settles.false, c.in-Missing.is) refl

pub returns-in_default : goal.returns-in_default
returns-in_default c = stays _ _ c.in_default.not-Missing
