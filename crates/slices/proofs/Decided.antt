-- Laws of answers that decide a statement: there is one only, and how one is made from others. Assumes nothing.
use mathlib.Core.Path.{◌≡◌, refl, sym, ◌∙◌}
use mathlib.Core.Logic.{◌↔◌}
use mathlib.Core.Bool.{Bool, true, false, ◌&&◌, false≢true}
use Rattle.slices.specs.Decides.{Decides}

-- two answers that decide one statement are the same answer
pub one_answer : {P : Type 0} (r q : Bool) → Decides P r → Decides P q → r ≡ q
one_answer true q dr dq = sym (dq.complete (dr.sound refl))
one_answer false true dr dq = dr.complete (dq.sound refl)
one_answer false false dr dq = refl

-- yes answers what holds, no what does not
pub yes_to : {P : Type 0} → P → Decides P true
yes_to h = record { sound = λ _. h; complete = λ _. refl }

pub no_to : {P : Type 0} → (P → ⊥) → Decides P false
no_to f = record { sound = λ e. absurd (false≢true e); complete = λ h. absurd (f h) }

-- what is answered by no does not hold
pub refuted : {P : Type 0} {r : Bool} → Decides P r → r ≡ false → P → ⊥
refuted d e h = false≢true (sym e ∙ d.complete h)

-- an answer to Q answers P, where one holds exactly when the other does
pub carried : {P Q : Type 0} {r : Bool} → P ↔ Q → Decides Q r → Decides P r
carried e d = record { sound = λ h. e.1 (d.sound h); complete = λ p. d.complete (e.0 p) }

-- an answer to P and one to Q answer both together
pub both : {P Q : Type 0} (a b : Bool) → Decides P a → Decides Q b → Decides (P × Q) (a && b)
both true true p q = yes_to (p.sound refl, q.sound refl)
both true false p q = no_to (λ h. refuted q refl h.1)
both false b p q = no_to (λ h. refuted p refl h.0)
