-- `listing::is_allowed` meets its contract: by the decision. Assumes nothing.
use Rattle.std.proofs.Common.{◌≡◌, refl, ℕ, false, ⊎_elim}
use Rattle.meaning.specs.Decisions.{is_allowed}
use Rattle.meaning.specs.declared.Decision.{Decision}
use Rattle.meaning.specs.declared.Decision.TheVariants.{Allowed, Forbidden, Nothing, System}
use Rattle.listing.proofs.is_allowed.Goals as goal

-- what is neither allowed nor the system's is not answered with yes
not_yes : (d : Decision) → ((n : ℕ) → d ≡ Allowed n → ⊥) → (d ≡ System → ⊥) → false ≡ is_allowed d
unfolding is_allowed
not_yes (Allowed n) no_permit other = absurd (no_permit n refl)
not_yes (Forbidden n) no_permit other = refl
not_yes Nothing no_permit other = refl
not_yes System no_permit other = absurd (other refl)

pub returns-in-Allowed : goal.returns-in-Allowed
unfolding is_allowed
returns-in-Allowed c = ⊎_elim (λ (w : (n : ℕ) × (c.args.d ≡ Allowed n)). simp w.1) (λ (e : c.args.d ≡ System). simp e) c.in-Allowed.is

pub returns-in_default : goal.returns-in_default
returns-in_default c = not_yes _ c.in_default.not-Allowed c.in_default.not-System
