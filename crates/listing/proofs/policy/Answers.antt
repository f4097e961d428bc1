-- `listing::policy` meets its contract: by the decision. Assumes nothing.
use native.Mathlib.Omega.{arith}
use Rattle.std.proofs.Common.{◌≡◌, ⊎_elim}
use Rattle.meaning.specs.declared.Decision.TheVariants.{Allowed, Forbidden, Nothing, System}
use Rattle.meaning.specs.Decisions.{policy_of}
use Rattle.listing.proofs.policy.Goals as goal

pub overflow_cast-result : goal.overflow_cast-result
unfolding policy_of
overflow_cast-result c = ⊎_elim (λ e. omega (arith, rw e at c.requires)) (λ e. omega (arith, rw e at c.requires)) c.in-Allowed.is

pub returns-in-Allowed : goal.returns-in-Allowed
unfolding policy_of
returns-in-Allowed c = ⊎_elim (λ (e : c.args.d ≡ Allowed c.in-Allowed.n). simp e) (λ (e : c.args.d ≡ Forbidden c.in-Allowed.n). simp e) c.in-Allowed.is

pub returns-in-Nothing : goal.returns-in-Nothing
unfolding policy_of
returns-in-Nothing c = ⊎_elim (λ (e : c.args.d ≡ Nothing). simp e) (λ (e : c.args.d ≡ System). simp e) c.in-Nothing.is
