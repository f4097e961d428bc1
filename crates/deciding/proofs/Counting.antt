-- When a policy is satisfied that is met from its last entry: its target matches, and its condition, if any, is true. Assumes nothing.
use mathlib.Core.Path.{◌≡◌, refl, sym, ◌∙◌}
use mathlib.Core.Bool.{Bool, true, false}
use mathlib.Core.List.{List}
use Prim.Native.Nat.{ℕ, ◌-◌}
use borrow.Author.Tests.{eq-eqb, ne_eqb}
use Rattle.table.specs.declared.Entry.{Entry}
use Rattle.stored.specs.ReadBack.{condition_by, policy_by, tree_at, policy_at}
use Rattle.placing.specs.Said.{condition_words, policy_words, tree_words}
use Rattle.meaning.specs.Values.{with_action}
use Rattle.meaning.specs.Conditions.{settles, verdict, is_yes}
use Rattle.meaning.specs.Targets.{Request}
use Rattle.meaning.specs.declared.Verdict.{Verdict}
use Rattle.meaning.specs.declared.Verdict.TheVariants.{Yes, No, Missing}
use Rattle.meaning.specs.Decisions.{Terms, under, target_matches, condition_holds, satisfied}

-- what is not Yes is not true
pub not_yes : (v : Verdict) → (v ≡ Yes → ⊥) → false ≡ is_yes v
not_yes Yes n = absurd (n refl)
not_yes No n = refl
not_yes Missing n = refl

module _ (t : List ℕ) (terms : Terms) (table : List ℕ) (end : ℕ) (x : Entry) where
  pub no_condition : x.second ≡ end - 1 → true ≡ condition_holds terms (policy_words t (policy_at table end x)).condition
  unfolding condition_holds condition_words policy_by condition_by
  no_condition e = rw (eq-eqb _ _ e)

  pub by_condition : (x.second ≡ end - 1 → ⊥) → {b : Bool} → b ≡ is_yes (verdict (settles terms.version) terms.view (tree_words t (tree_at table (end - 1))))
      → b ≡ condition_holds terms (policy_words t (policy_at table end x)).condition
  unfolding condition_holds condition_words policy_by condition_by
  by_condition n d = d ∙ rw (ne_eqb _ _ n)

  module _ (q : Request) {r : Bool} (target : r ≡ target_matches q (policy_words t (policy_at table end x))) where
    pub no_target : r ≡ false → false ≡ satisfied terms q (policy_words t (policy_at table end x))
    unfolding satisfied
    no_target e = rw (sym target ∙ e)

    pub target_met : r ≡ true → {b : Bool} → b ≡ condition_holds (under terms.version (with_action q.action terms.view)) (policy_words t (policy_at table end x)).condition
        → b ≡ satisfied terms q (policy_words t (policy_at table end x))
    unfolding satisfied
    target_met e d = d ∙ rw (sym target ∙ e)
