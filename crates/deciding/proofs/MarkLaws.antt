-- The mark of policies that are met from the last to the first, by their entries. Assumes nothing.
use mathlib.Core.Path.{◌≡◌, refl, sym, ◌∙◌}
use mathlib.Core.Bool.{Bool, cond}
use mathlib.Core.List.{List}
use Prim.Native.Nat.{ℕ, zero, suc, ◌+◌, ◌*◌, ◌≤◌}
use native.Mathlib.Omega.{arith}
use lib.Dec.{eqb}
use Rattle.grammar.specs.Policies.{Policy}
use Rattle.placing.specs.Said.{policy_words, words_of}
use Rattle.meaning.specs.Targets.{Request}
use Rattle.meaning.specs.Decisions.{Terms, satisfied, mark_of}
use Rattle.meaning.proofs.Marking.{mark_after, none_met, met_more}
use Rattle.meaning.proofs.WordLaws.{mark_words}
use Rattle.table.specs.Kinds.{permit_kind}
use Rattle.table.specs.declared.Entry.{Entry}
use Rattle.stored.specs.ReadBack.{policy_by, policies_up_to, policies_by, policies_at}
use Rattle.stored.specs.Ready.{LastBy}

-- ---- the mark of the policies left, where `mark` is that of those behind them

module _ (test : Policy → Bool) where
  pub all_marked : (table : List ℕ) (end mark : ℕ) → end ≤ 0 → mark ≡ mark_after test (policies_at table end) mark
  unfolding policies_up_to mark_after
  all_marked table zero mark l = refl
  all_marked table (suc end) mark l = absurd (omega arith)

  -- the last of the policies left is met: its bit is the lowest of the mark
  pub mark_one : {t : List ℕ} {at : ℕ → Entry} {many end : ℕ} {x : Entry} → LastBy t at many end x → (mark m : ℕ) (hit : Bool) → hit ≡ test (policy_by at end x) → m ≡ cond hit 1 0 + 2 * mark
      → mark_after test (policies_by at x.first) m ≡ mark_after test (policies_by at end) mark
  mark_one {at = at} {end = end} {x = x} last mark m hit h e = rw (e, h, last.is) (sym (met_more test (policies_by at x.first) (policy_by at end x) mark))

-- by what they say, before the first is met
pub none_marked : (t : List ℕ) (terms : Terms) (q : Request) (ps : List Policy) → mark_after (λ p. satisfied terms q (policy_words t p)) ps 0 ≡ mark_of terms q (words_of t ps)
none_marked t terms q ps = none_met (λ p. satisfied terms q (policy_words t p)) ps ∙ sym (mark_words t (satisfied terms q) ps)

-- its effect is in its entry
pub effect_there : (at : ℕ → Entry) (end : ℕ) (x : Entry) → eqb x.kind permit_kind ≡ (policy_by at end x).permits
unfolding policy_by
effect_there at end x = refl
