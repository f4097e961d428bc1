-- A principal part records the version of the rules by its kind: version and part come back from its entry. Assumes nothing.
use mathlib.Core.Path.{◌≡◌, refl, sym, ◌∙◌, ap}
use mathlib.Core.Bool.{true}
use mathlib.Core.List.{List, [], ◌∷◌}
use mathlib.Core.Logic.{◌↔◌}
use Prim.Native.Nat.{ℕ, ◌+◌, ◌*◌, ◌≤◌, ◌<◌}
use native.Mathlib.Nat.{add-zero}
use native.Mathlib.Omega.{arith}
use lib.ListN.{length, get_or, length-append}
use borrow.Author.Tests.{eqb-true}
use Rattle.tokens.proofs.TokenLaws.{and_left, and_right}
use Rattle.grammar.specs.Policies.{Part, any, typed, pinned, Policy}
use Rattle.grammar.specs.declared.Version.{Version}
use Rattle.grammar.specs.declared.Version.TheVariants.{First, Second}
use Rattle.table.specs.declared.Entry.{Entry}
use Rattle.table.specs.Kinds.{forbid_kind, second_step}
use Rattle.table.specs.Entries.{raised, step_of, part_entry, principal_entry, target_entries, policy_entries, policies_entries}
use Rattle.table.specs.Layout.{entry_size, fits, entry_at, entry_is, held}
use Rattle.table.specs.Recorded.{recorded_by, recorded, lowered}

-- the part, whatever the version
pub lowered_part : (version : Version) (p : Part) → lowered (principal_entry version p) ≡ part_entry p
unfolding lowered principal_entry raised step_of part_entry
lowered_part First any = refl
lowered_part First (typed k) = refl
lowered_part First (pinned s) = refl
lowered_part Second any = refl
lowered_part Second (typed k) = refl
lowered_part Second (pinned s) = refl

-- an entry whose kind is no higher, as that of a principal part under version 1
pub raised_none : (x : Entry) → raised 0 x ≡ x
unfolding raised
raised_none x = rw add-zero

-- the version, by the kind of the first entry
pub recorded_by_lem : (at : ℕ → Entry) (version : Version) (p : Part) → (at 0).kind ≡ (principal_entry version p).kind → recorded_by at ≡ version
unfolding recorded_by principal_entry raised step_of part_entry
recorded_by_lem at First any e = rw e
recorded_by_lem at First (typed k) e = rw e
recorded_by_lem at First (pinned s) e = rw e
recorded_by_lem at Second any e = rw e
recorded_by_lem at Second (typed k) e = rw e
recorded_by_lem at Second (pinned s) e = rw e

-- the kind of a principal part is past all others under version 2, and only then
pub past_others : (version : Version) (p : Part) → (forbid_kind < (principal_entry version p).kind) ↔ (version ≡ Second)
unfolding principal_entry raised step_of part_entry
past_others First p = (λ h. absurd (below p h), λ e. absurd (let z : ◌≡◌ {A = ℕ} 0 1 = cc in omega arith))
  where
    below : (p : Part) → forbid_kind < (principal_entry First p).kind → ⊥
    below any h = omega arith
    below (typed k) h = omega arith
    below (pinned s) h = omega arith
past_others Second any = (λ h. refl, λ e. omega arith)
past_others Second (typed k) = (λ h. refl, λ e. omega arith)
past_others Second (pinned s) = (λ h. refl, λ e. omega arith)

-- how much higher a kind can be
pub step_small : (version : Version) → step_of version ≤ second_step
unfolding step_of
step_small First = omega arith
step_small Second = omega arith

-- ---- tables

-- an entry that the table has is of the kind that it gives
kind_back : (T : List ℕ) (e : ℕ) (x : Entry) → entry_is T e x ≡ true → (entry_at T e).kind ≡ x.kind
unfolding entry_is entry_at
kind_back T e x h =
    let k = and_left _ _ (and_left _ _ (and_left _ _ (and_left _ _ h))) in
    rw (and_left (fits T e) _ k) (eqb-true (get_or T (entry_size * e) 0) x.kind (and_right (fits T e) _ k))

-- a table that has the entries of one policy or more from its beginning on records the version that they are under
pub held_records : (version : Version) (T : List ℕ) (p : Policy) (ps : List Policy) → held T 0 (policies_entries version 0 (p ∷ ps)) ≡ true
    → recorded T ≡ version
unfolding held policies_entries policy_entries target_entries
held_records version T p ps h = recorded_by_lem (entry_at T) version p.principal (kind_back T 0 (principal_entry version p.principal) (and_left _ _ h))

-- policies have as many entries under one version as under another
pub as_many : (version version' : Version) (e : ℕ) (ps : List Policy) → length (policies_entries version e ps) ≡ length (policies_entries version' e ps)
unfolding policies_entries policy_entries target_entries
as_many version version' e [] = refl
as_many version version' e (p ∷ ps) =
    let a = policy_entries version e p in let a' = policy_entries version' e p in let f = e + length a in
    length-append a (policies_entries version f ps) ∙ ap (λ (n : ℕ). length a + n) (as_many version version' f ps)
    ∙ sym (length-append a' (policies_entries version' f ps))
