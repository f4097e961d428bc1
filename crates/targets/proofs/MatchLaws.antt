-- What a target's entries ask of a request. Assumes nothing.
use mathlib.Core.Path.{◌≡◌, refl, sym, ◌∙◌, ap, subst}
use mathlib.Core.Bool.{Bool, true, false, cond, ◌||◌, and-true, and-false, false≢true}
use mathlib.Core.List.{List, ◌∷◌}
use Prim.Native.Nat.{ℕ, zero, suc, ◌+◌, ◌-◌, ◌≤◌, ◌<◌}
use native.Mathlib.Omega.{arith}
use lib.Dec.{eqb, ltb}
use lib.ListN.{length, take, drop, length-drop}
use lib.Seq.{length-take-le}
use borrow.Author.Tests.{eq-eqb, ne_eqb, eqb-true, eqb-false, ltb-true}
use Rattle.slices.specs.Same.{same}
use Rattle.slices.proofs.Equal.{other_length}
use Rattle.grammar.specs.Policies.{Span, span, Literal, text, number, truth, Part, pinned, Actions, one_of}
use Rattle.grammar.specs.Rules.{principal_types, resource_types}
use Rattle.placing.specs.Placed.{quoted_at, Each, StringPlaced, ActionPlaced, an_action, PrincipalPlaced, any_principal, principal_type, ResourcePlaced, any_resource, resource_type, one_resource, ActionsPlaced, any_action, one_of_placed}
use Rattle.placing.specs.Said.{literal_words, action_words, part_words, policy_words}
use Rattle.placing.proofs.EachLaws.{each_first, each_rest}
use Rattle.table.specs.declared.Entry.{Entry}
use Rattle.table.specs.Entries.{entry}
use Rattle.table.specs.Layout.{entry_at}
use Rattle.table.specs.Recorded.{lowered}
use Rattle.stored.specs.ReadBack.{span_of_entry, literal_of_entry, literals_by, literals_at, list_by, part_of_entry, actions_by, actions_of, policy_by, policy_at}
use Rattle.meaning.specs.Conditions.{some}
use Rattle.meaning.specs.Targets.{type_in, part_matches, is_string, action_matches}
use Rattle.meaning.specs.Decisions.{target_matches}
use Rattle.meaning.proofs.WordLaws.{some_words}
use Rattle.targets.specs.Matching.{request}

-- ---- strings of the text

pub quoted : {t : List ℕ} {s : Span} → StringPlaced t s → (s.start + 2 ≤ s.end) × (s.end ≤ length t)
quoted p = (p.two, p.lies.high)

module _ (t s : List ℕ) (start end : ℕ) (two : start + 2 ≤ end) (high : end ≤ length t) where
  pub quoted_part : take (end - 1 - (start + 1)) (drop (start + 1) t) ≡ quoted_at t (span start end)
  quoted_part = let e : end - 1 - (start + 1) ≡ end - start - 2 = omega arith in rw e

  inside_length : length (quoted_at t (span start end)) ≡ end - 1 - (start + 1)
  inside_length = let l = length-drop (start + 1) t in let n : end - start - 2 ≤ length (drop (start + 1) t) = omega arith in length-take-le (end - start - 2) _ n ∙ omega arith

  pub quoted_length : (length s ≡ end - 1 - (start + 1) → ⊥) → false ≡ same s (quoted_at t (span start end))
  quoted_length n = sym (other_length s (quoted_at t (span start end)) (λ e. n (e ∙ inside_length)))

-- ---- parts

pinned_is : (x : Entry) → (x.kind ≡ 29 → ⊥) → (x.kind ≡ 30 → ⊥) → part_of_entry x ≡ pinned (span_of_entry x)
unfolding part_of_entry
pinned_is x n m = rw (ne_eqb _ _ n, ne_eqb _ _ m)

module _ (t s : List ℕ) (x : Entry) (types : List (List ℕ)) where
  pub any_part : x.kind ≡ 29 → true ≡ part_matches types s (part_words t (part_of_entry x))
  unfolding part_matches part_words part_of_entry
  any_part e = rw (eq-eqb _ _ e)

  pub typed_part : {n : ℕ} → n ≡ type_in types s → x.kind ≡ 30 → eqb n x.first ≡ part_matches types s (part_words t (part_of_entry x))
  unfolding part_matches part_words part_of_entry
  typed_part d e = rw (e, d)

  pub pinned_part : (x.kind ≡ 29 → ⊥) → (x.kind ≡ 30 → ⊥) → same s (quoted_at t (span_of_entry x)) ≡ part_matches types s (part_words t (part_of_entry x))
  unfolding part_matches part_words
  pinned_part n m = rw (pinned_is x n m)

pinned_placed : {t : List ℕ} {p : Part} {s : Span} → p ≡ pinned s → ResourcePlaced t p → StringPlaced t s
pinned_placed e any_resource = absurd (let z : ◌≡◌ {A = ℕ} 0 1 = cc in omega arith)
pinned_placed e (resource_type l h) = absurd (let z : ◌≡◌ {A = ℕ} 0 1 = cc in omega arith)
pinned_placed {t} {p} {s} e (one_resource {s = z} h) = let k : z ≡ s = cc in subst (StringPlaced t) k h

pub pinned_quoted : (t : List ℕ) (x : Entry) → (x.kind ≡ 29 → ⊥) → (x.kind ≡ 30 → ⊥) → ResourcePlaced t (part_of_entry x) → (x.first + 2 ≤ x.second) × (x.second ≤ length t)
pinned_quoted t x n m p = quoted (pinned_placed (pinned_is x n m) p)

-- ---- the principal part, under either version

-- an entry's kind as it is under version 1
lowered_kind : (x : Entry) (b : Bool) → ltb 35 x.kind ≡ b → (lowered x).kind ≡ cond b (x.kind - 7) x.kind
unfolding lowered
lowered_kind x true e = rw e
lowered_kind x false e = rw e

lowered_first : (x : Entry) → (lowered x).first ≡ x.first
unfolding lowered
lowered_first x = go (ltb 35 x.kind)
  where
    go : (b : Bool) → (cond b (entry (x.kind - 7) x.first x.second) x).first ≡ x.first
    go true = refl
    go false = refl

-- kind 29 or 36 is a bare one, and no other is
bare_kind : (x : Entry) → eqb x.kind 29 || eqb x.kind 36 ≡ true → (lowered x).kind ≡ 29
bare_kind x h = go (eqb x.kind 29) refl (eqb x.kind 36) refl h
  where
    go : (a : Bool) → eqb x.kind 29 ≡ a → (b : Bool) → eqb x.kind 36 ≡ b → a || b ≡ true → (lowered x).kind ≡ 29
    go true e b f k = let z = eqb-true x.kind 29 e in lowered_kind x false (rw z) ∙ z
    go false e true f k = let z = eqb-true x.kind 36 f in lowered_kind x true (rw z) ∙ rw z
    go false e false f k = absurd (false≢true k)

other_kind : (x : Entry) → eqb x.kind 29 || eqb x.kind 36 ≡ false → (lowered x).kind ≡ 29 → ⊥
other_kind x h k = go (eqb x.kind 29) refl (eqb x.kind 36) refl h (ltb 35 x.kind) refl
  where
    go : (a : Bool) → eqb x.kind 29 ≡ a → (b : Bool) → eqb x.kind 36 ≡ b → a || b ≡ false → (c : Bool) → ltb 35 x.kind ≡ c → ⊥
    go true e b f z c m = false≢true (sym z)
    go false e true f z c m = false≢true (sym z)
    go false e false f z true m =
        let l = ltb-true 35 x.kind m in
        let n = eqb-false x.kind 36 f in
        let q : x.kind - 7 ≡ 29 = sym (lowered_kind x true m) ∙ k in
        n (omega arith)
    go false e false f z false m = eqb-false x.kind 29 e (sym (lowered_kind x false m) ∙ k)

-- a principal part is bare, or has a type
typed_kind : {p : Part} {s : Span} → p ≡ pinned s → PrincipalPlaced p → ⊥
typed_kind e any_principal = let z : ◌≡◌ {A = ℕ} 0 1 = cc in omega arith
typed_kind e (principal_type l h) = let z : ◌≡◌ {A = ℕ} 0 1 = cc in omega arith

typed_there : (y : Entry) → (y.kind ≡ 29 → ⊥) → PrincipalPlaced (part_of_entry y) → y.kind ≡ 30
typed_there y n p = go (eqb y.kind 30) refl
  where
    go : (b : Bool) → eqb y.kind 30 ≡ b → y.kind ≡ 30
    go true e = eqb-true y.kind 30 e
    go false e = absurd (typed_kind (pinned_is y n (eqb-false y.kind 30 e)) p)

module _ (x : Entry) (t s : List ℕ) (types : List (List ℕ)) where
  pub bare_principal : eqb x.kind 29 || eqb x.kind 36 ≡ true → true ≡ part_matches types s (part_words t (part_of_entry (lowered x)))
  bare_principal h = any_part t s (lowered x) types (bare_kind x h)

  pub typed_principal : eqb x.kind 29 || eqb x.kind 36 ≡ false → PrincipalPlaced (part_of_entry (lowered x)) → {n : ℕ} → n ≡ type_in types s
      → eqb n x.first ≡ part_matches types s (part_words t (part_of_entry (lowered x)))
  typed_principal h p {n} d =
      ap (eqb n) (sym (lowered_first x)) ∙ typed_part t s (lowered x) types d (typed_there (lowered x) (other_kind x h) p)

-- ---- the action part

literal_cases : (s z : Span) (a b c : Bool) → cond a (text s) (cond b (number s) (truth c)) ≡ text z → z ≡ s
literal_cases s z true b c e = cc
literal_cases s z false true c e = absurd (let z : ◌≡◌ {A = ℕ} 0 1 = cc in omega arith)
literal_cases s z false false c e = absurd (let z : ◌≡◌ {A = ℕ} 0 1 = cc in omega arith)

-- an entry of the list is a string
record StringAt (t : List ℕ) (x : Entry) : Type 0 where
  is : literal_of_entry x ≡ text (span_of_entry x)
  lies : StringPlaced t (span_of_entry x)

string_at : {t : List ℕ} {l : Literal} {x : Entry} → literal_of_entry x ≡ l → ActionPlaced t l → StringAt t x
unfolding literal_of_entry
string_at {t} {l} {x} e (an_action {s = z} p) =
    let k : z ≡ span_of_entry x = literal_cases (span_of_entry x) z (eqb x.kind 9) (eqb x.kind 10) (eqb x.kind 11) e in record { is = e ∙ ap text k; lies = subst (StringPlaced t) k p }

module _ (t action table : List ℕ) where
  -- the strings left, from entry number e on
  abbrev pub among_at : ℕ → ℕ → Bool
  among_at left e = some (λ l. is_string action (literal_words t l)) (literals_at left table e)

  literals_on : (left e : ℕ) → 0 < left → literals_at left table e ≡ literal_of_entry (entry_at table e) ∷ literals_at (left - 1) table (e + 1)
  unfolding literals_by
  literals_on zero e l = absurd (omega arith)
  literals_on (suc n) e l = let m : suc n - 1 ≡ n = omega arith in rw m

  module _ (left e : ℕ) (l : 0 < left) (each : Each (ActionPlaced t) (literals_at left table e)) where
    parted : ActionPlaced t (literal_of_entry (entry_at table e)) × Each (ActionPlaced t) (literals_at (left - 1) table (e + 1))
    parted = let h = subst (Each (ActionPlaced t)) (literals_on left e l) each in (each_first h, each_rest h)

    here : StringAt t (entry_at table e)
    here = string_at refl parted.0

    pub each_on : Each (ActionPlaced t) (literals_at (left - 1) table (e + 1))
    each_on = parted.1

    unroll : among_at left e ≡ same action (quoted_at t (span_of_entry (entry_at table e))) || among_at (left - 1) (e + 1)
    unfolding some is_string literal_words
    unroll = rw (literals_on left e l, here.is)

    module _ (x : Entry) (is : x ≡ entry_at table e) where
      pub string_lies : (x.first + 2 ≤ x.second) × (x.second ≤ length t)
      string_lies = rw is (quoted here.lies)

      pub found_here : same action (quoted_at t (span x.first x.second)) ≡ true → true ≡ among_at left e
      found_here = rw is (λ h. sym (unroll ∙ rw h))

      pub not_here : same action (quoted_at t (span x.first x.second)) ≡ false → among_at (left - 1) (e + 1) ≡ among_at left e
      not_here = rw is (λ h. sym (unroll ∙ rw h))

  pub none_found : (left e : ℕ) → left ≤ 0 → false ≡ among_at left e
  unfolding literals_by some
  none_found zero e l = refl
  none_found (suc n) e l = absurd (omega arith)

  module _ (end : ℕ) (x : Entry) where
    pub every_action : x.kind ≡ 32 → true ≡ action_matches action (action_words t (actions_of table end x))
    unfolding action_matches action_words actions_by
    every_action e = rw (eq-eqb _ _ e)

    listed_is : (x.kind ≡ 32 → ⊥) → actions_of table end x ≡ one_of (list_by (entry_at table) end x)
    unfolding actions_by
    listed_is n = rw (ne_eqb _ _ n)

    pub one_action : (x.kind ≡ 32 → ⊥) → among_at x.first (end - x.first - 1) ≡ action_matches action (action_words t (actions_of table end x))
    unfolding action_matches action_words
    one_action n = rw (listed_is n) (sym (some_words t (is_string action) (list_by (entry_at table) end x)))

    each_of : {a : Actions} → a ≡ one_of (list_by (entry_at table) end x) → ActionsPlaced t a → Each (ActionPlaced t) (list_by (entry_at table) end x)
    each_of e any_action = absurd (let z : ◌≡◌ {A = ℕ} 0 1 = cc in omega arith)
    each_of e (one_of_placed {ls = ls} p) = let k : ls ≡ list_by (entry_at table) end x = cc in subst (Each (ActionPlaced t)) k p.each

    pub each_listed : (x.kind ≡ 32 → ⊥) → ActionsPlaced t (actions_of table end x) → Each (ActionPlaced t) (literals_at x.first table (end - x.first - 1))
    each_listed n p = each_of (listed_is n) p

-- ---- the target

module _ (t table : List ℕ) (end : ℕ) (x : Entry) (subject action resource : List ℕ) where
  abbrev whole : Bool
  whole = target_matches (request subject action resource) (policy_words t (policy_at table end x))

  module _ (y : Entry) (is : y ≡ entry_at table x.first) where
    pub other_subject : {r : Bool} → r ≡ part_matches principal_types subject (part_words t (part_of_entry (lowered y))) → r ≡ false → false ≡ whole
    unfolding target_matches policy_by
    other_subject d e = rw (← is, sym d ∙ e)

    module _ (z : Entry) (is' : z ≡ entry_at table (x.second - 1)) where
      pub other_resource : {r : Bool} → r ≡ part_matches resource_types resource (part_words t (part_of_entry z)) → r ≡ false → false ≡ whole
      unfolding target_matches policy_by
      other_resource d e = rw (← is', sym d ∙ e, and-false)

      pub by_action : {r r' b : Bool} → r ≡ part_matches principal_types subject (part_words t (part_of_entry (lowered y))) → r ≡ true → r' ≡ part_matches resource_types resource (part_words t (part_of_entry z)) → r' ≡ true
          → (w : Entry) → w ≡ entry_at table (x.second - 2) → b ≡ action_matches action (action_words t (actions_of table (x.second - 1) w)) → b ≡ whole
      unfolding target_matches policy_by
      by_action d e f h w k a = a ∙ rw (k, ← is, sym d ∙ e, ← is', sym f ∙ h) (sym (and-true _))
