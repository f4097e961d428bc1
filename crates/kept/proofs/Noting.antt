-- Notes and bits that are kept and set as policies are met. Assumes nothing.
use mathlib.Core.Path.{◌≡◌, refl, sym, ap, ◌∙◌, subst}
use mathlib.Core.Bool.{Bool, true, false, cond, not, ◌&&◌, ◌||◌}
use mathlib.Core.List.{List, [], ◌∷◌}
use Prim.Native.Nat.{ℕ, zero, suc, ◌+◌, ◌-◌, ◌*◌, ◌%◌, ◌^◌, ◌≤◌, ◌<◌}
use native.Mathlib.Nat.{mod-eq_of_lt, lt_of_lt_of_le, one-le-pow, pow-le-pow_right}
use native.Mathlib.Omega.{arith}
use borrow.Author.Tests.{leb-true, leb-false, ltb-true, ltb-false, le-leb, lt-ltb, le-ltb, eqb-true, eqb-false}
use lib.Bits.{bit_and}
use lib.Dec.{eqb, leb, ltb}
use lib.ListN.{length, get_or, set, length-set}
use lib.Seq.{get_or-set_same, get_or-set_other}
use Rattle.grammar.specs.Policies.{Policy}
use Rattle.grammar.specs.declared.Version.{Version}
use Rattle.bags.specs.declared.sections.Sections.{Sections}
use Rattle.table.specs.Layout.{entry_at}
use Rattle.table.specs.declared.Entry.{Entry}
use Rattle.stored.specs.ReadBack.{policy_at}
use Rattle.stored.specs.Ready.{Last}
use Rattle.questions.specs.Questions.{cell}
use Rattle.questions.proofs.PlaceLaws.{set_cases}
use Rattle.views.specs.Rows.{row_view}
use Rattle.placing.specs.Said.{policy_words, words_of}
use Rattle.meaning.specs.Targets.{Request}
use Rattle.meaning.specs.Values.{with_action}
use Rattle.meaning.specs.Decisions.{under, target_matches, condition_holds, satisfied, mark_of, Numbered}
use Rattle.meaning.proofs.Deciding.{never, numbered_some, numbered_few}
use Rattle.meaning.proofs.Marking.{numbered_one}
use Rattle.meaning.proofs.WordLaws.{mark_words}
use Rattle.depths.specs.Looks.{Alike, Steady, own_of, other_of, Depths, policy_ending, LastEnding}
use Rattle.marks.specs.Marks.{is_set}
use Rattle.marks.proofs.Bits.{bit_first, bit_behind, none_set, added_same, added_other, added_below, taken_same, taken_other, without_bit, bits_are}
use Rattle.kept.specs.Notes.{matters, Late, NoteSays, RowSays, sat_by, Noted, MarkTold, ChosenThere, Met}

-- ---- eight notes set to 0, one after the other

module _ (at j x : ℕ) where
  pub clear_none : x ≡ cond (leb at j && ltb j (at + 0)) 0 x
  clear_none = go (leb at j) (ltb j (at + 0)) refl refl
    where
      go : (l r : Bool) → leb at j ≡ l → ltb j (at + 0) ≡ r → x ≡ cond (l && r) 0 x
      go true true p q = absurd (omega (arith, leb-true at j p, ltb-true j (at + 0) q))
      go true false p q = refl
      go false r p q = refl

  pub clear_here : (c : ℕ) → j ≡ at + c → 0 ≡ cond (leb at j && ltb j (at + (c + 1))) 0 x
  clear_here c e = rw (le-leb at j (omega arith), lt-ltb j (at + (c + 1)) (omega arith))

  pub clear_other : (c : ℕ) → (j ≡ at + c → ⊥) → cond (leb at j && ltb j (at + c)) 0 x ≡ cond (leb at j && ltb j (at + (c + 1))) 0 x
  clear_other c d = go (ltb j (at + c)) refl
    where
      go : (b : Bool) → ltb j (at + c) ≡ b → cond (leb at j && ltb j (at + c)) 0 x ≡ cond (leb at j && ltb j (at + (c + 1))) 0 x
      go true e = rw (e, lt-ltb j (at + (c + 1)) (omega (arith, ltb-true j (at + c) e)))
      go false e = let l = ltb-false j (at + c) e in rw (e, le-ltb j (at + (c + 1)) (omega arith))

  pub clear_all : (stale : Bool) (c : ℕ) → stale ≡ true → c ≡ 8 → cond (leb at j && ltb j (at + c)) 0 x ≡ cond (stale && (leb at j && ltb j (at + 8))) 0 x
  clear_all stale c p e = rw (p, e)

  pub not_cleared : (stale : Bool) → stale ≡ false → x ≡ cond (stale && (leb at j && ltb j (at + 8))) 0 x
  not_cleared stale p = rw p

-- ---- notes

says_yes : (b : Bool) → NoteSays (cond b 2 1) b
says_yes true = record { told = λ n. refl }
says_yes false = record { told = λ n. refl }

rows_kept : {before after : List ℕ} {i : ℕ} {sat : ℕ → Bool} → ((c : ℕ) → c < 8 → get_or after (8 * i + c) 0 ≡ get_or before (8 * i + c) 0) → RowSays before i sat → RowSays after i sat
rows_kept {sat = sat} k r = record { says = λ c h. subst (λ (m : ℕ). NoteSays m (sat c)) (sym (k c h)) (r.says c h) }

module _ (stale : Bool) (before mid : List ℕ) (i : ℕ) (forgot : (j : ℕ) → get_or mid j 0 ≡ cond (stale && (leb (8 * i) j && ltb j (8 * i + 8))) 0 (get_or before j 0)) where
  forgot_says : (sat : ℕ → Bool) → (stale ≡ false → RowSays before i sat) → RowSays mid i sat
  forgot_says sat old = record { says = λ c h. go stale refl c h }
    where
      go : (b : Bool) → stale ≡ b → (c : ℕ) → c < 8 → NoteSays (get_or mid (8 * i + c) 0) (sat c)
      go true e c h =
          let z : get_or mid (8 * i + c) 0 ≡ 0 = forgot (8 * i + c) ∙ rw (e, le-leb (8 * i) (8 * i + c) (omega arith), lt-ltb (8 * i + c) (8 * i + 8) (omega arith)) in
          record { told = λ n. absurd (n z) }
      go false e c h = subst (λ (m : ℕ). NoteSays m (sat c)) (sym (forgot (8 * i + c) ∙ rw e)) ((old e).says c h)

  forgot_others : (i' c : ℕ) → (i' ≡ i → ⊥) → c < 8 → get_or mid (8 * i' + c) 0 ≡ get_or before (8 * i' + c) 0
  forgot_others i' c n h = forgot (8 * i' + c) ∙ go stale (leb (8 * i) (8 * i' + c)) (ltb (8 * i' + c) (8 * i + 8)) refl refl
    where
      go : (b l r : Bool) → leb (8 * i) (8 * i' + c) ≡ l → ltb (8 * i' + c) (8 * i + 8) ≡ r → cond (b && (l && r)) 0 (get_or before (8 * i' + c) 0) ≡ get_or before (8 * i' + c) 0
      go true true true p q = absurd (n (omega (arith, leb-true (8 * i) (8 * i' + c) p, ltb-true (8 * i' + c) (8 * i + 8) q)))
      go true true false p q = refl
      go true false r p q = refl
      go false l r p q = refl

  module _ (long : length mid ≡ 512) (choice : ℕ) (sat : ℕ → Bool) (old : stale ≡ false → RowSays before i sat) where
    -- the note says
    pub met_noted : choice < 8 → (get_or mid (8 * i + choice) 0 ≡ 0 → ⊥) → Met sat i choice before (eqb (get_or mid (8 * i + choice) 0) 2) mid
    met_noted h n = record { is = ((forgot_says sat old).says choice h).told n; says = forgot_says sat old; others = forgot_others; long = long }

    -- the policy was met, and is noted
    pub met_anew : i < 64 → choice < 8 → (hit : Bool) → hit ≡ sat choice → Met sat i choice before hit (set mid (8 * i + choice) (cond hit 2 1))
    met_anew small h hit is = record {
      is = is;
      says = record {
        says = λ c l.
            set_cases mid (8 * i + choice) (cond hit 2 1) 0 fits (λ m. NoteSays m (sat c)) (8 * i + c)
            (λ e. let k : c ≡ choice = omega arith in rw (k, ← is) (says_yes hit))
            (λ d. (forgot_says sat old).says c l);
      };
      others = λ i' c n l. get_or-set_other mid (8 * i + choice) (8 * i' + c) (cond hit 2 1) 0 (λ e. n (omega arith)) ∙ forgot_others i' c n l;
      long = length-set mid (8 * i + choice) (cond hit 2 1) ∙ long;
    }
      where
        fits : 8 * i + choice < length mid
        fits = omega arith

-- ---- a bit, put where the policy is satisfied

bit_put : (hit : Bool) (i mark : ℕ) → is_set mark i ≡ false → is_set (mark + cond hit (2 ^ i) 0) i ≡ hit
bit_put true i mark e = added_same i mark e
bit_put false i mark e = let z : mark + 0 ≡ mark = omega arith in rw z e

bit_stays : (hit : Bool) (i k mark : ℕ) → (k ≡ i → ⊥) → is_set mark i ≡ false → is_set (mark + cond hit (2 ^ i) 0) k ≡ is_set mark k
bit_stays true i k mark d e = added_other i k mark d e
bit_stays false i k mark d e = let z : mark + 0 ≡ mark = omega arith in rw z

pub bit_below : (hit : Bool) (policies i mark : ℕ) → i < policies → mark < 2 ^ policies → is_set mark i ≡ false → mark + cond hit (2 ^ i) 0 < 2 ^ policies
bit_below true policies i mark h l e = added_below policies i mark h l e
bit_below false policies i mark h l e = omega arith

-- where a bit is still to come it is not set
pub still_clear : (hit : Bool) (i left mark : ℕ) → is_set left i ≡ true → is_set mark i ≡ false → ((k : ℕ) → is_set left k ≡ true → is_set mark k ≡ false)
    → (k : ℕ) → is_set (left - 2 ^ i) k ≡ true → is_set (mark + cond hit (2 ^ i) 0) k ≡ false
still_clear hit i left mark set clear f k e = go (eqb k i) refl
  where
    go : (b : Bool) → eqb k i ≡ b → is_set (mark + cond hit (2 ^ i) 0) k ≡ false
    go true s = absurd (never (taken_same i left set) (subst (λ (x : ℕ). is_set (left - 2 ^ i) x ≡ true) (eqb-true k i s) e))
    go false s = let d = eqb-false k i s in bit_stays hit i k mark d clear ∙ f k (sym (taken_other i k left d set) ∙ e)

-- before any is met
pub all_clear : (mark late k : ℕ) → is_set late k ≡ true → is_set (mark - bit_and mark late) k ≡ false
all_clear mark late k e = without_bit k mark late ∙ ap (λ (b : Bool). is_set mark k && not b) e ∙ none (is_set mark k)
  where
    none : (b : Bool) → b && not true ≡ false
    none true = refl
    none false = refl

-- ---- the mark of the policies that are met again, from the last to the first

module _ (looks : List ℕ) (policies column i mark : ℕ) (some : 0 < i) (within : i ≤ policies) (few : policies ≤ 64) (b : Bool) (small : mark < 2 ^ (policies - i)) where
  pub late_more : b ≡ matters looks column (i - 1) → ((k : ℕ) → i + k < policies → is_set mark k ≡ matters looks column (i + k))
      → (k : ℕ) → i - 1 + k < policies → is_set (cond b 1 0 + 2 * mark) k ≡ matters looks column (i - 1 + k)
  late_more e f zero h = let z : i - 1 + 0 ≡ i - 1 = omega arith in rw z (bit_first b mark ∙ e)
  late_more e f (suc k) h = let z : i - 1 + suc k ≡ i + k = omega arith in rw z (bit_behind b mark k ∙ f k (omega arith))

  pub late_fits : cond b 1 0 + 2 * mark < 2 ^ (policies - (i - 1))
  late_fits = let z : policies - (i - 1) ≡ suc (policies - i) = omega arith in rw z (go b)
    where
      go : (b : Bool) → cond b 1 0 + 2 * mark < 2 ^ suc (policies - i)
      go true = omega arith
      go false = omega arith

  pub late_room : cond b 1 0 + 2 * mark < 2 ^ 64
  late_room = let bits : policies - (i - 1) ≤ 64 = omega arith in lt_of_lt_of_le late_fits (pow-le-pow_right (omega arith) bits)

pub late_none : (policies : ℕ) → 0 < 2 ^ (policies - policies)
late_none policies = one-le-pow (policies - policies) 2 (omega arith)

pub late_all : (looks : List ℕ) (policies column i mark : ℕ) → i ≤ 0 → mark < 2 ^ (policies - i) → ((k : ℕ) → i + k < policies → is_set mark k ≡ matters looks column (i + k))
    → Late looks policies column mark
late_all looks policies column zero mark z l f =
    record { set = λ k h. let e : 0 + k ≡ k = omega arith in rw e at (f k (omega arith)); below = let e : policies - 0 ≡ policies = omega arith in rw e at l }
late_all looks policies column (suc i) mark z l f = absurd (omega arith)

-- 1 shifted by less than 64
pub one_shifted : (i : ℕ) → i < 64 → 1 * 2 ^ i % 2 ^ 64 ≡ 2 ^ i
one_shifted i h =
    let bits : suc i ≤ 64 = omega arith in
    let twice : 2 ^ suc i ≤ 2 ^ 64 = pow-le-pow_right (omega arith) bits in
    let some : 1 ≤ 2 ^ i = one-le-pow i 2 (omega arith) in
    let small : 1 * 2 ^ i < 2 ^ 64 = omega arith in
    mod-eq_of_lt small ∙ omega arith

-- ---- what is read at the end of a policy

pub last_read : (t table : List ℕ) {end e : ℕ} {x : Entry} → end ≡ e → x ≡ entry_at table (end - 1) → LastEnding t table e → Last t table end x
last_read t table d k l = rw (k, d) l

pub policy_read : (table : List ℕ) {end e : ℕ} {x : Entry} → end ≡ e → x ≡ entry_at table (end - 1) → policy_at table end x ≡ policy_ending table e
policy_read table d k = rw (k, d)

-- ---- the notes of a row

set_own : (l : List ℕ) (i v : ℕ) → v ≡ get_or l i 0 → set l i v ≡ l
set_own [] i v e = refl
set_own (x ∷ l) zero v e = rw e
set_own (x ∷ l) (suc i) v e = rw (set_own l i v e)

module _ (version : Version) (t s : List ℕ) (p : Sections) (n : ℕ) (heads : List ℕ) (q : Request) where
  -- in the row's own choice
  pub sat_here : (choices values : List ℕ) (column : ℕ) (policy : Policy) → column < 6 → ChosenThere s p n choices values
      → sat_by version t s p n heads q values column policy (get_or choices column 0) ≡ satisfied (under version (row_view s p n heads values)) q (policy_words t policy)
  unfolding sat_by
  sat_here choices values column policy h c = rw (set_own values column _ (sym (c.picked column h)))

  -- in two rows that choose alike
  sat_alike : (before values : List ℕ) (column low from : ℕ) (policy : Policy) → length before ≡ 6 → length values ≡ 6 → column < 6 → Steady t s n heads policy column low → low ≤ from
      → Alike from before values → (c : ℕ) → sat_by version t s p n heads q before column policy c ≡ sat_by version t s p n heads q values column policy c
  unfolding sat_by
  sat_alike before values column low from policy six six' small st h a c =
      st.same version p q (set before column v) (set values column v)
      (record { alike = λ j l. go j l (eqb j column) refl })
      (get_or-set_same before column v 0 (omega arith) ∙ sym (get_or-set_same values column v 0 (omega arith)))
    where
      v : ℕ
      v = cell s (p.end + 1) n column c

      go : (j : ℕ) → j < low → (b : Bool) → eqb j column ≡ b → get_or (set before column v) j 0 ≡ get_or (set values column v) j 0
      go j l true e = rw (eqb-true j column e) (get_or-set_same before column v 0 (omega arith) ∙ sym (get_or-set_same values column v 0 (omega arith)))
      go j l false e =
          get_or-set_other before column j v 0 (eqb-false j column e) ∙ a.alike j (omega arith) ∙ sym (get_or-set_other values column j v 0 (eqb-false j column e))

  -- a policy is satisfied where its target matches and its condition, if any, is true
  pub sat_where : (values action : List ℕ) (policy : Policy) {aimed : Bool} → q.action ≡ action → aimed ≡ target_matches q (policy_words t policy)
      → satisfied (under version (row_view s p n heads values)) q (policy_words t policy)
      ≡ aimed && condition_holds (under version (with_action action (row_view s p n heads values))) (policy_words t policy).condition
  unfolding satisfied
  sat_where values action policy {aimed} e a =
      ap (λ (b : Bool). b && condition_holds (under version (with_action q.action (row_view s p n heads values))) (policy_words t policy).condition) (sym a)
      ∙ ap (λ (l : List ℕ). aimed && condition_holds (under version (with_action l (row_view s p n heads values))) (policy_words t policy).condition) e

  -- ---- a row in the midst of its turn: the policies whose bits are set in `left` are still to be met

  -- notes of policies still to be met are right for the row before; notes and mark of all others for this row
  pub record Halfway (ps : List Policy) (looks before values : List ℕ) (left : ℕ) (notes : List ℕ) (mark : ℕ) : Type 0 where
    pub pending : (m : ℕ) (policy : Policy) → Numbered m policy ps → is_set left (m - 1) ≡ true
        → RowSays notes (m - 1) (sat_by version t s p n heads q before (own_of looks m) policy)
    pub noted : (m : ℕ) (policy : Policy) → Numbered m policy ps → is_set left (m - 1) ≡ false
        → RowSays notes (m - 1) (sat_by version t s p n heads q values (own_of looks m) policy)
    pub told : (m : ℕ) (policy : Policy) → Numbered m policy ps → is_set left (m - 1) ≡ false
        → is_set mark (m - 1) ≡ satisfied (under version (row_view s p n heads values)) q (policy_words t policy)

  module _ (ps : List Policy) (looks before values : List ℕ) (from : ℕ) (six : length before ≡ 6) (six' : length values ≡ 6) (alike : Alike from before values)
      (d : Depths t s n heads ps looks) where
    -- a note that is not stale holds for the row
    pub note_holds : (number : ℕ) (policy : Policy) (notes : List ℕ) → Numbered number policy ps → own_of looks number < 6 → ltb from (other_of looks number) ≡ false
        → RowSays notes (number - 1) (sat_by version t s p n heads q before (own_of looks number) policy)
        → RowSays notes (number - 1) (sat_by version t s p n heads q values (own_of looks number) policy)
    note_holds number policy notes here small fresh r = record {
      says = λ c h.
          subst (NoteSays (get_or notes (8 * (number - 1) + c) 0))
          (sat_alike before values (own_of looks number) (other_of looks number) from policy six six' small (d.steady number policy here) (ltb-false from (other_of looks number) fresh) alike c) (r.says c h);
    }

    -- a policy to which no changed column can matter says what it said
    said_again : (number : ℕ) (policy : Policy) → Numbered number policy ps → own_of looks number < from → other_of looks number ≤ from
        → satisfied (under version (row_view s p n heads before)) q (policy_words t policy) ≡ satisfied (under version (row_view s p n heads values)) q (policy_words t policy)
    said_again number policy here own other =
        (d.steady number policy here).same version p q before values (record { alike = λ j l. alike.alike j (omega arith) }) (alike.alike (own_of looks number) own)

    -- no policy is met yet: the bits of those to be met are not set
    pub none_met_yet : (policies late mark : ℕ) (notes : List ℕ) → policies ≡ length ps → policies ≤ 64 → Late looks policies from late → Noted version t s p n heads q ps looks before notes
        → MarkTold version t s p n heads q ps looks before from mark → Halfway ps looks before values late notes (mark - bit_and mark late)
    none_met_yet policies late mark notes all few l k told = record {
      pending = λ m policy h e. k.right m policy h;
      noted = λ m policy h e.
          let unmoved = unmoved_there m policy h e in
          note_holds m policy notes h (d.few (m - 1) (let o = numbered_some h in omega (arith, numbered_few h))) (le-ltb from (other_of looks m) unmoved.1) (k.right m policy h);
      told = λ m policy h e.
          let unmoved = unmoved_there m policy h e in
          without_bit (m - 1) mark late ∙ ap (λ (b : Bool). is_set mark (m - 1) && not b) e ∙ and_true (is_set mark (m - 1)) ∙ told.told m policy h unmoved.0
          ∙ said_again m policy h unmoved.0 unmoved.1;
    }
      where
        and_true : (b : Bool) → b && not false ≡ b
        and_true true = refl
        and_true false = refl

        neither : (a b : Bool) → (a || b) ≡ false → (a ≡ false) × (b ≡ false)
        neither true b e = absurd (let z : ◌≡◌ {A = ℕ} 1 0 = ap (λ (b : Bool). cond b 1 0) e in omega arith)
        neither false true e = absurd (let z : ◌≡◌ {A = ℕ} 1 0 = ap (λ (b : Bool). cond b 1 0) e in omega arith)
        neither false false e = (refl, refl)

        unmoved_there : (m : ℕ) (policy : Policy) → Numbered m policy ps → is_set late (m - 1) ≡ false → (own_of looks m < from) × (other_of looks m ≤ from)
        unmoved_there m policy h e =
            let o = numbered_some h in
            let u = neither (leb from (own_of looks m)) (ltb from (other_of looks m)) (sym (l.set (m - 1) (omega (arith, numbered_few h))) ∙ e) in
            (leb-false from (own_of looks m) u.0, ltb-false from (other_of looks m) u.1)

  -- a policy is met: its notes and its bit are the row's, those of all others stay
  pub one_met : (ps : List Policy) (looks before values : List ℕ) (left mark number choice : ℕ) (policy : Policy) {notes after : List ℕ} {hit : Bool} → 1 ≤ number → Numbered number policy ps
      → is_set left (number - 1) ≡ true → is_set mark (number - 1) ≡ false → Met (sat_by version t s p n heads q values (own_of looks number) policy) (number - 1) choice notes hit after
      → hit ≡ satisfied (under version (row_view s p n heads values)) q (policy_words t policy) → Halfway ps looks before values left notes mark
      → Halfway ps looks before values (left - 2 ^ (number - 1)) after (mark + cond hit (2 ^ (number - 1)) 0)
  one_met ps looks before values left mark number choice policy {notes} {after} {hit} one here set clear met is half = record {
    pending = λ m policy' h e. pending_there m policy' h e (eqb m number) refl;
    noted = λ m policy' h e. noted_there m policy' h e (eqb m number) refl;
    told = λ m policy' h e. told_there m policy' h e (eqb m number) refl;
  }
    where
      is_that : (m : ℕ) (policy' : Policy) → Numbered m policy' ps → m ≡ number → policy ≡ policy'
      is_that m policy' h k = numbered_one here (subst (λ (k : ℕ). Numbered k policy' ps) k h)

      apart : (m : ℕ) {policy' : Policy} → Numbered m policy' ps → (m ≡ number → ⊥) → m - 1 ≡ number - 1 → ⊥
      apart m h d e = let o = numbered_some h in d (omega arith)

      stays : (m : ℕ) {policy' : Policy} → Numbered m policy' ps → (m ≡ number → ⊥) → (sat : ℕ → Bool) → RowSays notes (m - 1) sat → RowSays after (m - 1) sat
      stays m h d sat old = rows_kept (λ c l. met.others (m - 1) c (apart m h d) l) old

      pending_there : (m : ℕ) (policy' : Policy) → Numbered m policy' ps → is_set (left - 2 ^ (number - 1)) (m - 1) ≡ true → (b : Bool) → eqb m number ≡ b
          → RowSays after (m - 1) (sat_by version t s p n heads q before (own_of looks m) policy')
      pending_there m policy' h e true k =
          absurd (never (taken_same (number - 1) left set) (subst (λ (x : ℕ). is_set (left - 2 ^ (number - 1)) (x - 1) ≡ true) (eqb-true m number k) e))
      pending_there m policy' h e false k =
          let d = eqb-false m number k in
          stays m h d _ (half.pending m policy' h (sym (taken_other (number - 1) (m - 1) left (apart m h d) set) ∙ e))

      noted_there : (m : ℕ) (policy' : Policy) → Numbered m policy' ps → is_set (left - 2 ^ (number - 1)) (m - 1) ≡ false → (b : Bool) → eqb m number ≡ b
          → RowSays after (m - 1) (sat_by version t s p n heads q values (own_of looks m) policy')
      noted_there m policy' h e true k = let at = eqb-true m number k in rw (← is_that m policy' h at, at) met.says
      noted_there m policy' h e false k =
          let d = eqb-false m number k in
          stays m h d _ (half.noted m policy' h (sym (taken_other (number - 1) (m - 1) left (apart m h d) set) ∙ e))

      told_there : (m : ℕ) (policy' : Policy) → Numbered m policy' ps → is_set (left - 2 ^ (number - 1)) (m - 1) ≡ false → (b : Bool) → eqb m number ≡ b
          → is_set (mark + cond hit (2 ^ (number - 1)) 0) (m - 1) ≡ satisfied (under version (row_view s p n heads values)) q (policy_words t policy')
      told_there m policy' h e true k =
          let at = eqb-true m number k in rw (← is_that m policy' h at, at) (bit_put hit (number - 1) mark clear ∙ is)
      told_there m policy' h e false k =
          let d = eqb-false m number k in
          bit_stays hit (number - 1) (m - 1) mark (apart m h d) clear ∙ half.told m policy' h (sym (taken_other (number - 1) (m - 1) left (apart m h d) set) ∙ e)

  -- all are met
  pub all_met : (ps : List Policy) (looks before values : List ℕ) (mark : ℕ) (notes : List ℕ) → mark < 2 ^ length ps → Halfway ps looks before values 0 notes mark
      → (mark ≡ mark_of (under version (row_view s p n heads values)) q (words_of t ps)) × Noted version t s p n heads q ps looks values notes
  all_met ps looks before values mark notes below half =
      let terms = under version (row_view s p n heads values) in (
        bits_are (λ r. satisfied terms q (policy_words t r)) ps mark below
            (λ k r h. let e : suc k - 1 ≡ k = omega arith in rw e at (half.told (suc k) r h (none_set (suc k - 1)))) ∙ sym (mark_words t (satisfied terms q) ps),
        record { right = λ m policy h. half.noted m policy h (none_set (m - 1)) },
      )
