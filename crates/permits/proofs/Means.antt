-- A permit is satisfied exactly when its lock holds, under every version, for every view and every request. Assumes nothing.
use mathlib.Core.Path.{◌≡◌, refl, ap, ◌∙◌, sym}
use mathlib.Core.Bool.{Bool, true, false, ◌&&◌, ◌||◌}
use mathlib.Core.List.Memᴰ
use mathlib.Core.List.{List, [], ◌∷◌, map, Memᴰ}
use mathlib.Core.Logic.{⊎_elim}
use Prim.Native.Nat.{ℕ}
use lib.Ieee.{Float}
use Rattle.slices.specs.Same.{same}
use Rattle.slices.proofs.Equal.{same_decides}
use Rattle.tokens.proofs.TokenLaws.{never, and_left, and_right, or_cases}
use Rattle.numbers.specs.Literals.{number_in}
use Rattle.grammar.specs.Policies.{Comparator, Comparator.Equal, TreeOf, both}
use Rattle.grammar.specs.Policies as policies
use Rattle.placing.specs.Said.{Word}
use Rattle.views.specs.Meaning.{Datum, text, number, flag, texts, absent, View}
use Rattle.meaning.specs.Values.{literal_value, attribute_value, operand_value, with_action, compares, ordered}
use Rattle.meaning.specs.Conditions.{told, given, given_both, settled, settles, settled_if, both_of, some, among_strings, compared, in_attribute, verdict, is_yes}
use Rattle.meaning.specs.declared.Verdict.{Verdict}
use Rattle.meaning.specs.declared.Verdict.TheVariants.{Yes, No, Missing}
use Rattle.meaning.specs.Targets.{part_matches, is_string, action_matches}
use Rattle.meaning.specs.Decisions.{target_matches, condition_holds, satisfied}
use Rattle.permits.specs.Permits.{Test, equal, member, order, test_tree, joined_to, permit_policy}
use Rattle.permits.specs.Meaning.{TestHolds, is_that, has_that, compares_so, LockHolds}
use Rattle.permits.specs.Promise.{PermitMeans}

-- ---- strings among strings

-- the test finds what is there
among_mem : (s : List ℕ) (l : List (List ℕ)) → some (same s) l ≡ true → Memᴰ s l
unfolding some
among_mem s [] e = absurd (never e)
among_mem s (a ∷ l) e =
    ⊎_elim (λ (h : same s a ≡ true). Memᴰ.head ((same_decides s a).sound h)) (λ (h : some (same s) l ≡ true). Memᴰ.tail (among_mem s l h))
    (or_cases (same s a) (some (same s) l) e)

or_right : (a : Bool) {b : Bool} → b ≡ true → (a || b) ≡ true
or_right true e = refl
or_right false e = e

mem_among : (s : List ℕ) (l : List (List ℕ)) → Memᴰ s l → some (same s) l ≡ true
unfolding some
mem_among s [] m = absurd (Memᴰ.not-nil m)
mem_among s (a ∷ l) m =
    ⊎_elim (λ (e : s ≡ a). rw ((same_decides s a).complete e)) (λ (n : Memᴰ s l). or_right (same s a) (mem_among s l n)) (Memᴰ.cases_cons m)

-- strings as literals
some_texts : (s : List ℕ) (l : List Word) → some (is_string s) (map policies.text l) ≡ some (same s) l
unfolding some is_string
some_texts s [] = refl
some_texts s (a ∷ l) = rw (some_texts s l)

-- ---- a test

-- yes is told where the test passed
told_yes : (b : Bool) → is_yes (told b) ≡ b
unfolding told
told_yes true = refl
told_yes false = refl

-- and no version makes a yes of what is none
settled_yes : (s : Bool) (v : Verdict) → is_yes (settled_if s v) ≡ is_yes v
unfolding settled_if settled
settled_yes true Yes = refl
settled_yes true No = refl
settled_yes true Missing = refl
settled_yes false v = refl

module _ (value : Word) where
  equal_yes : (d : Datum) → is_yes (compared Equal d (text value)) ≡ true → d ≡ text value
  unfolding given_both given compares
  equal_yes (text x) e = ap text ((same_decides x value).sound (sym (told_yes (same x value)) ∙ e))
  equal_yes (number x) e = absurd (never (sym (told_yes false) ∙ e))
  equal_yes (flag x) e = absurd (never (sym (told_yes false) ∙ e))
  equal_yes (texts x) e = absurd (never (sym (told_yes false) ∙ e))
  equal_yes absent e = absurd (never e)

  yes_equal : is_yes (compared Equal (text value) (text value)) ≡ true
  unfolding given_both given compares
  yes_equal = told_yes (same value value) ∙ (same_decides value value).complete refl

  -- a list that has it
  record Has (d : Datum) : Type 0 where
    list : List (List ℕ)
    is : d ≡ texts list
    has : Memᴰ value list

  member_yes : (d : Datum) → is_yes (in_attribute (text value) d) ≡ true → Has d
  unfolding given_both given
  member_yes (text x) e = absurd (never (sym (told_yes false) ∙ e))
  member_yes (number x) e = absurd (never (sym (told_yes false) ∙ e))
  member_yes (flag x) e = absurd (never (sym (told_yes false) ∙ e))
  member_yes (texts l) e = record { list = l; is = refl; has = among_mem value l (sym (told_yes (among_strings l value)) ∙ e) }
  member_yes absent e = absurd (never e)

  yes_member : (l : List (List ℕ)) → Memᴰ value l → is_yes (in_attribute (text value) (texts l)) ≡ true
  unfolding given_both given
  yes_member l m = told_yes (among_strings l value) ∙ mem_among value l m

module _ (c : Comparator) (y : Float) where
  -- a number that compares so
  record Is (d : Datum) : Type 0 where
    value : Float
    is : d ≡ number value
    so : ordered c value y ≡ true

  order_yes : (d : Datum) → is_yes (compared c d (number y)) ≡ true → Is d
  unfolding given_both given compares
  order_yes (text x) e = absurd (never (sym (told_yes false) ∙ e))
  order_yes (number x) e = record { value = x; is = refl; so = sym (told_yes (ordered c x y)) ∙ e }
  order_yes (flag x) e = absurd (never (sym (told_yes false) ∙ e))
  order_yes (texts x) e = absurd (never (sym (told_yes false) ∙ e))
  order_yes absent e = absurd (never e)

  yes_order : (x : Float) → ordered c x y ≡ true → is_yes (compared c (number x) (number y)) ≡ true
  unfolding given_both given compares
  yes_order x e = told_yes (ordered c x y) ∙ e

module _ (s : Bool) (view : View) (action : Word) where
  -- a condition is true, where `s` says whether an absent attribute settles an operator
  abbrev Holds : TreeOf Word → Type 0
  Holds c = is_yes (verdict s (with_action action view) c) ≡ true

  test_holds : (t : Test) → Holds (test_tree t) → TestHolds view t
  unfolding test_tree verdict operand_value attribute_value literal_value with_action
  test_holds (equal path value) e = is_that (equal_yes value (view 1 path) (sym (settled_yes s _) ∙ e))
  test_holds (member path value) e = let h = member_yes value (view 1 path) (sym (settled_yes s _) ∙ e) in has_that h.is h.has
  test_holds (order path c n) e = let h = order_yes c (number_in n) (view 1 path) (sym (settled_yes s _) ∙ e) in compares_so h.is h.so

  holds_test : {t : Test} → TestHolds view t → Holds (test_tree t)
  unfolding test_tree verdict operand_value attribute_value literal_value with_action
  holds_test (is_that {value = value} e) = rw e (settled_yes s _ ∙ yes_equal value)
  holds_test (has_that {value = value} {l = l} e m) = rw e (settled_yes s _ ∙ yes_member value l m)
  holds_test (compares_so {n = n} {c = c} {x = x} e h) = rw e (settled_yes s _ ∙ yes_order c (number_in n) x h)

  -- ---- tests joined

  both_yes : (a b : Verdict) → is_yes (both_of a b) ≡ true → (is_yes a ≡ true) × (is_yes b ≡ true)
  unfolding both_of
  both_yes Yes b e = (refl, e)
  both_yes No b e = absurd (never e)
  both_yes Missing b e = absurd (never e)

  yes_both : (a b : Verdict) → is_yes a ≡ true → is_yes b ≡ true → is_yes (both_of a b) ≡ true
  unfolding both_of
  yes_both Yes b e f = f
  yes_both No b e f = absurd (never e)
  yes_both Missing b e f = absurd (never e)

  joined_hold : (c : TreeOf Word) (ts : List Test) → Holds (joined_to c ts) → Holds c × ((t : Test) → Memᴰ t ts → TestHolds view t)
  unfolding joined_to verdict
  joined_hold c [] e = (e, λ t m. absurd (Memᴰ.not-nil m))
  joined_hold c (t ∷ ts) e =
      let r = joined_hold (both c (test_tree t)) ts e in
      let two = both_yes (verdict s (with_action action view) c) (verdict s (with_action action view) (test_tree t)) r.0 in
      (two.0, λ u m. ⊎_elim (λ (q : u ≡ t). rw q (test_holds t two.1)) (λ (n : Memᴰ u ts). r.1 u n) (Memᴰ.cases_cons m))

  hold_joined : (c : TreeOf Word) (ts : List Test) → Holds c → ((t : Test) → Memᴰ t ts → TestHolds view t) → Holds (joined_to c ts)
  unfolding joined_to verdict
  hold_joined c [] e f = e
  hold_joined c (t ∷ ts) e f =
      hold_joined (both c (test_tree t)) ts
      (yes_both (verdict s (with_action action view) c) (verdict s (with_action action view) (test_tree t)) e (holds_test (f t (Memᴰ.head refl))))
      (λ u m. f u (Memᴰ.tail m))

-- ---- a permit

pub permit_means : PermitMeans
unfolding PermitMeans permit_policy satisfied target_matches part_matches action_matches condition_holds
permit_means version view q actions resource t ts = (then_holds, holds_then)
  where
    acts : Bool
    acts = some (is_string q.action) (map policies.text actions)

    here : Bool
    here = same q.resource resource

    true_there : Bool
    true_there = is_yes (verdict (settles version) (with_action q.action view) (joined_to (test_tree t) ts))

    then_holds : (acts && here && true_there) ≡ true → LockHolds view q actions resource (t ∷ ts)
    then_holds e =
        let target = and_left (acts && here) true_there e in
        let tests = joined_hold (settles version) view q.action (test_tree t) ts (and_right (acts && here) true_there e) in
        record {
          action_among = among_mem q.action actions (sym (some_texts q.action actions) ∙ and_left acts here target);
          resource_is = (same_decides q.resource resource).sound (and_right acts here target);
          every_test = λ u m.
              ⊎_elim (λ (e : u ≡ t). rw e (test_holds (settles version) view q.action t tests.0)) (λ (n : Memᴰ u ts). tests.1 u n) (Memᴰ.cases_cons m);
        }

    holds_then : LockHolds view q actions resource (t ∷ ts) → (acts && here && true_there) ≡ true
    holds_then h =
        let first : acts ≡ true = some_texts q.action actions ∙ mem_among q.action actions h.action_among in
        let second : here ≡ true = (same_decides q.resource resource).complete h.resource_is in
        let third : true_there ≡ true =
        hold_joined (settles version) view q.action (test_tree t) ts (holds_test (settles version) view q.action (h.every_test t (Memᴰ.head refl)))
        (λ u m. h.every_test u (Memᴰ.tail m)) in
        rw (first, second, third)
