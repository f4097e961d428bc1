-- What version 2 changes: a condition is missing exactly where an absent attribute is met in it, and else it is what it is under version 1, where none is ever
-- missing. Assumes nothing.
use mathlib.Core.Path.{◌≡◌, refl, ap}
use mathlib.Core.Logic.{◌⊎◌, inl, inr, ⊎_elim, ◌↔◌, ◌≢◌}
use mathlib.Core.Bool.{Bool, true, false, and-eq-true_iff}
use mathlib.Core.List.{List}
use mathlib.Core.Option.{Option, none, some}
use Prim.Native.Nat.{ℕ}
use native.Mathlib.Omega.{arith}
use Rattle.grammar.specs.Policies.{Root, Comparator, LiteralOf, OperandOf, Which, TreeOf, constant, compare, like, among, within, contains, has, not, brackets, both, either, choice}
use Rattle.grammar.specs.declared.Version.TheVariants.{First, Second}
use Rattle.placing.specs.Said.{Word}
use Rattle.views.specs.Meaning.{Datum, text, number, flag, texts, absent, present, View}
use Rattle.meaning.specs.Values.{attribute_value, operand_value, with_action}
use Rattle.meaning.specs.Conditions.{told, given, given_both, settled, settles, settled_if, negated, both_of, either_of, choice_of, verdict, is_yes}
use Rattle.meaning.specs.Decisions.{under, target_matches, condition_holds, satisfied}
use Rattle.meaning.specs.Versions.{MeetsAbsent, compared_left, compared_right, likened, in_a_list, in_an_attribute, in_none, containing, in_not, in_brackets, left_of_both, right_of_both, left_of_either, right_of_either, asked_by_if, in_then, in_else, MissingExactly, SecondExactly, NeverMissing, MeetsIn, in_the_condition, SatisfiedSecond}
use Rattle.meaning.specs.declared.Verdict.{Verdict}
use Rattle.meaning.specs.declared.Verdict.TheVariants.{Yes, No, Missing}
use Rattle.meaning.proofs.Deciding.{never}

-- ---- verdicts are apart

yes_no : {v : Verdict} → v ≡ Yes → v ≡ No → ⊥
yes_no e f = let z : ◌≡◌ {A = ℕ} 0 1 = cc in omega arith

yes_missing : {v : Verdict} → v ≡ Yes → v ≡ Missing → ⊥
yes_missing e f = let z : ◌≡◌ {A = ℕ} 0 1 = cc in omega arith

no_missing : {v : Verdict} → v ≡ No → v ≡ Missing → ⊥
no_missing e f = let z : ◌≡◌ {A = ℕ} 0 1 = cc in omega arith

-- ---- version 1: yes or no

-- a verdict that is not Missing
pub data Clear : Verdict → Type 0 where
  a_yes : Clear Yes
  a_no : Clear No

clear_told : (b : Bool) → Clear (told b)
unfolding told
clear_told true = a_yes
clear_told false = a_no

clear_settled : (v : Verdict) → Clear (settled v)
unfolding settled
clear_settled Yes = a_yes
clear_settled No = a_no
clear_settled Missing = a_no

clear_negated : {v : Verdict} → Clear v → Clear (negated v)
unfolding negated
clear_negated a_yes = a_no
clear_negated a_no = a_yes

clear_both : {v w : Verdict} → Clear v → Clear w → Clear (both_of v w)
unfolding both_of
clear_both a_yes k = k
clear_both a_no k = a_no

clear_either : {v w : Verdict} → Clear v → Clear w → Clear (either_of v w)
unfolding either_of
clear_either a_yes k = a_yes
clear_either a_no k = k

clear_choice : {u v w : Verdict} → Clear u → Clear v → Clear w → Clear (choice_of u v w)
unfolding choice_of
clear_choice a_yes k l = k
clear_choice a_no k l = l

-- where absent settles an operator's verdict, every condition's is clear
pub clear : (view : View) (c : TreeOf Word) → Clear (verdict true view c)
unfolding verdict settled_if
clear view (constant b) = clear_told b
clear view (compare c a b) = clear_settled _
clear view (like a s) = clear_settled _
clear view (among a ls) = clear_settled _
clear view (within a root s) = clear_settled _
clear view (contains w root s ls) = clear_settled _
clear view (has root s) = clear_told _
clear view (not a) = clear_negated (clear view a)
clear view (brackets a) = clear view a
clear view (both a b) = clear_both (clear view a) (clear view b)
clear view (either a b) = clear_either (clear view a) (clear view b)
clear view (choice c a b) = clear_choice (clear view c) (clear view a) (clear view b)

not_missing : {v : Verdict} → Clear v → v ≢ Missing
not_missing a_yes e = yes_missing refl e
not_missing a_no e = no_missing refl e

pub never_missing : NeverMissing
unfolding NeverMissing settles
never_missing view c = not_missing (clear view c)

-- ---- version 2: what is met

-- what a condition is found to be under version 2, beside what it is under version 1, by whether something absent is met in it
data Beside (Meets : Type 0) : Verdict → Verdict → Type 0 where
  it_misses : {w : Verdict} → Meets → Beside Meets Missing w
  still_yes : (Meets → ⊥) → Beside Meets Yes Yes
  still_no : (Meets → ⊥) → Beside Meets No No

-- the same, of other words for what is met
beside_as : {A B : Type 0} {v w : Verdict} → (A → B) → (B → A) → Beside A v w → Beside B v w
beside_as to from (it_misses a) = it_misses (to a)
beside_as to from (still_yes n) = still_yes (λ b. n (from b))
beside_as to from (still_no n) = still_no (λ b. n (from b))

-- ---- an operator

beside_told : {A : Type 0} (b : Bool) → (A → ⊥) → Beside A (told b) (told b)
unfolding told
beside_told true n = still_yes n
beside_told false n = still_no n

beside_settled : {A : Type 0} (b : Bool) → (A → ⊥) → Beside A (told b) (settled (told b))
unfolding told settled
beside_settled true n = still_yes n
beside_settled false n = still_no n

-- what is present is not absent
there : {d : Datum} → present d ≡ true → d ≡ absent → ⊥
there p e = never (ap present e) p

beside_given : (d : Datum) (b : Bool) → Beside (d ≡ absent) (given d b) (settled (given d b))
unfolding given
beside_given (text x) b = beside_settled b (there refl)
beside_given (number x) b = beside_settled b (there refl)
beside_given (flag x) b = beside_settled b (there refl)
beside_given (texts x) b = beside_settled b (there refl)
beside_given absent b = it_misses refl

-- where the first value is present the second tells
second_tells : {d e : Datum} {v w : Verdict} → present d ≡ true → Beside (e ≡ absent) v w → Beside ((d ≡ absent) ⊎ (e ≡ absent)) v w
second_tells p k = beside_as inr (⊎_elim (λ e. absurd (there p e)) (λ e. e)) k

beside_given_both : (d e : Datum) (b : Bool) → Beside ((d ≡ absent) ⊎ (e ≡ absent)) (given_both d e b) (settled (given_both d e b))
unfolding given_both
beside_given_both (text x) e b = second_tells refl (beside_given e b)
beside_given_both (number x) e b = second_tells refl (beside_given e b)
beside_given_both (flag x) e b = second_tells refl (beside_given e b)
beside_given_both (texts x) e b = second_tells refl (beside_given e b)
beside_given_both absent e b = it_misses (inl refl)

-- ---- parts, from left to right

-- a second part that is not met, since the first is not what it asks for
first_only : {A B : Type 0} {v asked : Verdict} → (A → ⊥) → (v ≡ asked → ⊥) → A ⊎ ((v ≡ asked) × B) → ⊥
first_only n m (inl a) = n a
first_only n m (inr w) = m w.0

-- one that is met
second_too : {A B : Type 0} {v w u : Verdict} → (A → ⊥) → Beside B v w → Beside (A ⊎ ((u ≡ u) × B)) v w
second_too n k = beside_as (λ b. inr (refl, b)) (⊎_elim (λ a. absurd (n a)) (λ w. w.1)) k

-- `!`, `&&`, `||`, `if`
beside_negated : {A : Type 0} {v w : Verdict} → Beside A v w → Beside A (negated v) (negated w)
unfolding negated
beside_negated (it_misses a) = it_misses a
beside_negated (still_yes n) = still_no n
beside_negated (still_no n) = still_yes n

beside_both : {A B : Type 0} {v w x y : Verdict} → Beside A v w → Beside B x y → Beside (A ⊎ ((w ≡ Yes) × B)) (both_of v x) (both_of w y)
unfolding both_of
beside_both (it_misses a) k = it_misses (inl a)
beside_both (still_yes n) k = second_too n k
beside_both (still_no n) k = still_no (first_only n (λ e. yes_no e refl))

beside_either : {A B : Type 0} {v w x y : Verdict} → Beside A v w → Beside B x y → Beside (A ⊎ ((w ≡ No) × B)) (either_of v x) (either_of w y)
unfolding either_of
beside_either (it_misses a) k = it_misses (inl a)
beside_either (still_yes n) k = still_yes (first_only n (λ e. yes_no refl e))
beside_either (still_no n) k = second_too n k

beside_choice : {A B C : Type 0} {v w x y s t : Verdict} → Beside A v w → Beside B x y → Beside C s t
    → Beside ((A ⊎ ((w ≡ Yes) × B)) ⊎ ((w ≡ No) × C)) (choice_of v x s) (choice_of w y t)
unfolding choice_of
beside_choice (it_misses a) k l = it_misses (inl (inl a))
beside_choice (still_yes n) k l = beside_as inl (⊎_elim (λ b. b) (λ c. absurd (yes_no refl c.0))) (second_too n k)
beside_choice (still_no n) k l = second_too (first_only n (λ e. yes_no e refl)) l

-- ---- a condition

-- how an absent attribute can be met in each
module _ {view : View} where
  none_in_truth : {b : Bool} → MeetsAbsent view (constant b) → ⊥
  none_in_truth = elim [ ]

  none_in_has : {root : Root} {s : Word} → MeetsAbsent view (has root s) → ⊥
  none_in_has = elim [ ]

  of_compare : {c : Comparator} {a b : OperandOf Word} → MeetsAbsent view (compare c a b) → (operand_value view a ≡ absent) ⊎ (operand_value view b ≡ absent)
  of_compare (compared_left e) = inl e
  of_compare (compared_right e) = inr e

  of_like : {a : OperandOf Word} {s : Word} → MeetsAbsent view (like a s) → operand_value view a ≡ absent
  of_like (likened e) = e

  of_among : {a : OperandOf Word} {ls : List (LiteralOf Word)} → MeetsAbsent view (among a ls) → operand_value view a ≡ absent
  of_among (in_a_list e) = e

  of_within : {a : OperandOf Word} {root : Root} {s : Word} → MeetsAbsent view (within a root s)
      → (operand_value view a ≡ absent) ⊎ (attribute_value view root s ≡ absent)
  of_within (in_an_attribute e) = inl e
  of_within (in_none e) = inr e

  of_contains : {w : Which} {root : Root} {s : Word} {ls : List (LiteralOf Word)} → MeetsAbsent view (contains w root s ls) → attribute_value view root s ≡ absent
  of_contains (containing e) = e

  of_not : {a : TreeOf Word} → MeetsAbsent view (not a) → MeetsAbsent view a
  of_not (in_not m) = m

  of_brackets : {a : TreeOf Word} → MeetsAbsent view (brackets a) → MeetsAbsent view a
  of_brackets (in_brackets m) = m

  of_both : {a b : TreeOf Word} → MeetsAbsent view (both a b) → MeetsAbsent view a ⊎ ((verdict true view a ≡ Yes) × MeetsAbsent view b)
  of_both (left_of_both m) = inl m
  of_both (right_of_both e m) = inr (e, m)

  of_either : {a b : TreeOf Word} → MeetsAbsent view (either a b) → MeetsAbsent view a ⊎ ((verdict true view a ≡ No) × MeetsAbsent view b)
  of_either (left_of_either m) = inl m
  of_either (right_of_either e m) = inr (e, m)

  of_choice : {c a b : TreeOf Word} → MeetsAbsent view (choice c a b)
      → (MeetsAbsent view c ⊎ ((verdict true view c ≡ Yes) × MeetsAbsent view a)) ⊎ ((verdict true view c ≡ No) × MeetsAbsent view b)
  of_choice (asked_by_if m) = inl (inl m)
  of_choice (in_then e m) = inl (inr (e, m))
  of_choice (in_else e m) = inr (e, m)

beside : (view : View) (c : TreeOf Word) → Beside (MeetsAbsent view c) (verdict false view c) (verdict true view c)
unfolding verdict settled_if
beside view (constant b) = beside_told b none_in_truth
beside view (compare c a b) = beside_as (⊎_elim compared_left compared_right) of_compare (beside_given_both _ _ _)
beside view (like a s) = beside_as likened of_like (beside_given _ _)
beside view (among a ls) = beside_as in_a_list of_among (beside_given _ _)
beside view (within a root s) = beside_as (⊎_elim in_an_attribute in_none) of_within (beside_given_both _ _ _)
beside view (contains w root s ls) = beside_as containing of_contains (beside_given _ _)
beside view (has root s) = beside_told _ none_in_has
beside view (not a) = beside_as in_not of_not (beside_negated (beside view a))
beside view (brackets a) = beside_as in_brackets of_brackets (beside view a)
beside view (both a b) = beside_as (⊎_elim left_of_both (λ w. right_of_both w.0 w.1)) of_both (beside_both (beside view a) (beside view b))
beside view (either a b) = beside_as (⊎_elim left_of_either (λ w. right_of_either w.0 w.1)) of_either (beside_either (beside view a) (beside view b))
beside view (choice c a b) =
    beside_as (⊎_elim (⊎_elim asked_by_if (λ w. in_then w.0 w.1)) (λ w. in_else w.0 w.1)) of_choice
    (beside_choice (beside view c) (beside view a) (beside view b))

-- ---- what is said of it

says_missing : {A : Type 0} {v w : Verdict} → Beside A v w → (v ≡ Missing) ↔ A
says_missing (it_misses a) = ((λ _. a), (λ _. refl))
says_missing (still_yes n) = ((λ e. absurd (yes_missing refl e)), (λ a. absurd (n a)))
says_missing (still_no n) = ((λ e. absurd (no_missing refl e)), (λ a. absurd (n a)))

says_yes : {A : Type 0} {v w : Verdict} → Beside A v w → (v ≡ Yes) ↔ ((w ≡ Yes) × (A → ⊥))
says_yes (it_misses a) = ((λ e. absurd (yes_missing e refl)), (λ k. absurd (k.1 a)))
says_yes (still_yes n) = ((λ _. (refl, n)), (λ _. refl))
says_yes (still_no n) = ((λ e. absurd (yes_no e refl)), (λ k. absurd (yes_no k.0 refl)))

says_no : {A : Type 0} {v w : Verdict} → Beside A v w → (v ≡ No) ↔ ((w ≡ No) × (A → ⊥))
says_no (it_misses a) = ((λ e. absurd (no_missing e refl)), (λ k. absurd (k.1 a)))
says_no (still_yes n) = ((λ e. absurd (yes_no refl e)), (λ k. absurd (yes_no refl k.0)))
says_no (still_no n) = ((λ _. (refl, n)), (λ _. refl))

pub missing_exactly : MissingExactly
unfolding MissingExactly settles
missing_exactly view c = says_missing (beside view c)

pub second_exactly : SecondExactly
unfolding SecondExactly settles
second_exactly view c = (says_yes (beside view c), says_no (beside view c))

-- ---- policies

is_yes_lem : (v : Verdict) → (is_yes v ≡ true) ↔ (v ≡ Yes)
unfolding is_yes
is_yes_lem Yes = ((λ _. refl), (λ _. refl))
is_yes_lem No = ((λ e. absurd (never refl e)), (λ e. absurd (yes_no e refl)))
is_yes_lem Missing = ((λ e. absurd (never refl e)), (λ e. absurd (yes_missing e refl)))

none_met : {view : View} → MeetsIn view none → ⊥
none_met = elim [ ]

of_some : {view : View} {c : TreeOf Word} → MeetsIn view (some c) → MeetsAbsent view c
of_some (in_the_condition m) = m

holds_second : (view : View) (c : Option (TreeOf Word))
    → (condition_holds (under Second view) c ≡ true) ↔ ((condition_holds (under First view) c ≡ true) × (MeetsIn view c → ⊥))
unfolding condition_holds settles
holds_second view none = ((λ _. (refl, none_met)), (λ _. refl))
holds_second view (some c) =
    let k = says_yes (beside view c) in (
      (λ e. let w = k.0 ((is_yes_lem _).0 e) in ((is_yes_lem _).1 w.0, (λ m. w.1 (of_some m)))),
      (λ w. (is_yes_lem _).1 (k.1 ((is_yes_lem _).0 w.0, (λ m. w.1 (in_the_condition m))))),
    )

pub satisfied_second : SatisfiedSecond
unfolding SatisfiedSecond satisfied
satisfied_second view q p =
    let seen = with_action q.action view in
    let k = holds_second seen p.condition in
    let first = and-eq-true_iff (target_matches q p) (condition_holds (under First seen) p.condition) in
    let second = and-eq-true_iff (target_matches q p) (condition_holds (under Second seen) p.condition) in (
      (λ e. let w = second.0 e in let u = k.0 w.1 in (first.1 (w.0, u.0), u.1)),
      (λ w. let u = first.0 w.0 in second.1 (u.0, k.1 (u.1, w.1))),
    )
