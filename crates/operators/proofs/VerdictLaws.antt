-- The verdict of a condition without parts, by the values that it met, and what it is where an absent value settles it. Assumes nothing.
use Prim.Native.Nat.{ℕ}
use mathlib.Core.List.{List}
use mathlib.Core.Bool.{Bool, true, false, cond, ◌&&◌}
use mathlib.Core.Path.{◌≡◌, refl, sym, ◌∙◌, ap}
use Rattle.grammar.specs.Policies.{Span, Root, Comparator, Literal, Operand, Which, constant, compare, like, among, within, contains, has}
use Rattle.placing.specs.Placed.{quoted_at, unblanked_at}
use Rattle.placing.specs.Said.{literal_words, tree_words, operand_words}
use Rattle.views.specs.Meaning.{Datum, text, number, flag, texts, absent, present, View}
use Rattle.meaning.specs.Values.{literal_value, attribute_value, operand_value, if_text, if_texts}
use Rattle.meaning.specs.Conditions.{told, given, given_both, settled, settled_if, asked, among_strings, compared, likened, in_attribute, had, verdict}
use Rattle.meaning.specs.declared.Verdict.{Verdict}
use Rattle.meaning.specs.declared.Verdict.TheVariants.{Yes, No, Missing}
use Rattle.meaning.proofs.WordLaws.{some_words, asked_words}
use Rattle.operators.specs.Verdicts.{given_among}

pub told_yes : (b : Bool) → b ≡ true → Yes ≡ told b
unfolding told
told_yes b e = rw e

pub told_no : (b : Bool) → b ≡ false → No ≡ told b
unfolding told
told_no b e = rw e

-- ---- by what was met

-- what is said where a test tells whether the value that was met is present
pub given_one : (d : Datum) {m b c : Bool} {r : Verdict} → m ≡ present d → b ≡ c → r ≡ cond m (told b) Missing → r ≡ given d c
unfolding given
given_one (text x) p q h = h ∙ rw (p, q)
given_one (number x) p q h = h ∙ rw (p, q)
given_one (flag x) p q h = h ∙ rw (p, q)
given_one (texts x) p q h = h ∙ rw (p, q)
given_one absent p q h = h ∙ rw p

-- the same of two values
pub given_two : (d e : Datum) {m n b c : Bool} {r : Verdict} → m ≡ present d → n ≡ present e → b ≡ c → r ≡ cond (m && n) (told b) Missing → r ≡ given_both d e c
unfolding given_both
given_two (text x) e p k q h = given_one e k q (h ∙ rw p)
given_two (number x) e p k q h = given_one e k q (h ∙ rw p)
given_two (flag x) e p k q h = given_one e k q (h ∙ rw p)
given_two (texts x) e p k q h = given_one e k q (h ∙ rw p)
given_two absent e p k q h = h ∙ rw p

with_true : (m : Bool) → m ≡ (m && true)
with_true true = refl
with_true false = refl

-- where the second is known to be present
pub given_first : (d e : Datum) {m b c : Bool} {r : Verdict} → m ≡ present d → present e ≡ true → b ≡ c → r ≡ cond m (told b) Missing → r ≡ given_both d e c
given_first d e {m} {b} p k q h = given_two d e p (sym k) q (h ∙ ap (λ (i : Bool). cond i (told b) Missing) (with_true m))

-- ---- what each is found to be

texts_alike : (d : Datum) {f g : List (List ℕ) → Bool} → ((l : List (List ℕ)) → f l ≡ g l) → if_texts d f ≡ if_texts d g
texts_alike (text x) e = refl
texts_alike (number x) e = refl
texts_alike (flag x) e = refl
texts_alike (texts x) e = e x
texts_alike absent e = refl

module _ (t : List ℕ) (view : View) where
  pub constant_says : (b : Bool) → verdict false view (tree_words t (constant b)) ≡ told b
  unfolding verdict tree_words
  constant_says b = refl

  pub compare_says : (c : Comparator) (a b : Operand)
      → verdict false view (tree_words t (compare c a b)) ≡ compared c (operand_value view (operand_words t a)) (operand_value view (operand_words t b))
  unfolding verdict tree_words settled_if
  compare_says c a b = refl

  pub like_says : (a : Operand) (s : Span) → verdict false view (tree_words t (like a s)) ≡ likened (operand_value view (operand_words t a)) (quoted_at t s)
  unfolding verdict tree_words settled_if
  like_says a s = refl

  pub among_says : (a : Operand) (ls : List Literal) → verdict false view (tree_words t (among a ls)) ≡ given_among t (operand_value view (operand_words t a)) ls
  unfolding verdict tree_words settled_if
  among_says a ls = ap (given (operand_value view (operand_words t a))) (some_words t _ ls)

  pub within_says : (a : Operand) (root : Root) (s : Span)
      → verdict false view (tree_words t (within a root s)) ≡ in_attribute (operand_value view (operand_words t a)) (attribute_value view root (unblanked_at t s))
  unfolding verdict tree_words settled_if
  within_says a root s = refl

  pub contains_says : (w : Which) (root : Root) (s : Span) (ls : List Literal)
      → verdict false view (tree_words t (contains w root s ls))
      ≡ given (attribute_value view root (unblanked_at t s)) (if_texts (attribute_value view root (unblanked_at t s)) λ l. asked w (λ x. if_text (literal_value (literal_words t x)) (among_strings l)) ls)
  unfolding verdict tree_words settled_if
  contains_says w root s ls =
      ap (given (attribute_value view root (unblanked_at t s)))
      (texts_alike (attribute_value view root (unblanked_at t s)) (λ l. asked_words t w (λ x. if_text (literal_value x) (among_strings l)) ls))

  pub has_says : (root : Root) (s : Span) → verdict false view (tree_words t (has root s)) ≡ had (attribute_value view root (unblanked_at t s))
  unfolding verdict tree_words
  has_says root s = refl

-- ---- what each counts as

told_settled : (settles b : Bool) → told b ≡ settled_if settles (told b)
unfolding told settled settled_if
told_settled true true = refl
told_settled true false = refl
told_settled false b = refl

module _ (settles : Bool) (t : List ℕ) (view : View) where
  pub constant_counts : (b : Bool) → verdict settles view (tree_words t (constant b)) ≡ settled_if settles (verdict false view (tree_words t (constant b)))
  unfolding verdict tree_words
  constant_counts b = told_settled settles b

  pub compare_counts : (c : Comparator) (a b : Operand) → verdict settles view (tree_words t (compare c a b)) ≡ settled_if settles (verdict false view (tree_words t (compare c a b)))
  unfolding verdict tree_words settled_if
  compare_counts c a b = refl

  pub like_counts : (a : Operand) (s : Span) → verdict settles view (tree_words t (like a s)) ≡ settled_if settles (verdict false view (tree_words t (like a s)))
  unfolding verdict tree_words settled_if
  like_counts a s = refl

  pub among_counts : (a : Operand) (ls : List Literal) → verdict settles view (tree_words t (among a ls)) ≡ settled_if settles (verdict false view (tree_words t (among a ls)))
  unfolding verdict tree_words settled_if
  among_counts a ls = refl

  pub within_counts : (a : Operand) (root : Root) (s : Span) → verdict settles view (tree_words t (within a root s)) ≡ settled_if settles (verdict false view (tree_words t (within a root s)))
  unfolding verdict tree_words settled_if
  within_counts a root s = refl

  pub contains_counts : (w : Which) (root : Root) (s : Span) (ls : List Literal)
      → verdict settles view (tree_words t (contains w root s ls)) ≡ settled_if settles (verdict false view (tree_words t (contains w root s ls)))
  unfolding verdict tree_words settled_if
  contains_counts w root s ls = refl

  pub has_counts : (root : Root) (s : Span) → verdict settles view (tree_words t (has root s)) ≡ settled_if settles (verdict false view (tree_words t (has root s)))
  unfolding verdict tree_words
  has_counts root s = told_settled settles (present (attribute_value view root (unblanked_at t s)))
