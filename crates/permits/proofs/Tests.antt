-- A path, a test and a conjunction of tests by the tokens that they are laid out of. Assumes nothing.
use mathlib.Core.Path.{◌≡◌, refl, ap, ◌∙◌, sym, subst}
use mathlib.Core.Bool.{true, false}
use mathlib.Core.List.{List, [], ◌∷◌, ◌++◌, append_assoc, append-nil, map}
use Prim.Native.Nat.{ℕ, ◌+◌, ◌≤◌}
use native.Mathlib.Omega.{arith}
use lib.ListN.{length, get_or, length-append}
use borrow.Author.Tests.{not-true}
use Rattle.slices.specs.Ascii.{bytes}
use Rattle.tokens.specs.Kinds as kinds
use Rattle.tokens.specs.Runs.{is_of}
use Rattle.tokens.specs.Forms.{empty, next, quote, Form, a_word, a_string, a_number, digits}
use Rattle.tokens.specs.declared.classes.Sort.TheVariants.{WordBytes}
use Rattle.tokens.proofs.TokenLaws.{and_left}
use Rattle.grammar.specs.Policies.{Root.Principal, Root.Action, Comparator, Comparator.Equal}
use Rattle.grammar.specs.Policies.{TreeOf, both}
use Rattle.tokens.specs.Sizes.{most_inside}
use Rattle.grammar.specs.Grammar.{sizes, Simple, Condition, Conjunction}
use Rattle.placing.specs.Placed.{IsName, a_name, IsPath, one_name, one_more, Each, none_left, and_each}
use Rattle.placing.specs.Said.{Word, tree_words}
use Rattle.placing.proofs.EachLaws.{each_first, each_rest, each_left, each_right, each_as}
use Rattle.bags.specs.Paths.{is_path}
use Rattle.meaning.specs.Paths.{PathsAlike}
use Rattle.meaning.proofs.Paths.{paths_alike}
use Rattle.spelling.specs.Spelling.{apart, calm}
use Rattle.spelling.specs.Layout.{WrittenToken, written, laid_out, WellWritten, none, one, Sized}
use Rattle.spelling.specs.Printing.{Prints, PrintsPath, mark_kind, root_kind, RootedPath, rooted_words}
use Rattle.spelling.specs.Printing as printing
use Rattle.spelling.proofs.Fixed.{is_fixed, well_fixed, well_calm, written_opened}
use Rattle.spelling.proofs.Printing.{laid_append, well_append}
use Rattle.spelling.proofs.Productions.{prints_string, prints_number, string_literal, prints_literal, prints_attribute, prints_given, comparator_fixed}
use Rattle.spelling.proofs.Productions.{comparator_kind, prints_comparison, prints_within, prints_simple, prints_alone, prints_both}
use Rattle.permits.specs.Permits.{Test, equal, member, order, quoted, sign_of, between, test_text, test_tree, joined_to}
use Rattle.permits.specs.Meaning.{Formed, equality, membership, comparison, Fits, equal_fits, member_fits, order_fits}
use Rattle.permits.proofs.Values.{words_string, words_text}

-- a blank
abbrev pub space : List ℕ
space = bytes " "

-- a byte that makes no token longer is of no word
calm_word : (c : ℕ) → calm c ≡ true → is_of WordBytes c ≡ false
unfolding calm
calm_word c h = not-true _ (and_left _ _ h)

-- ---- a path

-- a name is a token, and any byte that is of no word may stand behind it
name_form : {n : Word} → IsName n → Form kinds.name n
name_form (a_name {b} {rest} l a k) = subst (λ (i : ℕ). Form i (b ∷ rest)) k (a_word l a)

name_apart : {n : Word} → IsName n → (c : ℕ) → is_of WordBytes c ≡ false → apart n c ≡ true
unfolding apart
name_apart (a_name l a k) c h = rw (l, h)

-- its tokens, without blanks
record PathLaid (p : Word) : Type 0 where
  tokens : List WrittenToken
  prints : PrintsPath [] tokens p
  text : laid_out tokens ≡ p
  well : (q : List ℕ) → is_of WordBytes (get_or q 0 0) ≡ false → WellWritten tokens q

path_laid : {p : Word} → IsPath p → PathLaid p
unfolding written_opened
path_laid (one_name {n} i) = record {
  tokens = written [] kinds.name n ∷ [];
  prints = printing.PrintsPath.first empty i;
  text = append-nil n;
  well = λ q h. one empty (name_form i) (name_apart i (get_or q 0 0) h) none;
}
path_laid (one_more {p} {n} k i) =
    let before = path_laid k in
    let ys = written [] kinds.dot (bytes ".") ∷ written [] kinds.name n ∷ [] in
    record {
      tokens = before.tokens ++ ys;
      prints = printing.PrintsPath.more before.prints empty empty i;
      text = laid_append before.tokens ys ∙ rw (before.text, append-nil n);
      well = λ q h.
          well_append (before.well (laid_out ys ++ q) refl) (well_fixed (one empty (name_form i) (name_apart i (get_or q 0 0) h) none) refl);
    }

-- ---- a test

-- its tokens stand behind a blank, and before a byte that makes none longer
pub record TestLaid (t : Test) : Type 0 where
  tokens : List WrittenToken
  text : laid_out tokens ≡ space ++ test_text t
  well : (q : List ℕ) → calm (get_or q 0 0) ≡ true → WellWritten tokens q
  prints : Fits t → Prints (Simple sizes) tree_words tokens (test_tree t)
  fits : Each Sized tokens → Fits t

-- a string
abbrev string_token : List ℕ → Word → WrittenToken
string_token b s = written b kinds.string (quoted s)

-- one within its size
string_few : {b : List ℕ} (s : Word) → Sized (string_token b s) → length s ≤ 127
string_few s h = let w = h.within in omega (arith, length-append s (quote ∷ []))

-- an attribute of the principal
module _ (p : Word) (i : is_path p ≡ true) where
  path_is : PathLaid p
  unfolding PathsAlike
  path_is = path_laid ((paths_alike p).0 i).0

  attribute_tokens : List WrittenToken
  attribute_tokens = written space kinds.principal_word (bytes "principal") ∷ written [] kinds.dot (bytes ".") ∷ path_is.tokens

  attribute_text : laid_out attribute_tokens ≡ space ++ (bytes "principal." ++ p)
  unfolding attribute_tokens written_opened
  attribute_text = rw path_is.text

  attribute_well : (q : List ℕ) → is_of WordBytes (get_or q 0 0) ≡ false → WellWritten attribute_tokens q
  unfolding attribute_tokens written_opened
  attribute_well q h = well_fixed (well_fixed (path_is.well q h) refl) refl

  attribute_prints : Prints RootedPath rooted_words attribute_tokens (Principal, p)
  unfolding attribute_tokens written_opened root_kind PathsAlike
  attribute_prints = prints_attribute principal_only (record { read_as = refl }) (record { read_as = refl }) path_is.prints ((paths_alike p).0 i).1
    where
      principal_only : Principal ≡ Action → ⊥
      principal_only e = let z : ◌≡◌ {A = ℕ} 0 1 = cc in omega arith

  -- `in` before it
  in_fixed : (q : List ℕ) → is_fixed (written space kinds.in_word (bytes "in")) (get_or (laid_out attribute_tokens ++ q) 0 0) ≡ true
  unfolding attribute_tokens written_opened
  in_fixed q = refl

-- a comparator's mark
abbrev mark_token : Comparator → WrittenToken
mark_token c = written space (mark_kind c) (sign_of c)

-- a test that is formed rightly is laid so
pub test_laid : {t : Test} → Formed t → TestLaid t
unfolding written_opened test_text test_tree sign_of mark_kind
test_laid (equality {path} {value} i v) =
    let ys = mark_token Equal ∷ string_token space value ∷ [] in
    record {
      tokens = attribute_tokens path i ++ ys;
      text =
          laid_append (attribute_tokens path i) ys
          ∙ rw (attribute_text path i, append-nil (value ++ quote ∷ []), append_assoc (space ++ bytes "principal.") path (bytes " == " ++ quoted value));
      well = λ q h.
          well_append (attribute_well path i (laid_out ys ++ q) refl)
          (well_fixed (well_calm none (next refl empty) (a_string (words_string v.all)) h) (comparator_fixed Equal));
      prints = λ f.
          prints_comparison (prints_given (attribute_prints path i)) (comparator_kind Equal)
          (prints_literal (string_literal (prints_string value (equal_few f) (words_text v.all))));
      fits = λ e. equal_fits (string_few value (each_first (each_rest (each_right (attribute_tokens path i) ys e))));
    }
  where
    equal_few : Fits (equal path value) → length value ≤ 127
    equal_few (equal_fits h) = h
test_laid (membership {path} {value} i v) =
    let word = written space kinds.in_word (bytes "in") in
    record {
      tokens = string_token space value ∷ word ∷ attribute_tokens path i;
      text = rw (attribute_text path i);
      well = λ q h.
          well_calm (well_fixed (attribute_well path i q (calm_word (get_or q 0 0) h)) (in_fixed path i q)) (next refl empty)
          (a_string (words_string v.all)) refl;
      prints = λ f. prints_within (prints_literal (string_literal (prints_string value (member_few f) (words_text v.all)))) (record { read_as = refl }) (attribute_prints path i);
      fits = λ e. member_fits (string_few value (each_first e));
    }
  where
    member_few : Fits (member path value) → length value ≤ 127
    member_few (member_fits h) = h
test_laid (comparison {path} {n} {c} i o m) =
    let ys = mark_token c ∷ written space kinds.number n ∷ [] in
    record {
      tokens = attribute_tokens path i ++ ys;
      text =
          laid_append (attribute_tokens path i) ys
          ∙ rw (attribute_text path i, append-nil n, append_assoc (space ++ bytes "principal.") path (space ++ (sign_of c ++ (space ++ n))));
      well = λ q h.
          well_append (attribute_well path i (laid_out ys ++ q) refl) (well_fixed (well_calm none (next refl empty) (a_number m) h) (comparator_fixed c));
      prints = λ f. prints_comparison (prints_given (attribute_prints path i)) (comparator_kind c) (prints_literal (prints_number n (order_few f)));
      fits = λ e. order_fits (each_first (each_rest (each_right (attribute_tokens path i) ys e))).within;
    }
  where
    order_few : Fits (order path c n) → digits n ≤ 15
    order_few (order_fits h) = h

-- ---- things with others between them

-- each of them behind the others' mark
unfoldable pub after_each : {A : Type 0} → List ℕ → (A → List ℕ) → List A → List ℕ
after_each sep f [] = []
after_each sep f (x ∷ xs) = sep ++ (f x ++ after_each sep f xs)

pub between_is : {A : Type 0} (sep : List ℕ) (f : A → List ℕ) (x : A) (xs : List A) → between sep (map f (x ∷ xs)) ≡ f x ++ after_each sep f xs
unfolding between after_each
between_is sep f x [] = sym (append-nil (f x))
between_is sep f x (y ∷ ys) = ap (λ (l : List ℕ). f x ++ (sep ++ l)) (between_is sep f y ys)

-- ---- tests joined by `&&`

-- their tokens, before a byte that makes none longer; F: they fit
pub record JoinedLaid (l : List ℕ) (c : TreeOf Word) (F : Type 0) : Type 0 where
  pub tokens : List WrittenToken
  pub text : laid_out tokens ≡ l
  pub well : (q : List ℕ) → calm (get_or q 0 0) ≡ true → WellWritten tokens q
  pub prints : F → Prints (Conjunction (Condition sizes most_inside)) tree_words tokens c
  pub fits : Each Sized tokens → F

-- the first of them, and one more
first_joined : {t : Test} → TestLaid t → JoinedLaid (space ++ test_text t) (test_tree t) (Fits t)
first_joined h = record {
  tokens = h.tokens;
  text = h.text;
  well = h.well;
  prints = λ f. prints_alone (prints_simple most_inside (h.prints f));
  fits = h.fits;
}

next_joined : {l : List ℕ} {c : TreeOf Word} {F : Type 0} {t : Test} → JoinedLaid l c F → TestLaid t
    → JoinedLaid (l ++ (bytes " && " ++ test_text t)) (both c (test_tree t)) (F × Fits t)
unfolding written_opened
next_joined {l} {t = t} j h =
    let x = written space kinds.and (bytes "&&") in
    let ys = x ∷ h.tokens in
    record {
      tokens = j.tokens ++ ys;
      text = laid_append j.tokens ys ∙ rw (j.text, h.text);
      well = λ q e. well_append (j.well (laid_out ys ++ q) refl) (well_fixed (h.well q e) refl);
      prints = λ f. prints_both (j.prints f.0) (record { read_as = refl }) (prints_simple most_inside (h.prints f.1));
      fits = λ e. (j.fits (each_left j.tokens ys e), h.fits (each_rest (each_right j.tokens ys e)));
    }

-- the same text, with another word for what fits
joined_as : {l k : List ℕ} {c : TreeOf Word} {F G : Type 0} → l ≡ k → (F → G) → (G → F) → JoinedLaid l c F → JoinedLaid k c G
joined_as e f g j = record { tokens = j.tokens; text = j.text ∙ e; well = j.well; prints = λ h. j.prints (g h); fits = λ h. f (j.fits h) }

-- all of them
tests_joined : {l : List ℕ} {c : TreeOf Word} {F : Type 0} → JoinedLaid l c F → {ts : List Test} → Each TestLaid ts
    → JoinedLaid (l ++ after_each (bytes " && ") test_text ts) (joined_to c ts) (F × Each Fits ts)
unfolding joined_to after_each
tests_joined {l} j none_left = joined_as (sym (append-nil l)) (λ f. (f, none_left)) (λ f. f.0) j
tests_joined {l} {c} {F} j (and_each {a = t} {l = ts} h hs) =
    joined_as (append_assoc l (bytes " && " ++ test_text t) (after_each (bytes " && ") test_text ts))
    (λ (f : (F × Fits t) × Each Fits ts). (f.0.0, and_each f.0.1 f.1))
    (λ (f : F × Each Fits (t ∷ ts)). ((f.0, each_first f.1), each_rest f.1))
    (tests_joined {l = l ++ (bytes " && " ++ test_text t)} {c = both c (test_tree t)} {F = F × Fits t} (next_joined j h) hs)

-- a lock's tests
pub condition_laid : {t : Test} {ts : List Test} → Each Formed (t ∷ ts)
    → JoinedLaid (space ++ between (bytes " && ") (map test_text (t ∷ ts))) (joined_to (test_tree t) ts) (Each Fits (t ∷ ts))
condition_laid {t} {ts} (and_each f fs) =
    joined_as (ap (λ (l : List ℕ). space ++ l) (sym (between_is (bytes " && ") test_text t ts)))
    (λ (g : Fits t × Each Fits ts). and_each g.0 g.1) (λ (g : Each Fits (t ∷ ts)). (each_first g, each_rest g))
    (tests_joined (first_joined (test_laid f)) (each_as (λ u k. test_laid k) fs))
