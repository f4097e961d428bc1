-- Plain tokens that are written with any blanks before each, and what is printed as them however they are written so. Assumes nothing.
use mathlib.Core.List.{List, [], ◌∷◌, ◌++◌, map}
use Prim.Native.Nat.{ℕ}
use Rattle.tokens.specs.Forms.{All}
use Rattle.tokens.specs.declared.classes.Sort.TheVariants.{Blanks}
use Rattle.reading.specs.Reads.{Reading, Before, After}
use Rattle.grammar.specs.Rules.{principal_types, resource_types}
use Rattle.placing.specs.Placed.{Each, none_left, and_each}
use Rattle.placing.proofs.EachLaws.{each_append}
use Rattle.spelling.specs.Layout.{WrittenToken, written, WellWritten, none, one}
use Rattle.spelling.specs.Marks.{sign_of}
use Rattle.spelling.specs.Printing.{OfKind, Prints, mark_kind, root_kind, truth_kind, call_kind, effect_word}
use Rattle.spelling.specs.Printed.{PlainToken, plainly, truth_token, effect_token, root_token, which_token, into_first, path_tokens, literal_token}
use Rattle.spelling.specs.Printed.{comma_tokens, literal_tokens, operand_tokens, tree_tokens, part_tokens, action_tokens, when_tokens, rest_tokens}
use Rattle.spelling.specs.Printed.{policies_tokens, blank_between, laid_behind, laid_by, printed_by, closely}
use Rattle.spelling.proofs.Fixed.{written_opened, FormedToken, FixedToken}
use Rattle.spelling.proofs.Printing.{prints_before, prints_after, Twice, twice_words, prints_then}

-- ---- plain tokens, written

-- tokens, each behind any blanks
pub data LaidAs : List PlainToken → List WrittenToken → Type 0 where
  none_laid : LaidAs [] []
  and_laid : {t : PlainToken} {b : List ℕ} {ts : List PlainToken} {xs : List WrittenToken} → All Blanks b → LaidAs ts xs
      → LaidAs (t ∷ ts) (written b t.0 t.1 ∷ xs)

-- what may be written is so
pub well_laid : {xs : List WrittenToken} {q : List ℕ} → WellWritten xs q → LaidAs (map plainly xs) xs
well_laid none = none_laid
well_laid (one a f n w) = and_laid a (well_laid w)

-- two parts of it
pub data Parts (ts us : List PlainToken) : List WrittenToken → Type 0 where
  parts : {xs ys : List WrittenToken} → LaidAs ts xs → LaidAs us ys → Parts ts us (xs ++ ys)

more_parts : {t : PlainToken} {b : List ℕ} {ts us : List PlainToken} {xs : List WrittenToken} → All Blanks b → Parts ts us xs
    → Parts (t ∷ ts) us (written b t.0 t.1 ∷ xs)
more_parts a (parts f g) = parts (and_laid a f) g

pub laid_parts : (ts : List PlainToken) {us : List PlainToken} {xs : List WrittenToken} → LaidAs (ts ++ us) xs → Parts ts us xs
laid_parts [] h = parts none_laid h
laid_parts (t ∷ ts) (and_laid a h) = more_parts a (laid_parts ts h)

-- ---- what is printed as plain tokens

-- The words w are printed as these tokens, behind any blanks; and each token has a form.
pub record PrintedAs {A B : Type 0} (R : Reading A) (words : List ℕ → A → B) (ts : List PlainToken) (w : B) : Type 0 where
  pub laid : {xs : List WrittenToken} → LaidAs ts xs → Prints R words xs w
  pub formed : Each FormedToken ts

-- a fixed token is of its kind, however it is written
pub kind_of : {k : ℕ} {t : PlainToken} (b : List ℕ) → FixedToken k t → OfKind k (written b t.0 t.1)
kind_of b f = record { read_as = f.read }

module _ {A B C D : Type 0} {R : Reading A} {S : Reading C} {words₁ : List ℕ → A → B} {words₂ : List ℕ → C → D} {ts : List PlainToken} {v : B} {w : D} where
  -- by a law of what is printed: of the same tokens
  pub printed_as : ((xs : List WrittenToken) → Prints R words₁ xs v → Prints S words₂ xs w) → PrintedAs R words₁ ts v → PrintedAs S words₂ ts w
  printed_as law p = record { laid = λ {xs} h. law xs (p.laid h); formed = p.formed }

  -- with a token before them
  pub printed_led : {k : ℕ} {t : PlainToken} → FixedToken k t
      → ((x : WrittenToken) (xs : List WrittenToken) → OfKind k x → Prints R words₁ xs v → Prints S words₂ (x ∷ xs) w)
      → PrintedAs R words₁ ts v → PrintedAs S words₂ (t ∷ ts) w
  printed_led {k} {t} f law p = record { laid = go; formed = and_each f.formed p.formed }
    where
      go : {xs : List WrittenToken} → LaidAs (t ∷ ts) xs → Prints S words₂ xs w
      go (and_laid {b = b} {xs = xs} a h) = law _ xs (kind_of b f) (p.laid h)

  -- with another behind it
  pub printed_behind : {k j : ℕ} {t u : PlainToken} → FixedToken k t → FixedToken j u
      → ((x y : WrittenToken) (xs : List WrittenToken) → OfKind k x → OfKind j y → Prints R words₁ xs v → Prints S words₂ (x ∷ y ∷ xs) w)
      → PrintedAs R words₁ ts v → PrintedAs S words₂ (t ∷ u ∷ ts) w
  printed_behind {k} {j} {t} {u} f g law p = record { laid = go; formed = and_each f.formed (and_each g.formed p.formed) }
    where
      go : {xs : List WrittenToken} → LaidAs (t ∷ u ∷ ts) xs → Prints S words₂ xs w
      go (and_laid {b = b} a (and_laid {b = c} {xs = xs} d h)) = law _ _ xs (kind_of b f) (kind_of c g) (p.laid h)

  -- one behind the other
  pub printed_then : {us : List PlainToken} → PrintedAs R words₁ ts v → PrintedAs S words₂ us w
      → PrintedAs (Twice R S) (twice_words words₁ words₂) (ts ++ us) (v, w)
  printed_then {us} p q = record { laid = λ h. go (laid_parts ts h); formed = each_append ts us p.formed q.formed }
    where
      go : {xs : List WrittenToken} → Parts ts us xs → Prints (Twice R S) (twice_words words₁ words₂) xs (v, w)
      go (parts f g) = prints_then (p.laid f) (q.laid g)

  -- with a token between them
  pub printed_around : {E F : Type 0} {T : Reading E} {words : List ℕ → E → F} {us : List PlainToken} {u : F} {k : ℕ} {t : PlainToken} → FixedToken k t
      → ((xs ys : List WrittenToken) (x : WrittenToken) → Prints R words₁ xs v → OfKind k x → Prints S words₂ ys w → Prints T words (xs ++ (x ∷ ys)) u)
      → PrintedAs R words₁ ts v → PrintedAs S words₂ us w → PrintedAs T words (ts ++ t ∷ us) u
  printed_around {T = T} {words = words} {us = us} {u = u} {t = t} f law p q =
      record { laid = λ h. go (laid_parts ts h); formed = each_append ts (t ∷ us) p.formed (and_each f.formed q.formed) }
    where
      go : {xs : List WrittenToken} → Parts ts (t ∷ us) xs → Prints T words xs u
      go (parts {xs = xs} h (and_laid {b = b} {xs = ys} a k)) = law xs ys _ (p.laid h) (kind_of b f) (q.laid k)

module _ {A B : Type 0} {R : Reading A} {words : List ℕ → A → B} {ts : List PlainToken} {w : B} {k : ℕ} {t : PlainToken} (f : FixedToken k t)
    (p : PrintedAs R words ts w) where
  -- with a token behind them, or before them
  pub printed_before : PrintedAs (Before k R) words (ts ++ t ∷ []) w
  printed_before = record { laid = λ h. go (laid_parts ts h); formed = each_append ts (t ∷ []) p.formed (and_each f.formed none_left) }
    where
      go : {xs : List WrittenToken} → Parts ts (t ∷ []) xs → Prints (Before k R) words xs w
      go (parts h (and_laid {b = b} a none_laid)) = prints_before (p.laid h) (kind_of b f)

  pub printed_after : PrintedAs (After k R) words (t ∷ ts) w
  printed_after = printed_led f (λ x xs e h. prints_after h e) p

-- One word for proofs that compute with printed policies: their tokens, and the text of these.
unfoldable words_opened : Unit {0}
unfolding written_opened sign_of mark_kind root_kind truth_kind call_kind effect_word root_token which_token effect_token truth_token into_first path_tokens literal_token
words_opened = tt

unfoldable trees_opened : Unit {0}
unfolding words_opened comma_tokens literal_tokens operand_tokens tree_tokens part_tokens action_tokens when_tokens rest_tokens policies_tokens
trees_opened = tt

unfoldable pub printed_opened : Unit {0}
unfolding trees_opened principal_types resource_types blank_between laid_behind laid_by printed_by closely
printed_opened = tt
