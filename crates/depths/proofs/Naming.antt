-- An attribute of a row is what its first column that names it chooses, or what the base has: two rows that choose alike there show the same. Assumes nothing.
use mathlib.Core.Path.{◌≡◌, refl, ap}
use mathlib.Core.Bool.{Bool, true, false, cond, ◌&&◌, false≢true}
use mathlib.Core.List.{List, map}
use Prim.Native.Nat.{ℕ, zero, suc, ◌+◌, ◌-◌, ◌≤◌, ◌<◌}
use native.Mathlib.Omega.{arith}
use borrow.Author.Tests.{leb-true}
use lib.Dec.{eqb, leb}
use lib.ListN.{length, get_or}
use Rattle.slices.specs.Same.{same}
use Rattle.tokens.specs.Table.{values_from}
use Rattle.bags.specs.Reading.{byte}
use Rattle.bags.specs.declared.sections.Sections.{Sections}
use Rattle.lookups.specs.Values.{value_at}
use Rattle.questions.specs.Columns.{column_path}
use Rattle.views.specs.Meaning.{Datum, View, columns_first}
use Rattle.views.specs.Values.{chosen_meant, datum_in}
use Rattle.views.specs.Rows.{chosen_at, chosen_of, row_view}
use Rattle.placing.specs.Placed.{unblanked_at}
use Rattle.table.specs.declared.Entry.{Entry}
use Rattle.stored.specs.ReadBack.{span_of_entry}
use Rattle.depths.specs.Columns.{naming, root_by, is_attribute, column_of}

module _ (s heads : List ℕ) (root : ℕ) (path : List ℕ) where
  abbrev names : ℕ → Bool
  names i = eqb (byte s (get_or heads i 0)) root && same (column_path s (get_or heads i 0)) path

  -- the code's turns
  pub naming_none : (n i : ℕ) → n ≤ 0 → naming n s heads i root path ≡ 0
  unfolding naming
  naming_none zero i h = refl
  naming_none (suc n) i h = absurd (omega arith)

  pub naming_here : (n i : ℕ) → 0 < n → names i ≡ true → i + 1 ≡ naming n s heads i root path
  unfolding naming
  naming_here zero i h e = absurd (omega arith)
  naming_here (suc n) i h e = rw e

  pub naming_on : (n i : ℕ) → 0 < n → names i ≡ false → naming (n - 1) s heads (i + 1) root path ≡ naming n s heads i root path
  unfolding naming
  naming_on zero i h e = absurd (omega arith)
  naming_on (suc n) i h e = let m : suc n - 1 ≡ n = omega arith in rw (m, e)

  pub naming_few : (n i : ℕ) → naming n s heads i root path ≤ i + n
  unfolding naming
  naming_few zero i = omega arith
  naming_few (suc n) i = go (names i) (naming_few n (i + 1))
    where
      go : (b : Bool) → naming n s heads (i + 1) root path ≤ i + 1 + n → cond b (i + 1) (naming n s heads (i + 1) root path) ≤ i + suc n
      go true h = omega arith
      go false h = omega arith

  -- what the columns from number i on show of two rows
  abbrev shown : View → List ℕ → ℕ → ℕ → Datum
  shown base values i n = columns_first (map (chosen_meant s) (values_from (λ i. chosen_at s (get_or heads i 0) (get_or values i 0)) i n)) base root path

  naming_shows : (base : View) (u v : List ℕ) (n i : ℕ) → ((j : ℕ) → naming n s heads i root path ≡ j + 1 → get_or u j 0 ≡ get_or v j 0) → shown base u i n ≡ shown base v i n
  unfolding columns_first naming
  naming_shows base u v zero i h = refl
  naming_shows base u v (suc n) i h = go (names i) (naming_shows base u v n (suc i)) h
    where
      next : suc i ≡ i + 1
      next = omega arith

      go : (b : Bool) → (((j : ℕ) → naming n s heads (suc i) root path ≡ j + 1 → get_or u j 0 ≡ get_or v j 0) → shown base u (suc i) n ≡ shown base v (suc i) n)
          → ((j : ℕ) → cond b (i + 1) (naming n s heads (i + 1) root path) ≡ j + 1 → get_or u j 0 ≡ get_or v j 0)
          → cond b (datum_in s (value_at s (get_or u i 0))) (shown base u (suc i) n) ≡ cond b (datum_in s (value_at s (get_or v i 0))) (shown base v (suc i) n)
      go true rest k = ap (λ (x : ℕ). datum_in s (value_at s x)) (k i refl)
      go false rest k = rest (rw next k)

pub row_same : (s : List ℕ) (p : Sections) (n : ℕ) (heads : List ℕ) (root : ℕ) (path : List ℕ) (u v : List ℕ)
    → ((j : ℕ) → naming n s heads 0 root path ≡ j + 1 → get_or u j 0 ≡ get_or v j 0) → row_view s p n heads u root path ≡ row_view s p n heads v root path
unfolding row_view chosen_of
row_same s p n heads root path u v h = naming_shows s heads root path _ u v n 0 h

-- ---- the column of an entry

module _ (t s : List ℕ) (n : ℕ) (heads : List ℕ) (x : Entry) where
  pub column_is : is_attribute t x ≡ true → (root : ℕ) → root ≡ root_by x.kind → naming n s heads 0 root (unblanked_at t (span_of_entry x)) ≡ column_of t s n heads x
  unfolding column_of
  column_is e root is = rw (e, is)

  pub no_column : is_attribute t x ≡ false → 0 ≡ column_of t s n heads x
  unfolding column_of
  no_column e = rw e

pub path_lies : (t : List ℕ) (x : Entry) → is_attribute t x ≡ true → (x.first ≤ x.second) × (x.second ≤ length t)
unfolding is_attribute
path_lies t x = go (leb x.kind 8) (leb x.first x.second) (leb x.second (length t)) refl refl
  where
    go : (a b c : Bool) → leb x.first x.second ≡ b → leb x.second (length t) ≡ c → (a && b) && c ≡ true → (x.first ≤ x.second) × (x.second ≤ length t)
    go true true true p q e = (leb-true x.first x.second p, leb-true x.second (length t) q)
    go true true false p q e = absurd (false≢true e)
    go true false c p q e = absurd (false≢true e)
    go false b c p q e = absurd (false≢true e)
