-- The view that looks at the columns first is the look-up in the bag with each column's attribute set or removed; and an attribute of that bag is
-- there exactly when it has an entry with that path. Assumes nothing.
use Prim.Native.Nat.{ℕ}
use mathlib.Core.List.{List, [], ◌∷◌}
use mathlib.Core.Bool.{Bool, true, false, ◌&&◌, ◌||◌, cond, false≢true, and-eq-true_iff}
use mathlib.Core.Path.{◌≡◌, refl, sym, ◌∙◌, ap}
use lib.Dec.{eqb}
use Rattle.slices.specs.Same.{same}
use Rattle.slices.proofs.Equal.{same_decides}
use Rattle.bags.specs.Paths.{every}
use Rattle.lookups.specs.Lookups.{Entry, look_in}
use Rattle.views.specs.Meaning.{Datum, absent, present, text, number, flag, texts, Bag, look, has_path, Chosen, without, set_in, set_to, row_bag, columns_first}

-- what is said of an attribute that is removed, and of the others
look_without : (es : List (Entry Datum)) (path p : List ℕ) → look_in absent (without path es) p ≡ cond (same path p) absent (look_in absent es p)
unfolding look_in without
look_without [] path p = go (same path p)
  where
    go : (b : Bool) → absent ≡ cond b absent absent
    go true = refl
    go false = refl
look_without (e ∷ es) path p = go (same e.path path) refl (same e.path p) refl (same path p) refl (look_without es path p)
  where
    go : (a : Bool) → same e.path path ≡ a → (b : Bool) → same e.path p ≡ b → (c : Bool) → same path p ≡ c
        → look_in absent (without path es) p ≡ cond (same path p) absent (look_in absent es p)
        → look_in absent (cond a (without path es) (e ∷ without path es)) p ≡ cond c absent (cond b e.value (look_in absent es p))
    go true ea b eb true ec ih = simp ec at ih
    go true ea false eb false ec ih = simp ec at ih
    go true ea true eb false ec ih = let x = (same_decides e.path path).sound ea in absurd (false≢true (sym ec ∙ rw (← x) eb))
    go false ea true eb true ec ih = let x = (same_decides path p).sound ec in absurd (false≢true (sym ea ∙ rw x eb))
    go false ea true eb false ec ih = simp eb
    go false ea false eb true ec ih = simp eb (simp ec at ih)
    go false ea false eb false ec ih = simp eb (simp ec at ih)

look_set : (es : List (Entry Datum)) (path p : List ℕ) (v : Datum) → look_in absent (set_in path v es) p ≡ cond (same path p) v (look_in absent es p)
unfolding set_in look_in
look_set es path p v = go (same path p) refl v (look_without es path p)
  where
    go : (b : Bool) → same path p ≡ b → (v : Datum) → look_in absent (without path es) p ≡ cond (same path p) absent (look_in absent es p)
        → look_in absent (set_in path v es) p ≡ cond b v (look_in absent es p)
    go true e absent l = simp e at l
    go false e absent l = simp e at l
    go true e (text x) l = simp e
    go false e (text x) l = simp e (simp e at l)
    go true e (number x) l = simp e
    go false e (number x) l = simp e (simp e at l)
    go true e (flag x) l = simp e
    go false e (flag x) l = simp e (simp e at l)
    go true e (texts x) l = simp e
    go false e (texts x) l = simp e (simp e at l)

pub row_view_is : (base : Bag) (cs : List (Chosen Datum)) (root : ℕ) (path : List ℕ) → look (row_bag base cs) root path ≡ columns_first cs (look base) root path
unfolding row_bag columns_first set_to
row_view_is base [] root path = refl
row_view_is base (c ∷ cs) root path = go (eqb c.root root) (row_view_is base cs root path)
  where
    go : (b : Bool) → look (row_bag base cs) root path ≡ columns_first cs (look base) root path
        → look_in absent (cond b (set_in c.path c.value (row_bag base cs root)) (row_bag base cs root)) path
        ≡ cond (b && same c.path path) c.value (columns_first cs (look base) root path)
    go true ih = look_set (row_bag base cs root) c.path path c.value ∙ ap (λ (d : Datum). cond (same c.path path) c.value d) ih
    go false ih = ih

-- ---- `has`

-- each entry has a value that is there
abbrev pub filled : List (Entry Datum) → Bool
filled = every (λ (e : Entry Datum). present e.value)

has_of : (es : List (Entry Datum)) (path : List ℕ) → filled es ≡ true → present (look_in absent es path) ≡ has_path es path
unfolding look_in has_path every
has_of [] path h = refl
has_of (e ∷ es) path h =
    let t = (and-eq-true_iff (present e.value) (filled es)).0 h in
    go (same e.path path) t.0 (has_of es path t.1)
  where
    go : (b : Bool) → present e.value ≡ true → present (look_in absent es path) ≡ has_path es path
        → present (cond b e.value (look_in absent es path)) ≡ (b || has_path es path)
    go true p ih = p
    go false p ih = ih

filled_without : (es : List (Entry Datum)) (path : List ℕ) → filled es ≡ true → filled (without path es) ≡ true
unfolding without every
filled_without [] path h = refl
filled_without (e ∷ es) path h =
    let t = (and-eq-true_iff (present e.value) (filled es)).0 h in
    go (same e.path path) t.0 (filled_without es path t.1)
  where
    go : (b : Bool) → present e.value ≡ true → filled (without path es) ≡ true → filled (cond b (without path es) (e ∷ without path es)) ≡ true
    go true p ih = ih
    go false p ih = simp (p, ih)

filled_set : (es : List (Entry Datum)) (path : List ℕ) (v : Datum) → filled es ≡ true → filled (set_in path v es) ≡ true
unfolding set_in every
filled_set es path v h = go (present v) refl (filled_without es path h)
  where
    go : (b : Bool) → present v ≡ b → filled (without path es) ≡ true → filled (cond b (record { path = path; value = v } ∷ without path es) (without path es)) ≡ true
    go true p ih = simp (p, ih)
    go false p ih = ih

row_filled : (base : Bag) (cs : List (Chosen Datum)) (root : ℕ) → filled (base root) ≡ true → filled (row_bag base cs root) ≡ true
unfolding row_bag set_to
row_filled base [] root h = h
row_filled base (c ∷ cs) root h = go (eqb c.root root) (row_filled base cs root h)
  where
    go : (b : Bool) → filled (row_bag base cs root) ≡ true → filled (cond b (set_in c.path c.value (row_bag base cs root)) (row_bag base cs root)) ≡ true
    go true ih = filled_set (row_bag base cs root) c.path c.value ih
    go false ih = ih

pub has_in_row : (base : Bag) (cs : List (Chosen Datum)) (root : ℕ) (path : List ℕ) → filled (base root) ≡ true
    → present (look (row_bag base cs) root path) ≡ has_path (row_bag base cs root) path
has_in_row base cs root path h = has_of (row_bag base cs root) path (row_filled base cs root h)
