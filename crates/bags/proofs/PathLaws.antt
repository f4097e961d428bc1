-- Laws of paths: the pieces between the dots, as runs of word bytes find them. Assumes nothing.
use Prim.Native.Nat.{ℕ, suc, ◌+◌, ◌-◌, ◌<◌, ◌≤◌}
use mathlib.Core.List.{List, [], ◌∷◌, ◌++◌}
use mathlib.Core.Bool.{Bool, true, false, ◌&&◌, ◌||◌, cond, and-eq-true_iff, and-true, and-false, or-true}
use mathlib.Core.Logic.{⊎_elim}
use mathlib.Core.Path.{◌≡◌, refl, sym, ◌∙◌, ap}
use native.Mathlib.Nat.{eq-or-lt_of_le}
use native.Mathlib.Omega.{arith}
use lib.Dec.{leb, eqb}
use lib.ListN.{length, get_or, take, drop, length-drop}
use lib.Seq.{take_all, get_or-drop, drop-drop}
use borrow.Author.Tests.{eqb-true, eqb-false, eq-eqb, ne_eqb, le-leb, lt-leb, leb-true}
use Rattle.tokens.specs.Bytes.{class_of}
use Rattle.tokens.specs.Kinds.{name}
use Rattle.tokens.specs.Runs.{is_of, run, run_end}
use Rattle.tokens.specs.Words.{word_kind}
use Rattle.tokens.specs.declared.classes.Sort.TheVariants.{Letters, WordBytes}
use Rattle.bags.specs.Paths.{every, is_name, onto, dot_pieces, is_path}

-- ---- pieces

-- there is a first piece
pub record Pieces (l : List ℕ) : Type 0 where
  pub first : List ℕ
  pub others : List (List ℕ)
  pub are : dot_pieces l ≡ first ∷ others

pub some_piece : (l : List ℕ) → Pieces l
unfolding dot_pieces
some_piece [] = record { first = []; others = []; are = refl }
some_piece (b ∷ rest) = go (eqb b 46) refl (some_piece rest)
  where
    go : (t : Bool) → eqb b 46 ≡ t → Pieces rest → Pieces (b ∷ rest)
    go true e p = record { first = []; others = dot_pieces rest; are = simp e }
    go false e p = record { first = b ∷ p.first; others = p.others; are = simp (e, p.are) }

-- pieces joined by dots
unfoldable pub joined : List (List ℕ) → List ℕ
joined [] = []
joined (p ∷ []) = p
joined (p ∷ q ∷ ps) = p ++ 46 ∷ joined (q ∷ ps)

-- they are the whole again
pub joined_again : (l : List ℕ) → joined (dot_pieces l) ≡ l
unfolding dot_pieces joined
joined_again [] = refl
joined_again (b ∷ rest) = go (eqb b 46) refl (some_piece rest) (joined_again rest)
  where
    longer : (p : List ℕ) (ps : List (List ℕ)) → joined ((b ∷ p) ∷ ps) ≡ b ∷ joined (p ∷ ps)
    longer p [] = refl
    longer p (q ∷ qs) = refl

    go : (t : Bool) → eqb b 46 ≡ t → Pieces rest → joined (dot_pieces rest) ≡ rest → joined (cond t ([] ∷ dot_pieces rest) (onto b (dot_pieces rest))) ≡ b ∷ rest
    go true e p j = let h : joined (p.first ∷ p.others) ≡ rest = rw p.are at j in rw p.are (simp (h, eqb-true b 46 e))
    go false e p j = let h : joined (p.first ∷ p.others) ≡ rest = rw p.are at j in rw p.are (longer p.first p.others ∙ ap (λ (l : List ℕ). b ∷ l) h)

-- ---- a run of word bytes, and the piece that starts with it

pub dot_is_none : (b : ℕ) → is_of WordBytes b ≡ true → eqb b 46 ≡ false
unfolding class_of
dot_is_none b h = ne_eqb b 46 (λ e. let z : false ≡ true = rw e at h in let k : ◌≡◌ {A = ℕ} 0 1 = cc in omega arith)

run_words : (l : List ℕ) → every (is_of WordBytes) (take (run WordBytes l) l) ≡ true
unfolding run every
run_words [] = refl
run_words (b ∷ rest) = go (is_of WordBytes b) refl (run_words rest)
  where
    go : (t : Bool) → is_of WordBytes b ≡ t → every (is_of WordBytes) (take (run WordBytes rest) rest) ≡ true
        → every (is_of WordBytes) (take (cond t (suc (run WordBytes rest)) 0) (b ∷ rest)) ≡ true
    go true e h = simp (e, h)
    go false e h = refl

piece_last : (l : List ℕ) → run WordBytes l ≡ length l → dot_pieces l ≡ l ∷ []
unfolding run dot_pieces
piece_last [] h = refl
piece_last (b ∷ rest) h = go (is_of WordBytes b) refl (piece_last rest) h
  where
    go : (t : Bool) → is_of WordBytes b ≡ t → (run WordBytes rest ≡ length rest → dot_pieces rest ≡ rest ∷ []) → cond t (suc (run WordBytes rest)) 0 ≡ suc (length rest)
        → cond (eqb b 46) ([] ∷ dot_pieces rest) (onto b (dot_pieces rest)) ≡ (b ∷ rest) ∷ []
    go true e ih k = simp (dot_is_none b e, ih (omega arith))
    go false e ih k = absurd (omega arith)

piece_dot : (l : List ℕ) → run WordBytes l < length l → get_or l (run WordBytes l) 0 ≡ 46 → dot_pieces l ≡ take (run WordBytes l) l ∷ dot_pieces (drop (suc (run WordBytes l)) l)
unfolding run dot_pieces
piece_dot [] h d = absurd (omega arith)
piece_dot (b ∷ rest) h d = go (is_of WordBytes b) refl (piece_dot rest) h d
  where
    k : ℕ
    k = run WordBytes rest

    go : (t : Bool) → is_of WordBytes b ≡ t
        → (k < length rest → get_or rest k 0 ≡ 46 → dot_pieces rest ≡ take k rest ∷ dot_pieces (drop (suc k) rest))
        → cond t (suc k) 0 < suc (length rest) → get_or (b ∷ rest) (cond t (suc k) 0) 0 ≡ 46
        → cond (eqb b 46) ([] ∷ dot_pieces rest) (onto b (dot_pieces rest)) ≡ take (cond t (suc k) 0) (b ∷ rest) ∷ dot_pieces (drop (suc (cond t (suc k) 0)) (b ∷ rest))
    go true e ih h' d' = simp (dot_is_none b e, ih (omega arith) d')
    go false e ih h' d' = simp (eq-eqb b 46 d')

-- a piece with a byte that no word has
record Spoilt (l : List ℕ) : Type 0 where
  first : List ℕ
  others : List (List ℕ)
  are : dot_pieces l ≡ first ∷ others
  bad : every (is_of WordBytes) first ≡ false

piece_spoilt : (l : List ℕ) → run WordBytes l < length l → (get_or l (run WordBytes l) 0 ≡ 46 → ⊥) → Spoilt l
unfolding run dot_pieces every
piece_spoilt [] h d = absurd (omega arith)
piece_spoilt (b ∷ rest) h d = go (is_of WordBytes b) refl (piece_spoilt rest) h d
  where
    k : ℕ
    k = run WordBytes rest

    go : (t : Bool) → is_of WordBytes b ≡ t → (k < length rest → (get_or rest k 0 ≡ 46 → ⊥) → Spoilt rest) → cond t (suc k) 0 < suc (length rest)
        → (get_or (b ∷ rest) (cond t (suc k) 0) 0 ≡ 46 → ⊥) → Spoilt (b ∷ rest)
    go true e ih h' d' =
        let s = ih (omega arith) d' in
        record { first = b ∷ s.first; others = s.others; are = simp (dot_is_none b e, s.are); bad = rw s.bad (and-false (is_of WordBytes b)) }
    go false e ih h' d' =
        let p = some_piece rest in
        record { first = b ∷ p.first; others = p.others; are = simp (ne_eqb b 46 d', p.are); bad = simp e }

-- ---- whether the pieces are names, by the first run of word bytes

-- a run of word bytes is a name if it begins with a letter and is not reserved
pub name_run : (w : List ℕ) → every (is_of WordBytes) w ≡ true → (is_of Letters (get_or w 0 0) && eqb (word_kind w) name) ≡ is_name w
unfolding is_name
name_run w h = simp (h, and-true (is_of Letters (get_or w 0 0)))

pub no_name : (w : List ℕ) → length w ≡ 0 → false ≡ is_name w
unfolding is_name class_of
no_name [] h = refl
no_name (b ∷ rest) h = absurd (omega arith)

module _ (l : List ℕ) where
  word : List ℕ
  word = take (run WordBytes l) l

  lone : run WordBytes l ≡ length l → dot_pieces l ≡ word ∷ []
  unfolding word
  lone h = piece_last l h ∙ ap (λ (w : List ℕ). w ∷ []) (sym (take_all (run WordBytes l) l (omega arith)))

  spoilt : run WordBytes l < length l → (get_or l (run WordBytes l) 0 ≡ 46 → ⊥) → every is_name (dot_pieces l) ≡ false
  unfolding every is_name
  spoilt h d =
      let s = piece_spoilt l h d in
      rw (s.are, s.bad, and-false (is_of Letters (get_or s.first 0 0)))

  nameless : run WordBytes l ≤ length l → is_name word ≡ false → every is_name (dot_pieces l) ≡ false
  unfolding every word
  nameless m h =
      ⊎_elim
      (λ (e : run WordBytes l ≡ length l). rw (lone e) (simp h))
      (λ (i : run WordBytes l < length l). go i (eqb (get_or l (run WordBytes l) 0) 46) refl)
      (eq-or-lt_of_le m)
    where
      go : run WordBytes l < length l → (t : Bool) → eqb (get_or l (run WordBytes l) 0) 46 ≡ t → every is_name (dot_pieces l) ≡ false
      go i true e = rw (piece_dot l i (eqb-true _ 46 e)) (simp h)
      go i false e = spoilt i (eqb-false _ 46 e)

  lone_name : run WordBytes l ≡ length l → is_name word ≡ true → every is_name (dot_pieces l) ≡ true
  unfolding every
  lone_name e h = rw (lone e) (simp h)

  name_and_dot : run WordBytes l < length l → get_or l (run WordBytes l) 0 ≡ 46 → is_name word ≡ true
      → every is_name (dot_pieces l) ≡ every is_name (dot_pieces (drop (suc (run WordBytes l)) l))
  unfolding every word
  name_and_dot i d h = rw (piece_dot l i d) (simp h)

-- the same, by places of a path
module _ (path : List ℕ) (at end : ℕ) (is_end : end ≡ run_end WordBytes path at) (high : end ≤ length path) where
  size : end - at ≡ run WordBytes (drop at path)
  size = omega arith

  pub word_bytes_run : every (is_of WordBytes) (take (end - at) (drop at path)) ≡ true
  word_bytes_run = rw size (run_words (drop at path))

  pub not_a_name : is_name (take (end - at) (drop at path)) ≡ false → every is_name (dot_pieces (drop at path)) ≡ false
  unfolding word
  not_a_name h = nameless (drop at path) (omega (arith, length-drop at path)) (rw size at h)

  pub last_name : is_name (take (end - at) (drop at path)) ≡ true → end ≡ length path → every is_name (dot_pieces (drop at path)) ≡ true
  unfolding word
  last_name h e = lone_name (drop at path) (omega (arith, length-drop at path)) (rw size at h)

  byte_at : get_or (drop at path) (run WordBytes (drop at path)) 0 ≡ get_or path end 0
  byte_at = rw get_or-drop (ap (λ (i : ℕ). get_or path i 0) (sym is_end))

  pub no_dot : end < length path → (get_or path end 0 ≡ 46 → ⊥) → every is_name (dot_pieces (drop at path)) ≡ false
  no_dot i d = spoilt (drop at path) (omega (arith, length-drop at path)) (λ e. d (sym byte_at ∙ e))

  pub dot_then : is_name (take (end - at) (drop at path)) ≡ true → end < length path → get_or path end 0 ≡ 46
      → every is_name (dot_pieces (drop at path)) ≡ every is_name (dot_pieces (drop (end + 1) path))
  unfolding word
  dot_then h i d =
      name_and_dot (drop at path) (omega (arith, length-drop at path)) (byte_at ∙ d) (rw size at h)
      ∙ ap (λ (r : List ℕ). every is_name (dot_pieces r)) (drop-drop (suc (run WordBytes (drop at path))) at path ∙ ap (λ (i : ℕ). drop i path) past)
    where
      past : at + suc (run WordBytes (drop at path)) ≡ end + 1
      past = omega arith

-- ---- a path

no_empty : every is_name (dot_pieces []) ≡ true → ⊥
unfolding every dot_pieces is_name class_of
no_empty e = let k : ◌≡◌ {A = ℕ} 0 1 = cc in omega arith

module _ (p : List ℕ) where
  pub path_long : 64 < length p → false ≡ is_path p
  unfolding is_path
  path_long h = simp (lt-leb _ _ h)

  pub path_is : (r : Bool) → length p ≤ 64 → every is_name (dot_pieces p) ≡ r → r ≡ is_path p
  unfolding is_path
  path_is r h e = simp (le-leb _ _ h, e)

  -- a path has a byte, and at most 64
  pub path_sized : is_path p ≡ true → (0 < length p) × (length p ≤ 64)
  unfolding is_path
  path_sized h = let t = (and-eq-true_iff (leb (length p) 64) _).0 h in (go p t.1, leb-true _ _ t.0)
    where
      go : (p : List ℕ) → every is_name (dot_pieces p) ≡ true → 0 < length p
      go [] e = absurd (no_empty e)
      go (b ∷ rest) e = omega arith

-- ---- the bytes of a path

words : (ps : List (List ℕ)) → every is_name ps ≡ true → every (every (is_of WordBytes)) ps ≡ true
unfolding every is_name
words [] h = refl
words (p ∷ ps) h =
    let t = (and-eq-true_iff (is_name p) (every is_name ps)).0 h in
    let w = (and-eq-true_iff (is_of Letters (get_or p 0 0) && every (is_of WordBytes) p) (eqb (word_kind p) name)).0 t.0 in
    simp (((and-eq-true_iff (is_of Letters (get_or p 0 0)) (every (is_of WordBytes) p)).0 w.0).1, words ps t.1)

-- a byte that a path may have
abbrev pub path_byte : ℕ → Bool
path_byte b = is_of WordBytes b || eqb b 46

word_bytes : (l : List ℕ) → every (every (is_of WordBytes)) (dot_pieces l) ≡ true → every path_byte l ≡ true
unfolding every dot_pieces
word_bytes [] h = refl
word_bytes (b ∷ rest) h = go (eqb b 46) refl h (some_piece rest) (word_bytes rest)
  where
    go : (t : Bool) → eqb b 46 ≡ t → every (every (is_of WordBytes)) (cond t ([] ∷ dot_pieces rest) (onto b (dot_pieces rest))) ≡ true → Pieces rest
        → (every (every (is_of WordBytes)) (dot_pieces rest) ≡ true → every path_byte rest ≡ true) → every path_byte (b ∷ rest) ≡ true
    go true e k p ih = simp (e, or-true (is_of WordBytes b), ih k)
    go false e k p ih =
        let k' : every (every (is_of WordBytes)) ((b ∷ p.first) ∷ p.others) ≡ true = rw p.are at k in
        let t = (and-eq-true_iff (is_of WordBytes b && every (is_of WordBytes) p.first) (every (every (is_of WordBytes)) p.others)).0 k' in
        let w = (and-eq-true_iff (is_of WordBytes b) (every (is_of WordBytes) p.first)).0 t.0 in
        let r : every (every (is_of WordBytes)) (dot_pieces rest) ≡ true = rw p.are (simp (w.1, t.1)) in
        simp (w.0, ih r)

pub path_bytes : (p : List ℕ) → is_path p ≡ true → every path_byte p ≡ true
unfolding is_path
path_bytes p h = word_bytes p (words (dot_pieces p) ((and-eq-true_iff (leb (length p) 64) (every is_name (dot_pieces p))).0 h).1)
