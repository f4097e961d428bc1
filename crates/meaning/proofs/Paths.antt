-- A bag's paths are the text's, without blanks. Assumes nothing.
use mathlib.Core.Path.{◌≡◌, refl, subst}
use mathlib.Core.Bool.{Bool, true, false, cond, ◌&&◌, false≢true, and-eq-true_iff}
use mathlib.Core.List.{List, [], ◌∷◌, ◌++◌, append_assoc}
use Prim.Native.Nat.{ℕ}
use lib.Dec.{eqb, leb}
use lib.ListN.{length}
use borrow.Author.Tests.{eqb-true, eq-eqb, leb-true, le-leb}
use Rattle.tokens.specs.Bytes.{class_of}
use Rattle.tokens.specs.Kinds as kinds
use Rattle.tokens.specs.Runs.{is_of}
use Rattle.tokens.specs.Words.{word_kind}
use Rattle.tokens.specs.Forms.{All, empty, next}
use Rattle.tokens.specs.declared.classes.Sort.TheVariants.{Letters, WordBytes}
use Rattle.bags.specs.Paths.{every, is_name, onto, dot_pieces, is_path}
use Rattle.bags.proofs.PathLaws.{Pieces, some_piece, joined, joined_again, dot_is_none}
use Rattle.placing.specs.Placed.{IsName, a_name, IsPath, one_name, one_more}
use Rattle.meaning.specs.Paths.{PathsAlike, PathsShared}

-- ---- names

all_words : (l : List ℕ) → every (is_of WordBytes) l ≡ true → All WordBytes l
unfolding every
all_words [] e = empty
all_words (b ∷ rest) e = let w = (and-eq-true_iff (is_of WordBytes b) (every (is_of WordBytes) rest)).0 e in next w.0 (all_words rest w.1)

every_word : {l : List ℕ} → All WordBytes l → every (is_of WordBytes) l ≡ true
unfolding every
every_word empty = refl
every_word (next e a) = simp (e, every_word a)

name_then : (n : List ℕ) → is_name n ≡ true → IsName n
unfolding is_name every class_of
name_then [] e = absurd (false≢true e)
name_then (b ∷ rest) e =
    let w = (and-eq-true_iff (is_of Letters b && (is_of WordBytes b && every (is_of WordBytes) rest)) (eqb (word_kind (b ∷ rest)) kinds.name)).0 e in
    let v = (and-eq-true_iff (is_of Letters b) (is_of WordBytes b && every (is_of WordBytes) rest)).0 w.0 in
    let u = (and-eq-true_iff (is_of WordBytes b) (every (is_of WordBytes) rest)).0 v.1 in
    a_name v.0 (all_words rest u.1) (eqb-true (word_kind (b ∷ rest)) kinds.name w.1)

then_name : {n : List ℕ} → IsName n → is_name n ≡ true
unfolding is_name every
then_name (a_name {b} {rest} l a k) = simp (l, every_word a, eq-eqb (word_kind (b ∷ rest)) kinds.name k)

-- ---- names joined by dots

-- a name more at the front
named_first : {n p : List ℕ} → IsName n → IsPath p → IsPath (n ++ kinds.dot ∷ p)
named_first n (one_name m) = one_more (one_name n) m
named_first {n = n} k (one_more {p} {n = m} q l) = subst IsPath (append_assoc n (kinds.dot ∷ p) (kinds.dot ∷ m)) (one_more (named_first k q) l)

joined_path : (n : List ℕ) (ns : List (List ℕ)) → every is_name (n ∷ ns) ≡ true → IsPath (joined (n ∷ ns))
unfolding every joined
joined_path n [] e = one_name (name_then n ((and-eq-true_iff (is_name n) true).0 e).0)
joined_path n (m ∷ ns) e = let w = (and-eq-true_iff (is_name n) (every is_name (m ∷ ns))).0 e in named_first (name_then n w.0) (joined_path m ns w.1)

path_then : (p : List ℕ) → every is_name (dot_pieces p) ≡ true → IsPath p
path_then p e =
    let f = some_piece p in
    subst IsPath (joined_again p) (rw f.are (joined_path f.first f.others (rw f.are at e)))

-- ---- pieces between dots

word_whole : {l : List ℕ} → All WordBytes l → dot_pieces l ≡ l ∷ []
unfolding dot_pieces
word_whole empty = refl
word_whole (next {b} {rest} e a) = simp (dot_is_none b e, word_whole a)

pieces_append : (p q : List ℕ) → dot_pieces (p ++ kinds.dot ∷ q) ≡ dot_pieces p ++ dot_pieces q
unfolding dot_pieces
pieces_append [] q = refl
pieces_append (b ∷ p) q = go (eqb b kinds.dot) (some_piece p) (pieces_append p q)
  where
    go : (t : Bool) → Pieces p → dot_pieces (p ++ kinds.dot ∷ q) ≡ dot_pieces p ++ dot_pieces q
        → cond t ([] ∷ dot_pieces (p ++ kinds.dot ∷ q)) (onto b (dot_pieces (p ++ kinds.dot ∷ q))) ≡ cond t ([] ∷ dot_pieces p) (onto b (dot_pieces p)) ++ dot_pieces q
    go true f e = rw e
    go false f e = rw (e, f.are)

every_append : {A : Type 0} (test : A → Bool) (xs ys : List A) → every test xs ≡ true → every test ys ≡ true → every test (xs ++ ys) ≡ true
unfolding every
every_append test [] ys e f = f
every_append test (x ∷ xs) ys e f = let w = (and-eq-true_iff (test x) (every test xs)).0 e in simp (w.0, every_append test xs ys w.1 f)

name_words : {n : List ℕ} → IsName n → All WordBytes n
name_words (a_name {b} l a k) = next {b = b} (simp l) a

name_alone : {n : List ℕ} → IsName n → every is_name (dot_pieces n) ≡ true
unfolding every
name_alone n = rw (word_whole (name_words n)) (simp (then_name n))

then_path : {p : List ℕ} → IsPath p → every is_name (dot_pieces p) ≡ true
then_path (one_name n) = name_alone n
then_path (one_more {p} {n} q m) = rw (pieces_append p n) (every_append is_name (dot_pieces p) (dot_pieces n) (then_path q) (name_alone m))

-- ---- paths

pub paths_alike : PathsAlike
unfolding PathsAlike is_path
paths_alike p =
    let tests = and-eq-true_iff (leb (length p) 64) (every is_name (dot_pieces p)) in
    ((λ e. (path_then p (tests.0 e).1, leb-true (length p) 64 (tests.0 e).0)), (λ w. tests.1 (le-leb (length p) 64 w.1, then_path w.0)))

pub paths_shared : PathsShared
unfolding PathsShared PathsAlike
paths_shared t root s h = (paths_alike _).1 (h.path, h.few)
