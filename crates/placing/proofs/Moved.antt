-- Policies say the same where their text is put behind other text. Assumes nothing.
use mathlib.Core.Path.{◌≡◌, refl, ap}
use mathlib.Core.List.{List, [], ◌∷◌, ◌++◌, map}
use mathlib.Core.Option.{Option, none, some}
use Prim.Native.Nat.{ℕ, suc, ◌+◌, ◌-◌}
use native.Mathlib.Omega.{arith}
use lib.ListN.{length, drop}
use Rattle.grammar.specs.Policies.{Span, Literal, text, number, truth, Operand, attribute, literal, Tree, constant, compare, like, among, within, contains, has, not, brackets, both, either, choice, Part, any, typed, pinned, Actions, every, one_of}
use Rattle.grammar.specs.Moves.{Move, further, moved_span, moved_literal, moved_operand, moved_tree, moved_part, moved_actions, moved_when}
use Rattle.tokens.specs.Blanks.{unblanked}
use Rattle.placing.specs.Placed.{bytes_at, quoted_at, unblanked_at}
use Rattle.placing.specs.Said.{literal_words, list_words, operand_words, tree_words, part_words, action_words, condition_words, words_of}
use Rattle.placing.specs.Moved.{WordsMoved}

-- what lies behind the other text
drop_behind : (a t : List ℕ) (k : ℕ) → drop (length a + k) (a ++ t) ≡ drop k t
drop_behind [] t k = let e : 0 + k ≡ k = omega arith in rw e
drop_behind (x ∷ a) t k = let e : suc (length a) + k ≡ suc (length a + k) = omega arith in rw e (drop_behind a t k)

module _ (a t : List ℕ) where
  -- so many bytes further on
  abbrev m : Move
  m = further (length a)

  bytes_moved : (s : Span) → bytes_at (a ++ t) (moved_span m s) ≡ bytes_at t s
  bytes_moved s = let e : length a + s.end - (length a + s.start) ≡ s.end - s.start = omega arith in rw (e, drop_behind a t s.start)

  quoted_moved : (s : Span) → quoted_at (a ++ t) (moved_span m s) ≡ quoted_at t s
  quoted_moved s =
      let e : length a + s.end - (length a + s.start) ≡ s.end - s.start = omega arith in
      let f : length a + s.start + 1 ≡ length a + (s.start + 1) = omega arith in
      rw (e, f, drop_behind a t (s.start + 1))

  path_moved : (s : Span) → unblanked_at (a ++ t) (moved_span m s) ≡ unblanked_at t s
  path_moved s = ap unblanked (bytes_moved s)

  literal_moved : (l : Literal) → literal_words (a ++ t) (moved_literal m l) ≡ literal_words t l
  unfolding literal_words
  literal_moved (text s) = ap text (quoted_moved s)
  literal_moved (number s) = ap number (bytes_moved s)
  literal_moved (truth b) = refl

  list_moved : (ls : List Literal) → list_words (a ++ t) (map (moved_literal m) ls) ≡ list_words t ls
  unfolding list_words
  list_moved [] = refl
  list_moved (l ∷ ls) = rw (literal_moved l, list_moved ls)

  operand_moved : (o : Operand) → operand_words (a ++ t) (moved_operand m o) ≡ operand_words t o
  unfolding operand_words
  operand_moved (attribute root s) = ap (attribute root) (path_moved s)
  operand_moved (literal l) = ap literal (literal_moved l)

  tree_moved : (c : Tree) → tree_words (a ++ t) (moved_tree m c) ≡ tree_words t c
  unfolding tree_words
  tree_moved (constant b) = refl
  tree_moved (compare c x y) = rw (operand_moved x, operand_moved y)
  tree_moved (like x s) = rw (operand_moved x) (ap (like (operand_words t x)) (quoted_moved s))
  tree_moved (among x ls) = rw (operand_moved x, list_moved ls)
  tree_moved (within x root s) = rw (operand_moved x) (ap (within (operand_words t x) root) (path_moved s))
  tree_moved (contains w root s ls) = rw (list_moved ls) (ap (λ (p : List ℕ). contains w root p (list_words t ls)) (path_moved s))
  tree_moved (has root s) = ap (has root) (path_moved s)
  tree_moved (not x) = rw (tree_moved x)
  tree_moved (brackets x) = rw (tree_moved x)
  tree_moved (both x y) = rw (tree_moved x, tree_moved y)
  tree_moved (either x y) = rw (tree_moved x, tree_moved y)
  tree_moved (choice c x y) = rw (tree_moved c, tree_moved x, tree_moved y)

  part_moved : (p : Part) → part_words (a ++ t) (moved_part m p) ≡ part_words t p
  unfolding part_words
  part_moved any = refl
  part_moved (typed n) = refl
  part_moved (pinned s) = ap pinned (quoted_moved s)

  action_moved : (x : Actions) → action_words (a ++ t) (moved_actions m x) ≡ action_words t x
  unfolding action_words
  action_moved every = refl
  action_moved (one_of ls) = ap one_of (list_moved ls)

  condition_moved : (c : Option Tree) → condition_words (a ++ t) (moved_when m c) ≡ condition_words t c
  unfolding condition_words
  condition_moved none = refl
  condition_moved (some c) = rw (tree_moved c)

pub words_moved : WordsMoved
unfolding WordsMoved words_of
words_moved a t [] = refl
words_moved a t (p ∷ ps) =
    rw (part_moved a t p.principal, action_moved a t p.action, part_moved a t p.resource, condition_moved a t p.condition, words_moved a t ps)
