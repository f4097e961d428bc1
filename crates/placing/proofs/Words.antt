-- Two texts with the same bytes at the places that policies hold say the same there. Assumes nothing.
use mathlib.Core.Path.{◌≡◌, refl, sym, ◌∙◌, ap}
use mathlib.Core.List.{List, [], ◌∷◌}
use mathlib.Core.Option.{Option, none, some}
use Prim.Native.Nat.{ℕ, zero, suc, ◌-◌}
use native.Mathlib.Omega.{arith}
use lib.ListN.{take, drop}
use lib.Seq.{take-take, drop-drop}
use Rattle.grammar.specs.Policies.{Span, Literal, text, number, truth, Operand, attribute, literal, Tree, constant, compare, like, among, within, contains, has, not, brackets, both, either, choice, Part, any, typed, pinned, Actions, every, one_of}
use Rattle.tokens.specs.Blanks.{unblanked}
use Rattle.placing.specs.Placed.{bytes_at, quoted_at, unblanked_at, Each, and_each}
use Rattle.placing.specs.Said.{literal_words, list_words, operand_words, tree_words, part_words, action_words, condition_words, words_of}
use Rattle.placing.specs.Words.{literal_places, list_places, operand_places, tree_places, part_places, action_places, condition_places, policy_places, SameAt, SaidAlike, AllSaidAlike}
use Rattle.placing.proofs.EachLaws.{each_first, each_rest, each_left, each_right}

-- ---- bytes

-- what stands between the quotes, by the bytes of the whole string
inside : (n : ℕ) (l : List ℕ) → take (n - 2) (drop 1 (take n l)) ≡ take (n - 2) (drop 1 l)
inside zero l = refl
inside (suc n) [] = refl
inside (suc n) (x ∷ l) = take-take (suc n - 2) n l (omega arith)

quoted_by : (t : List ℕ) (s : Span) → quoted_at t s ≡ take (s.end - s.start - 2) (drop 1 (bytes_at t s))
quoted_by t s = sym (inside (s.end - s.start) (drop s.start t) ∙ ap (take (s.end - s.start - 2)) (drop-drop 1 s.start t))

module _ (t t' : List ℕ) where
  quoted_alike : (s : Span) → SameAt t t' s → quoted_at t s ≡ quoted_at t' s
  quoted_alike s h = quoted_by t s ∙ ap (λ (l : List ℕ). take (s.end - s.start - 2) (drop 1 l)) h.same ∙ sym (quoted_by t' s)

  path_alike : (s : Span) → SameAt t t' s → unblanked_at t s ≡ unblanked_at t' s
  path_alike s h = ap unblanked h.same

  -- ---- conditions

  literal_alike : (l : Literal) → Each (SameAt t t') (literal_places l) → literal_words t l ≡ literal_words t' l
  unfolding literal_places literal_words
  literal_alike (text s) h = ap text (quoted_alike s (each_first h))
  literal_alike (number s) h = ap number (each_first h).same
  literal_alike (truth b) h = refl

  list_alike : (ls : List Literal) → Each (SameAt t t') (list_places ls) → list_words t ls ≡ list_words t' ls
  unfolding list_places list_words
  list_alike [] h = refl
  list_alike (l ∷ ls) h = rw (literal_alike l (each_left (literal_places l) _ h), list_alike ls (each_right (literal_places l) _ h))

  operand_alike : (a : Operand) → Each (SameAt t t') (operand_places a) → operand_words t a ≡ operand_words t' a
  unfolding operand_places operand_words
  operand_alike (attribute root s) h = ap (attribute root) (path_alike s (each_first h))
  operand_alike (literal l) h = ap literal (literal_alike l h)

  tree_alike : (c : Tree) → Each (SameAt t t') (tree_places c) → tree_words t c ≡ tree_words t' c
  unfolding tree_places tree_words
  tree_alike (constant b) h = refl
  tree_alike (compare c a b) h = rw (operand_alike a (each_left (operand_places a) _ h), operand_alike b (each_right (operand_places a) _ h))
  tree_alike (like a s) h = rw (operand_alike a (each_rest h), quoted_alike s (each_first h))
  tree_alike (among a ls) h = rw (operand_alike a (each_left (operand_places a) _ h), list_alike ls (each_right (operand_places a) _ h))
  tree_alike (within a root s) h = rw (operand_alike a (each_rest h), path_alike s (each_first h))
  tree_alike (contains w root s ls) h = rw (path_alike s (each_first h), list_alike ls (each_rest h))
  tree_alike (has root s) h = rw (path_alike s (each_first h))
  tree_alike (not a) h = rw (tree_alike a h)
  tree_alike (brackets a) h = rw (tree_alike a h)
  tree_alike (both a b) h = rw (tree_alike a (each_left (tree_places a) _ h), tree_alike b (each_right (tree_places a) _ h))
  tree_alike (either a b) h = rw (tree_alike a (each_left (tree_places a) _ h), tree_alike b (each_right (tree_places a) _ h))
  tree_alike (choice c a b) h =
      let k = each_right (tree_places c) _ h in
      rw (tree_alike c (each_left (tree_places c) _ h), tree_alike a (each_left (tree_places a) _ k), tree_alike b (each_right (tree_places a) _ k))

  condition_alike : (c : Option Tree) → Each (SameAt t t') (condition_places c) → condition_words t c ≡ condition_words t' c
  unfolding condition_places condition_words
  condition_alike none h = refl
  condition_alike (some c) h = rw (tree_alike c h)

  -- ---- targets

  part_alike : (p : Part) → Each (SameAt t t') (part_places p) → part_words t p ≡ part_words t' p
  unfolding part_places part_words
  part_alike any h = refl
  part_alike (typed n) h = refl
  part_alike (pinned s) h = ap pinned (quoted_alike s (each_first h))

  action_alike : (a : Actions) → Each (SameAt t t') (action_places a) → action_words t a ≡ action_words t' a
  unfolding action_places action_words
  action_alike every h = refl
  action_alike (one_of ls) h = ap one_of (list_alike ls h)

-- ---- policies

pub said_alike : SaidAlike
unfolding SaidAlike policy_places
said_alike t t' p h =
    let one = h.there in
    let two = each_right (part_places p.principal) _ one in
    let three = each_right (action_places p.action) _ two in
    rw (
      part_alike t t' p.principal (each_left (part_places p.principal) _ one),
      action_alike t t' p.action (each_left (action_places p.action) _ two),
      part_alike t t' p.resource (each_left (part_places p.resource) _ three),
      condition_alike t t' p.condition (each_right (part_places p.resource) _ three),
    )

pub all_said_alike : AllSaidAlike
unfolding AllSaidAlike SaidAlike words_of
all_said_alike t t' [] h = refl
all_said_alike t t' (p ∷ ps) (and_each e h) = rw (said_alike t t' p e, all_said_alike t t' ps h)
