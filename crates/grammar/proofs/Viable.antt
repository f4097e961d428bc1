-- What the reader of rule texts takes is in the grammar, and what stands before what it refuses begins a text of the grammar; where a limit refused it, with the refused token. Assumes nothing.
use mathlib.Core.Path.{◌≡◌, refl, sym, ◌∙◌}
use mathlib.Core.Bool.{Bool, true, false, cond, ◌&&◌}
use mathlib.Core.List.{List, [], ◌∷◌, ◌++◌}
use mathlib.Core.Logic.{inl, inr}
use mathlib.Core.Option.{Option, some}
use Prim.Native.Nat.{ℕ, zero, suc, ◌+◌, ◌≤◌, ◌<◌}
use native.Mathlib.Omega.{arith}
use lib.Dec.{ltb}
use lib.ListN.{length}
use borrow.Author.Tests.{eqb-true}
use Rattle.slices.specs.Ascii.{bytes}
use Rattle.slices.specs.Same.{same}
use Rattle.utf8.specs.Reading.{utf8, utf8_after}
use Rattle.tokens.specs.Kinds as kinds
use Rattle.tokens.proofs.TokenLaws.{never, and_left, and_right}
use Rattle.tokens.specs.Sizes.{most_literals, most_policies}
use Rattle.reading.specs.Lexemes.{Lexeme, is}
use Rattle.reading.specs.Reads.{Reading, Chain, Chain.alone, Chain.more, Onto, Onto.onto, Before, Before.ended, After, After.begun}
use Rattle.reading.specs.Reader.{Answer, Reader, refuse_by, mapped, chain}
use Rattle.reading.proofs.Readers.{Goes, good, goes_weaker, goes_below, goes_ten, goes_bind, goes_on_lem, goes_need, goes_need_bind, goes_onwards}
use Rattle.grammar.specs.Policies.{Span, Root, Literal, Operand, attribute, literal, Tree, compare, among, within, contains, has, choice, both, either, Part, Actions, one_of, Policy}
use Rattle.grammar.specs.Rules.{inside, is_effect, is_root, root_of, is_literal, literal_of, is_comparator, comparator_of, is_contains, which_of, deepens, principal_types, resource_types, type_among, is_type, admitted, is_pattern, is_text}
use Rattle.grammar.specs.Lowest.{rank}
use Rattle.grammar.specs.Grammar.{a_string, a_policy, Limits, path_number, Path, first_path, spanned, first, NextName, next, APath, Attribute, rooted, AnOperand, given, Element, element, Literals, Listing, Simple, comparison, likeness, listed, held, call, having, Conjunction, Disjunction, ConditionOver, simple, negation, bracketed, conditional, Condition, Typed, ResourceRest, ActionRest, When, PolicyRest, Policies, policy, RuleText}
use Rattle.grammar.specs.Grammar as grammar
use Rattle.grammar.specs.Parser.{Way, calling, no_name, no_operator, no_type, no_text, no_level, no_pattern, no_element, no_policy, name_fits, read_first_name, goes_on, read_next_name, read_way, no_exit, spanned_by, read_path, read_attribute, read_operand, is_text_of, is_element, read_element, read_list, read_bare, read_in, is_like, read_pattern, read_operator, read_call, read_rest, read_rooted, read_simple, read_joined, read_conjunction, read_disjunction, read_negated, read_bracketed, read_conditional, read_deeper, read_condition, read_conditions, read_type, read_principal, read_action, read_resource, read_when, read_policy, may_begin, read_next_policy, at_end, read_text}
use Rattle.grammar.specs.Parser as parser
use Rattle.grammar.proofs.Begun.{Family, made, Swap, here, Moved, Eases, taken, Exempt, beyond, Kept, eased, few, beyond_few, Framed, framed_onto, framed_before, framed_chain, Then, followed, Possible, possible_onto, possible_before, possible_after, possible_then, possible_chain, Begun, begun_weaker, begun_first, begun_start, begun_more, begun_next, begun_inside, begun_left, begun_right, Viable, viable_mapped, viable_before, viable_after, viable_onwards, viable_chain}
use Rattle.grammar.proofs.Limits.{name_number, string_number, text_number, literal_number, effect_number, level_or_text, level_or_text_lem, bare_below, type_below, name_below, pattern_below, text_below, literal_below, effect_below, level_below, Chosen, chosen_beyond, goes_limit}
use Rattle.grammar.proofs.Framing.{same_depth, framed_names, framed_attribute, framed_operand, framed_element, framed_list, framed_conjunction, framed_disjunction, framed_condition, framed_typed, framed_resource, framed_action, framed_when, framed_principals, framed_actions, framed_resources, framed_policy}

-- ---- what readers take that the grammar has no name for

-- a path, or a path, a dot and a word that ends it
pub data AWay (L : Limits) (exit : Lexeme → Bool) (root : Root) : List Lexeme → List Lexeme → Way → Type 0 where
  path : {i r : List Lexeme} {p : Path} → APath L root i r p → AWay L exit root i r (parser.Way.uncalled p)
  left : {i r : List Lexeme} {d x : Lexeme} {p : Path} → APath L root i (d ∷ x ∷ r) p → d.kind ≡ kinds.dot → exit x ≡ true → AWay L exit root i r (calling p (which_of x))

-- what f makes of the attribute that x begins
data Via {A : Type 0} (x : Lexeme) (f : Root → Span → A) (L : Limits) : List Lexeme → List Lexeme → A → Type 0 where
  via : {i r : List Lexeme} {p : Span} → Attribute L (x ∷ i) r (attribute (root_of x) p) → Via x f L i r (f (root_of x) p)

data Start : List Lexeme → List Lexeme → List Policy → Type 0 where
  start : {i : List Lexeme} → Start i i []

-- one policy more after ps, behind its effect x
pub data NextPolicy (ps : List Policy) (x : Lexeme) (L : Limits) : List Lexeme → List Lexeme → List Policy → Type 0 where
  one : {i r : List Lexeme} {p : Policy} → L.Asks (a_policy (length ps)) i → PolicyRest L (is kinds.permit_word x) i r p → NextPolicy ps x L i r (ps ++ p ∷ [])

-- some of a text's policies, and what follows them
abbrev Upto : Family (List Policy)
Upto L = Chain (λ ps. is_effect) Start (λ ps x. NextPolicy ps x L)

whole_text : {L : Limits} {i m : List Lexeme} {ps qs : List Policy} → Upto L i m ps → Policies L ps m qs → RuleText L i qs
whole_text (alone start) k = k
whole_text (more j e (one l h)) k = whole_text j (policy e l h k)

framed_start : Framed (λ L. Start)
framed_start = record { at = go }
  where
    go : {L M : Limits} {r s i m n : List Lexeme} {ps : List Policy} → Eases L M r s → Start i m ps → Swap r s m n → Moved Start r s i n ps
    go e start w = (_, w, start)

framed_next : (ps : List Policy) (x : Lexeme) → Framed (NextPolicy ps x)
framed_next ps x = record { at = go }
  where
    go : {L M : Limits} {r s i m n : List Lexeme} {qs : List Policy} → Eases L M r s → NextPolicy ps x L i m qs → Swap r s m n → Moved (NextPolicy ps x M) r s i n qs
    go e (one l h) w = let q = (framed_policy _).at e h w in (_, q.1, one (e.asks q.1 _ l) q.2)

-- Where i is refused by n at r: some text begins as i does before r and goes on with the refused token where a limit refused it, and that limit is asked only of what stands before.
pub record Opened (k : ℕ) (i : List Lexeme) (n : ℕ) (r : List Lexeme) : Type 0 where
  pub on : List Lexeme
  pub whole : List Lexeme
  pub policies : List Policy
  pub swapped : Swap r on i whole
  pub kept : Kept k n r on
  pub belongs : RuleText (beyond k n on) whole policies

-- `extra`: the levels that the grammar has more than the reader
module _ (extra : ℕ) where
  -- ---- paths

  module _ (root : Root) where
    -- a name of which its limit is not asked
    one_name : (n : ℕ) (s w : List Lexeme) → Exempt n s (path_number root) w → APath (beyond extra n s) root (made kinds.name ∷ w) w (first_path (made kinds.name))
    one_name n s w l = alone (first {r = w} refl (inr l))

    -- a name that the limit of paths refuses, or any other
    abbrev AName : ℕ → List Lexeme → Type 0
    AName n i = Chosen extra (is kinds.name) (λ x. path_number root) n i

    next_name : (p : Path) (m : List Lexeme) (n : ℕ) → AName n m → Begun extra (λ L. NextName L root p) m n m
    next_name p m n c = begun_first [] (λ w. (c.token ∷ w, _, c.kept w, next (eqb-true _ _ c.passes) (inr (chosen_beyond c (path_number root) (omega arith) w))))

    goes_name : {A : Type 0} {P : A → List Lexeme → Type 0} {Q : ℕ → List Lexeme → Type 0} (i : List Lexeme) → ((n : ℕ) → AName n i → Q n i) → Goes P Q (refuse_by (no_name root) i)
    goes_name i f = goes_limit (no_name root) (is kinds.name) (λ x. path_number root) (made kinds.name) refl (λ x t. name_number root x (eqb-true _ _ t)) (name_below root) i f

    viable_first : (exit : Lexeme → Bool) (i : List Lexeme) → Goes (λ w r. AWay (taken extra) exit root i r w) (Begun extra (λ L. APath L root) i) (read_first_name root i)
    unfolding read_first_name name_fits
    viable_first exit i =
        goes_on_lem _ _ _ _ _ i (λ x r e t. rw e (good (path (alone (first (eqb-true _ _ (and_left _ _ t)) (and_right (is kinds.name x) (admitted root 0 x) t))))))
        (goes_name i (λ n c. begun_first [] (λ w. (c.token ∷ w, _, c.kept w, alone (first (eqb-true _ _ c.passes) (inr (chosen_beyond c (path_number root) (omega arith) w)))))))

    viable_next : (exit : Lexeme → Bool) (i m : List Lexeme) (w : Way) (d : Lexeme) → AWay (taken extra) exit root i (d ∷ m) w → goes_on w d ≡ true
        → Goes (λ v r. AWay (taken extra) exit root i r v) (Begun extra (λ L. APath L root) i) (read_next_name exit root w m)
    unfolding read_next_name name_fits goes_on
    viable_next exit i m (parser.Way.uncalled p) d (path j) e =
        goes_on_lem _ _ _ _ _ m (λ x r e' t. good (left (rw e' at j) (eqb-true _ _ e) t))
        (goes_on_lem _ _ _ _ _ m
        (λ x r e' t. good (path (more j e (rw e' (next (eqb-true _ _ (and_left _ _ t)) (and_right (is kinds.name x) (admitted root _ x) t))))))
        (goes_name m (λ num c. begun_inside (d ∷ []) (framed_names root) j (next_name p m num c) (λ s j n w q h k. (_, more h e k)))))
    viable_next exit i m (calling p w) d j e = absurd (never e)

    viable_way : (exit : Lexeme → Bool) (i : List Lexeme) → Goes (λ w r. AWay (taken extra) exit root i r w) (Begun extra (λ L. APath L root) i) (read_way exit root i)
    unfolding read_way chain
    viable_way exit i =
        goes_bind _ (viable_first exit i) (λ num r b. b) (λ w r h. goes_onwards _ _ goes_on _ (λ w x m h e. viable_next exit i m w x h e) w r h)

    viable_path : Viable extra (read_path root) (λ L. Onto spanned (APath L root))
    unfolding read_path spanned_by
    viable_path = record { at = λ i. goes_bind _ (viable_way no_exit i) (λ num r b. begun_more [] (λ w. w) b (λ s j w p h. (_, onto h))) (λ w r h. good (go h)) }
      where
        go : {i r : List Lexeme} {w : Way} → AWay (taken extra) no_exit root i r w → Onto spanned (APath (taken extra) root) i r (spanned_by w)
        go (path j) = onto j
        go (left j e f) = absurd (never f)

  -- ---- operands and lists

  viable_attribute : {A : Type 0} (x : Lexeme) (f : Root → Span → A) → is_root x ≡ true → Viable extra (read_attribute (root_of x) f) (Via x f)
  unfolding read_attribute
  viable_attribute x f t = record {
    at = λ i.
        goes_need _ _ _ _ i (λ n l. begun_first [] (λ w. (made kinds.dot ∷ made kinds.name ∷ w, _, few l, via (rooted t refl (one_name (root_of x) n (made kinds.dot ∷ made kinds.name ∷ w) w (beyond_few l (omega arith))))))) (λ d m e k.
        rw e (goes_bind _ ((viable_path (root_of x)).at m) (λ num r b. begun_more (d ∷ []) (λ w. w) b (λ s j w p h. (_, go k h))) (λ p r h. good (go k h))));
  }
    where
      go : {L : Limits} {d : Lexeme} {m r : List Lexeme} {p : Span} → d.kind ≡ kinds.dot → Onto spanned (APath L (root_of x)) m r p → Via x f L (d ∷ m) r (f (root_of x) p)
      go k (onto j) = via (rooted t k j)

  some_operand : Possible extra AnOperand
  some_operand = record { text = λ w. made kinds.true_word ∷ w; tree = _; reads = λ n s w. grammar.AnOperand.literally refl (inl refl) }

  -- a string that the limit of strings refuses, or any other
  abbrev AString : ℕ → List Lexeme → Type 0
  AString n i = Chosen extra (is kinds.string) (λ x. 17) n i

  goes_text : {A : Type 0} {P : A → List Lexeme → Type 0} {Q : ℕ → List Lexeme → Type 0} (i : List Lexeme) → ((n : ℕ) → AString n i → Q n i) → Goes P Q (refuse_by no_text i)
  goes_text i f = goes_limit no_text (is kinds.string) (λ x. 17) (made kinds.string) refl text_number text_below i f

  string_literal : (x : Lexeme) → is kinds.string x ≡ true → is_literal x ≡ true
  string_literal x t = rw t

  chosen_string : {n : ℕ} {test : Lexeme → Bool} {m : Lexeme → ℕ} {i : List Lexeme} (c : Chosen extra test m n i) → is kinds.string c.token ≡ true → rank (m c.token) ≤ 17 → (w : List Lexeme)
      → AnOperand (beyond extra n (c.token ∷ w)) (c.token ∷ w) w (literal (literal_of c.token))
  chosen_string c t l w = grammar.AnOperand.literally (string_literal c.token t) (inr (chosen_beyond c 17 l w))

  viable_operand : Viable extra read_operand AnOperand
  unfolding read_operand is_text_of
  viable_operand = record {
    at = λ i.
        goes_on_lem _ _ _ _ _ i (λ x r e t. rw e (good (grammar.AnOperand.literally (and_left _ _ t) (and_right (is_literal x) (is_text x) t))))
        (goes_on_lem _ _ _ _ _ i
        (λ x r e t. rw e (goes_weaker ((viable_attribute x attribute t).at r) (λ a m h. go h) (λ num m b. begun_more (x ∷ []) (λ w. w) b (λ s j w a h. (_, go h)))))
        (goes_text i (λ n c. begun_first [] (λ w. (c.token ∷ w, _, c.kept w, chosen_string c c.passes (omega arith) w)))));
  }
    where
      go : {L : Limits} {x : Lexeme} {i r : List Lexeme} {a : Operand} → Via x attribute L i r a → AnOperand L (x ∷ i) r a
      go (via h) = given h

  module _ (sort : Lexeme → Bool) (sorts : (x : Lexeme) → sort x ≡ true → is_literal x ≡ true) (y : Lexeme) (fit : sort y ≡ true) (fine : is_text y ≡ true) where
    pub viable_element : (ls : List Literal) → Viable extra (read_element sort ls) (λ L. Element L sort ls)
    unfolding read_element is_element is_text_of
    viable_element ls = record {
      at = λ i.
          goes_on_lem _ _ _ _ _ i
          (λ x r e t. let u = and_right (ltb (length ls) most_literals) (sort x && is_text x) t in rw e (good (element (and_left _ _ u) (and_left _ _ t) (and_right (sort x) (is_text x) u))))
          (goes_limit (no_element sort ls) sort (λ x. cond (ltb (length ls) most_literals) 17 14) y fit (λ x t. literal_number sort ls x (sorts x t) t) (literal_below sort ls) i (λ n c.
          begun_first [] (λ w. (c.token ∷ w, _, c.kept w, go n c w (ltb (length ls) most_literals) refl))));
    }
      where
        go : {i : List Lexeme} (n : ℕ) (c : Chosen extra sort (λ x. cond (ltb (length ls) most_literals) 17 14) n i) (w : List Lexeme) (b : Bool) → ltb (length ls) most_literals ≡ b
            → Element (beyond extra n (c.token ∷ w)) sort ls (c.token ∷ w) w (ls ++ literal_of c.token ∷ [])
        go n c w true e = element c.passes (inl e) (inr (chosen_beyond c 17 (rw e (omega arith)) w))
        go n c w false e = element c.passes (inr (chosen_beyond c 14 (rw e (omega arith)) w)) (inr (chosen_beyond c 17 (rw e (omega arith)) w))

    viable_list : Viable extra (read_list sort) (λ L. Literals L sort)
    unfolding read_list
    viable_list =
        viable_before (viable_chain _ _ _ (framed_element sort []) (λ ls x. framed_element sort ls) (viable_element []) (λ ls x. viable_element ls))
        (framed_chain (framed_element sort []) (λ ls x. framed_element sort ls)) kinds.right_square

    some_element : Possible extra (λ L. Element L sort [])
    some_element = record { text = λ w. y ∷ w; tree = _; reads = λ n s w. element fit (inl refl) (inl fine) }

    some_list : Possible extra (λ L. Literals L sort)
    some_list = possible_before (possible_chain some_element) kinds.right_square

  -- ---- conditions that hold no other

  a_list : Possible extra (λ L. Listing L is_literal)
  a_list = possible_after (some_list is_literal (λ x e. e) (made kinds.true_word) refl refl) kinds.left_square

  -- An operand can be gone on with by `== true`.
  begun_operand : {i m : List Lexeme} {a : Operand} → AnOperand (taken extra) i m a → (n : ℕ) → n < 11 → Begun extra Simple i n m
  begun_operand h n l = begun_next [] (λ w. made kinds.equal ∷ made kinds.true_word ∷ w) framed_operand h (λ w. few l) (λ j w k. (_, comparison k refl (grammar.AnOperand.literally refl (inl refl))))

  -- the token x is a left operand that no operator follows
  viable_bare : (x : Lexeme) (m : List Lexeme) → is_literal x ≡ true → is_text x ≡ true → Goes (λ t r. Simple (taken extra) (x ∷ m) r t) (Begun extra Simple (x ∷ m)) (read_bare (literal (literal_of x)) m)
  unfolding read_bare literal_of
  viable_bare x m t l = go (is kinds.string x) (is kinds.number x) refl refl
    where
      go : (s n : Bool) → is kinds.string x ≡ s → is kinds.number x ≡ n → Goes (λ t r. Simple (taken extra) (x ∷ m) r t) (Begun extra Simple (x ∷ m)) (read_bare (literal (literal_of x)) m)
      go true n e f = rw e (goes_ten m (begun_operand (grammar.AnOperand.literally t l)))
      go false true e f = rw (e, f) (goes_ten m (begun_operand (grammar.AnOperand.literally t l)))
      go false false e f = rw (e, f) (good (grammar.Simple.bare (rw (e, f) at t)))

  -- a left operand a was read, and a comparator, `like` or `in`
  module _ (a : Operand) {i r : List Lexeme} (x : Lexeme) (h : AnOperand (taken extra) i (x ∷ r) a) where
    viable_compared : is_comparator x ≡ true → Goes (λ t s. Simple (taken extra) i s t) (Begun extra Simple i) (mapped (compare (comparator_of x) a) read_operand r)
    unfolding mapped
    viable_compared t =
        goes_bind _ (viable_operand.at r) (λ num s b. begun_inside (x ∷ []) framed_operand h b (λ s j n w v h' k. (_, comparison h' t k))) (λ v s k. good (comparison h t k))

    viable_pattern : x.kind ≡ kinds.like_word → Goes (λ t s. Simple (taken extra) i s t) (Begun extra Simple i) (read_pattern a r)
    unfolding read_pattern is_like is_text_of
    viable_pattern t =
        goes_on_lem _ _ _ _ _ r
        (λ y s e u. let v = and_left (is kinds.string y && is_text y) (is_pattern (inside y)) u in
        good (likeness (rw e at h) t (eqb-true _ _ (and_left _ _ v)) (and_right (is kinds.string y) (is_text y) v) (and_right (is kinds.string y && is_text y) (is_pattern (inside y)) u)))
        (goes_limit no_pattern (is kinds.string) (λ y. cond (is_text y) 13 17) (made kinds.string) refl string_number pattern_below r (λ n c.
        begun_next (x ∷ []) (λ w. c.token ∷ w) framed_operand h c.kept (λ j w h'. (_, likeness h' t (eqb-true _ _ c.passes) (text_asked n c w (is_text c.token) refl) (inr (chosen_beyond c 13 (last (is_text c.token)) w))))))
      where
        last : (b : Bool) → rank (cond b 13 17) ≤ rank 13
        last true = omega arith
        last false = omega arith

        text_asked : (n : ℕ) (c : Chosen extra (is kinds.string) (λ y. cond (is_text y) 13 17) n r) (w : List Lexeme) (b : Bool) → is_text c.token ≡ b → (beyond extra n (c.token ∷ w)).Asks (a_string c.token) w
        text_asked n c w true e = inl e
        text_asked n c w false e = inr (chosen_beyond c 17 (rw e (omega arith)) w)

    viable_in : x.kind ≡ kinds.in_word → Goes (λ t s. Simple (taken extra) i s t) (Begun extra Simple i) (read_in a r)
    unfolding read_in mapped
    viable_in t =
        goes_on_lem _ _ _ _ _ r (λ y s e u. in_list y s (rw e at h) (eqb-true _ _ u))
        (goes_on_lem _ _ _ _ _ r (λ y s e u. in_attribute y s (rw e at h) u)
        (goes_ten r (λ n l. begun_next (x ∷ []) a_list.text framed_operand h (λ w. few l) (λ j w h'. (_, listed h' t (a_list.reads n (a_list.text w) w))))))
      where
        in_list : (y : Lexeme) (s : List Lexeme) → AnOperand (taken extra) i (x ∷ y ∷ s) a → y.kind ≡ kinds.left_square → Goes (λ t r. Simple (taken extra) i r t) (Begun extra Simple i) (mapped (among a) (read_list is_literal) s)
        in_list y s g e =
            goes_bind _ ((viable_list is_literal (λ x e. e) (made kinds.true_word) refl refl).at s) (λ num u b. begun_inside (x ∷ y ∷ []) framed_operand g b (λ s j n w ls h' k. (_, listed h' t (begun e k))))
            (λ ls u k. good (listed g t (begun e k)))

        within_it : {L : Limits} {y : Lexeme} {j s u : List Lexeme} {v : Tree} → AnOperand L j (x ∷ y ∷ s) a → Via y (within a) L s u v → Simple L j u v
        within_it g (via k) = held g t k

        in_attribute : (y : Lexeme) (s : List Lexeme) → AnOperand (taken extra) i (x ∷ y ∷ s) a → is_root y ≡ true → Goes (λ t r. Simple (taken extra) i r t) (Begun extra Simple i) (read_attribute (root_of y) (within a) s)
        in_attribute y s g e =
            goes_weaker ((viable_attribute y (within a) e).at s) (λ v u k. within_it g k) (λ num u b. begun_inside (x ∷ y ∷ []) framed_operand g b (λ s j n w v h' k. (_, within_it h' k)))

  viable_operator : (a : Operand) (i m : List Lexeme) → AnOperand (taken extra) i m a → Goes (λ t r. Simple (taken extra) i r t) (Begun extra Simple i) (read_bare a m)
      → Goes (λ t r. Simple (taken extra) i r t) (Begun extra Simple i) (read_operator a m)
  unfolding read_operator
  viable_operator a i m h b =
      goes_on_lem _ _ _ _ _ m (λ x r e t. viable_compared a x (rw e at h) t)
      (goes_on_lem _ _ _ _ _ m (λ x r e t. viable_pattern a x (rw e at h) (eqb-true _ _ t))
      (goes_on_lem _ _ _ _ _ m (λ x r e t. viable_in a x (rw e at h) (eqb-true _ _ t))
      b))

  viable_call : (i m : List Lexeme) (d x : Lexeme) (root : Root) (p : Span) → Attribute (taken extra) i (d ∷ x ∷ m) (attribute root p) → d.kind ≡ kinds.dot → is_contains x ≡ true
      → Goes (λ t r. Simple (taken extra) i r t) (Begun extra Simple i) (read_call (which_of x) root p m)
  unfolding read_call
  viable_call i m d x root p h e t =
      goes_need _ _ _ _ m
      (λ num l. begun_next (d ∷ x ∷ []) (λ w. made kinds.left_round ∷ inner.text w) framed_attribute h (λ w. few l) (λ j w h'. (_, call h' e t refl (inner.reads num (made kinds.left_round ∷ inner.text w) w)))) (λ o n e' k.
      goes_need _ _ _ _ n
      (λ num l. begun_next (d ∷ x ∷ o ∷ []) inner.text framed_attribute (rw e' at h) (λ w. few l) (λ j w h'. (_, call h' e t k (inner.reads num (inner.text w) w)))) (λ l s e'' k'.
      goes_weaker
      ((viable_before (viable_mapped (viable_list is_literal (λ x e. e) (made kinds.true_word) refl refl) (contains (which_of x) root p)) (framed_onto (framed_list is_literal) (contains (which_of x) root p)) kinds.right_round).at s)
      (λ v w j. go (rw (e', e'') at h) k k' j)
      (λ num u c. begun_inside (d ∷ x ∷ o ∷ l ∷ []) framed_attribute (rw (e', e'') at h) c (λ s j n w v h' j'. (_, go h' k k' j')))))
    where
      inner : Possible extra (λ L. Before kinds.right_round (Listing L is_literal))
      inner = possible_before a_list kinds.right_round

      go : {L : Limits} {i : List Lexeme} {o l : Lexeme} {s w : List Lexeme} {v : Tree} → Attribute L i (d ∷ x ∷ o ∷ l ∷ s) (attribute root p) → o.kind ≡ kinds.left_round → l.kind ≡ kinds.left_square
          → Before kinds.right_round (Onto (contains (which_of x) root p) (Literals L is_literal)) s w v
          → Simple L i w v
      go a k k' (ended (onto j) k'') = call a e t k (ended (begun k' j) k'')

  viable_rooted : (x : Lexeme) (i : List Lexeme) → is_root x ≡ true → Goes (λ t r. Simple (taken extra) (x ∷ i) r t) (Begun extra Simple (x ∷ i)) (read_rooted (root_of x) i)
  unfolding read_rooted read_rest mapped read_bare
  viable_rooted x i t =
      goes_on_lem _ _ _ _ _ i
      (λ d m e k. rw e (goes_bind _ (viable_way (root_of x) is_contains m)
      (λ num r b. begun_more (x ∷ d ∷ []) (λ w. made kinds.equal ∷ made kinds.true_word ∷ w) b (λ s j w p h. (_, comparison (given (rooted t (eqb-true _ _ k) h)) refl (grammar.AnOperand.literally refl (inl refl)))))
      (λ w r h. go d m (eqb-true _ _ k) w r h)))
      (goes_need _ _ _ _ i
      (λ num l. begun_first (x ∷ []) (λ w. (made kinds.has_word ∷ made kinds.name ∷ w, _, few l, having t refl (one_name (root_of x) num (made kinds.has_word ∷ made kinds.name ∷ w) w (beyond_few l (omega arith)))))) (λ h m e k.
      rw e (goes_bind _ ((viable_path (root_of x)).at m) (λ num r b. begun_more (x ∷ h ∷ []) (λ w. w) b (λ s j w p h'. (_, has_path k h'))) (λ p r j. good (has_path k j)))))
    where
      go : (d : Lexeme) (m : List Lexeme) → d.kind ≡ kinds.dot → (w : Way) (r : List Lexeme) → AWay (taken extra) is_contains (root_of x) m r w
          → Goes (λ t r. Simple (taken extra) (x ∷ d ∷ m) r t) (Begun extra Simple (x ∷ d ∷ m)) (read_rest (root_of x) w r)
      go d m k (parser.Way.uncalled p) r (path j) = viable_operator _ _ r (given (rooted t k j)) (goes_below no_operator bare_below r (begun_operand (given (rooted t k j))))
      go d m k (calling p w) r (left j e f) = viable_call _ r _ _ _ _ (rooted t k j) e f

      has_path : {L : Limits} {h : Lexeme} {m r : List Lexeme} {p : Span} → h.kind ≡ kinds.has_word → Onto spanned (APath L (root_of x)) m r p → Simple L (x ∷ h ∷ m) r (has (root_of x) p)
      has_path k (onto j) = having t k j

  -- ---- conditions

  some_form : (R : Family Tree) → Possible extra (λ L. ConditionOver L (R L))
  some_form R = record { text = λ w. made kinds.true_word ∷ w; tree = _; reads = λ n s w. simple (grammar.Simple.bare refl) }

  some_condition : (d : ℕ) → Possible extra (λ L. Condition L d)
  some_condition zero = some_form (λ L. grammar.Nothing)
  some_condition (suc d) = some_form (λ L. Condition L d)

  -- A condition can begin with a string, and be gone on with by `== true`.
  begun_string : (R : Family Tree) {n : ℕ} {test : Lexeme → Bool} {m : Lexeme → ℕ} {i : List Lexeme} (c : Chosen extra test m n i) → is kinds.string c.token ≡ true → rank (m c.token) ≤ 17
      → Begun extra (λ L. ConditionOver L (R L)) i n i
  begun_string R c t l = begun_first [] (λ w.
      let on = made kinds.equal ∷ made kinds.true_word ∷ w in (c.token ∷ on, _, c.kept on, simple (comparison (chosen_string c t l on) refl (grammar.AnOperand.literally refl (inl refl)))))

  viable_simple : {R : Family Tree} (deeper : Reader Tree) → Viable extra deeper (λ L. ConditionOver L (R L)) → Viable extra (read_simple deeper) (λ L. ConditionOver L (R L))
  unfolding read_simple is_text_of
  viable_simple {R = R} deeper v = record {
    at = λ i.
        goes_on_lem _ _ _ _ _ i
        (λ x r e t. let l = and_right (is_literal x) (is_text x) t in rw e (up (viable_operator _ _ r (grammar.AnOperand.literally (and_left _ _ t) l) (viable_bare x r (and_left _ _ t) l))))
        (goes_on_lem _ _ _ _ _ i (λ x r e t. rw e (up (viable_rooted x r t)))
        (v.at i));
  }
    where
      up : {i : List Lexeme} {x : Answer Tree} → Goes (λ t r. Simple (taken extra) i r t) (Begun extra Simple i) x → Goes (λ t r. ConditionOver (taken extra) (R (taken extra)) i r t) (Begun extra (λ L. ConditionOver L (R L)) i) x
      up h = goes_weaker h (λ t r k. simple k) (λ num r b. begun_weaker b (λ s j w t k. simple k))

  -- the three parts of `if`
  abbrev IfParts : Reading Tree → Reading (Tree × (Tree × Tree))
  IfParts R = Then (Before kinds.then_word R) (Then (Before kinds.else_word R) R)

  whole_if : {L : Limits} {R : Reading Tree} {x : Lexeme} {i r : List Lexeme} {t : Tree × (Tree × Tree)} → x.kind ≡ kinds.if_word → IfParts R i r t
      → ConditionOver L R (x ∷ i) r (choice t.0 t.1.0 t.1.1)
  whole_if k (followed h (followed h' h'')) = conditional k h h' h''

  module _ {R : Family Tree} {p : Reader Tree} (f : Framed R) (v : Viable extra p R) where
    pub viable_conjunction : Viable extra (read_conjunction p) (λ L. Conjunction (R L))
    unfolding read_conjunction read_joined
    viable_conjunction = viable_chain _ _ _ f (λ a x. framed_onto f (both a)) v (λ a x. viable_mapped v (both a))

    viable_disjunction : Viable extra (read_disjunction p) (λ L. Disjunction (R L))
    unfolding read_disjunction read_joined
    viable_disjunction = viable_chain _ _ _ (framed_conjunction f) (λ a x. framed_onto (framed_conjunction f) (either a)) viable_conjunction (λ a x. viable_mapped viable_conjunction (either a))

    abbrev Parts : Family (Tree × (Tree × Tree))
    Parts L = IfParts (R L)

    viable_conditional : Possible extra R → (x : Lexeme) → x.kind ≡ kinds.if_word → (i : List Lexeme)
        → Goes (λ t r. ConditionOver (taken extra) (R (taken extra)) (x ∷ i) r t) (Begun extra (λ L. ConditionOver L (R L)) (x ∷ i)) (read_conditional p i)
    unfolding read_conditional mapped
    viable_conditional q x k i =
        goes_bind _ ((viable_before v f kinds.then_word).at i) (λ num r b. up (begun_left (possible_then (possible_before q kinds.else_word) q) b)) (λ c m h.
        goes_bind _ ((viable_before v f kinds.else_word).at m) (λ num r b. up (begun_right (framed_before f kinds.then_word) h (begun_left q b))) (λ a n h'.
        goes_bind _ (v.at n) (λ num r b. up (begun_right (framed_before f kinds.then_word) h (begun_right (framed_before f kinds.else_word) h' b))) (λ b o h''.
        good (conditional k h h' h''))))
      where
        up : {n : ℕ} {i r : List Lexeme} → Begun extra Parts i n r → Begun extra (λ L. ConditionOver L (R L)) (x ∷ i) n r
        up b = begun_more (x ∷ []) (λ w. w) b (λ s j w t h. (_, whole_if k h))

    viable_deeper : Possible extra R → Viable extra (read_deeper p) (λ L. ConditionOver L (R L))
    unfolding read_deeper read_negated read_bracketed mapped
    viable_deeper q = record {
      at = λ i.
          goes_on_lem _ _ _ _ _ i
          (λ x r e t. rw e (goes_bind _ (v.at r) (λ num s b. begun_more (x ∷ []) (λ w. w) b (λ s j w u h. (_, negation (eqb-true _ _ t) h))) (λ u m h. good (negation (eqb-true _ _ t) h))))
          (goes_on_lem _ _ _ _ _ i
          (λ x r e t. rw e (goes_bind _ ((viable_before viable_disjunction (framed_disjunction f) kinds.right_round).at r)
          (λ num s b. begun_more (x ∷ []) (λ w. w) b (λ s j w u h. (_, bracketed (eqb-true _ _ t) h))) (λ u m h. good (bracketed (eqb-true _ _ t) h))))
          (goes_on_lem _ _ _ _ _ i (λ x r e t. rw e (viable_conditional q x (eqb-true _ _ t) r))
          (goes_text i (λ n c. begun_string R c c.passes (omega arith)))));
    }

  -- a condition that the token x puts one level deeper than the reader goes
  record Deeper (e n : ℕ) (w : List Lexeme) (x : Lexeme) : Type 0 where
    text : List Lexeme
    tree : Tree
    reads : (s : List Lexeme) → ConditionOver (beyond extra n s) (Condition (beyond extra n s) e) (x ∷ text) w tree

  deeper_by : (e n : ℕ) (w : List Lexeme) (x : Lexeme) → deepens x ≡ true → Deeper e n w x
  deeper_by e n w x t = go (is kinds.bang x) (is kinds.left_round x) refl refl
    where
      inner : Possible extra (λ L. Condition L e)
      inner = some_condition e

      within_brackets : Possible extra (λ L. Before kinds.right_round (Disjunction (Condition L e)))
      within_brackets = possible_before (possible_chain (possible_chain inner)) kinds.right_round

      three : Possible extra (λ L. IfParts (Condition L e))
      three = possible_then (possible_before inner kinds.then_word) (possible_then (possible_before inner kinds.else_word) inner)

      go : (b o : Bool) → is kinds.bang x ≡ b → is kinds.left_round x ≡ o → Deeper e n w x
      go true o p q = record { text = inner.text w; tree = _; reads = λ s. negation (eqb-true _ _ p) (inner.reads n s w) }
      go false true p q = record { text = within_brackets.text w; tree = _; reads = λ s. bracketed (eqb-true _ _ q) (within_brackets.reads n s w) }
      go false false p q = record { text = three.text w; tree = _; reads = λ s. whole_if (eqb-true _ _ (rw (p, q) at t)) (three.reads n s w) }

  -- what the reader refuses where it has no level left: what goes deeper, or a string
  abbrev ALevel : ℕ → List Lexeme → Type 0
  ALevel n i = Chosen extra level_or_text (λ x. cond (deepens x) 12 17) n i

  goes_level : {A : Type 0} {P : A → List Lexeme → Type 0} {Q : ℕ → List Lexeme → Type 0} (i : List Lexeme)
      → ((n : ℕ) (c : ALevel n i) → deepens c.token ≡ true → Q n i) → ((n : ℕ) (c : ALevel n i) → is kinds.string c.token ≡ true → rank (cond (deepens c.token) 12 17) ≤ 17 → Q n i)
      → Goes P Q (refuse_by no_level i)
  goes_level {Q = Q} i f g = goes_limit no_level level_or_text (λ x. cond (deepens x) 12 17) (made kinds.bang) refl level_or_text_lem level_below i (λ n c. go n c (deepens c.token) refl)
    where
      go : (n : ℕ) (c : ALevel n i) (d : Bool) → deepens c.token ≡ d → Q n i
      go n c true e = f n c e
      go n c false e = g n c (rw e at c.passes) (rw e (omega arith))

  goes_deeper : (e : ℕ) {i : List Lexeme} (n : ℕ) (c : ALevel n i) → deepens c.token ≡ true → Begun extra (λ L. ConditionOver L (Condition L e)) i n i
  goes_deeper e n c t = begun_first [] (λ w. let d = deeper_by e n w c.token t in (c.token ∷ d.text, d.tree, c.kept d.text, d.reads (c.token ∷ d.text)))

  -- where the reader has no level left inside, and the grammar e
  viable_last : (e : ℕ) → e ≡ extra → Viable extra (read_simple (refuse_by no_level)) (λ L. Condition L e)
  viable_last zero q = viable_simple _ (record {
    at = λ i. goes_level i (λ n c t. begun_first [] (λ w.
        (made kinds.true_word ∷ w, _, λ h z. absurd (c.only (λ d. let y = z (sym d ∙ rw t) in omega arith) h), simple (grammar.Simple.bare refl)))) (λ n c t l. begun_string (λ L. grammar.Nothing) c t l);
  })
  viable_last (suc e) q = viable_simple _ (record { at = λ i. goes_level i (goes_deeper e) (λ n c t l. begun_string (λ L. Condition L e) c t l) })

  -- where the reader has d levels left inside, and the grammar e
  pub viable_condition : (d e : ℕ) → e ≡ d + extra → Viable extra (read_condition d) (λ L. Condition L e)
  unfolding read_condition
  viable_condition zero e q = viable_last e (omega arith)
  viable_condition (suc d) zero q = absurd (omega arith)
  viable_condition (suc d) (suc e) q = viable_simple _ (viable_deeper (framed_condition e) (viable_condition d e (omega arith)) (some_condition e))

  -- ---- policies

  -- behind `is`, where y is one of the types
  viable_type : (types : List (List ℕ)) (y : Lexeme) → is_type types y ≡ true → (x : Lexeme) → x.kind ≡ kinds.is_word → (i : List Lexeme)
      → Goes (λ p r. Typed types (x ∷ i) r p) (Begun extra (λ L. Typed types) (x ∷ i)) (read_type types i)
  unfolding read_type
  viable_type types y fit x k i =
      goes_on_lem _ _ _ _ _ i (λ n r e t. rw e (good (grammar.Typed.one k t))) (goes_below no_type type_below i (λ num l. begun_first (x ∷ []) (λ w. (y ∷ w, _, few l, grammar.Typed.one k fit))))

  type_name : List ℕ → Lexeme
  type_name name = record { kind = kinds.name; start = 0; end = 0; bytes = name }

  viable_principal : Viable extra read_principal (λ L. Typed principal_types)
  unfolding read_principal type_name principal_types type_among same
  viable_principal = record {
    at = λ i.
        goes_on_lem _ _ _ _ _ i (λ x r e t. rw e (viable_type principal_types (type_name (bytes "tool")) refl x (eqb-true _ _ t) r)) (good grammar.Typed.bare);
  }

  viable_resource : Viable extra read_resource ResourceRest
  unfolding read_resource is_text_of type_name resource_types type_among same
  viable_resource = record {
    at = λ i.
        goes_on_lem _ _ _ _ _ i
        (λ x r e t. rw e (goes_weaker (viable_type resource_types (type_name (bytes "shaft")) refl x (eqb-true _ _ t) r) (λ p m h. grammar.ResourceRest.sort h)
        (λ num m b. begun_weaker b (λ s j w p h. grammar.ResourceRest.sort h))))
        (goes_on_lem _ _ _ _ _ i
        (λ x r e t. rw e (goes_on_lem _ _ _ _ _ r (λ s m e' t'. rw e' (good (grammar.ResourceRest.string (eqb-true _ _ t) (eqb-true _ _ (and_left _ _ t')) (and_right (is kinds.string s) (is_text s) t'))))
        (goes_text r (λ n c. begun_first (x ∷ []) (λ w. (c.token ∷ w, _, c.kept w, grammar.ResourceRest.string (eqb-true _ _ t) (eqb-true _ _ c.passes) (inr (chosen_beyond c 17 (omega arith) w))))))))
        (good (grammar.ResourceRest.sort grammar.Typed.bare)));
  }

  viable_action : Viable extra read_action ActionRest
  unfolding read_action utf8 utf8_after
  viable_action = record {
    at = λ i.
        goes_on_lem _ _ _ _ _ i
        (λ x r e t. rw e (goes_weaker ((viable_after (viable_mapped list one_of) (possible_onto (some_list (is kinds.string) (λ x e. rw e) (made kinds.string) refl refl) one_of) kinds.left_square).at r)
        (λ a m h. go (eqb-true _ _ t) h) (λ num m b. begun_more (x ∷ []) (λ w. w) b (λ s j w a h. (_, go (eqb-true _ _ t) h)))))
        (good grammar.ActionRest.bare);
  }
    where
      list : Viable extra (read_list (is kinds.string)) (λ L. Literals L (is kinds.string))
      list = viable_list (is kinds.string) (λ x e. rw e) (made kinds.string) refl refl

      go : {L : Limits} {x : Lexeme} {i r : List Lexeme} {a : Actions} → x.kind ≡ kinds.in_word
          → After kinds.left_square (Onto one_of (Literals L (is kinds.string))) i r a → ActionRest L (x ∷ i) r a
      go k (begun k' (onto h)) = grammar.ActionRest.list k (begun k' h)

  viable_when : Viable extra read_when When
  unfolding read_when read_conditions
  viable_when = record {
    at = λ i.
        goes_on_lem _ _ _ _ _ i
        (λ x r e t. rw e (goes_weaker ((viable_after (viable_mapped (viable_before (viable_disjunction (framed_condition (31 + extra)) (viable_condition 31 (31 + extra) refl)) (framed_disjunction (framed_condition (31 + extra))) kinds.right_brace) some)
        (possible_onto (possible_before (possible_chain (possible_chain (some_condition (31 + extra)))) kinds.right_brace) some) kinds.left_brace).at r)
        (λ c m h. go (taken extra) refl (eqb-true _ _ t) h) (λ num m b. begun_more (x ∷ []) (λ w. w) b (λ s j w c h. (_, go (beyond extra num s) refl (eqb-true _ _ t) h)))))
        (good grammar.When.bare);
  }
    where
      go : (L : Limits) {x : Lexeme} {i r : List Lexeme} {c : Option Tree} → 31 + extra ≡ L.levels → x.kind ≡ kinds.when_word
          → After kinds.left_brace (Onto some (Before kinds.right_brace (Disjunction (Condition L (31 + extra))))) i r c → When L (x ∷ i) r c
      go L q k (begun k' (onto h)) = grammar.When.braces k (same_depth L q (begun k' h))

  -- the four parts of a policy behind its effect
  abbrev Principals : Family Part
  Principals L = After kinds.left_round (After kinds.principal_word (Before kinds.comma (Typed principal_types)))

  abbrev ActionsPart : Family Actions
  ActionsPart L = After kinds.action_word (Before kinds.comma (ActionRest L))

  abbrev Resources : Family Part
  Resources L = After kinds.resource_word (Before kinds.right_round (ResourceRest L))

  abbrev Ending : Family (Option Tree)
  Ending L = Before kinds.semicolon (When L)

  abbrev Parts₃ : Family (Part × Option Tree)
  Parts₃ L = Then (Resources L) (Ending L)

  abbrev Parts₂ : Family (Actions × (Part × Option Tree))
  Parts₂ L = Then (ActionsPart L) (Parts₃ L)

  abbrev Parts₁ : Family (Part × (Actions × (Part × Option Tree)))
  Parts₁ L = Then (Principals L) (Parts₂ L)

  some_typed : (types : List (List ℕ)) → Possible extra (λ L. Typed types)
  some_typed types = record { text = λ w. w; tree = _; reads = λ n s w. grammar.Typed.bare }

  some_principals : Possible extra (λ L. After kinds.principal_word (Before kinds.comma (Typed principal_types)))
  some_principals = possible_after (possible_before (some_typed principal_types) kinds.comma) kinds.principal_word

  some_action : Possible extra (λ L. Before kinds.comma (ActionRest L))
  some_action = possible_before {R = ActionRest} (record { text = λ w. w; tree = _; reads = λ n s w. grammar.ActionRest.bare }) kinds.comma

  some_resource : Possible extra (λ L. Before kinds.right_round (ResourceRest L))
  some_resource = possible_before {R = ResourceRest} (record { text = λ w. w; tree = _; reads = λ n s w. grammar.ResourceRest.sort grammar.Typed.bare }) kinds.right_round

  some_ending : Possible extra Ending
  some_ending = possible_before {R = When} (record { text = λ w. w; tree = _; reads = λ n s w. grammar.When.bare }) kinds.semicolon

  some_parts₃ : Possible extra Parts₃
  some_parts₃ = possible_then (possible_after some_resource kinds.resource_word) some_ending

  some_parts₂ : Possible extra Parts₂
  some_parts₂ = possible_then (possible_after some_action kinds.action_word) some_parts₃

  whole_policy : {L : Limits} (permits : Bool) {i r : List Lexeme} {t : Part × (Actions × (Part × Option Tree))} → Parts₁ L i r t
      → PolicyRest L permits i r (record { permits = permits; principal = t.0; action = t.1.0; resource = t.1.1.0; condition = t.1.1.1 })
  whole_policy permits (followed h₁ (followed h₂ (followed h₃ h₄))) = grammar.PolicyRest.rest h₁ h₂ h₃ h₄

  some_policy : (permits : Bool) → Possible extra (λ L. PolicyRest L permits)
  some_policy permits = record { text = parts.text; tree = _; reads = λ n s w. whole_policy permits (parts.reads n s w) }
    where
      parts : Possible extra Parts₁
      parts = possible_then (possible_after some_principals kinds.left_round) some_parts₂

  pub viable_policy : (permits : Bool) → Viable extra (read_policy permits) (λ L. PolicyRest L permits)
  unfolding read_policy
  viable_policy permits = record {
    at = λ i.
        goes_need _ _ _ _ i (λ num l. up (begun_left some_parts₂ (begun_start (possible_after some_principals kinds.left_round) l))) (λ x i₁ e k. rw e
        (goes_need_bind _ _ _ i₁ ((viable_after (viable_before viable_principal (framed_typed principal_types) kinds.comma) (possible_before (some_typed principal_types) kinds.comma) kinds.principal_word).at i₁)
        (λ num r b. up (begun_left some_parts₂ (begun_more (x ∷ []) (λ w. w) b (λ s j w p h. (_, begun k h))))) (λ p j h₁.
        goes_need_bind _ _ _ j ((viable_after (viable_before viable_action framed_action kinds.comma) some_action kinds.action_word).at j)
        (λ num r b. up (begun_right framed_principals (begun k h₁) (begun_left some_parts₃ b))) (λ a l h₂.
        goes_need_bind _ _ _ l ((viable_after (viable_before viable_resource framed_resource kinds.right_round) some_resource kinds.resource_word).at l)
        (λ num r b. up (begun_right framed_principals (begun k h₁) (begun_right framed_actions h₂ (begun_left some_ending b)))) (λ s m h₃.
        goes_bind _ ((viable_before viable_when framed_when kinds.semicolon).at m)
        (λ num r b. up (begun_right framed_principals (begun k h₁) (begun_right framed_actions h₂ (begun_right framed_resources h₃ b)))) (λ c r h₄.
        good (grammar.PolicyRest.rest (begun k h₁) h₂ h₃ h₄)))))));
  }
    where
      up : {n : ℕ} {i r : List Lexeme} → Begun extra Parts₁ i n r → Begun extra (λ L. PolicyRest L permits) i n r
      up b = begun_more [] (λ w. w) b (λ s j w t h. (_, whole_policy permits h))

  -- ---- texts

  viable_next_policy : (ps : List Policy) (x : Lexeme) → may_begin ps x ≡ true → (is_effect x ≡ true) × Viable extra (read_next_policy ps x) (NextPolicy ps x)
  unfolding may_begin read_next_policy mapped
  viable_next_policy ps x t =
      let l : ltb (length ps) most_policies ≡ true = and_right (is_effect x) (ltb (length ps) most_policies) t in (
        and_left _ _ t,
        record {
          at = λ i.
              goes_bind _ ((viable_policy (is kinds.permit_word x)).at i) (λ num r b. begun_more [] (λ w. w) b (λ s j w p h. (_, one (inl l) h))) (λ p r h. good (one l h));
        },
      )

  pub viable_text : (i : List Lexeme) → Goes (λ ps r. (r ≡ []) × RuleText (taken extra) i ps) (Opened extra i) (read_text i)
  unfolding read_text at_end
  viable_text i =
      goes_bind _ (viable_onwards may_begin (λ ps. is_effect) read_next_policy framed_start framed_next viable_next_policy [] i (alone start))
      (λ n r b. let q = b.at [] in record { on = q.0; whole = q.1; policies = q.2; swapped = q.3; kept = q.4; belongs = whole_text q.5 grammar.Policies.end })
      (λ ps r h. go ps r h)
    where
      go : (ps : List Policy) (r : List Lexeme) → Upto (taken extra) i r ps → Goes (λ ps r. (r ≡ []) × RuleText (taken extra) i ps) (Opened extra i) (at_end ps r)
      go ps [] h = good (refl, whole_text h grammar.Policies.end)
      go ps (x ∷ r) h = goes_limit no_policy is_effect (λ x. 15) (made kinds.permit_word) refl effect_number effect_below (x ∷ r) (λ n c.
          let p = some_policy (is kinds.permit_word c.token) in let on = c.token ∷ p.text [] in let q = (framed_chain framed_start framed_next).at (eased extra n on) h here in
          record {
            on = on;
            whole = q.0;
            policies = _;
            swapped = q.1;
            kept = c.kept (p.text []);
            belongs = whole_text q.2 (policy c.passes (inr (chosen_beyond c 15 (omega arith) (p.text []))) (p.reads n on []) grammar.Policies.end);
          })
