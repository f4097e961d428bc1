-- What is in the grammar under limits L the reader of rule texts takes, but for the refusals that L asks to excuse. Assumes nothing.
use mathlib.Core.Path.{◌≡◌, refl, sym, ◌∙◌}
use mathlib.Core.Bool.{Bool, true, false, cond, not, ◌&&◌, ◌||◌}
use mathlib.Core.List.{List, [], ◌∷◌, ◌++◌}
use mathlib.Core.Logic.{⊎_elim}
use mathlib.Core.Option.{Option}
use Prim.Native.Nat.{ℕ, zero, suc, ◌≤◌, ◌<◌}
use native.Mathlib.Omega.{arith}
use lib.Dec.{eqb, leb, ltb}
use lib.ListN.{length}
use borrow.Author.Tests.{eqb-true, eq-eqb, ne_eqb, leb-true}
use Rattle.utf8.specs.Reading.{utf8}
use Rattle.tokens.specs.Kinds as kinds
use Rattle.tokens.proofs.TokenLaws.{never, and_left, and_right, or_cases}
use Rattle.tokens.specs.Sizes.{most_literals, most_policies, most_inside}
use Rattle.reading.specs.Lexemes.{Lexeme, is, choose}
use Rattle.reading.specs.Reads.{Reading, Chain, Chain.alone, Chain.more, Onto, Onto.onto, Before.ended, After.begun}
use Rattle.reading.specs.Reader.{Answer, took, refuse, Reader, refuse_by, numbered, bind, on, need, mapped, up_to, onwards}
use Rattle.reading.proofs.Readers.{Shrinks, shrinks_onto, Without, on_without, on_token, on_other}
use Rattle.reading.proofs.Complete.{Nearly, exact, excused, nearly_bind, nearly_on, Complete, complete_mapped, complete_before, complete_chain}
use Rattle.grammar.specs.Policies.{Span, Root, Literal, truth, Operand, attribute, literal, Tree, within, contains, both, either, Part, typed, Actions, Policy}
use Rattle.grammar.specs.Rules.{is_effect, is_root, root_of, is_truth, is_literal, literal_of, is_comparator, is_contains, which_of, deepens, principal_types, resource_types, type_of, is_type, inside, is_pattern, is_text}
use Rattle.grammar.specs.Grammar.{Limit, a_name, a_pattern, a_string, a_literal, a_policy, limit_number, kept, Limits, Path, spanned, FirstName, first, NextName, next, APath, rooted, AnOperand, given, Element, element, Literals, Simple, comparison, likeness, listed, held, call, having, Conjunction, Disjunction, ConditionOver, simple, negation, bracketed, conditional, Nothing, Condition, Typed, ResourceRest, ActionRest, When, PolicyRest, Policies, policy, RuleText}
use Rattle.grammar.specs.Grammar as grammar
use Rattle.grammar.specs.Parser.{Way, calling, no_name, no_text, no_level, no_policy, name_fits, read_first_name, goes_on, read_next_name, read_way, no_exit, spanned_by, read_path, read_attribute, read_operand, is_text_of, is_element, read_element, read_list, read_bare, read_in, is_like, read_pattern, read_operator, read_call, read_rest, read_rooted, read_simple, read_joined, read_conjunction, read_disjunction, read_negated, read_bracketed, read_conditional, read_deeper, read_condition, read_conditions, read_type, read_principal, read_action, read_resource, read_when, read_policy, may_begin, read_next_policy, at_end, read_text}
use Rattle.grammar.specs.Parser as parser
use Rattle.grammar.proofs.Begun.{made}
use Rattle.grammar.proofs.Limits.{name_number, string_number, text_number, literal_number, effect_number, level_number}
use Rattle.grammar.proofs.Framing.{shrinks_element, shrinks_condition, shrinks_conjunction, shrinks_policy}

-- Z excuses each refusal of what L admits and the sizes do not.
pub record Excuses (L : Limits) (Z : ℕ → List Lexeme → Type 0) : Type 0 where
  pub over : (l : Limit) (x : Lexeme) (r : List Lexeme) → L.Asks l r → kept l ≡ false → Z (limit_number l) (x ∷ r)
  pub no_level_lem : most_inside < L.levels → (x : Lexeme) (r : List Lexeme) → Z 12 (x ∷ r)

abbrev Any : List Lexeme → Type 0
Any r = Unit {0}

abbrev NoDot : List Lexeme → Type 0
NoDot = Without (is kinds.dot)

-- what may follow a condition
abbrev Free : List Lexeme → Type 0
Free r = Without is_comparator r × Without (is kinds.like_word) r × Without (is kinds.in_word) r × NoDot r

-- what may follow a conjunction, and a disjunction
abbrev Free_and : List Lexeme → Type 0
Free_and r = Free r × Without (is kinds.and) r

abbrev Ends : List Lexeme → Type 0
Ends r = Free_and r × Without (is kinds.or) r

-- it goes by the kind of the next token
frees : (k : ℕ) → Free (made k ∷ []) → (x : Lexeme) (m : List Lexeme) → x.kind ≡ k → Free (x ∷ m)
unfolding Without
frees k h x m e = rw e h

closes : (k : ℕ) → Ends (made k ∷ []) → (x : Lexeme) (m : List Lexeme) → x.kind ≡ k → Ends (x ∷ m)
unfolding Without
closes k h x m e = rw e h

-- ---- kinds

-- a token that passes a test is not of a kind that fails it
pub other_kind : (test : ℕ → Bool) (n k : ℕ) → test n ≡ true → test k ≡ false → eqb n k ≡ false
other_kind test n k t f = ne_eqb n k (λ (q : n ≡ k). never (sym f ∙ (rw q at t)))

pub root_no_literal : (x : Lexeme) → is_root x ≡ true → is_literal x ≡ false
root_no_literal x t =
    let low : 204 ≤ x.kind = leb-true _ _ (and_left _ _ t) in let high : x.kind ≤ 207 = leb-true _ _ (and_right (leb 204 x.kind) (leb x.kind 207) t) in
    rw (ne_eqb x.kind 34 (λ q. omega arith), ne_eqb x.kind 48 (λ q. omega arith), ne_eqb x.kind 212 (λ q. omega arith), ne_eqb x.kind 213 (λ q. omega arith))

literal_no_root : (x : Lexeme) → is_literal x ≡ true → is_root x ≡ false
literal_no_root x t = go (is_root x) refl
  where
    go : (b : Bool) → is_root x ≡ b → is_root x ≡ false
    go true e = absurd (never (sym (root_no_literal x e) ∙ t))
    go false e = e

-- what is not UTF-8 is a string
pub not_text_string : (x : Lexeme) → is_text x ≡ false → is kinds.string x ≡ true
not_text_string x e = go (is kinds.string x) (utf8 (inside x)) e
  where
    go : (s u : Bool) → (not s || u) ≡ false → s ≡ true
    go true u e = refl
    go false u e = absurd (never (sym e))

past_true : {a : Bool} (b c : Bool) → a ≡ true → ((a && b) && c) ≡ false → (b && c) ≡ false
past_true b c e f = rw e at f

past_one : {a : Bool} (b : Bool) → a ≡ true → (a && b) ≡ false → b ≡ false
past_one b e f = rw e at f

-- a token of a sort that keeps the limit of strings, or not, and of another sort
module _ (sort : Lexeme → Bool) (x : Lexeme) where
  pub text_of : sort x ≡ true → is_text x ≡ true → is_text_of sort x ≡ true
  unfolding is_text_of
  text_of t e = rw t e

  pub no_text_of : is_text x ≡ false → is_text_of sort x ≡ false
  unfolding is_text_of
  no_text_of e = go (sort x) e
    where
      go : (s : Bool) {b : Bool} → b ≡ false → (s && b) ≡ false
      go true e = e
      go false e = refl

  pub no_sort_of : sort x ≡ false → is_text_of sort x ≡ false
  unfolding is_text_of
  no_sort_of e = rw e

  pub of_sort : is_text_of sort x ≡ true → sort x ≡ true
  unfolding is_text_of
  of_sort e = and_left _ _ e

truth_literal : (x : Lexeme) → is_truth x ≡ true → is_literal x ≡ true
truth_literal x t = go (is kinds.string x) (is kinds.number x)
  where
    go : (s n : Bool) → ((s || n) || is_truth x) ≡ true
    go true n = refl
    go false true = refl
    go false false = t

truth_text : (x : Lexeme) → is_truth x ≡ true → is_text x ≡ true
truth_text x t = ⊎_elim (λ (e : is kinds.true_word x ≡ true). rw (eqb-true x.kind 212 e)) (λ (e : is kinds.false_word x ≡ true). rw (eqb-true x.kind 213 e)) (or_cases (is kinds.true_word x) (is kinds.false_word x) t)

literal_truth : (x : Lexeme) → is_truth x ≡ true → literal_of x ≡ truth (is kinds.true_word x)
unfolding literal_of
literal_truth x t = ⊎_elim (λ (e : is kinds.true_word x ≡ true). rw (eqb-true x.kind 212 e)) (λ (e : is kinds.false_word x ≡ true). rw (eqb-true x.kind 213 e)) (or_cases (is kinds.true_word x) (is kinds.false_word x) t)

-- a test that a name fails
record Passes (exit : Lexeme → Bool) : Type 0 where
  at : (x : Lexeme) → x.kind ≡ kinds.name → exit x ≡ false

contains_passes : Passes is_contains
contains_passes = record { at = λ x e. rw e }

-- what reads nothing is the beginning of no chain
none_read : {sep : Tree → Lexeme → Bool} {R : Reading Tree} {Q : Tree → Lexeme → Reading Tree} {i r : List Lexeme} {t : Tree} → ((i r : List Lexeme) (t : Tree) → R i r t → ⊥) → Chain sep R Q i r t → ⊥
none_read f (alone h) = f _ _ _ h
none_read f (more j e h) = none_read f j

-- ---- each reader

-- a name more, or the word that ends a path
data NextWay (L : Limits) (exit : Lexeme → Bool) (root : Root) : Way → List Lexeme → List Lexeme → Way → Type 0 where
  onward : {i r : List Lexeme} {p q : Path} → NextName L root p i r q → NextWay L exit root (parser.Way.uncalled p) i r (parser.Way.uncalled q)
  exits : {x : Lexeme} {r : List Lexeme} {p : Path} → exit x ≡ true → NextWay L exit root (parser.Way.uncalled p) (x ∷ r) r (calling p (which_of x))

abbrev Ways : Limits → (Lexeme → Bool) → Root → Reading Way
Ways L exit root = Chain goes_on (Onto (λ p. parser.Way.uncalled p) (FirstName L root)) (λ w d. NextWay L exit root w)

ways_of : {L : Limits} {exit : Lexeme → Bool} {root : Root} {i r : List Lexeme} {p : Path} → APath L root i r p → Ways L exit root i r (parser.Way.uncalled p)
unfolding goes_on
ways_of (alone h) = alone (onto h)
ways_of (more j e h) = more (ways_of j) e (onward h)

shrinks_next_way : (L : Limits) (exit : Lexeme → Bool) (root : Root) (w : Way) → Shrinks (NextWay L exit root w)
shrinks_next_way L exit root w = record { at = go }
  where
    go : {i r : List Lexeme} {v w : Way} → NextWay L exit root v i r w → length r < length i
    go (onward (next e l)) = omega arith
    go (exits e) = omega arith

-- what reads a condition that is no literal and no root refuses a string
record Turns (deeper : Reader Tree) : Type 0 where
  at : (x : Lexeme) (r : List Lexeme) → is kinds.string x ≡ true → deeper (x ∷ r) ≡ refuse 17 (x ∷ r)

turns_level : Turns (refuse_by no_level)
unfolding refuse_by numbered no_level no_text
turns_level = record { at = λ x r t. rw (eqb-true x.kind kinds.string t) }

turns_deeper : (p : Reader Tree) → Turns (read_deeper p)
unfolding read_deeper on choose refuse_by numbered no_text
turns_deeper p = record { at = λ x r t. rw (eqb-true x.kind kinds.string t) }

module _ {L : Limits} {Z : ℕ → List Lexeme → Type 0} (ok : Excuses L Z) where
  no_text_there : (x : Lexeme) (r : List Lexeme) → L.Asks (a_string x) r → is_text x ≡ false → Z (numbered no_text x) (x ∷ r)
  no_text_there x r l e = rw (text_number x (not_text_string x e)) (ok.over (a_string x) x r l e)

  too_deep_there : most_inside < L.levels → (x : Lexeme) (r : List Lexeme) → deepens x ≡ true → Z (numbered no_level x) (x ∷ r)
  too_deep_there l x r t = rw (level_number x t) (ok.no_level_lem l x r)

  no_policy_there : (ps : List Policy) (x : Lexeme) (r : List Lexeme) → is_effect x ≡ true → L.Asks (a_policy (length ps)) r → ltb (length ps) most_policies ≡ false → Z (numbered no_policy x) (x ∷ r)
  no_policy_there ps x r t c u = rw (effect_number x t) (ok.over (a_policy (length ps)) x r c u)

  fitting : {A : Type 0} {a : A} {s : List Lexeme} (root : Root) (used : ℕ) (f : Lexeme → Reader A) (x : Lexeme) (r : List Lexeme) → x.kind ≡ kinds.name → L.Asks (a_name root used x) r
      → Nearly Z a s (f x r) → Nearly Z a s (on (name_fits root used) f (refuse_by (no_name root)) (x ∷ r))
  unfolding name_fits
  fitting root used f x r e l h = nearly_on _ _ _ x r h (λ u. rw (name_number root x e) (ok.over (a_name root used x) x r l (rw (eq-eqb _ _ e) at u)))

  complete_first : (root : Root) → Complete Z Any (read_first_name root) (Onto (λ p. parser.Way.uncalled p) (FirstName L root))
  unfolding read_first_name
  complete_first root = record { at = go }
    where
      go : {i r : List Lexeme} {w : Way} → Onto (λ p. parser.Way.uncalled p) (FirstName L root) i r w → Any r → Nearly Z w r (read_first_name root i)
      go (onto (first e l)) u = fitting root 0 _ _ _ e l exact

  module _ (exit : Lexeme → Bool) (pass : Passes exit) (root : Root) where
    complete_next : (w : Way) (d : Lexeme) → Complete Z Any (read_next_name exit root w) (NextWay L exit root w)
    unfolding read_next_name
    complete_next w d = record { at = go }
      where
        go : {i r : List Lexeme} {v w : Way} → NextWay L exit root v i r w → Any r → Nearly Z w r (read_next_name exit root v i)
        go (onward (next {x = x} {r = r} e l)) u = rw (on_other exit _ _ x r (pass.at x e)) (fitting root _ _ x r e l exact)
        go (exits {x = x} {r = r} e) u = rw (on_token exit _ _ x r e) exact

    complete_ways : {i r : List Lexeme} {w : Way} → Ways L exit root i r w → Without (goes_on w) r → Nearly Z w r (read_way exit root i)
    unfolding read_way
    complete_ways j w = complete_chain goes_on _ _ (complete_first root) complete_next (λ w d. shrinks_next_way L exit root w) (λ w x m e. tt) j tt w

    complete_plain : {i r : List Lexeme} {p : Path} → APath L root i r p → NoDot r → Nearly Z (parser.Way.uncalled p) r (read_way exit root i)
    unfolding goes_on
    complete_plain j w = complete_ways (ways_of j) w

    complete_calling : {i r : List Lexeme} {d x : Lexeme} {p : Path} → APath L root i (d ∷ x ∷ r) p → d.kind ≡ kinds.dot → exit x ≡ true → Nearly Z (calling p (which_of x)) r (read_way exit root i)
    unfolding goes_on Without
    complete_calling {r = r} j e t = complete_ways (more (ways_of j) (eq-eqb _ _ e) (exits t)) (go r)
      where
        go : (r : List Lexeme) → Without (λ x. false) r
        go [] = tt
        go (x ∷ r) = refl

  complete_path : (root : Root) {i r : List Lexeme} {p : Path} → APath L root i r p → NoDot r → Nearly Z (spanned p) r (read_path root i)
  unfolding read_path spanned_by
  complete_path root j w = nearly_bind _ (complete_plain no_exit (record { at = λ x e. refl }) root j w) exact

  complete_attribute : {A : Type 0} (root : Root) (f : Root → Span → A) (d : Lexeme) {i r : List Lexeme} {p : Path} → d.kind ≡ kinds.dot → APath L root i r p → NoDot r
      → Nearly Z (f root (spanned p)) r (read_attribute root f (d ∷ i))
  unfolding read_attribute need
  complete_attribute root f d {i = i} e j w = rw (on_token (is kinds.dot) _ _ d i (eq-eqb _ _ e)) (nearly_bind _ (complete_path root j w) exact)

  complete_operand : {i r : List Lexeme} {a : Operand} → AnOperand L i r a → NoDot r → Nearly Z a r (read_operand i)
  unfolding read_operand refuse_by
  complete_operand (given (rooted {x = x} {d = d} t e j)) w =
      rw (on_other (is_text_of is_literal) _ _ x _ (no_sort_of is_literal x (root_no_literal x t)), on_token is_root _ _ x _ t) (complete_attribute (root_of x) attribute d e j w)
  complete_operand (grammar.AnOperand.literally {x = x} {r = r} t l) w = go (is_text x) refl
    where
      go : (b : Bool) → is_text x ≡ b → Nearly Z (literal (literal_of x)) r (read_operand (x ∷ r))
      go true e = rw (on_token (is_text_of is_literal) _ _ x r (text_of is_literal x t e)) exact
      go false e = rw (on_other (is_text_of is_literal) _ _ x r (no_text_of is_literal x e), on_other is_root _ _ x r (literal_no_root x t)) (excused (no_text_there x r l e))

  module _ (sort : Lexeme → Bool) (sorts : (x : Lexeme) → sort x ≡ true → is_literal x ≡ true) where
    complete_element : (ls : List Literal) → Complete Z Any (read_element sort ls) (Element L sort ls)
    unfolding read_element is_element is_text_of
    complete_element ls = record { at = go }
      where
        over : (x : Lexeme) (r : List Lexeme) → sort x ≡ true → L.Asks (a_literal (length ls)) r → L.Asks (a_string x) r → (b : Bool) → ltb (length ls) most_literals ≡ b → (b && (sort x && is_text x)) ≡ false → Z (cond b 17 14) (x ∷ r)
        over x r t c l true e f = ok.over (a_string x) x r l (rw t at f)
        over x r t c l false e f = ok.over (a_literal (length ls)) x r c e

        go : {i r : List Lexeme} {ks : List Literal} → Element L sort ls i r ks → Any r → Nearly Z ks r (read_element sort ls i)
        go (element {x = x} {r = r} t c l) u = nearly_on _ _ _ x r exact (λ f. rw (literal_number sort ls x (sorts x t) t) (over x r t c l (ltb (length ls) most_literals) refl f))

    complete_list : {i r : List Lexeme} {ls : List Literal}
        → Literals L sort i r ls → Nearly Z ls r (read_list sort i)
    unfolding read_list Without
    complete_list h =
        complete_before {S = Without (is kinds.comma)} (record { at = λ j w. complete_chain _ _ _ (complete_element []) (λ ls x. complete_element ls) (λ ls x. shrinks_element L sort ls) (λ ls x m e. tt) j tt w })
        kinds.right_square (λ x m e. rw e) h

  -- Where an operand stands, the reader goes on after it.
  complete_left : {i r s : List Lexeme} {a : Operand} {t : Tree} (deeper : Reader Tree) → Turns deeper → AnOperand L i r a → NoDot r → Nearly Z t s (read_operator a r) → Nearly Z t s (read_simple deeper i)
  unfolding read_simple read_rooted read_rest
  complete_left deeper d' (given (rooted {x = x} {d = d} t e j)) w k =
      rw (on_other (is_text_of is_literal) _ _ x _ (no_sort_of is_literal x (root_no_literal x t)), on_token is_root _ _ x _ t, on_token (is kinds.dot) _ _ d _ (eq-eqb _ _ e))
      (nearly_bind _ (complete_plain is_contains contains_passes (root_of x) j w) k)
  complete_left {s = s} {t = tree} deeper d' (grammar.AnOperand.literally {x = x} {r = r} t l) w k = go (is_text x) refl
    where
      go : (b : Bool) → is_text x ≡ b → Nearly Z tree s (read_simple deeper (x ∷ r))
      go true e = rw (on_token (is_text_of is_literal) _ _ x r (text_of is_literal x t e)) k
      go false e = rw (on_other (is_text_of is_literal) _ _ x r (no_text_of is_literal x e), on_other is_root _ _ x r (literal_no_root x t), d'.at x r (not_text_string x e)) (excused (ok.over (a_string x) x r l e))

  complete_bare : (a : Operand) (r : List Lexeme) → Free r → read_operator a r ≡ read_bare a r
  unfolding read_operator
  complete_bare a r f = rw (on_without is_comparator _ _ r f.0, on_without (is kinds.like_word) _ _ r f.1, on_without (is kinds.in_word) _ _ r f.2)

  complete_simple : (deeper : Reader Tree) → Turns deeper → {i r : List Lexeme} {t : Tree} → Simple L i r t → Free r → Nearly Z t r (read_simple deeper i)
  unfolding read_simple read_rooted read_rest read_operator read_bare read_pattern read_in read_call is_like is_text_of mapped need Without
  complete_simple deeper d' (grammar.Simple.bare {x = x} {r = r} t) f = rw (on_token (is_text_of is_literal) _ _ x r (text_of is_literal x (truth_literal x t) (truth_text x t)), literal_truth x t) (rw (complete_bare (literal (truth (is kinds.true_word x))) r f) exact)
  complete_simple deeper d' (comparison {x = x} {m = m} h t k) f =
      complete_left deeper d' h (other_kind (λ k. is_comparator (made k)) x.kind kinds.dot t refl) (rw (on_token is_comparator _ _ x m t) (nearly_bind _ (complete_operand k f.3) exact))
  complete_simple deeper d' (likeness {x = x} {s = s} {r = r} h e e' l p) f =
      complete_left deeper d' h (rw e) (rw (on_other is_comparator _ _ x (s ∷ r) (rw e), on_token (is kinds.like_word) _ _ x (s ∷ r) (eq-eqb _ _ e))
      (nearly_on _ _ _ s r exact (λ u. rw (string_number s (eq-eqb _ _ e')) (over (is_text s) refl (past_true (is_text s) (is_pattern (inside s)) (eq-eqb s.kind kinds.string e') u)))))
    where
      over : (b : Bool) → is_text s ≡ b → (b && is_pattern (inside s)) ≡ false → Z (cond b 13 17) (s ∷ r)
      over true q u = ok.over (a_pattern s) s r p u
      over false q u = ok.over (a_string s) s r l q
  complete_simple deeper d' (listed {x = x} h e (begun {x = y} e' k)) f =
      complete_left deeper d' h (rw e) (rw (on_other is_comparator _ _ x _ (rw e), on_other (is kinds.like_word) _ _ x _ (rw e), on_token (is kinds.in_word) _ _ x _ (eq-eqb _ _ e), on_token (is kinds.left_square) _ _ y _ (eq-eqb _ _ e'))
      (nearly_bind _ (complete_list is_literal (λ x e. e) k) exact))
  complete_simple deeper d' (held {x = x} {a = a} h e (rooted {x = y} {d = d} t e' j)) f =
      complete_left deeper d' h (rw e) (rw (
        on_other is_comparator _ _ x _ (rw e),
        on_other (is kinds.like_word) _ _ x _ (rw e),
        on_token (is kinds.in_word) _ _ x _ (eq-eqb _ _ e),
        on_other (is kinds.left_square) _ _ y _ (other_kind (λ k. is_root (made k)) y.kind kinds.left_square t refl),
        on_token is_root _ _ y _ t,
      )
      (complete_attribute (root_of y) (within a) d e' j f.3))
  complete_simple deeper d' (call {w = w} {o = o} (rooted {x = x} {d = d} {p = p} t e j) e' t' e'' (ended (begun {x = l} k h) k')) f =
      rw (on_other (is_text_of is_literal) _ _ x _ (no_sort_of is_literal x (root_no_literal x t)), on_token is_root _ _ x _ t, on_token (is kinds.dot) _ _ d _ (eq-eqb _ _ e))
      (nearly_bind _ (complete_calling is_contains contains_passes (root_of x) j e' t')
      (rw (on_token (is kinds.left_round) _ _ o _ (eq-eqb _ _ e''), on_token (is kinds.left_square) _ _ l _ (eq-eqb _ _ k))
      (complete_before (complete_mapped {S = Any} (record { at = λ h u. complete_list is_literal (λ x e. e) h }) (contains (which_of w) (root_of x) (spanned p))) kinds.right_round (λ x m e. tt) (ended (onto h) k'))))
  complete_simple deeper d' (having {x = x} {h = h} t e j) f =
      rw (on_other (is_text_of is_literal) _ _ x _ (no_sort_of is_literal x (root_no_literal x t)), on_token is_root _ _ x _ t, on_other (is kinds.dot) _ _ h _ (rw e), on_token (is kinds.has_word) _ _ h _ (eq-eqb _ _ e))
      (nearly_bind _ (complete_path (root_of x) j f.3) exact)

  -- ---- conditions

  complete_conjunction : {p : Reader Tree} {R : Reading Tree} → Shrinks R → Complete Z Free p R → Complete Z Free_and (read_conjunction p) (Conjunction R)
  unfolding read_conjunction read_joined Without
  complete_conjunction s c = record {
    at = λ j e. complete_chain _ _ _ c (λ a x. complete_mapped c (both a)) (λ a x. shrinks_onto s)
        (λ a x m t. frees kinds.and (refl, refl, refl, refl) x m (eqb-true _ _ t)) j e.0 e.1;
  }

  complete_disjunction : {p : Reader Tree} {R : Reading Tree} → Shrinks R → Complete Z Free p R → Complete Z Ends (read_disjunction p) (Disjunction R)
  unfolding read_disjunction read_joined Without
  complete_disjunction s c =
      let k = complete_conjunction s c in
      record {
        at = λ j e. complete_chain _ _ _ k (λ a x. complete_mapped k (either a)) (λ a x. shrinks_onto (shrinks_conjunction L s))
            (λ a x m t. (frees kinds.or (refl, refl, refl, refl) x m (eqb-true _ _ t), rw (eqb-true x.kind kinds.or t))) j e.0 e.1;
      }

  complete_form : {p : Reader Tree} {R : Reading Tree} → Shrinks R → Complete Z Free p R → {i r : List Lexeme} {t : Tree} → ConditionOver L R i r t → Free r → Nearly Z t r (read_simple (read_deeper p) i)
  unfolding read_simple read_deeper read_negated read_bracketed read_conditional is_text_of mapped on choose Without
  complete_form {p = p} s c (simple h) f = complete_simple (read_deeper p) (turns_deeper p) h f
  complete_form s c (negation e h) f = rw e (nearly_bind _ (c.at h f) exact)
  complete_form s c (bracketed e h) f = rw e (nearly_bind _ (complete_before (complete_disjunction s c) kinds.right_round (closes kinds.right_round (((refl, refl, refl, refl), refl), refl)) h) exact)
  complete_form s c (conditional e h₁ h₂ h₃) f =
      rw e (nearly_bind _ (complete_before c kinds.then_word (frees kinds.then_word (refl, refl, refl, refl)) h₁)
      (nearly_bind _ (complete_before c kinds.else_word (frees kinds.else_word (refl, refl, refl, refl)) h₂) (nearly_bind _ (c.at h₃ f) exact)))

  -- where no level is left inside, all conditions are simple
  only_simple : {i r : List Lexeme} {t : Tree} → ConditionOver L Nothing i r t → Simple L i r t
  only_simple (simple h) = h
  only_simple (negation e h) = elim h [ ]
  only_simple (bracketed e (ended h k)) = absurd (none_read (λ i r t h. none_read (λ i r t h. elim h [ ]) h) h)
  only_simple (conditional e (ended h k) h₂ h₃) = elim h [ ]

  -- what goes deeper than the reader does gets an excused refusal
  too_deep : {R : Reading Tree} → 31 < L.levels → {i r : List Lexeme} {t : Tree} → ConditionOver L R i r t → Free r → Nearly Z t r (read_simple (refuse_by no_level) i)
  unfolding read_simple refuse_by
  too_deep l (simple h) f = complete_simple _ turns_level h f
  too_deep l (negation {x = x} {i = i} e h) f = rw (on_other (is_text_of is_literal) _ _ x i (no_sort_of is_literal x (rw e)), on_other is_root _ _ x i (rw e)) (excused (too_deep_there l x i (rw e)))
  too_deep l (bracketed {x = x} {i = i} e h) f = rw (on_other (is_text_of is_literal) _ _ x i (no_sort_of is_literal x (rw e)), on_other is_root _ _ x i (rw e)) (excused (too_deep_there l x i (rw e)))
  too_deep l (conditional {x = x} {i = i} e h₁ h₂ h₃) f = rw (on_other (is_text_of is_literal) _ _ x i (no_sort_of is_literal x (rw e)), on_other is_root _ _ x i (rw e)) (excused (too_deep_there l x i (rw e)))

  -- the reader has d levels left inside, the grammar e
  complete_condition : (d e : ℕ) → (d < e → 31 < L.levels) → Complete Z Free (read_condition d) (Condition L e)
  unfolding read_condition
  complete_condition zero zero g = record { at = λ h f. complete_simple _ turns_level (only_simple h) f }
  complete_condition zero (suc e) g = record { at = λ h f. too_deep (g (omega arith)) h f }
  complete_condition (suc d) zero g = record { at = λ h f. complete_simple _ (turns_deeper (read_condition d)) (only_simple h) f }
  complete_condition (suc d) (suc e) g = record { at = λ h f. complete_form (shrinks_condition L e) (complete_condition d e (λ l. g (omega arith))) h f }

  -- ---- policies

  complete_type : (types : List (List ℕ)) (n : Lexeme) (r : List Lexeme) → is_type types n ≡ true → Nearly Z (typed (type_of types n)) r (read_type types (n ∷ r))
  unfolding read_type
  complete_type types n r t = rw (on_token (is_type types) _ _ n r t) exact

  complete_principal : Complete Z (Without (is kinds.is_word)) read_principal (Typed principal_types)
  unfolding read_principal
  complete_principal = record { at = go }
    where
      go : {i r : List Lexeme} {p : Part} → Typed principal_types i r p → Without (is kinds.is_word) r → Nearly Z p r (read_principal i)
      go (grammar.Typed.bare {r = r}) w = rw (on_without (is kinds.is_word) _ _ r w) exact
      go (grammar.Typed.one {x = x} {n = n} {r = r} e t) w = rw (on_token (is kinds.is_word) _ _ x (n ∷ r) (eq-eqb _ _ e)) (complete_type principal_types n r t)

  complete_action : Complete Z (Without (is kinds.in_word)) read_action (ActionRest L)
  unfolding read_action need mapped
  complete_action = record { at = go }
    where
      go : {i r : List Lexeme} {a : Actions} → ActionRest L i r a → Without (is kinds.in_word) r → Nearly Z a r (read_action i)
      go (grammar.ActionRest.bare {r = r}) w = rw (on_without (is kinds.in_word) _ _ r w) exact
      go (grammar.ActionRest.list {x = x} e (begun {i = i} {x = y} k h)) w =
          rw (on_token (is kinds.in_word) _ _ x (y ∷ i) (eq-eqb _ _ e), on_token (is kinds.left_square) _ _ y i (eq-eqb _ _ k)) (nearly_bind _ (complete_list (is kinds.string) (λ x e. rw e) h) exact)

  complete_resource : Complete Z (λ r. Without (is kinds.is_word) r × Without (is kinds.equal) r) read_resource (ResourceRest L)
  unfolding read_resource is_text_of
  complete_resource = record { at = go }
    where
      go : {i r : List Lexeme} {p : Part} → ResourceRest L i r p → Without (is kinds.is_word) r × Without (is kinds.equal) r → Nearly Z p r (read_resource i)
      go (grammar.ResourceRest.sort (grammar.Typed.bare {r = r})) w = rw (on_without (is kinds.is_word) _ _ r w.0, on_without (is kinds.equal) _ _ r w.1) exact
      go (grammar.ResourceRest.sort (grammar.Typed.one {x = x} {n = n} {r = r} e t)) w = rw (on_token (is kinds.is_word) _ _ x (n ∷ r) (eq-eqb _ _ e)) (complete_type resource_types n r t)
      go (grammar.ResourceRest.string {x = x} {s = s} {r = r} e k l) w =
          rw (on_other (is kinds.is_word) _ _ x (s ∷ r) (rw e), on_token (is kinds.equal) _ _ x (s ∷ r) (eq-eqb _ _ e))
          (nearly_on _ _ _ s r exact (λ u. no_text_there s r l (past_one (is_text s) (eq-eqb s.kind kinds.string k) u)))

  complete_when : Complete Z (Without (is kinds.when_word)) read_when (When L)
  unfolding read_when read_conditions need mapped Without
  complete_when = record { at = go }
    where
      go : {i r : List Lexeme} {c : Option Tree} → When L i r c → Without (is kinds.when_word) r → Nearly Z c r (read_when i)
      go (grammar.When.bare {r = r}) w = rw (on_without (is kinds.when_word) _ _ r w) exact
      go (grammar.When.braces {x = x} e (begun {i = i} {x = y} k h)) w =
          rw (on_token (is kinds.when_word) _ _ x (y ∷ i) (eq-eqb _ _ e), on_token (is kinds.left_brace) _ _ y i (eq-eqb _ _ k))
          (nearly_bind _ (complete_before (complete_disjunction (shrinks_condition L L.levels) (complete_condition 31 L.levels (λ l. l))) kinds.right_brace (closes kinds.right_brace (((refl, refl, refl, refl), refl), refl)) h) exact)

  complete_policy : (permits : Bool) {i r : List Lexeme} {p : Policy} → PolicyRest L permits i r p → Nearly Z p r (read_policy permits i)
  unfolding read_policy need Without
  complete_policy permits (grammar.PolicyRest.rest (begun {x = u} k₁ (begun {x = v} k₂ h₁)) (begun {x = w} k₃ h₂) (begun {x = z} k₄ h₃) h₄) =
      rw (on_token (is kinds.left_round) _ _ u _ (eq-eqb _ _ k₁), on_token (is kinds.principal_word) _ _ v _ (eq-eqb _ _ k₂))
      (nearly_bind _ (complete_before complete_principal kinds.comma (λ x m e. rw e) h₁)
      (rw (on_token (is kinds.action_word) _ _ w _ (eq-eqb _ _ k₃))
      (nearly_bind _ (complete_before complete_action kinds.comma (λ x m e. rw e) h₂)
      (rw (on_token (is kinds.resource_word) _ _ z _ (eq-eqb _ _ k₄))
      (nearly_bind _ (complete_before complete_resource kinds.right_round (λ x m e. (rw e, rw e)) h₃)
      (nearly_bind _ (complete_before complete_when kinds.semicolon (λ x m e. rw e) h₄) exact))))))

  complete_policies : {ps qs : List Policy} {i : List Lexeme} → Policies L ps i qs → (n : ℕ) → length i ≤ n → Nearly Z qs [] (bind (up_to n may_begin read_next_policy ps i) at_end)
  unfolding up_to bind at_end on choose may_begin read_next_policy mapped refuse_by
  complete_policies grammar.Policies.end zero l = exact
  complete_policies grammar.Policies.end (suc n) l = exact
  complete_policies (policy e c h k) zero l = absurd (omega arith)
  complete_policies {ps = ps} {qs = qs} (policy {x = x} {i = i} {m = m} {p = p} e c h k) (suc n) l =
      let s = (shrinks_policy L _).at h in
      rw e (go (ltb (length ps) most_policies) refl (complete_policy (is kinds.permit_word x) h) (complete_policies k n (omega arith)))
    where
      turn : {y : Answer Policy} → Nearly Z p m y → Nearly Z qs [] (bind (up_to n may_begin read_next_policy (ps ++ p ∷ []) m) at_end)
          → Nearly Z qs [] (bind (bind (bind y (λ a. took (ps ++ a ∷ []))) (up_to n may_begin read_next_policy)) at_end)
      turn exact k = k
      turn (excused z) k = excused z

      go : (o : Bool) → ltb (length ps) most_policies ≡ o → Nearly Z p m (read_policy (is kinds.permit_word x) i) → Nearly Z qs [] (bind (up_to n may_begin read_next_policy (ps ++ p ∷ []) m) at_end)
          → Nearly Z qs [] (bind (choose o (λ _. bind (read_next_policy ps x i) (up_to n may_begin read_next_policy)) (λ _. took ps (x ∷ i))) at_end)
      go true u h' k' = turn h' k'
      go false u h' k' = excused (no_policy_there ps x i e c u)

  pub complete_text : (i : List Lexeme) {ps : List Policy} → RuleText L i ps → Nearly Z ps [] (read_text i)
  unfolding read_text onwards
  complete_text i h = complete_policies h (length i) (omega arith)
