-- Each loop of the reader of rule texts with no bound on its turns, and that each turn takes a token: what a proof of code cites. Assumes nothing.
use mathlib.Core.Path.{◌≡◌}
use mathlib.Core.Bool.{Bool}
use mathlib.Core.List.{List}
use Prim.Native.Nat.{ℕ, ◌<◌}
use native.Mathlib.Omega.{arith}
use lib.ListN.{length}
use Rattle.tokens.specs.Kinds as kinds
use Rattle.reading.specs.Lexemes.{Lexeme, is}
use Rattle.reading.specs.Reader.{took, Reader, ten, bind, on, mapped, onwards}
use Rattle.reading.proofs.Readers.{Goes, good, goes_took, goes_on_lem, goes_refuse_by, Shrinks, shrinks_onto, Takes, takes, onwards_step}
use Rattle.grammar.specs.Policies.{Root, Literal, Tree, both, either, Policy}
use Rattle.grammar.specs.Grammar.{sizes}
use Rattle.grammar.specs.Parser.{Way, uncalled, calling, no_name, no_element, goes_on, read_next_name, read_element, read_conjunction, read_condition, may_begin, read_next_policy}
use Rattle.grammar.proofs.Begun.{Family, Viable, viable_mapped}
use Rattle.grammar.proofs.Framing.{shrinks_conjunction, shrinks_condition, shrinks_policy, framed_condition}
use Rattle.grammar.proofs.Viable.{viable_condition, viable_conjunction, viable_policy}

-- ---- what a loop repeats takes a token

pub way_takes : (exit : Lexeme → Bool) (root : Root) (w : Way) → Takes (read_next_name exit root w)
unfolding read_next_name
way_takes exit root w = record { at = λ i r a e. goes_took (rw e at (go w i)) }
  where
    go : (w : Way) (i : List Lexeme) → Goes (λ a r. length r < length i) (λ n r. Unit {0}) (read_next_name exit root w i)
    go (uncalled p) i =
        goes_on_lem _ _ _ _ _ i (λ x r e t. rw e (good {r = r} (omega arith))) (goes_on_lem _ _ _ _ _ i (λ x r e t. rw e (good {r = r} (omega arith))) (goes_refuse_by (no_name root) i (λ e. tt) (λ x r e. tt)))
    go (calling p w) i = goes_refuse_by ten i (λ e. tt) (λ x r e. tt)

pub element_takes : (sort : Lexeme → Bool) (ls : List Literal) → Takes (read_element sort ls)
unfolding read_element
element_takes sort ls = record { at = λ i r a e. goes_took (rw e at (go i)) }
  where
    go : (i : List Lexeme) → Goes (λ a r. length r < length i) (λ n r. Unit {0}) (read_element sort ls i)
    go i = goes_on_lem _ _ _ _ _ i (λ x r e t. rw e (good {r = r} (omega arith))) (goes_refuse_by (no_element sort ls) i (λ e. tt) (λ x r e. tt))

takes_mapped : {A B : Type 0} (f : A → B) {p : Reader A} {R : Family A} → Viable 0 p R → Shrinks (R sizes) → Takes (mapped f p)
takes_mapped f v s = takes (viable_mapped v f).at (shrinks_onto s)

pub condition_takes : (d : ℕ) (t : Tree) → Takes (mapped (both t) (read_condition d))
condition_takes d t = takes_mapped (both t) (viable_condition 0 d d (omega arith)) (shrinks_condition sizes d)

pub conjunction_takes : (d : ℕ) (t : Tree) → Takes (mapped (either t) (read_conjunction (read_condition d)))
conjunction_takes d t = takes_mapped (either t) (viable_conjunction 0 (framed_condition d) (viable_condition 0 d d (omega arith))) (shrinks_conjunction sizes (shrinks_condition sizes d))

pub policy_takes : (ps : List Policy) (x : Lexeme) → Takes (read_next_policy ps x)
unfolding read_next_policy
policy_takes ps x = takes_mapped _ (viable_policy 0 (is kinds.permit_word x)) (shrinks_policy sizes (is kinds.permit_word x))

-- ---- the loops

-- a path, of which w was read
pub way_step : (exit : Lexeme → Bool) (root : Root) (w : Way) (i : List Lexeme)
    → onwards goes_on (λ w x. read_next_name exit root w) w i
    ≡ on (goes_on w) (λ x m. bind (read_next_name exit root w m) (onwards goes_on (λ w x. read_next_name exit root w))) (took w) i
way_step exit root w i = onwards_step goes_on (λ w x. read_next_name exit root w) (λ w x. way_takes exit root w) w i

-- a list, of which ls was read
pub list_step : (sort : Lexeme → Bool) (ls : List Literal) (i : List Lexeme)
    → onwards (λ ls. is kinds.comma) (λ ls comma. read_element sort ls) ls i
    ≡ on (is kinds.comma) (λ _ m. bind (read_element sort ls m) (onwards (λ ls. is kinds.comma) (λ ls comma. read_element sort ls))) (took ls) i
list_step sort ls i = onwards_step (λ ls. is kinds.comma) (λ ls comma. read_element sort ls) (λ ls x. element_takes sort ls) ls i

-- a conjunction, of which t was read
pub conjunction_step : (d : ℕ) (t : Tree) (i : List Lexeme)
    → onwards (λ a. is kinds.and) (λ a x. mapped (both a) (read_condition d)) t i
    ≡ on (is kinds.and) (λ _ m. bind (mapped (both t) (read_condition d) m) (onwards (λ a. is kinds.and) (λ a x. mapped (both a) (read_condition d)))) (took t) i
conjunction_step d t i = onwards_step (λ a. is kinds.and) (λ a x. mapped (both a) (read_condition d)) (λ a x. condition_takes d a) t i

-- a disjunction, of which t was read
pub disjunction_step : (d : ℕ) (t : Tree) (i : List Lexeme)
    → onwards (λ a. is kinds.or) (λ a x. mapped (either a) (read_conjunction (read_condition d))) t i
    ≡ on (is kinds.or) (λ _ m. bind (mapped (either t) (read_conjunction (read_condition d)) m) (onwards (λ a. is kinds.or) (λ a x. mapped (either a) (read_conjunction (read_condition d))))) (took t) i
disjunction_step d t i =
    onwards_step (λ a. is kinds.or) (λ a x. mapped (either a) (read_conjunction (read_condition d))) (λ a x. conjunction_takes d a) t i

-- a text, of which the policies ps were read
pub policies_step : (ps : List Policy) (i : List Lexeme)
    → onwards may_begin read_next_policy ps i ≡ on (may_begin ps) (λ x m. bind (read_next_policy ps x m) (onwards may_begin read_next_policy)) (took ps) i
policies_step ps i = onwards_step may_begin read_next_policy policy_takes ps i
