-- Where the reader of rule texts refuses, no rule text goes on with the refused token. Assumes nothing.
use mathlib.Core.Path.{◌≡◌, refl}
use mathlib.Core.Bool.{Bool}
use mathlib.Core.List.{List, [], ◌∷◌, ◌++◌}
use Prim.Native.Nat.{ℕ, zero, suc}
use Rattle.reading.specs.Lexemes.{Lexeme}
use Rattle.reading.specs.Reader.{took, refuse, Reader, numbered, refuse_by, mapped}
use Rattle.reading.proofs.Readers.{Takes}
use Rattle.reading.proofs.Complete.{Nearly, excused}
use Rattle.reading.proofs.Local.{Alike, ends, same, Near, near_took, near_refuse_by, near_bind, near_on, near_need, near_mapped, near_before, near_onwards, near_chain}
use Rattle.grammar.specs.Policies.{Span, Root, Literal, text, number, truth, Operand, attribute, literal, Which, Tree, both, either, Policy}
use Rattle.grammar.specs.Grammar.{Limits, RuleText}
use Rattle.grammar.specs.Parser.{Way, uncalled, calling, no_policy, read_first_name, read_next_name, read_way, read_path, read_attribute, read_operand, read_element, read_list, read_bare, read_in, read_pattern, read_operator, read_call, read_rest, read_rooted, read_simple, read_joined, read_conjunction, read_disjunction, read_negated, read_bracketed, read_conditional, read_deeper, read_condition, read_conditions, read_type, read_principal, read_action, read_resource, read_when, read_policy, read_next_policy, at_end, read_text}
use Rattle.grammar.proofs.Steps.{way_takes, element_takes, condition_takes, conjunction_takes, policy_takes}
use Rattle.grammar.proofs.Completeness.{Excuses, complete_text}

-- The reader p goes by what it took and one token more.
abbrev Nears : {A : Type 0} → Reader A → Type 0
Nears p = (i : List Lexeme) → Near p i

near_first : (root : Root) → Nears (read_first_name root)
unfolding read_first_name
near_first root i = near_on _ _ _ i (λ x r e. near_took _ r) (near_refuse_by _ i)

near_next : (exit : Lexeme → Bool) (root : Root) (w : Way) → Nears (read_next_name exit root w)
unfolding read_next_name
near_next exit root (uncalled p) i = near_on _ _ _ i (λ x r e. near_took _ r) (near_on _ _ _ i (λ x r e. near_took _ r) (near_refuse_by _ i))
near_next exit root (calling p w) i = near_refuse_by _ i

pub near_way : (exit : Lexeme → Bool) (root : Root) → Nears (read_way exit root)
unfolding read_way
near_way exit root i = near_chain _ _ (λ w x. way_takes exit root w) (λ w x. near_next exit root w) _ (near_first root) i

pub near_path : (root : Root) → Nears (read_path root)
unfolding read_path
near_path root i = near_bind _ _ i (near_way _ root i) (λ w r e. near_took _ r)

near_attribute : {A : Type 0} (root : Root) (f : Root → Span → A) → Nears (read_attribute root f)
unfolding read_attribute
near_attribute root f i = near_need _ _ i (λ m. near_bind _ _ m (near_path root m) (λ p r e. near_took _ r))

near_operand : Nears read_operand
unfolding read_operand
near_operand i = near_on _ _ _ i (λ x r e. near_took _ r) (near_on _ _ _ i (λ x r e. near_attribute _ _ r) (near_refuse_by _ i))

near_element : (sort : Lexeme → Bool) (ls : List Literal) → Nears (read_element sort ls)
unfolding read_element
near_element sort ls i = near_on _ _ _ i (λ x r e. near_took _ r) (near_refuse_by _ i)

near_list : (sort : Lexeme → Bool) → Nears (read_list sort)
unfolding read_list
near_list sort i = near_before _ _ i (near_chain _ _ (λ ls x. element_takes sort ls) (λ ls x. near_element sort ls) _ (near_element sort []) i)

near_bare : (a : Operand) → Nears (read_bare a)
unfolding read_bare
near_bare (literal (truth b)) i = near_took _ i
near_bare (literal (text s)) i = near_refuse_by _ i
near_bare (literal (number s)) i = near_refuse_by _ i
near_bare (attribute root p) i = near_refuse_by _ i

pub near_operator : (a : Operand) → Nears (read_operator a)
unfolding read_operator read_pattern read_in
near_operator a i =
    near_on _ _ _ i (λ x r e. near_mapped _ _ r (near_operand r))
    (near_on _ _ _ i (λ x r e. near_on _ _ _ r (λ y m e'. near_took _ m) (near_refuse_by _ r))
    (near_on _ _ _ i
    (λ x r e. near_on _ _ _ r (λ y m e'. near_mapped _ _ m (near_list _ m)) (near_on _ _ _ r (λ y m e'. near_attribute _ _ m) (near_refuse_by _ r)))
    (near_bare a i)))

pub near_call : (w : Which) (root : Root) (p : Span) → Nears (read_call w root p)
unfolding read_call
near_call w root p i = near_need _ _ i (λ m. near_need _ _ m (λ n. near_before _ _ n (near_mapped _ _ n (near_list _ n))))

near_rest : (root : Root) (w : Way) → Nears (read_rest root w)
unfolding read_rest
near_rest root (uncalled p) i = near_operator _ i
near_rest root (calling p w) i = near_call _ _ _ i

near_rooted : (root : Root) → Nears (read_rooted root)
unfolding read_rooted
near_rooted root i =
    near_on _ _ _ i (λ x m e. near_bind _ _ m (near_way _ root m) (λ w r e'. near_rest root w r)) (near_need _ _ i (λ m. near_mapped _ _ m (near_path root m)))

near_simple : {deeper : Reader Tree} → Nears deeper → Nears (read_simple deeper)
unfolding read_simple
near_simple n i = near_on _ _ _ i (λ x r e. near_operator _ r) (near_on _ _ _ i (λ x r e. near_rooted _ r) (n i))

module _ {p : Reader Tree} (t : (a : Tree) → Takes (mapped (both a) p)) (u : (a : Tree) → Takes (mapped (either a) (read_conjunction p))) (n : Nears p) where
  near_conjunction : Nears (read_conjunction p)
  unfolding read_conjunction read_joined
  near_conjunction i = near_chain _ _ (λ a x. t a) (λ a x j. near_mapped _ _ j (n j)) _ n i

  near_disjunction : Nears (read_disjunction p)
  unfolding read_disjunction read_joined
  near_disjunction i = near_chain _ _ (λ a x. u a) (λ a x j. near_mapped _ _ j (near_conjunction j)) _ near_conjunction i

  near_deeper : Nears (read_deeper p)
  unfolding read_deeper read_negated read_bracketed read_conditional
  near_deeper i =
      near_on _ _ _ i (λ x r e. near_mapped _ _ r (n r))
      (near_on _ _ _ i (λ x r e. near_mapped _ _ r (near_before _ _ r (near_disjunction r)))
      (near_on _ _ _ i
      (λ x r e. near_bind _ _ r (near_before _ _ r (n r)) (λ c m e'. near_bind _ _ m (near_before _ _ m (n m)) (λ a o e''. near_mapped _ _ o (n o))))
      (near_refuse_by _ i)))

near_condition : (d : ℕ) → Nears (read_condition d)
unfolding read_condition
near_condition zero i = near_simple (λ j. near_refuse_by _ j) i
near_condition (suc d) i = near_simple (near_deeper (condition_takes d) (conjunction_takes d) (near_condition d)) i

near_type : (types : List (List ℕ)) → Nears (read_type types)
unfolding read_type
near_type types i = near_on _ _ _ i (λ x r e. near_took _ r) (near_refuse_by _ i)

near_principal : Nears read_principal
unfolding read_principal
near_principal i = near_on _ _ _ i (λ x r e. near_type _ r) (near_took _ i)

near_action : Nears read_action
unfolding read_action
near_action i = near_on _ _ _ i (λ x r e. near_need _ _ r (λ m. near_mapped _ _ m (near_list _ m))) (near_took _ i)

near_resource : Nears read_resource
unfolding read_resource
near_resource i =
    near_on _ _ _ i (λ x r e. near_type _ r) (near_on _ _ _ i (λ x r e. near_on _ _ _ r (λ y m e'. near_took _ m) (near_refuse_by _ r)) (near_took _ i))

near_when : Nears read_when
unfolding read_when read_conditions
near_when i =
    near_on _ _ _ i
    (λ x r e. near_need _ _ r (λ m. near_mapped _ _ m (near_before _ _ m (near_disjunction (condition_takes 31) (conjunction_takes 31) (near_condition 31) m))))
    (near_took _ i)

near_policy : (permits : Bool) → Nears (read_policy permits)
unfolding read_policy
near_policy permits i =
    near_need _ _ i (λ i₁. near_need _ _ i₁ (λ i₂. near_bind _ _ i₂ (near_before _ _ i₂ (near_principal i₂)) (λ p j e₁.
    near_need _ _ j (λ j₁. near_bind _ _ j₁ (near_before _ _ j₁ (near_action j₁)) (λ a l e₂.
    near_need _ _ l (λ l₁. near_bind _ _ l₁ (near_before _ _ l₁ (near_resource l₁)) (λ s m e₃.
    near_bind _ _ m (near_before _ _ m (near_when m)) (λ c r e₄. near_took _ r))))))))

near_next_policy : (ps : List Policy) (x : Lexeme) → Nears (read_next_policy ps x)
unfolding read_next_policy
near_next_policy ps x i = near_mapped _ _ i (near_policy _ i)

near_at_end : (ps : List Policy) → Nears (at_end ps)
unfolding at_end refuse_by
near_at_end ps [] = record { before = []; split = refl; again = λ s h. go s h }
  where
    go : (s : List Lexeme) → Alike [] s → at_end ps s ≡ took ps s
    go [] ends = refl
    go (_ ∷ _) h = elim h [ ]
near_at_end ps (x ∷ r) = record { before = []; split = refl; again = λ s h. go s h }
  where
    go : (s : List Lexeme) → Alike (x ∷ r) s → at_end ps s ≡ refuse (numbered no_policy x) s
    go (y ∷ s) same = refl
    go [] h = elim h [ ]

pub near_text : Nears read_text
unfolding read_text
near_text i = near_bind _ _ i (near_onwards _ _ policy_takes near_next_policy [] i) (λ ps r e. near_at_end ps r)

excuse : {A : Type 0} {Z : ℕ → List Lexeme → Type 0} {a : A} {r s : List Lexeme} {n : ℕ} → Nearly Z a r (refuse n s) → Z n s
excuse (excused z) = z

-- i is refused from r on: what L reads, with s behind what stood before r, is refused at s too, so L asks to excuse that.
pub refused_again : {L : Limits} {Z : ℕ → List Lexeme → Type 0} → Excuses L Z → (i r : List Lexeme) (n : ℕ) → read_text i ≡ refuse n r
    → (s : List Lexeme) (ps : List Policy) → Alike r s → RuleText L ((near_text i).before ++ s) ps → Z n s
refused_again ok i r n e s ps h c =
    let again = rw e at ((near_text i).again s (rw e h)) in
    excuse (rw again at (complete_text ok _ c))
