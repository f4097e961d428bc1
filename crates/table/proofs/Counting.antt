-- No more entries than tokens, and no more tokens than bytes: so a text's policies have no more entries than the text has bytes. Assumes nothing.
use mathlib.Core.Path.{◌≡◌, refl, ◌∙◌, sym, ap}
use mathlib.Core.Bool.{Bool, true, false}
use mathlib.Core.List.{List, [], ◌∷◌, ◌++◌, append-nil, append_assoc}
use mathlib.Core.Option.{Option, some}
use Prim.Native.Nat.{ℕ, zero, suc, ◌+◌, ◌≤◌}
use native.Mathlib.Nat.{add-zero}
use native.Mathlib.Omega.{arith}
use lib.Dec.{eqb}
use lib.ListN.{length, length-append, length-map}
use borrow.Author.Tests.{eqb-false}
use Rattle.tokens.specs.Kinds as kinds
use Rattle.tokens.specs.Tokens.{token_at}
use Rattle.tokens.proofs.ReadLaws.{reads}
use Rattle.reading.specs.Lexemes.{Lexeme, lexeme, is, choose, tokens_after, tokens_up_to, tokens_from, tokens_of}
use Rattle.reading.specs.Reads.{Reading, Chain, Chain.alone, Chain.more, Onto.onto, Before.ended, After.begun}
use Rattle.grammar.specs.Policies.{root_byte, Literal, Operand, Tree, constant, both, either, Part, Actions, Policy}
use Rattle.grammar.specs.Rules.{literal_of, which_of}
use Rattle.grammar.specs.Grammar.{Limits, Attribute, rooted, AnOperand, given, Element, element, Listing, Simple, comparison, likeness, listed, held, call, having, Joined, Conjunction, Disjunction, ConditionOver, simple, negation, bracketed, conditional, Condition, Typed, ResourceRest, ActionRest, When, PolicyRest, Policies, RuleText}
use Rattle.grammar.specs.Grammar as grammar
use Rattle.grammar.specs.Grammar.{sizes}
use Rattle.grammar.specs.Parser.{read_text}
use Rattle.grammar.specs.declared.Version.{Version}
use Rattle.grammar.specs.Promise.{TokensAcceptedExactly}
use Rattle.grammar.proofs.Exactly.{tokens_accepted_exactly}
use Rattle.grammar.proofs.Framing.{shrinks_names}
use Rattle.reading.specs.Reader.{took}
use Rattle.table.specs.declared.Entry.{Entry}
use Rattle.table.specs.Entries.{entry, placed, which_kind, operand_entry, literal_entry, literal_entries, joint, tree_entries, part_entry, principal_entry, action_entries, condition_entries, effect_kind, target_entries, policy_entries, policies_entries}

-- the entries of policies and of one more
pub policies_append : (version : Version) (e : ℕ) (ps : List Policy) (p : Policy)
    → policies_entries version e (ps ++ p ∷ []) ≡ policies_entries version e ps ++ policy_entries version (e + length (policies_entries version e ps)) p
unfolding policies_entries
policies_append version e [] p = append-nil (policy_entries version e p) ∙ ap (λ (i : ℕ). policy_entries version i p) (sym (add-zero e))
policies_append version e (q ∷ ps) p =
    let a = policy_entries version e q in let f = e + length a in let b = policies_entries version f ps in
    let place : f + length b ≡ e + length (a ++ b) = (let n = length-append a b in omega arith) in
    ap (λ (l : List Entry). a ++ l) (policies_append version f ps p ∙ ap (λ (i : ℕ). b ++ policy_entries version i p) place)
    ∙ sym (append_assoc a b (policy_entries version (e + length (a ++ b)) p))

-- what R reads has a token for each of its entries
record Pays {A : Type 0} (es : ℕ → A → List Entry) (R : Reading A) : Type 0 where
  at : {i r : List Lexeme} {a : A} → R i r a → (e : ℕ) → length (es e a) + length r ≤ length i

constant_one : (e : ℕ) (b : Bool) → length (tree_entries e (constant b)) ≡ 1
unfolding tree_entries
constant_one e true = refl
constant_one e false = refl

module _ (L : Limits) where
  attribute_tokens : {i r : List Lexeme} {a : Operand} → Attribute L i r a → 3 + length r ≤ length i
  attribute_tokens (rooted t k j) = let y = (shrinks_names L _).at j in omega arith

  operand_tokens : {i r : List Lexeme} {a : Operand} → AnOperand L i r a → 1 + length r ≤ length i
  operand_tokens (given h) = let x = attribute_tokens h in omega arith
  operand_tokens (grammar.AnOperand.literally t l) = omega arith

  element_tokens : {sort : Lexeme → Bool} {ls ms : List Literal} {i r : List Lexeme} → Element L sort ls i r ms → length ms + length r ≤ length ls + length i
  element_tokens {ls = ls} (element {x = x} t k l) = let y = length-append ls (literal_of x ∷ []) in omega arith

  list_tokens : {sort : Lexeme → Bool} {i r : List Lexeme} {ls : List Literal} → Chain (λ ls. is kinds.comma) (Element L sort []) (λ ls comma. Element L sort ls) i r ls
      → length ls + length r ≤ length i
  list_tokens (alone h) = let x = element_tokens h in omega arith
  list_tokens (more j e h) = let x = list_tokens j in let y = element_tokens h in omega arith

  listing_tokens : {sort : Lexeme → Bool} {i r : List Lexeme} {ls : List Literal} → Listing L sort i r ls → length ls + 2 + length r ≤ length i
  listing_tokens (begun k (ended h e)) = let x = list_tokens h in omega arith

  entries_length : (ls : List Literal) → length (literal_entries ls) ≡ length ls
  entries_length ls = length-map ls literal_entry

  simple_pays : {i r : List Lexeme} {t : Tree} → Simple L i r t → (e : ℕ) → length (tree_entries e t) + length r ≤ length i
  unfolding tree_entries
  simple_pays (grammar.Simple.bare {x = x} t) e = let n = constant_one e (is kinds.true_word x) in omega arith
  simple_pays (comparison h t k) e = let x = operand_tokens h in let y = operand_tokens k in omega arith
  simple_pays (likeness h t k l f) e = let x = operand_tokens h in omega arith
  simple_pays (listed {a = a} {ls = ls} h k l) e =
      let x = operand_tokens h in let y = listing_tokens l in let z = entries_length ls in let n = length-append (operand_entry a ∷ literal_entries ls) (entry 20 (length ls) 0 ∷ []) in omega arith
  simple_pays (held h k l) e = let x = operand_tokens h in let y = attribute_tokens l in omega arith
  simple_pays (call {w = w} {root = root} {p = p} {ls = ls} h d t o (ended l k)) e =
      let x = attribute_tokens h in let y = listing_tokens l in let z = entries_length ls in
      let n = length-append (placed (root_byte root) p ∷ literal_entries ls) (entry (which_kind (which_of w)) (length ls) 0 ∷ []) in omega arith
  simple_pays (having t k j) e = let y = (shrinks_names L _).at j in omega arith

  joined_pays : (sep kind : ℕ) (join : Tree → Tree → Tree) {R : Reading Tree} → ((e : ℕ) (a b : Tree) → tree_entries e (join a b) ≡ joint kind e (tree_entries e a) (λ f. tree_entries f b))
      → Pays tree_entries R → Pays tree_entries (Joined sep join R)
  joined_pays sep kind join {R} shape s = record { at = go }
    where
      go : {i r : List Lexeme} {t : Tree} → Joined sep join R i r t → (e : ℕ) → length (tree_entries e t) + length r ≤ length i
      go (alone h) e = s.at h e
      go (more {a = a} j k (onto {a = b} h)) e =
          let left = tree_entries e a in
          let right = tree_entries (e + length left) b in
          let x = go j e in let y = s.at h (e + length left) in
          let n : length (tree_entries e (join a b)) ≡ length left + length right + 1 = ap length (shape e a b) ∙ length-append (left ++ right) _ ∙ ap (λ (m : ℕ). m + 1) (length-append left right) in
          omega arith

  conjunction_pays : {R : Reading Tree} → Pays tree_entries R → Pays tree_entries (Conjunction R)
  unfolding tree_entries
  conjunction_pays s = joined_pays kinds.and 26 both (λ e a b. refl) s

  disjunction_pays : {R : Reading Tree} → Pays tree_entries R → Pays tree_entries (Disjunction R)
  unfolding tree_entries
  disjunction_pays s = joined_pays kinds.or 27 either (λ e a b. refl) (conjunction_pays s)

  form_at : {R : Reading Tree} → Pays tree_entries R → {i r : List Lexeme} {t : Tree} → ConditionOver L R i r t → (e : ℕ) → length (tree_entries e t) + length r ≤ length i
  unfolding tree_entries
  form_at s (simple h) e = simple_pays h e
  form_at s (negation {t = t} k h) e = let x = s.at h e in let n = length-append (tree_entries e t) (entry 24 0 0 ∷ []) in omega arith
  form_at s (bracketed {t = t} k (ended h l)) e = let x = (disjunction_pays s).at h e in let n = length-append (tree_entries e t) (entry 25 0 0 ∷ []) in omega arith
  form_at s (conditional {c = c} {a} {b} k (ended h₁ e₁) (ended h₂ e₂) h₃) e =
      let f = e + length (tree_entries e c) in
      let g = f + length (tree_entries f a) in
      let x = s.at h₁ e in let y = s.at h₂ f in let z = s.at h₃ g in
      let n = length-append ((tree_entries e c ++ tree_entries f a) ++ tree_entries g b) (entry 28 f g ∷ []) in
      let m = length-append (tree_entries e c ++ tree_entries f a) (tree_entries g b) in
      let l = length-append (tree_entries e c) (tree_entries f a) in
      omega arith

  condition_pays : (d : ℕ) → Pays tree_entries (Condition L d)
  condition_pays zero = record { at = form_at (record { at = λ h. elim h [ ] }) }
  condition_pays (suc d) = record { at = form_at (condition_pays d) }

  -- ---- policies

  typed_tokens : {types : List (List ℕ)} {i r : List Lexeme} {p : Part} → Typed types i r p → length r ≤ length i
  typed_tokens grammar.Typed.bare = omega arith
  typed_tokens (grammar.Typed.one k t) = omega arith

  resource_tokens : {i r : List Lexeme} {p : Part} → ResourceRest L i r p → length r ≤ length i
  resource_tokens (grammar.ResourceRest.sort h) = typed_tokens h
  resource_tokens (grammar.ResourceRest.string k e l) = omega arith

  action_tokens : {i r : List Lexeme} {a : Actions} → ActionRest L i r a → length (action_entries a) + length r ≤ length i + 1
  unfolding action_entries
  action_tokens grammar.ActionRest.bare = omega arith
  action_tokens (grammar.ActionRest.list {ls = ls} k h) =
      let x = listing_tokens h in let z = entries_length ls in let n = length-append (literal_entries ls) (entry 33 (length ls) 0 ∷ []) in omega arith

  when_tokens : {i r : List Lexeme} {c : Option Tree} → When L i r c → (e : ℕ) → length (condition_entries e c) + length r ≤ length i
  unfolding condition_entries
  when_tokens grammar.When.bare e = omega arith
  when_tokens (grammar.When.braces k (begun l (ended h m))) e = let x = (disjunction_pays (condition_pays L.levels)).at h e in omega arith

  policy_tokens : {permits : Bool} {i r : List Lexeme} {p : Policy} → PolicyRest L permits i r p
      → (version : Version) (e : ℕ) → length (policy_entries version e p) + length r ≤ length i
  unfolding policy_entries target_entries
  policy_tokens {permits = permits} (grammar.PolicyRest.rest {p = p} {a} {s} {c} (begun k₁ (begun k₂ (ended h₁ e₁))) (begun k₃ (ended h₂ e₂)) (begun k₄ (ended h₃ e₃)) (ended h₄ e₄)) version e =
      let target = (principal_entry version p ∷ action_entries a) ++ part_entry s ∷ [] in
      let f = e + length target in
      let u = typed_tokens h₁ in let v = action_tokens h₂ in let w = resource_tokens h₃ in let z = when_tokens h₄ f in
      let n = length-append (principal_entry version p ∷ action_entries a) (part_entry s ∷ []) in
      let m = length-append target (condition_entries f c) in
      let l = length-append (target ++ condition_entries f c) (entry (effect_kind permits) e f ∷ []) in
      omega arith

  policies_tokens : (version : Version) {ps qs : List Policy} {i : List Lexeme} → Policies L ps i qs
      → length (policies_entries version 0 qs) ≤ length (policies_entries version 0 ps) + length i
  policies_tokens version grammar.Policies.end = omega arith
  policies_tokens version {ps = ps} (grammar.Policies.policy {p = p} t k h j) =
      let x = policies_tokens version j in let f = length (policies_entries version 0 ps) in let y = policy_tokens h version (0 + f) in
      let n = ap length (policies_append version 0 ps p) in let m = length-append (policies_entries version 0 ps) (policy_entries version (0 + f) p) in
      omega arith

  -- a text's policies have no more entries than the text has tokens
  no_more_than_tokens : (version : Version) {i : List Lexeme} {ps : List Policy} → RuleText L i ps → length (policies_entries version 0 ps) ≤ length i
  unfolding policies_entries
  no_more_than_tokens version h = let x = policies_tokens version h in omega arith

-- ---- tokens and bytes

module _ (text : List ℕ) where
  tokens_bytes : (n at : ℕ) → at ≤ length text → length (tokens_up_to n text at) + at ≤ length text
  unfolding tokens_up_to tokens_after choose
  tokens_bytes zero at h = omega arith
  tokens_bytes (suc n) at h = go (eqb (token_at text at).kind 0) refl (tokens_bytes n (token_at text at).end (reads text at h).high)
    where
      go : (b : Bool) → eqb (token_at text at).kind 0 ≡ b → length (tokens_up_to n text (token_at text at).end) + (token_at text at).end ≤ length text
          → length (choose b (λ _. []) (λ _. lexeme text (token_at text at) ∷ tokens_up_to n text (token_at text at).end)) + at ≤ length text
      go true e x = omega arith
      go false e x = let r = reads text at h in let s = r.some (eqb-false _ _ e) in let l = r.low in omega arith

  -- no text has more tokens than bytes
  no_more_than_bytes : length (tokens_of text) ≤ length text
  unfolding tokens_from
  no_more_than_bytes = let x = tokens_bytes (suc (length text)) 0 (omega arith) in omega arith

-- no more entries than bytes
pub entries_few : (version : Version) (text : List ℕ) (ps : List Policy) → read_text (tokens_of text) ≡ took ps []
    → length (policies_entries version 0 ps) ≤ length text
unfolding TokensAcceptedExactly
entries_few version text ps e = let x = no_more_than_tokens sizes version ((tokens_accepted_exactly (tokens_of text) ps).0 e) in let y = no_more_than_bytes text in omega arith
