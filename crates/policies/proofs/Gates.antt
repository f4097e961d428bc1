-- The parts of a policy in order. Assumes nothing.
use mathlib.Core.Path.{◌≡◌, refl, sym}
use mathlib.Core.Bool.{Bool}
use mathlib.Core.List.{List, [], ◌∷◌, ◌++◌}
use mathlib.Core.Option.{Option}
use Prim.Native.Nat.{ℕ, ◌+◌}
use lib.ListN.{length}
use Rattle.tokens.specs.Kinds as kinds
use Rattle.reading.specs.Lexemes.{Lexeme}
use Rattle.reading.specs.Reader as reader
use Rattle.reading.specs.Reader.{Reader, took, refuse, bind, need, before}
use Rattle.reading.proofs.Readers.{need_bind}
use Rattle.grammar.specs.Policies.{Part, Actions, Tree, Policy}
use Rattle.grammar.specs.Parser.{read_principal, read_action, read_resource, read_when, read_policy}
use Rattle.grammar.specs.declared.Version.{Version}
use Rattle.table.specs.declared.Entry.{Entry}
use Rattle.table.specs.Entries.{entry, part_entry, principal_entry, action_entries, condition_entries, effect_kind, target_entries, policy_entries}

-- `f` of what is read before a token that must stand
pub before_then : {A B : Type 0} (k : ℕ) (p : Reader A) (f : A → B) (i : List Lexeme) → bind (before k p i) (λ v. took (f v)) ≡ bind (p i) (λ v. need k (took (f v)))
unfolding before bind
before_then {A} k p f i = go (p i)
  where
    go : (a : reader.Answer A) → bind (bind a (λ v. need k (took v))) (λ v. took (f v)) ≡ bind a (λ v. need k (took (f v)))
    go (took v j) = sym (need_bind k (took (f v)) (took v) (λ x. took (f x)) (λ m. refl) j)
    go (refuse n r) = refl

-- a policy, and what reads its four parts behind its effect
abbrev pub policy_with : Bool → Part → Actions → Part → Option Tree → Policy
policy_with permits p a s c = record { permits = permits; principal = p; action = a; resource = s; condition = c }

abbrev pub first_part : Reader Part
first_part = need kinds.left_round (need kinds.principal_word (before kinds.comma read_principal))

abbrev pub second_part : Reader Actions
second_part = need kinds.action_word (before kinds.comma read_action)

abbrev pub third_part : Reader Part
third_part = need kinds.resource_word (before kinds.right_round read_resource)

abbrev pub last_part : Reader (Option Tree)
last_part = before kinds.semicolon read_when

-- what is read from a part's end on
module _ (permits : Bool) where
  abbrev pub after_third : Part → Actions → Part → Reader Policy
  after_third p a s l = bind (last_part l) (λ c. took (policy_with permits p a s c))

  abbrev pub after_second : Part → Actions → Reader Policy
  after_second p a = need kinds.resource_word (λ k. bind (before kinds.right_round read_resource k) (after_third p a))

  abbrev pub after_first : Part → Reader Policy
  after_first p = need kinds.action_word (λ j. bind (before kinds.comma read_action j) (after_second p))

  pub policy_first : (i : List Lexeme) → read_policy permits i ≡ bind (first_part i) after_first
  unfolding read_policy
  policy_first i =
      need_bind kinds.left_round _ (need kinds.principal_word (before kinds.comma read_principal)) after_first
      (need_bind kinds.principal_word _ (before kinds.comma read_principal) after_first (λ j. refl)) i

  pub policy_second : (p : Part) (i : List Lexeme) → after_first p i ≡ bind (second_part i) (after_second p)
  policy_second p i = need_bind kinds.action_word _ (before kinds.comma read_action) (after_second p) (λ k. refl) i

  pub policy_third : (p : Part) (a : Actions) (i : List Lexeme) → after_second p a i ≡ bind (third_part i) (after_third p a)
  policy_third p a i = need_bind kinds.resource_word _ (before kinds.right_round read_resource) (after_third p a) (λ l. refl) i

  pub policy_last : (p : Part) (a : Actions) (s : Part) (i : List Lexeme) → after_third p a s i ≡ bind (read_when i) (λ c. need kinds.semicolon (took (policy_with permits p a s c)))
  policy_last p a s i = before_then kinds.semicolon read_when (policy_with permits p a s) i

-- the entries of a policy: those of its parts, of which the condition's begin at number n, and its own
abbrev pub target : Version → Part → Actions → Part → List Entry
target version p a s = (principal_entry version p ∷ action_entries a) ++ part_entry s ∷ []

pub policy_put : (version : Version) (permits : Bool) (p : Part) (a : Actions) (s : Part) (c : Option Tree) (e n k : ℕ) → n ≡ e + length (target version p a s) → k ≡ effect_kind permits
    → policy_entries version e (policy_with permits p a s c) ≡ (target version p a s ++ condition_entries n c) ++ entry k e n ∷ []
unfolding policy_entries target_entries
policy_put version permits p a s c e n k m q = rw (m, q)
