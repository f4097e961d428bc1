-- Requests, and which policies' targets match one (document 01, 'Deciding'). Definitions only.
use Rattle.std.specs.Prelude.{Bool, true, false, cond, not, ◌&&◌, List, [], ◌∷◌, ℕ, eqb, leb, ltb, length}
use Prim.Native.Char.{code}
use Rattle.slices.specs.Ascii.{bytes}
use Rattle.slices.specs.Same.{same}
use Rattle.grammar.specs.Policies.{LiteralOf, text, number, truth, PartOf, any, typed, pinned, ActionsOf, every, one_of}
use Rattle.grammar.specs.Rules.{principal_types, resource_types, type_among}
use Rattle.placing.specs.Said.{Word}
use Rattle.meaning.specs.Conditions.{some}

-- who wants to do what with which resource, each as its bytes
pub record Request : Type 0 where
  pub subject : List ℕ
  pub action : List ℕ
  pub resource : List ℕ

-- ---- the forms of subjects, actions and resources

-- what stands before the first colon; all, where there is none
unfoldable pub before_colon : List ℕ → List ℕ
before_colon [] = []
before_colon (b ∷ rest) = cond (eqb b (code ":")) [] (b ∷ before_colon rest)

-- what stands after the first colon; nothing, where there is none
unfoldable pub after_colon : List ℕ → List ℕ
after_colon [] = []
after_colon (b ∷ rest) = cond (eqb b (code ":")) rest (after_colon rest)

-- the number of what stands before the first colon among some types, from 1 on; 0 where it is none of them
abbrev pub type_in : List (List ℕ) → List ℕ → ℕ
type_in types s = type_among types 1 (before_colon s)

-- the most bytes of subject, action and resource
abbrev pub most_request_bytes : ℕ
most_request_bytes = 100

-- they have no more
abbrev pub short_enough : List ℕ → Bool
short_enough s = leb (length s) most_request_bytes

-- a type, a colon, and an id of at least one byte
unfoldable pub is_typed : List (List ℕ) → List ℕ → Bool
is_typed types s = short_enough s && not (eqb (type_in types s) 0) && ltb 0 (length (after_colon s))

-- the system: these six bytes alone
abbrev pub is_system : List ℕ → Bool
is_system s = same s (bytes "system")

-- a subject other than the system: `person:` or `tool:` and an id
abbrev pub is_subject : List ℕ → Bool
is_subject s = is_typed principal_types s

-- an action: 1 to 100 bytes
unfoldable pub is_action : List ℕ → Bool
is_action s = short_enough s && ltb 0 (length s)

-- a resource: one of the four resource types, a colon, an id
abbrev pub is_resource : List ℕ → Bool
is_resource s = is_typed resource_types s

-- ---- targets

-- the principal part or the resource part matches s: a bare one always, `is` by the text before the first colon, `==` by the whole string
unfoldable pub part_matches : List (List ℕ) → List ℕ → PartOf Word → Bool
part_matches types s any = true
part_matches types s (typed k) = eqb (type_in types s) k
part_matches types s (pinned w) = same s w

-- a literal is the string s
unfoldable pub is_string : List ℕ → LiteralOf Word → Bool
is_string s (text w) = same s w
is_string s (number w) = false
is_string s (truth b) = false

-- the action part matches the action s: a bare one always, `in` a list if s is one of its strings
unfoldable pub action_matches : List ℕ → ActionsOf Word → Bool
action_matches s every = true
action_matches s (one_of ls) = some (is_string s) ls
