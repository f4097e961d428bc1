-- Document 01's cases A to F and H, its sizes and rulings, computed from the definitions. Assumes nothing.
use mathlib.Core.Path.{◌≡◌, refl}
use mathlib.Core.Bool.{true, false}
use mathlib.Core.List.{List, [], ◌∷◌, ◌++◌, map}
use Prim.Native.Nat.{ℕ, zero, suc}
use Prim.Native.String.{String}
use lib.ListN.{length}
use Rattle.slices.specs.Ascii.{bytes}
use Rattle.tokens.specs.Kinds as kinds
use Rattle.places.specs.Places.{place, place_of}
use Rattle.places.proofs.Opened.{places_opened}
use Rattle.places.specs.declared.Place.{Place}
use Rattle.reading.specs.Lexemes.{Lexeme, tokens_of}
use Rattle.reading.specs.Reader.{Answer, took, refuse}
use Rattle.grammar.proofs.Begun.{made}
use Rattle.grammar.specs.Policies.{Policy, constant, both, choice}
use Rattle.grammar.specs.Parser.{read_conditions, read_text}
use Rattle.grammar.proofs.Opened.{grammar_opened}

-- the number of policies, or the refusal's number, line and column
pub data Seen : Type 0 where
  policies : ℕ → Seen
  refused : ℕ → Place → Seen

abbrev pub placed : List ℕ → List Lexeme → Place
placed text [] = place_of text (length text)
placed text (x ∷ r) = place_of text x.start

abbrev pub seen : List ℕ → Answer (List Policy) → Seen
seen text (took ps r) = policies (length ps)
seen text (refuse n r) = refused n (placed text r)

abbrev pub of_bytes : List ℕ → Seen
of_bytes text = seen text (read_text (tokens_of text))

abbrev pub of : String → Seen
of s = of_bytes (bytes s)

-- a policy with this condition
abbrev pub when : List ℕ → Seen
when s = of_bytes (bytes "permit(principal,action,resource)when{" ++ s ++ bytes "};")

abbrev pub times : {A : Type 0} → ℕ → List A → List A
times zero s = []
times (suc n) s = s ++ times n s

-- the bytes of `ü`, and of a character of four, U+1F6D7
abbrev pub umlaut : List ℕ
umlaut = 0xC3 ∷ 0xBC ∷ []

abbrev pub elevator : List ℕ
elevator = 0xF0 ∷ 0x9F ∷ 0x9B ∷ 0x97 ∷ []

-- the tokens of a policy that asks for nothing
abbrev pub plainest : List Lexeme
plainest =
    map made (kinds.permit_word ∷ kinds.left_round ∷ kinds.principal_word ∷ kinds.comma ∷ kinds.action_word ∷ kinds.comma ∷ kinds.resource_word ∷ kinds.right_round ∷ kinds.semicolon ∷ [])

pub record Computed : Type 0 where
  -- cases A to F
  pub cases :
      (of "" ≡ policies 0)
      × (of "permit(principal,action,resource);" ≡ policies 1)
      × (of "permit(principal,action,resource)" ≡ refused 10 (place 1 34))
      × (of "permit(principal,action,resource)when{principal.a};" ≡ refused 8 (place 1 50))
      × (of "permit(principal,action,resource)when{principal.if==1};" ≡ refused 7 (place 1 49))
      × (of "permit(principal,action,resource)when{action.kind==\"x\"};" ≡ refused 11 (place 1 46))
  -- case H: the parts of `if` are single conditions
  pub case_h :
      read_conditions (tokens_of (bytes "if true then true else true && false")) ≡ took (both (choice (constant true) (constant true) (constant true)) (constant false)) []
  -- containsAll and containsAny begin a call only after a left operand's path and dot
  pub calls :
      (when (bytes "principal.containsAll([\"x\"])") ≡ refused 7 (place 1 49))
      × (when (bytes "principal.a.containsAll") ≡ refused 10 (place 1 62))
      × (when (bytes "principal.a.containsAny([\"x\",1])") ≡ policies 1)
      × (when (bytes "1==principal.a.containsAll([\"x\"])") ≡ refused 7 (place 1 54))
      × (when (bytes "principal has a.containsAll") ≡ refused 7 (place 1 55))
      × (when (bytes "\"x\".containsAll([\"x\"])") ≡ refused 10 (place 1 42))
      × (when (bytes "action.name.containsAll([\"x\"])") ≡ policies 1)
  -- after action only `name` makes a path
  pub action_paths :
      (when (bytes "action has name") ≡ policies 1)
      × (when (bytes "action has kind") ≡ refused 11 (place 1 50))
      × (when (bytes "action.name.x==1") ≡ refused 11 (place 1 51))
      × (when (bytes "action.if==1") ≡ refused 7 (place 1 46))
  -- bare operands, `in`, `has`, the parts of `if`, types
  pub rulings :
      (when (bytes "principal.a then") ≡ refused 8 (place 1 51))
      × (when (bytes "principal.a;") ≡ refused 10 (place 1 50))
      × (when (bytes "1") ≡ refused 10 (place 1 40))
      × (when (bytes "1 in 2") ≡ refused 10 (place 1 44))
      × (when (bytes "principal.a has b") ≡ refused 10 (place 1 51))
      × (when (bytes "if true&&true then true else true") ≡ refused 10 (place 1 46))
      × (when (bytes "!principal.a==1") ≡ policies 1)
      × (when (bytes "principal.a like \"a**b\"") ≡ refused 13 (place 1 56))
      × (of "permit(principal is dog,action,resource);" ≡ refused 9 (place 1 21))
      × (of "permit(principal is if,action,resource);" ≡ refused 10 (place 1 21))
      × (of "permit(principal is shaft,action,resource);" ≡ refused 9 (place 1 21))
      × (of "permit(principal is tool,action,resource is shaft);" ≡ policies 1)
  -- brackets, `!` and `if` nest to 32 levels
  pub levels :
      (when (times 31 (bytes "(") ++ bytes "true" ++ times 31 (bytes ")")) ≡ policies 1)
      × (when (times 32 (bytes "(") ++ bytes "true" ++ times 32 (bytes ")")) ≡ refused 12 (place 1 70))
      × (when (times 10 (bytes "(!if ") ++ bytes "((true") ≡ refused 12 (place 1 90))
      × (when (times 31 (bytes "!") ++ bytes "(true)") ≡ refused 12 (place 1 70))
      × (when (times 31 (bytes "if true then true else ") ++ bytes "true") ≡ policies 1)
      × (when (times 32 (bytes "if true then true else ") ++ bytes "true") ≡ refused 12 (place 1 752))
  -- a list has at most 16 literals, an action list only strings
  pub lists :
      (when (bytes "principal.a in[" ++ times 15 (bytes "1,") ++ bytes "1]") ≡ policies 1)
      × (when (bytes "principal.a in[" ++ times 16 (bytes "1,") ++ bytes "1]") ≡ refused 14 (place 1 86))
      × (when (bytes "principal.a in[" ++ times 16 (bytes "1,") ++ bytes "]") ≡ refused 10 (place 1 86))
      × (of_bytes (bytes "permit(principal,action in[" ++ times 16 (bytes "\"a\",") ++ bytes "\"a\"],resource);") ≡ refused 14 (place 1 92))
      × (of_bytes (bytes "permit(principal,action in[" ++ times 16 (bytes "\"a\",") ++ bytes "1],resource);") ≡ refused 10 (place 1 92))
  -- word 64 bytes, string 127, number 15 digits, path 64 bytes with its dots, pattern 100 characters and 5 wildcards: at the size, and one above
  pub at_the_sizes :
      (when (bytes "env." ++ times 64 (bytes "w") ++ bytes "==1") ≡ policies 1)
      × (when (bytes "env." ++ times 65 (bytes "w") ++ bytes "==1") ≡ refused 6 (place 1 43))
      × (when (bytes "1==\"" ++ times 127 (bytes "s") ++ bytes "\"") ≡ policies 1)
      × (when (bytes "1==\"" ++ times 128 (bytes "s") ++ bytes "\"") ≡ refused 6 (place 1 42))
      × (when (bytes "1==-12345678901234.5") ≡ policies 1)
      × (when (bytes "1==-123456789012345.6") ≡ refused 6 (place 1 42))
      × (when (bytes "env." ++ times 62 (bytes "w") ++ bytes " . a==1") ≡ policies 1)
      × (when (bytes "env." ++ times 62 (bytes "w") ++ bytes " . ab==1") ≡ refused 16 (place 1 108))
      × (when (bytes "1 like\"" ++ times 100 (bytes "a") ++ bytes "\"") ≡ policies 1)
      × (when (bytes "1 like\"" ++ times 101 (bytes "a") ++ bytes "\"") ≡ refused 13 (place 1 45))
      × (when (bytes "1 like\"*?*?*\"") ≡ policies 1)
      × (when (bytes "1 like\"*?*?*?\"") ≡ refused 13 (place 1 45))
  -- a string is UTF-8, else it gets 17; where none may stand 10, one too many in a list 14, a pattern 17 before 13. A pattern has at most 100 characters,
  -- and as a string 127 bytes, which is 31 characters of four and three more
  pub texts :
      (when (bytes "1==\"S" ++ umlaut ++ bytes "d\"") ≡ policies 1)
      × (when (bytes "1==\"S" ++ 0xC3 ∷ bytes "d\"") ≡ refused 17 (place 1 42))
      × (when (bytes "\"" ++ 0xFF ∷ bytes "\"==1") ≡ refused 17 (place 1 39))
      × (when (bytes "1 in\"" ++ 0xC3 ∷ bytes "\"") ≡ refused 10 (place 1 43))
      × (when (bytes "1 in[" ++ times 15 (bytes "1,") ++ bytes "\"" ++ 0xC3 ∷ bytes "\"]") ≡ refused 17 (place 1 74))
      × (when (bytes "1 in[" ++ times 16 (bytes "1,") ++ bytes "\"" ++ 0xC3 ∷ bytes "\"]") ≡ refused 14 (place 1 76))
      × (when (bytes "1 like\"" ++ umlaut ++ bytes "[\"") ≡ refused 13 (place 1 45))
      × (when (bytes "1 like\"" ++ 0xC3 ∷ bytes "[\"") ≡ refused 17 (place 1 45))
      × (when (bytes "1 like\"" ++ times 27 umlaut ++ times 73 (bytes "a") ++ bytes "\"") ≡ policies 1)
      × (when (bytes "1 like\"" ++ times 26 umlaut ++ times 75 (bytes "a") ++ bytes "\"") ≡ refused 13 (place 1 45))
      × (when (bytes "1 like\"" ++ times 31 elevator ++ bytes "abc\"") ≡ policies 1)
      × (when (bytes "1 like\"" ++ times 31 elevator ++ bytes "abcd\"") ≡ refused 6 (place 1 45))
  -- a text has at most 64 policies
  pub sixty_four :
      (seen [] (read_text (times 64 plainest)) ≡ policies 64) × (read_text (times 65 plainest) ≡ refuse 15 plainest)

pub computed : Computed
unfolding grammar_opened places_opened
computed = record {
  cases = (refl, refl, refl, refl, refl, refl);
  case_h = refl;
  calls = (refl, refl, refl, refl, refl, refl, refl);
  action_paths = (refl, refl, refl, refl);
  rulings = (refl, refl, refl, refl, refl, refl, refl, refl, refl, refl, refl, refl);
  levels = (refl, refl, refl, refl, refl, refl);
  lists = (refl, refl, refl, refl, refl);
  at_the_sizes = (refl, refl, refl, refl, refl, refl, refl, refl, refl, refl, refl, refl);
  texts = (refl, refl, refl, refl, refl, refl, refl, refl, refl, refl, refl, refl);
  sixty_four = (refl, refl);
}
