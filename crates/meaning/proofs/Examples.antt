-- Document 01's cases G, H, I and L, rules of 'Deciding', marks and both versions (document 02, requests 6 and 7), computed from the definitions. Assumes nothing.
use mathlib.Core.Path.{◌≡◌, refl}
use mathlib.Core.Bool.{true, cond, ◌&&◌}
use mathlib.Core.List.{List, [], ◌∷◌, ◌++◌}
use mathlib.Core.Option.{none}
use Prim.Native.Nat.{ℕ, zero, suc}
use Prim.Native.String.{String}
use lib.Dec.{eqb}
use lib.Ieee.{binary64, of_bits}
use Rattle.slices.specs.Ascii.{bytes}
use Rattle.slices.specs.Same.{same}
use Rattle.reading.specs.Lexemes.{tokens_of}
use Rattle.reading.specs.Reader.{Answer, took, refuse}
use Rattle.grammar.specs.Policies.{Tree, Policy, PartOf, any, typed, every, PolicyOf}
use Rattle.grammar.specs.Parser.{read_conditions, read_text}
use Rattle.grammar.specs.declared.Version.{Version}
use Rattle.grammar.specs.declared.Version.TheVariants.{First, Second}
use Rattle.placing.specs.Said.{Word, tree_words, words_of}
use Rattle.views.specs.Meaning.{text, number, flag, texts, absent, View}
use Rattle.meaning.specs.Values.{with_action}
use Rattle.meaning.specs.Conditions.{settles, verdict}
use Rattle.meaning.specs.Targets.{Request}
use Rattle.meaning.specs.Decisions.{Terms, under, decision_of, outcome_of, policy_of, decided_mark}
use Rattle.meaning.specs.declared.Verdict.{Verdict}
use Rattle.meaning.specs.declared.Verdict.TheVariants.{Yes, No, Missing}
use Rattle.meaning.specs.declared.Decision.{Decision}
use Rattle.meaning.specs.declared.Decision.TheVariants.{Allowed, Forbidden, Nothing, System}
use Rattle.meaning.proofs.Opened.{meaning_opened}

-- no attributes at all
abbrev pub nothing : View
nothing root path = absent

-- only principal.a, a string; principal.b, a flag; principal.n, the number -0; and principal.l, a list
abbrev pub four : View
four root path =
    cond (eqb root 1 && same path (bytes "a")) (text (bytes "shaft:A1"))
    (cond (eqb root 1 && same path (bytes "b")) (flag true)
    (cond (eqb root 1 && same path (bytes "n")) (number (of_bits binary64 0x8000000000000000))
    (cond (eqb root 1 && same path (bytes "l")) (texts (bytes "x" ∷ bytes "y" ∷ [])) absent)))

-- that of a condition that was read
abbrev pub verdict_in : List ℕ → Version → View → Answer Tree → Verdict
verdict_in t version view (took c r) = verdict (settles version) view (tree_words t c)
verdict_in t version view (refuse n r) = Missing

-- what a condition is found to be under a version, where the action is teach
abbrev pub found : Version → View → String → Verdict
found version view s = verdict_in (bytes s) version (with_action (bytes "teach") view) (read_conditions (tokens_of (bytes s)))

-- what it is found to be under version 1, and under version 2
abbrev pub Finds : View → String → Verdict → Verdict → Type 0
Finds view s v w = (found First view s ≡ v) × (found Second view s ≡ w)

-- it is true, or false, over the four attributes, under both
abbrev pub Holds : String → Type 0
Holds s = Finds four s Yes Yes

abbrev pub Fails : String → Type 0
Fails s = Finds four s No No

-- over the four attributes it is this under version 1, and missing under version 2
abbrev pub Misses : Verdict → String → Type 0
Misses v s = Finds four s v Missing

-- what is decided by policies that were read
abbrev pub decision_in : List ℕ → Terms → Request → Answer (List Policy) → Decision
decision_in t terms q (took ps r) = decision_of terms q (words_of t ps)
decision_in t terms q (refuse n r) = Nothing

-- what a subject who wants to teach a resource gets under a text and a version, where no attribute is known
abbrev pub gets_under : Version → String → String → String → Decision
gets_under version subject resource s =
    decision_in (bytes s) (under version nothing) (record { subject = bytes subject; action = bytes "teach"; resource = bytes resource })
    (read_text (tokens_of (bytes s)))

-- the same under version 1
abbrev pub gets_for : String → String → String → Decision
gets_for subject resource s = gets_under First subject resource s

-- what person:K7 gets, who wants to teach shaft:A
abbrev pub gets : String → Decision
gets s = gets_for "person:K7" "shaft:A" s

-- the mark of policies that were read
abbrev pub mark_in : List ℕ → Terms → Request → Answer (List Policy) → ℕ
mark_in t terms q (took ps r) = decided_mark terms q (words_of t ps)
mark_in t terms q (refuse n r) = 0

-- the mark for a subject who wants to teach shaft:A under a text, where no attribute is known
abbrev pub marks_for : String → List ℕ → ℕ
marks_for subject t =
    mark_in t (under First nothing) (record { subject = bytes subject; action = bytes "teach"; resource = bytes "shaft:A" }) (read_text (tokens_of t))

-- a permit for every principal of these types, and so many of them for tools alone
abbrev pub permit_for : PartOf Word → PolicyOf Word
permit_for principal = record { permits = true; principal = principal; action = every; resource = any; condition = none }

abbrev pub for_tools : ℕ → List (PolicyOf Word)
for_tools zero = []
for_tools (suc n) = permit_for (typed 2) ∷ for_tools n

-- the mark for person:K7, who wants to teach shaft:A, where no attribute is known
abbrev pub marks_by : List (PolicyOf Word) → ℕ
marks_by ps = decided_mark (under First nothing) (record { subject = bytes "person:K7"; action = bytes "teach"; resource = bytes "shaft:A" }) ps

-- a policy that is satisfied, one that is, and forbids, and one that is not
abbrev pub some_permit : List ℕ
some_permit = bytes "permit(principal,action,resource);"

abbrev pub some_forbid : List ℕ
some_forbid = bytes "forbid(principal,action,resource);"

abbrev pub tools_only : List ℕ
tools_only = bytes "permit(principal is tool,action,resource);"

-- policies whose conditions are case I's two
abbrev pub case_i_policies : String
case_i_policies =
    "permit(principal,action,resource)when{principal.a!=\"x\"};permit(principal,action,resource)when{!(principal.a!=\"x\")};forbid(principal,action,resource)when{!(principal.a!=\"x\")};"

pub record Computed : Type 0 where
  pub case_g : Finds nothing "true || false && false" Yes Yes
  pub case_h : Finds nothing "if true then true else true && false" No No
  -- under version 2 case I is unsatisfied both ways
  pub case_i : Finds nothing "principal.a != \"x\"" No Missing × Finds nothing "!(principal.a != \"x\")" Yes Missing
  pub case_l :
      (gets "permit(principal,action,resource);forbid(principal,action,resource);" ≡ Forbidden 2)
      × (outcome_of (Forbidden 2) ≡ 2)
      × (policy_of (Forbidden 2) ≡ 2)
  -- an absent attribute, on either side, makes a comparison, `like`, `in` or contains false, and `!` then gives true; under version 2 it is missing, even
  -- under `!`
  pub absences :
      Misses No "principal.z == principal.z"
      × Misses No "1 <= principal.z"
      × Misses No "principal.z like \"*\""
      × Misses No "principal.z in [\"x\"]"
      × Misses No "principal.z in principal.l"
      × Misses No "\"x\" in principal.z"
      × Misses No "principal.z.containsAny([\"x\"])"
      × Misses Yes "!(principal.z.containsAll([\"x\"]))"
  -- so it is for `&&`, `||` and `if`: parts are met from left to right, and one that is met beats what comes later
  pub met :
      Misses No "principal.z == 1 && false"
      × Misses No "true && principal.z == 1"
      × Misses Yes "principal.z == 1 || true"
      × Misses No "false || principal.z == 1"
      × Misses Yes "if principal.z == 1 then false else true"
      × Misses Yes "if true then !(principal.z == 1) else true"
      × Misses Yes "if false then true else !(principal.z == 1)"
  -- an operator meets both its operands before it compares
  pub both_met : Misses No "1 in principal.z" × Misses No "principal.l == principal.z" × Misses Yes "!(principal.z in principal.b)"
  -- what is behind a false of `&&`, behind a true of `||`, or in the other branch of `if` is not met
  pub not_met :
      Fails "false && principal.z == 1"
      × Holds "true || principal.z == 1"
      × Holds "if true then true else principal.z == 1"
      × Holds "if false then principal.z == 1 else true"
  -- `has` misses nothing, action.name is never absent, and a string that is no UTF-8 is there
  pub never_absent :
      Holds "!(principal has z)"
      × Holds "action.name != \"store\""
      × Finds (λ root path. text (255 ∷ [])) "principal.a like \"*\"" No No
  -- a kind mismatch and a list on either side of a comparator are false, `!=` too
  pub mismatches :
      Fails "principal.a != 1"
      × Fails "true != \"true\""
      × Fails "principal.l != \"x\""
      × Fails "\"x\" != principal.l"
      × Fails "principal.l == principal.l"
      × Fails "principal.b like \"*\""
      × Fails "1 like \"1\""
  -- `>`, `>=`, `<`, `<=` only for numbers, `==` and `!=` for two strings, numbers or flags; -0 equals 0
  pub comparators :
      Fails "principal.b >= true"
      × Fails "\"b\" > \"a\""
      × Holds "2.5 > -3"
      × Holds "principal.b != false"
      × Holds "principal.a == \"shaft:A1\""
      × Holds "principal.n == 0"
      × Holds "0 >= principal.n"
      × Fails "0 > principal.n"
      × Fails "-0 != 0"
  -- `in` a list: equal to some literal of the same kind
  pub in_lists :
      Holds "principal.b in [1, true]"
      × Holds "0 in [\"0\", -0]"
      × Fails "1 in [\"1\", true]"
      × Fails "principal.l in [\"x\"]"
  -- `in` an attribute: a string among a list of strings
  pub in_attributes :
      Holds "\"x\" in principal.l"
      × Fails "\"z\" in principal.l"
      × Fails "1 in principal.l"
      × Fails "principal.l in principal.l"
      × Fails "\"shaft:A1\" in principal.a"
  -- containsAll: each literal is a string of the list; containsAny: one is
  pub contents :
      Holds "principal.l.containsAll([\"y\", \"x\", \"y\"])"
      × Fails "principal.l.containsAll([\"y\", 1])"
      × Holds "principal.l.containsAny([1, \"y\"])"
      × Fails "principal.l.containsAny([1, \"z\"])"
      × Fails "principal.a.containsAny([\"shaft:A1\"])"
  -- `has`, `like`, and the action's only attribute
  pub others :
      Holds "principal has b && !(principal has c) && !(resource has b)"
      × Holds "principal.a like \"shaft:*\""
      × Holds "action has name && action.name == \"teach\" && action.name in [\"store\", \"teach\"]"
      × Fails "action.name.containsAny([\"teach\"])"
  -- under version 2 a policy, permit or forbid, is unsatisfied where an absent attribute is met
  pub unsatisfied :
      (gets_under First "person:K7" "shaft:A" case_i_policies ≡ Forbidden 3)
      × (gets_under Second "person:K7" "shaft:A" case_i_policies ≡ Nothing)
  -- the mark has every satisfied policy, those before and behind a forbid too; with 64 policies of which the first and the last are satisfied its lowest and its highest
  -- bit are set; the system's has none
  pub marks :
      (marks_for "person:K7" (some_permit ++ tools_only ++ some_forbid ++ tools_only ++ some_permit) ≡ 21)
      × (marks_by (permit_for any ∷ for_tools 62 ++ permit_for any ∷ []) ≡ 9223372036854775809)
      × (marks_for "system" some_permit ≡ 0)
  -- targets: `is` by what stands before the first colon, `==` the whole string, the action list; the system first
  pub targets :
      (gets "permit(principal is tool,action,resource);permit(principal is person,action in [\"teach\"],resource is shaft);" ≡ Allowed 2)
      × (gets "permit(principal,action in [\"store\"],resource);" ≡ Nothing)
      × (gets "permit(principal,action,resource == \"shaft:A\");" ≡ Allowed 1)
      × (gets "permit(principal,action,resource == \"shaft\");" ≡ Nothing)
      × (gets_for "tool:person:1" "record:shaft:A" "permit(principal is person,action,resource);permit(principal,action,resource is shaft);permit(principal is tool,action,resource is record);" ≡ Allowed 3)
      × (gets_for "system" "shaft:A" "forbid(principal,action,resource);" ≡ System)
      × (gets "permit(principal,action,resource)when{action.name==\"teach\"};" ≡ Allowed 1)

pub computed : Computed
unfolding meaning_opened
computed = record {
  case_g = (refl, refl);
  case_h = (refl, refl);
  case_i = ((refl, refl), (refl, refl));
  case_l = (refl, refl, refl);
  absences = ((refl, refl), (refl, refl), (refl, refl), (refl, refl), (refl, refl), (refl, refl), (refl, refl), (refl, refl));
  met = ((refl, refl), (refl, refl), (refl, refl), (refl, refl), (refl, refl), (refl, refl), (refl, refl));
  both_met = ((refl, refl), (refl, refl), (refl, refl));
  not_met = ((refl, refl), (refl, refl), (refl, refl), (refl, refl));
  never_absent = ((refl, refl), (refl, refl), (refl, refl));
  mismatches = ((refl, refl), (refl, refl), (refl, refl), (refl, refl), (refl, refl), (refl, refl), (refl, refl));
  comparators = ((refl, refl), (refl, refl), (refl, refl), (refl, refl), (refl, refl), (refl, refl), (refl, refl), (refl, refl), (refl, refl));
  in_lists = ((refl, refl), (refl, refl), (refl, refl), (refl, refl));
  in_attributes = ((refl, refl), (refl, refl), (refl, refl), (refl, refl), (refl, refl));
  contents = ((refl, refl), (refl, refl), (refl, refl), (refl, refl), (refl, refl));
  others = ((refl, refl), (refl, refl), (refl, refl), (refl, refl));
  unsatisfied = (refl, refl);
  marks = (refl, refl, refl);
  targets = (refl, refl, refl, refl, refl, refl, refl);
}
