-- Document 01's checked examples over the desk's answers: A to L as one statement, C to F with document 02's lengths, decisions and rows with its marks, and
-- case I under version 2; and the worked example, under version 1. Definitions only.
use Rattle.std.specs.Prelude.{◌≡◌, List, [], ◌∷◌, ◌++◌, ℕ, zero, suc, ◌*◌, length, take}
use Prim.Native.String.{String}
use Rattle.slices.specs.Ascii.{bytes}
use Rattle.grammar.specs.declared.Version.{Version}
use Rattle.grammar.specs.declared.Version.TheVariants.{First, Second}
use Rattle.compiling_promise.specs.Promise.{bytes_for}
use Rattle.compiling.specs.Outcome.{room_for}
use Rattle.meaning.specs.Targets.{Request}
use Rattle.bags.specs.Forms.{Contents, BagBytes}
use Rattle.questions.specs.Forms.{Column, QuestionBytes}
use Rattle.pages.specs.Rows.{row_of}
use Rattle.pages.specs.Lines.{counts}
use Rattle.desk.specs.Answers.{compile_says, decide_says, sheet_says, sheet_leaves, rows_say}
use Rattle.desk.specs.Promises.{Shows}
use Rattle.desk.specs.declared.DeskCompiled.{DeskCompiled}
use Rattle.desk.specs.declared.DeskDecision.{DeskDecision}

-- a table of n bytes
abbrev pub zeros : ℕ → List ℕ
zeros zero = []
zeros (suc n) = 0 ∷ zeros n

-- what compiling under version 1 answers where just enough table is lent
abbrev pub compiled : List ℕ → DeskCompiled
compiled text = compile_says 1 text (zeros (room_for text))

-- a refusal with its line, its column and the length of its token
abbrev pub refused_at : ℕ → ℕ → ℕ → ℕ → DeskCompiled
refused_at number line column size = record { refusal = number; line = line; column = column; length = size; policies = 0; bytes = 0 }

-- document 01's P, and P with a condition
abbrev pub P : List ℕ
P = bytes "permit(principal,action,resource)"

abbrev pub P_when : String → List ℕ
P_when condition = P ++ bytes "when{" ++ bytes condition ++ bytes "};"

-- person:K7 wants to teach shaft:A
abbrev pub K7 : Request
K7 = record { subject = bytes "person:K7"; action = bytes "teach"; resource = bytes "shaft:A" }

-- what is decided then where no attribute is known, over a text and its compiled bytes under a version
abbrev pub decided_under : Version → List ℕ → DeskDecision
decided_under version text = decide_says text (bytes_for version text) (0 ∷ 0 ∷ 0 ∷ []) K7

-- under version 1
abbrev pub decided : List ℕ → DeskDecision
decided text = decided_under First text

-- an outcome with its policy and its mark
abbrev pub outcome : ℕ → ℕ → ℕ → DeskDecision
outcome number policy mark = record { refusal = 0; outcome = number; policy = policy; mark = mark }

-- a condition is true: it makes policy 1 decide; or it is false: nothing is satisfied
abbrev pub Holds : String → Type 0
Holds condition = decided (P_when condition) ≡ outcome 1 1 1

abbrev pub Fails : String → Type 0
Fails condition = decided (P_when condition) ≡ outcome 3 0 0

-- the same under version 2
abbrev pub HoldsSecond : String → Type 0
HoldsSecond condition = decided_under Second (P_when condition) ≡ outcome 1 1 1

abbrev pub FailsSecond : String → Type 0
FailsSecond condition = decided_under Second (P_when condition) ≡ outcome 3 0 0

-- document 01's table, row by row
pub record CasesAtoL : Type 0 where
  pub A : ((compiled []).refusal ≡ 0) × ((compiled []).policies ≡ 0)
  pub B : ((compiled (P ++ bytes ";")).refusal ≡ 0) × ((compiled (P ++ bytes ";")).policies ≡ 1)
  pub C : compiled P ≡ refused_at 10 1 34 0
  pub D : compiled (P_when "principal.a") ≡ refused_at 8 1 50 1
  pub E : compiled (P_when "principal.if==1") ≡ refused_at 7 1 49 2
  pub F : compiled (P_when "action.kind==\"x\"") ≡ refused_at 11 1 46 4
  pub G : Holds "true || false && false"
  pub H : Fails "if true then true else true && false"
  pub I : Fails "principal.a != \"x\"" × Holds "!(principal.a != \"x\")"
  -- document 02: under version 2 case I is unsatisfied both ways
  pub I_second : FailsSecond "principal.a != \"x\"" × FailsSecond "!(principal.a != \"x\")"
  pub J : Holds "\"shaft:A1\" like \"shaft:*\"" × Holds "\"shaft:\" like \"shaft:*\"" × Fails "\"shaft:b:A1\" like \"shaft:*\""
  pub K : Holds "\"A1A1\" like \"*A1\""
  pub L : decided (P ++ bytes ";forbid(principal,action,resource);") ≡ outcome 2 2 3

-- parts that are not met do not matter under version 2: `&&` stops at false, `||` at true, `if` meets only the chosen branch
pub record MetInOrder : Type 0 where
  pub after_false : HoldsSecond "!(false && principal.a == 1)"
  pub after_true : HoldsSecond "true || principal.a == 1"
  pub not_else : HoldsSecond "if true then true else principal.a == 1"
  pub not_then : HoldsSecond "if false then principal.a == 1 else true"
  -- but an absent part that is met first beats a later false, and both operands are met though their kinds differ; `has` never misses
  pub met_first : FailsSecond "!(principal.a == 1 && false)"
  pub both_met : FailsSecond "!(1 in principal.a)"
  pub has_meets : HoldsSecond "!(principal has a)"

-- ---- the worked example: document 01's two policies, and the request person:K7, teach, shaft:A

-- the policies
abbrev pub rules : List ℕ
rules =
    bytes "permit(principal is person, action, resource is shaft)\n  when { principal.grade >= 3 };\n"
    ++ bytes "forbid(principal, action in [\"teach\"], resource)\n  when { principal.hired != \"own\" };\n"

-- an empty base, and columns principal.grade (absent, 3, 2.5) and principal.hired (absent, "own", "loan")
abbrev pub question : List ℕ
question =
    (0 ∷ 0 ∷ 0 ∷ 2 ∷ [])
    ++ (1 ∷ 5 ∷ []) ++ bytes "grade" ++ (3 ∷ 0 ∷ 2 ∷ 0 ∷ 0 ∷ 0 ∷ 0 ∷ 0 ∷ 0 ∷ 8 ∷ 64 ∷ 2 ∷ 0 ∷ 0 ∷ 0 ∷ 0 ∷ 0 ∷ 0 ∷ 4 ∷ 64 ∷ [])
    ++ (1 ∷ 5 ∷ []) ++ bytes "hired" ++ (3 ∷ 0 ∷ 1 ∷ 3 ∷ []) ++ bytes "own" ++ (1 ∷ 4 ∷ []) ++ bytes "loan"

-- principal.grade is 3, and nothing else is known
abbrev pub grade_three : List ℕ
grade_three = (1 ∷ 5 ∷ []) ++ bytes "grade" ++ (2 ∷ 0 ∷ 0 ∷ 0 ∷ 0 ∷ 0 ∷ 0 ∷ 8 ∷ 64 ∷ 0 ∷ 0 ∷ [])

-- what document 01 prints, by the sheet's answer and bytes
pub record WorkedExample : Type 0 where
  -- rows 9; 3 1 1 1; 4 1 1 1; allowed 2
  pub rows : rows_say question ≡ 9
  pub listed : sheet_says rules (bytes_for First rules) question K7 0 (zeros 126) 0 ≡ record { refusal = 0; written = 2; next = 9 }
  pub written : take 28 (sheet_leaves rules (bytes_for First rules) question K7 0 (zeros 126) 0)
      ≡ 3 ∷ 0 ∷ 0 ∷ 0 ∷ 1 ∷ 1 ∷ 1 ∷ 0 ∷ 0 ∷ 0 ∷ 0 ∷ 0 ∷ 0 ∷ 0 ∷ 4 ∷ 0 ∷ 0 ∷ 0 ∷ 1 ∷ 1 ∷ 1 ∷ 0 ∷ 0 ∷ 0 ∷ 0 ∷ 0 ∷ 0 ∷ 0 ∷ []
  -- row 3, second choice and first, is the bag that knows grade 3 and nothing else, and is decided so
  pub row_three : (contents base : Contents) (columns : List Column) → BagBytes grade_three contents → QuestionBytes question base columns
      → (row_of (counts columns) (1 ∷ 0 ∷ []) ≡ 3) × Shows contents base columns (1 ∷ 0 ∷ [])
  pub decided_three : decide_says rules (bytes_for First rules) grade_three K7 ≡ outcome 1 1 1
