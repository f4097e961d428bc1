-- What the ask program prints: a line for a text, a line for each case, and a tally or its refusal. Definitions only.
use Rattle.std.specs.Prelude.{◌≡◌, cond, List, [], ◌∷◌, ◌++◌, ℕ, ◌+◌, ◌≤◌, ◌<◌, eqb, length, get_or, take, drop}
use Prim.Native.Char.{code}
use Rattle.targets.specs.Matching.{request}
use Rattle.folder.specs.Added.{Added}
use Rattle.cases.specs.Cases.{Case, case_of, past_case, cases_of}
use Rattle.folder.specs.Decimals.{numbers_line, refused_line}
use Rattle.desk.specs.Answers.{compile_says, compile_leaves, decide_says, tally_says}
use Rattle.desk.specs.declared.DeskCompiled.{DeskCompiled}
use Rattle.desk.specs.declared.DeskDecision.{DeskDecision}
use Rattle.ask.specs.declared.CaseStep.{CaseStep}

-- the word `compiled` and a blank
abbrev pub compiled_word : List ℕ
compiled_word = code "c" ∷ code "o" ∷ code "m" ∷ code "p" ∷ code "i" ∷ code "l" ∷ code "e" ∷ code "d" ∷ code " " ∷ []

-- the word `decided` and a blank
abbrev pub decided_word : List ℕ
decided_word = code "d" ∷ code "e" ∷ code "c" ∷ code "i" ∷ code "d" ∷ code "e" ∷ code "d" ∷ code " " ∷ []

-- for what compiling answers: policies and bytes used, or the refusal with its place and length
unfoldable pub compiled_line : DeskCompiled → List ℕ
compiled_line c =
    cond (eqb c.refusal 0) (compiled_word ++ numbers_line (c.policies ∷ c.bytes ∷ [])) (refused_line c.refusal c.line c.column c.length)

-- for what deciding answers: outcome, policy and mark, or the refusal, which has no place and no length
unfoldable pub decided_line : DeskDecision → List ℕ
decided_line d = cond (eqb d.refusal 0) (decided_word ++ numbers_line (d.outcome ∷ d.policy ∷ d.mark ∷ [])) (refused_line d.refusal 0 0 0)

-- for a case: what the desk decides
abbrev pub case_line : List ℕ → List ℕ → Case → List ℕ
case_line text table c = decided_line (decide_says text table c.bag (request c.subject c.action c.resource))

-- for cases, one after the other
unfoldable pub case_lines : List ℕ → List ℕ → List Case → List ℕ
case_lines text table [] = []
case_lines text table (c ∷ cs) = case_line text table c ++ case_lines text table cs

-- the lines of the cases from a place of cases.bin on
abbrev pub case_lines_from : List ℕ → List ℕ → List ℕ → ℕ → List ℕ
case_lines_from text table s at = case_lines text table (cases_of (drop at s))

-- how many cases there are from a place on
abbrev pub cases_from : List ℕ → ℕ → ℕ
cases_from s at = length (cases_of (drop at s))

-- one case more is answered: its line stands behind those before it, and the next case begins where it ends
pub record CaseAnswered (text table s : List ℕ) (at : ℕ) (old : List ℕ) (filled : ℕ) (new : List ℕ) (step : CaseStep) : Type 0 where
  pub line : Added old filled (case_line text table (case_of (drop at s))) new step.filled
  pub rest : drop step.next s ≡ past_case (drop at s)
  pub low : at < step.next
  pub high : step.next ≤ length s
  pub short : step.filled ≤ filled + 92

-- so many cases are answered: their lines, and those of the cases from the next on, are the lines of all from `at` on
pub record CasesAnswered (text table s : List ℕ) (at : ℕ) (new : List ℕ) (answered : ℕ) (step : CaseStep) : Type 0 where
  pub lines : case_lines_from text table s at ≡ take step.filled new ++ case_lines_from text table s step.next
  pub counted : cases_from s at ≡ answered + cases_from s step.next
  pub high : step.next ≤ length s
  pub inside : step.filled ≤ length new
  pub few : at + answered ≤ step.next

-- the number that a word says, 1 or 2; 0, which names no version, for any other word
unfoldable pub version_in : List ℕ → ℕ
version_in s = cond (eqb (length s) 1) (cond (eqb (get_or s 0 0) (code "1")) 1 (cond (eqb (get_or s 0 0) (code "2")) 2 0)) 0

-- how many cases are answered: all; none where the text is refused
unfoldable pub answered_for : ℕ → List ℕ → List ℕ → List ℕ → ℕ
answered_for version text table s = cond (eqb (compile_says version text table).refusal 0) (cases_from s 0) 0

-- how many requests the bytes of requests.bin have: their first byte says it, and the requests stand behind it
abbrev pub many_in : List ℕ → ℕ
many_in s = get_or s 0 0

-- the refusal's number for a text, a question and the bytes of requests.bin, and 0 where the tally is printed
unfoldable pub counted_for : ℕ → List ℕ → List ℕ → List ℕ → List ℕ → ℕ
counted_for version text table question s =
    cond (eqb (compile_says version text table).refusal 0) (tally_says text (compile_leaves version text table) question (many_in s) (drop 1 s))
    (compile_says version text table).refusal
