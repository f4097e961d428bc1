-- Laws of the lines that the ask program prints. Assumes nothing.
use mathlib.Core.Path.{◌≡◌, refl, sym, ap, ◌∙◌}
use mathlib.Core.Bool.{true}
use mathlib.Core.List.{List, [], ◌∷◌, ◌++◌, append_assoc}
use Prim.Native.Nat.{ℕ, zero, suc, ◌+◌, ◌-◌, ◌≤◌, ◌<◌}
use native.Mathlib.Omega.{arith}
use borrow.Author.Tests.{eq-eqb, ne_eqb}
use lib.ListN.{length, take, drop, length-drop}
use Rattle.folder.specs.Added.{Added}
use Rattle.folder.specs.Decimals.{numbers_line, refused_line}
use Rattle.cases.specs.declared.CasePart.{CasePart}
use Rattle.cases.specs.Cases.{Case, case_of, past_case, cases_of, PartAt}
use Rattle.cases.proofs.CaseLaws.{first_case, no_case, cut_out, case_cut, case_past}
use Rattle.targets.specs.Matching.{request}
use Rattle.desk.specs.Answers.{compile_says, compile_leaves, decide_says, begins_says}
use Rattle.desk.specs.Promises.{CompileAllows}
use Rattle.desk.specs.declared.DeskCompiled.{DeskCompiled}
use Rattle.desk.specs.declared.DeskDecision.{DeskDecision}
use Rattle.desk.proofs.Promised.{demand_two}
use Rattle.ask.specs.Lines.{compiled_word, decided_word, compiled_line, decided_line, case_line, case_lines, case_lines_from, cases_from, CaseAnswered, CasesAnswered, answered_for}
use Rattle.ask.specs.declared.CaseStep.{CaseStep}

-- ---- a line

module _ {a b : List ℕ} {at next : ℕ} where
  pub refusal_told : (c : DeskCompiled) → 0 < c.refusal → Added a at (refused_line c.refusal c.line c.column c.length) b next → Added a at (compiled_line c) b next
  unfolding compiled_line
  refusal_told c h p = rw (ne_eqb c.refusal 0 (λ e. omega arith)) p

  pub compiled_told : (c : DeskCompiled) → c.refusal ≤ 0 → Added a at (compiled_word ++ numbers_line (c.policies ∷ c.bytes ∷ [])) b next → Added a at (compiled_line c) b next
  unfolding compiled_line
  compiled_told c h p = rw (eq-eqb c.refusal 0 (omega arith)) p

  pub refused_told : (d : DeskDecision) → 0 < d.refusal → Added a at (refused_line d.refusal 0 0 0) b next → Added a at (decided_line d) b next
  unfolding decided_line
  refused_told d h p = rw (ne_eqb d.refusal 0 (λ e. omega arith)) p

  pub decided_told : (d : DeskDecision) → d.refusal ≤ 0 → Added a at (decided_word ++ numbers_line (d.outcome ∷ d.policy ∷ d.mark ∷ [])) b next → Added a at (decided_line d) b next
  unfolding decided_line
  decided_told d h p = rw (eq-eqb d.refusal 0 (omega arith)) p

-- ---- a case

module _ (text table : List ℕ) {s : List ℕ} {at : ℕ} {p q r t : CasePart} (subject : PartAt s at p) (action : PartAt s p.end q) (resource : PartAt s q.end r) (bag : PartAt s r.end t) where
  pub case_answered : {old new : List ℕ} {filled line : ℕ} {answer : DeskDecision} → at < length s
      → answer ≡ decide_says text table (cut_out s t) (request (cut_out s p) (cut_out s q) (cut_out s r))
      → Added old filled (decided_line answer) new line → line ≤ filled + 92
      → CaseAnswered text table s at old filled new (record { next = t.end; filled = line })
  case_answered in_s said put short = record {
    line = rw (said ∙ ap (λ (k : Case). decide_says text table k.bag (request k.subject k.action k.resource)) (case_cut subject action resource bag)) at put;
    rest = case_past subject action resource bag;
    low = omega (arith, subject.goes_on in_s, action.low, action.within, resource.low, resource.within, bag.low, bag.within);
    high = bag.high;
    short = short;
  }

-- ---- cases, one after the other

pub none_yet : (text table s : List ℕ) (at : ℕ) (new : List ℕ) → at ≤ length s → CasesAnswered text table s at new 0 (record { next = at; filled = 0 })
none_yet text table s at new h = record { lines = refl; counted = omega arith; high = h; inside = omega arith; few = omega arith }

-- the lines from a place on are the first case's and those behind it
from_here : (text table s : List ℕ) (at next : ℕ) → at < length s → drop next s ≡ past_case (drop at s)
    → case_lines_from text table s at ≡ case_line text table (case_of (drop at s)) ++ case_lines_from text table s next
unfolding case_lines
from_here text table s at next h e =
    ap (case_lines text table) (first_case (drop at s) (omega (arith, length-drop at s)))
    ∙ ap (λ (l : List ℕ). case_line text table (case_of (drop at s)) ++ case_lines text table (cases_of l)) (sym e)

count_here : (s : List ℕ) (at next : ℕ) → at < length s → drop next s ≡ past_case (drop at s) → cases_from s at ≡ suc (cases_from s next)
count_here s at next h e = ap length (first_case (drop at s) (omega (arith, length-drop at s))) ∙ ap (λ (l : List ℕ). suc (length (cases_of l))) (sym e)

pub one_more : {text table s : List ℕ} {at : ℕ} {old new : List ℕ} {answered next filled : ℕ} {step : CaseStep}
    → CasesAnswered text table s at old answered (record { next = next; filled = filled }) → next < length s → CaseAnswered text table s next old filled new step
    → filled + 92 ≤ length old → CasesAnswered text table s at new (answered + 1) step
one_more {text} {table} {s} {at} {old} {new} {answered} {next} {filled} {step} p h c room = record {
  lines = p.lines ∙ ap (λ (l : List ℕ). take filled old ++ l) (from_here text table s next step.next h c.rest)
      ∙ sym (append_assoc (take filled old) (case_line text table (case_of (drop next s))) (case_lines_from text table s step.next))
      ∙ ap (λ (l : List ℕ). l ++ case_lines_from text table s step.next) (sym c.line.filled);
  counted = omega (arith, p.counted, count_here s next step.next h c.rest);
  high = c.high;
  inside = omega (arith, c.short, c.line.long);
  few = omega (arith, p.few, c.low);
}

-- past the last byte there is no case
pub all_answered : (s : List ℕ) {answered next : ℕ} → cases_from s 0 ≡ answered + cases_from s next → length s ≤ next → answered ≡ cases_from s 0
all_answered s {answered} {next} e h = omega (arith, e, ap length (no_case (drop next s) (omega (arith, length-drop next s))))

-- ---- a text

-- the table into which a text was compiled begins right
pub begun : {version : ℕ} {text table after : List ℕ} {c : DeskCompiled} → CompileAllows version text table after c → c.refusal ≤ 0 → begins_says text after ≡ true
begun {version} {text} {table} p h = rw p.table (demand_two.compiled_begins version text table (omega (arith, ap (λ (x : DeskCompiled). x.refusal) p.answered)))

pub refused_answered : (s : List ℕ) {version : ℕ} {text table after : List ℕ} {c : DeskCompiled} → CompileAllows version text table after c → 0 < c.refusal → 0 ≡ answered_for version text table s
unfolding answered_for
refused_answered s {version} {text} {table} p h = rw (ne_eqb (compile_says version text table).refusal 0 (λ e. omega (arith, ap (λ (x : DeskCompiled). x.refusal) p.answered))) refl

pub cases_answered : (s : List ℕ) {version : ℕ} {text table after : List ℕ} {c : DeskCompiled} {n : ℕ} → CompileAllows version text table after c → c.refusal ≤ 0 → n ≡ cases_from s 0 → n ≡ answered_for version text table s
unfolding answered_for
cases_answered s {version} {text} {table} p h e = rw (eq-eqb (compile_says version text table).refusal 0 (omega (arith, ap (λ (x : DeskCompiled). x.refusal) p.answered))) e
