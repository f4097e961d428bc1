-- `tokens::runs::long_run_end` meets its contract: the run's end from `i` on, and from each of the next places that are passed, is that from `at` on. Assumes nothing.
use mathlib.Core.Path.{◌≡◌, sym, ◌∙◌}
use Prim.Native.Nat.{ℕ, ◌+◌}
use native.Mathlib.Omega.{arith}
use borrow.Author.Rules.{rules}
use Rattle.tokens.specs.Runs.{run_end}
use Rattle.tokens.proofs.RunLaws.{goes_on, goes_to, stops}
use Rattle.tokens.proofs.runs.long_run_end.Goals as goal

pub returns-then-not-is_of : goal.returns-then-not-is_of
returns-then-not-is_of c = record {
  place = sym (stops _ _ _ (omega arith) (sym c.is_of.ensures ∙ c.if-not-is_of.true)) ∙ c.loop-i.invariant.0;
  low = search rules;
  high = search rules;
}

pub returns-then-not-is_of-2 : goal.returns-then-not-is_of-2
returns-then-not-is_of-2 c =
    let Ends : ℕ → Type 0 = λ more. let args = c.args in
    run_end args.sort args.text.now (c.loop-i.i + more) ≡ run_end args.sort args.text.now args.at in
    let past-1 : Ends 1 = goes_on _ _ _ (omega arith) (sym c.is_of.ensures ∙ c.if-not-is_of.false) ∙ c.loop-i.invariant.0 in
    record {
      place = sym (stops _ _ (c.loop-i.i + 1) (omega arith) (sym c.is_of-in-loop-i.ensures ∙ c.if-not-is_of-2.true)) ∙ past-1;
      low = omega arith;
      high = omega arith;
    }

pub returns-then-not-is_of-3 : goal.returns-then-not-is_of-3
returns-then-not-is_of-3 c =
    let Ends : ℕ → Type 0 = λ more. let args = c.args in
    run_end args.sort args.text.now (c.loop-i.i + more) ≡ run_end args.sort args.text.now args.at in
    let past-1 : Ends 1 = goes_on _ _ _ (omega arith) (sym c.is_of.ensures ∙ c.if-not-is_of.false) ∙ c.loop-i.invariant.0 in
    let past-2 : Ends 2 = goes_to _ _ (c.loop-i.i + 1) _ (omega arith) (omega arith) (sym c.is_of-in-loop-i.ensures ∙ c.if-not-is_of-2.false) ∙ past-1 in
    record {
      place = sym (stops _ _ (c.loop-i.i + 2) (omega arith) (sym c.is_of-in-loop-i-2.ensures ∙ c.if-not-is_of-3.true)) ∙ past-2;
      low = omega arith;
      high = omega arith;
    }

pub returns-then-not-is_of-4 : goal.returns-then-not-is_of-4
returns-then-not-is_of-4 c =
    let Ends : ℕ → Type 0 = λ more. let args = c.args in
    run_end args.sort args.text.now (c.loop-i.i + more) ≡ run_end args.sort args.text.now args.at in
    let past-1 : Ends 1 = goes_on _ _ _ (omega arith) (sym c.is_of.ensures ∙ c.if-not-is_of.false) ∙ c.loop-i.invariant.0 in
    let past-2 : Ends 2 = goes_to _ _ (c.loop-i.i + 1) _ (omega arith) (omega arith) (sym c.is_of-in-loop-i.ensures ∙ c.if-not-is_of-2.false) ∙ past-1 in
    let past-3 : Ends 3 = goes_to _ _ (c.loop-i.i + 2) _ (omega arith) (omega arith) (sym c.is_of-in-loop-i-2.ensures ∙ c.if-not-is_of-3.false) ∙ past-2 in
    record {
      place = sym (stops _ _ (c.loop-i.i + 3) (omega arith) (sym c.is_of-in-loop-i-3.ensures ∙ c.if-not-is_of-4.true)) ∙ past-3;
      low = omega arith;
      high = omega arith;
    }

pub loop-i-preserved : goal.loop-i-preserved
loop-i-preserved c =
    let Ends : ℕ → Type 0 = λ more. let args = c.args in
    run_end args.sort args.text.now (c.loop-i.i + more) ≡ run_end args.sort args.text.now args.at in
    let past-1 : Ends 1 = goes_on _ _ _ (omega arith) (sym c.is_of.ensures ∙ c.if-not-is_of.false) ∙ c.loop-i.invariant.0 in
    let past-2 : Ends 2 = goes_to _ _ (c.loop-i.i + 1) _ (omega arith) (omega arith) (sym c.is_of-in-loop-i.ensures ∙ c.if-not-is_of-2.false) ∙ past-1 in
    let past-3 : Ends 3 = goes_to _ _ (c.loop-i.i + 2) _ (omega arith) (omega arith) (sym c.is_of-in-loop-i-2.ensures ∙ c.if-not-is_of-3.false) ∙ past-2 in
    let past-4 : Ends 4 = goes_to _ _ (c.loop-i.i + 3) _ (omega arith) (omega arith) (sym c.is_of-in-loop-i-3.ensures ∙ c.if-not-is_of-4.false) ∙ past-3 in
    (past-4, omega arith, omega arith)
