-- `tokens::runs::run_end` meets its contract: the end of the run from `i` on is the end of the run from `at` on. Assumes nothing.
use mathlib.Core.Path.{◌≡◌, sym, ◌∙◌}
use lib.ListN.{length}
use native.Mathlib.Omega.{arith}
use borrow.Author.Rules.{rules}
use Rattle.tokens.proofs.RunLaws.{goes_on, stops, ends}
use Rattle.tokens.proofs.runs.run_end.Goals as goal

pub returns-then-not-is_of : goal.returns-then-not-is_of
returns-then-not-is_of c =
    let other = sym c.is_of.ensures ∙ c.if-not-is_of.true in
    record { place = sym (stops _ _ _ (search rules) other) ∙ c.loop-i.invariant; low = search rules; high = search rules }

pub loop-i-preserved : goal.loop-i-preserved
loop-i-preserved c =
    let same = sym c.is_of.ensures ∙ c.if-not-is_of.false in
    goes_on _ _ _ (search rules) same ∙ c.loop-i.invariant

pub returns : goal.returns
returns c =
    let end : length c.args.text.now ≡ c.loop-i.i = omega arith in
    record { place = end ∙ (sym (ends _ _ _ (omega arith)) ∙ c.loop-i.invariant); low = search rules; high = search rules }
