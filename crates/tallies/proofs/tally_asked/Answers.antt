-- `tallies::tally_asked` meets its contract: a case for each refusal, and the counts. Assumes nothing.
use Rattle.tallies.proofs.Cases.{held_rules, wrong_table, wrong_request, all_tallied}
use Rattle.tallies.specs.declared.lent.RequestForm.{RequestForm}
use native.Mathlib.Omega.{arith}
use mathlib.Core.Path.{sym, ap, ◌∙◌}
use Rattle.tallies.proofs.tally_asked.Goals as goal

pub count_all-requires : goal.count_all-requires
count_all-requires c = record {
  counts_len = omega arith;
  question = c.requires.question;
  rules_held = held_rules _ _ c.first_wrong-first.result.asks (sym c.held_for.ensures ∙ c.in-Some.is);
  many_le_group_count = c.requires.many_le_group_count;
  requests_value = sym (ap (λ (f : RequestForm). f.refusal) c.first_wrong-first.ensures) ∙ c.if-first-eq0.true;
}

pub returns-in-None : goal.returns-in-None
returns-in-None c =
    wrong_table _ _ _ _ _ _ c.first_wrong-first.result.asks (sym (ap (λ (f : RequestForm). f.asks) c.first_wrong-first.ensures))
    (sym c.held_for.ensures ∙ c.in-None.is)

pub returns-then-first-eq0 : goal.returns-then-first-eq0
returns-then-first-eq0 c =
    all_tallied _ _ _ _ _ _ c.first_wrong-first.result.asks (sym (ap (λ (f : RequestForm). f.asks) c.first_wrong-first.ensures))
    (sym c.held_for.ensures ∙ c.in-Some.is) (ap (λ (f : RequestForm). f.refusal) c.first_wrong-first.ensures) c.if-first-eq0.true c.count_all.ensures

pub returns-else-first-eq0 : goal.returns-else-first-eq0
returns-else-first-eq0 c =
    wrong_request _ _ _ _ _ _ c.first_wrong-first.result.asks (sym (ap (λ (f : RequestForm). f.asks) c.first_wrong-first.ensures))
    (sym c.held_for.ensures ∙ c.in-Some.is) (ap (λ (f : RequestForm). f.refusal) c.first_wrong-first.ensures) c.if-first-eq0.false
