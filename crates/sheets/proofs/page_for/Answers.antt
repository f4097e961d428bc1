-- `sheets::page_for` meets its contract: the system, and any other subject. Assumes nothing.
use Rattle.sheets.proofs.Cases.{system_listed}
use Rattle.turns.proofs.RowLaws.{none_ready, none_many}
use mathlib.Core.Path.{sym, ◌∙◌}
use native.Mathlib.Omega.{arith}
use borrow.Author.Rules.{rules}
use Rattle.sheets.proofs.page_for.Goals as goal

pub write_page-requires : goal.write_page-requires
write_page-requires c = record {
  asked = c.requires.asked;
  rules_for = record {
    whose = sym c.if-is_system.true ∙ c.is_system.ensures;
    ready = none_ready _ _;
    many = none_many _;
    few = omega arith;
    typed = λ l. absurd (omega arith);
  };
}

pub returns-then-is_system : goal.returns-then-is_system
returns-then-is_system c = system_listed _ _ _ _ _ _ _ (sym c.is_system.ensures ∙ c.if-is_system.true) _ c.requires.asked.all_rows c.write_page.ensures

pub page_for_other-requires : goal.page_for_other-requires
page_for_other-requires c = record {
  asked = c.requires.asked;
  subject_value = sym c.is_system.ensures ∙ c.if-is_system.false;
}
