-- `sheets::page_for_other` meets its contract: a case for each refusal, and the page. Assumes nothing.
use Rattle.sheets.proofs.Cases.{refused_21, refused_22, refused_23, refused_20, held_listed}
use Rattle.deciding.proofs.HeldLaws.{held_ready, held_many, held_few}
use Rattle.deciding.proofs.Answering.{untyped, typed_form, typed_number}
use mathlib.Core.Path.{sym, ◌∙◌}
use borrow.Author.Tests.{not-true, not-false}
use borrow.Author.Rules.{rules}
use Rattle.sheets.proofs.page_for_other.Goals as goal

pub returns-then-subject_type-eq0 : goal.returns-then-subject_type-eq0
returns-then-subject_type-eq0 c = refused_21 _ _ _ _ _ _ _ c.requires.subject_value (untyped _ _ _ c.subject_type-subject_type.ensures c.if-subject_type-eq0.true)

pub returns-then-not-is_action : goal.returns-then-not-is_action
returns-then-not-is_action c = refused_22 _ _ _ _ _ _ _ c.requires.subject_value (typed_form _ _ _ c.subject_type-subject_type.ensures c.if-subject_type-eq0.false) (sym c.is_action.ensures ∙ c.if-not-is_action.true)

pub returns-then-resource_type-eq0 : goal.returns-then-resource_type-eq0
returns-then-resource_type-eq0 c =
    refused_23 _ _ _ _ _ _ _ c.requires.subject_value (typed_form _ _ _ c.subject_type-subject_type.ensures c.if-subject_type-eq0.false)
    (sym c.is_action.ensures ∙ c.if-not-is_action.false) (untyped _ _ _ c.resource_type-resource_type.ensures c.if-resource_type-eq0.true)

pub write_page-requires : goal.write_page-requires
write_page-requires c =
    let h = sym c.held_policies.ensures ∙ c.in-Some.is in
    record {
      asked = c.requires.asked;
      rules_for = record {
        whose = sym c.requires.subject_value;
        ready = held_ready _ _ _ _ h;
        many = held_many _ _ _ _ h;
        few = held_few _ _ _ _ h;
        typed = λ l. record {
          subject_type = typed_number _ _ _ c.subject_type-subject_type.ensures c.if-subject_type-eq0.false;
          resource_type = typed_number _ _ _ c.resource_type-resource_type.ensures c.if-resource_type-eq0.false;
        };
      };
    }

pub returns-in-None : goal.returns-in-None
returns-in-None c =
    refused_20 _ _ _ _ _ _ _ c.requires.subject_value (typed_form _ _ _ c.subject_type-subject_type.ensures c.if-subject_type-eq0.false)
    (sym c.is_action.ensures ∙ c.if-not-is_action.false) (typed_form _ _ _ c.resource_type-resource_type.ensures c.if-resource_type-eq0.false)
    (sym c.held_policies.ensures ∙ c.in-None.is)

pub returns-in-Some : goal.returns-in-Some
returns-in-Some c =
    held_listed _ _ _ _ _ _ _ c.requires.subject_value (typed_form _ _ _ c.subject_type-subject_type.ensures c.if-subject_type-eq0.false)
    (sym c.is_action.ensures ∙ c.if-not-is_action.false) (typed_form _ _ _ c.resource_type-resource_type.ensures c.if-resource_type-eq0.false)
    (sym c.held_policies.ensures ∙ c.in-Some.is) c.requires.asked.all_rows c.write_page.ensures
