-- `tallies::lent::form_of` meets its contract: a case for each part that is wrong. Assumes nothing.
use Rattle.tallies.proofs.Refusing.{form_system, form_21, form_22, form_23, form_right}
use Rattle.deciding.proofs.Answering.{untyped, typed_form}
use mathlib.Core.Path.{sym, ◌∙◌}
use Rattle.tallies.proofs.lent.form_of.Goals as goal

pub returns-then-is_system : goal.returns-then-is_system
returns-then-is_system c = form_system _ (sym c.is_system.ensures ∙ c.if-is_system.true)

pub returns-then-subject_type-eq0 : goal.returns-then-subject_type-eq0
returns-then-subject_type-eq0 c = form_21 _ (sym c.is_system.ensures ∙ c.if-is_system.false) (untyped _ _ _ c.subject_type.ensures c.if-subject_type-eq0.true)

pub returns-then-not-is_action : goal.returns-then-not-is_action
returns-then-not-is_action c =
    form_22 _ (sym c.is_system.ensures ∙ c.if-is_system.false) (typed_form _ _ _ c.subject_type.ensures c.if-subject_type-eq0.false)
    (sym c.is_action.ensures ∙ c.if-not-is_action.true)

pub returns-then-resource_type-eq0 : goal.returns-then-resource_type-eq0
returns-then-resource_type-eq0 c =
    form_23 _ (sym c.is_system.ensures ∙ c.if-is_system.false) (typed_form _ _ _ c.subject_type.ensures c.if-subject_type-eq0.false)
    (sym c.is_action.ensures ∙ c.if-not-is_action.false) (untyped _ _ _ c.resource_type.ensures c.if-resource_type-eq0.true)

pub returns : goal.returns
returns c =
    form_right _ (sym c.is_system.ensures ∙ c.if-is_system.false) (typed_form _ _ _ c.subject_type.ensures c.if-subject_type-eq0.false)
    (sym c.is_action.ensures ∙ c.if-not-is_action.false) (typed_form _ _ _ c.resource_type.ensures c.if-resource_type-eq0.false)
