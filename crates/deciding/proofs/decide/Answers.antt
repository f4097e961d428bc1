-- `deciding::decide` meets its contract: test by test, in document 01's order. Assumes nothing.
use Rattle.deciding.proofs.Answering.{untyped, typed_form, typed_number, the_system, refused_21, refused_22, refused_23, refused_24, as_held, none_given}
use Rattle.bags.proofs.SectionLaws.{bag_divided, is_none, sections_at}
use Rattle.bags.proofs.Exactly.{bag_exactly}
use Rattle.meaning.specs.Targets.{is_system, is_subject, is_action, is_resource}
use borrow.Author.Tests.{not-true, not-false}
use mathlib.Core.Bool.{true, false}
use mathlib.Core.Path.{◌≡◌, sym, ◌∙◌}
use Rattle.std.proofs.lemmas.Result.{err_from_is_err_and}
use borrow.Author.Rules.{rules}
use Rattle.deciding.proofs.decide.Goals as goal

-- ---- the answers
pub returns-then-is_system : goal.returns-then-is_system
returns-then-is_system c = the_system _ _ _ _ (sym c.is_system.ensures ∙ c.if-is_system.true)

pub returns-then-subject_type-eq0 : goal.returns-then-subject_type-eq0
returns-then-subject_type-eq0 c =
    let other : is_system c.args.subject.now ≡ false = sym c.is_system.ensures ∙ c.if-is_system.false in
    refused_21 _ _ _ _ other (untyped _ _ _ c.subject_type-subject_type.ensures c.if-subject_type-eq0.true)

pub returns-then-not-is_action : goal.returns-then-not-is_action
returns-then-not-is_action c =
    let other : is_system c.args.subject.now ≡ false = sym c.is_system.ensures ∙ c.if-is_system.false in
    let subject : is_subject c.args.subject.now ≡ true = typed_form _ _ _ c.subject_type-subject_type.ensures c.if-subject_type-eq0.false in
    refused_22 _ _ _ _ other subject (sym c.is_action.ensures ∙ c.if-not-is_action.true)

pub returns-then-resource_type-eq0 : goal.returns-then-resource_type-eq0
returns-then-resource_type-eq0 c =
    let other : is_system c.args.subject.now ≡ false = sym c.is_system.ensures ∙ c.if-is_system.false in
    let subject : is_subject c.args.subject.now ≡ true = typed_form _ _ _ c.subject_type-subject_type.ensures c.if-subject_type-eq0.false in
    let action : is_action c.args.action.now ≡ true = sym c.is_action.ensures ∙ c.if-not-is_action.false in
    refused_23 _ _ _ _ other subject action
    (untyped _ _ _ c.resource_type-resource_type.ensures c.if-resource_type-eq0.true)

pub held-requires : goal.held-requires
held-requires c =
    let b = bag_divided _ _ (sym c.bag_sections.ensures ∙ c.in_ok-p.ensures.ok_part) in
    record {
      sectioned = (sections_at _ _ b.1, ((bag_exactly _).0 b.0).1.most);
      types_of = record {
        subject_type = typed_number _ _ _ c.subject_type-subject_type.ensures c.if-subject_type-eq0.false;
        resource_type = typed_number _ _ _ c.resource_type-resource_type.ensures c.if-resource_type-eq0.false;
      };
    }

pub returns-in_err-p : goal.returns-in_err-p
returns-in_err-p c =
    let other : is_system c.args.subject.now ≡ false = sym c.is_system.ensures ∙ c.if-is_system.false in
    let subject : is_subject c.args.subject.now ≡ true = typed_form _ _ _ c.subject_type-subject_type.ensures c.if-subject_type-eq0.false in
    let action : is_action c.args.action.now ≡ true = sym c.is_action.ensures ∙ c.if-not-is_action.false in
    let resource : is_resource c.args.resource.now ≡ true = typed_form _ _ _ c.resource_type-resource_type.ensures c.if-resource_type-eq0.false in
    let r = err_from_is_err_and c.from_residual.result c.from_residual.ensures.1 in
    let n = none_given _ _ _ (sym c.in_err-p.ensures.value) in
    rw (r.1, r.2, ← n.1) (refused_24 _ _ _ _ other subject action resource (sym (is_none _ (sym c.bag_sections.ensures ∙ n.0))))

pub returns : goal.returns
returns c =
    let other : is_system c.args.subject.now ≡ false = sym c.is_system.ensures ∙ c.if-is_system.false in
    let subject : is_subject c.args.subject.now ≡ true = typed_form _ _ _ c.subject_type-subject_type.ensures c.if-subject_type-eq0.false in
    let action : is_action c.args.action.now ≡ true = sym c.is_action.ensures ∙ c.if-not-is_action.false in
    let resource : is_resource c.args.resource.now ≡ true = typed_form _ _ _ c.resource_type-resource_type.ensures c.if-resource_type-eq0.false in
    let b = bag_divided _ _ (sym c.bag_sections.ensures ∙ c.in_ok-p.ensures.ok_part) in
    c.held.ensures
    ∙ as_held _ _ _ _ other subject action resource b.0 _ b.1
