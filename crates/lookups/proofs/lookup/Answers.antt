-- `lookups::lookup` meets its contract. Assumes nothing.
use borrow.Author.Rules.{rules}
use mathlib.Core.Path.{sym, ◌∙◌}
use Rattle.bags.proofs.SectionLaws.{bag_divided, is_none, sections_at}
use Rattle.lookups.proofs.Answers.{refused, found_under, found_nowhere}
use Rattle.lookups.proofs.lookup.Goals as goal

pub base_value-requires : goal.base_value-requires
base_value-requires c = sections_at _ _ (bag_divided _ _ (sym c.bag_sections.ensures ∙ c.in-Some.is)).1

pub returns-in_default : goal.returns-in_default
returns-in_default c = refused _ _ _ (sym (is_none _ (sym c.bag_sections.ensures ∙ c.in_default.is)))

pub returns-then-is_path : goal.returns-then-is_path
returns-then-is_path c =
    let b = bag_divided _ c.in-Some.p (sym c.bag_sections.ensures ∙ c.in-Some.is) in
    found_under _ _ _ b.0 _ _ b.1 (sym c.is_path.ensures ∙ c.if-is_path.true) c.base_value.ensures

pub returns-else-is_path : goal.returns-else-is_path
returns-else-is_path c =
    let b = bag_divided _ c.in-Some.p (sym c.bag_sections.ensures ∙ c.in-Some.is) in
    found_nowhere _ _ _ b.0 _ (sym c.is_path.ensures ∙ c.if-is_path.false) c.absent_value.ensures
