-- `bags::sections::sections_of` meets its contract. Assumes nothing.
use Rattle.std.proofs.Common.{sym, ◌∙◌}
use Rattle.bags.specs.Sections.{sections_of}
use Rattle.bags.proofs.SectionLaws.{broken_there, goes_on}
use Rattle.bags.proofs.sections.sections_of.Goals as goal

pub returns-in_err-resource : goal.returns-in_err-resource
unfolding sections_of
returns-in_err-resource c = c.from_residual.ensures ∙ broken_there _ _ (sym c.section_end.ensures ∙ c.in_err-resource.was)

pub returns-in_err-env : goal.returns-in_err-env
unfolding sections_of
returns-in_err-env c =
    c.from_residual-in_err-env.ensures ∙ broken_there _ _ (sym c.section_end-2.ensures ∙ c.in_err-env.was)
    ∙ goes_on _ _ _ (sym c.section_end.ensures ∙ c.in_ok-resource.was)

pub returns-in_err-end : goal.returns-in_err-end
unfolding sections_of
returns-in_err-end c =
    c.from_residual-in_err-end.ensures ∙ broken_there _ _ (sym c.section_end-3.ensures ∙ c.in_err-end.was)
    ∙ goes_on _ _ _ (sym c.section_end-2.ensures ∙ c.in_ok-env.was)
    ∙ goes_on _ _ _ (sym c.section_end.ensures ∙ c.in_ok-resource.was)

pub returns : goal.returns
unfolding sections_of
returns c =
    goes_on _ _ _ (sym c.section_end-3.ensures ∙ c.in_ok-end.was)
    ∙ goes_on _ _ _ (sym c.section_end-2.ensures ∙ c.in_ok-env.was)
    ∙ goes_on _ _ _ (sym c.section_end.ensures ∙ c.in_ok-resource.was)
