-- `bags::sections::bag_sections` meets its contract. Assumes nothing.
use Rattle.std.proofs.Common.{arith, sym, ◌∙◌}
use Rattle.bags.proofs.SectionLaws.{bag_long, bag_broken, bag_followed, bag_whole}
use Rattle.bags.proofs.sections.bag_sections.Goals as goal

pub returns-then-s-gt-MOST_BAG_BYTES : goal.returns-then-s-gt-MOST_BAG_BYTES
returns-then-s-gt-MOST_BAG_BYTES c = bag_long _ (omega arith)

pub returns-in_err-p : goal.returns-in_err-p
returns-in_err-p c = c.from_residual.ensures ∙ bag_broken _ (omega arith) (sym c.sections_of.ensures ∙ c.in_err-p.was)

pub returns-then-p-s : goal.returns-then-p-s
returns-then-p-s c = bag_whole _ _ (omega arith) (sym c.sections_of.ensures ∙ c.in_ok-p.was) c.if-p-s.true

pub returns-else-p-s : goal.returns-else-p-s
returns-else-p-s c = bag_followed _ c.in_ok-p.p (omega arith) (sym c.sections_of.ensures ∙ c.in_ok-p.was) c.if-p-s.false
