-- `lookups::finding::same_path` meets its contract: the bytes left of the part are those left of the path exactly when all are. Assumes nothing.
use Rattle.std.proofs.Common.{arith, sym, ◌∙◌}
use Rattle.bags.proofs.ReadLaws.{part_to}
use Rattle.lookups.proofs.FindLaws.{path_end, path_blank, path_short, path_differs, path_on}
use Rattle.lookups.proofs.finding.same_path.Goals as goal

pub loop-c-init : goal.loop-c-init
loop-c-init c = rw part_to

pub loop-c-preserved-then-is_blank : goal.loop-c-preserved-then-is_blank
loop-c-preserved-then-is_blank c =
    path_blank c.args.path.now c.loop-c.c-index (omega arith) _ (sym c.is_blank.ensures ∙ c.if-is_blank.true) ∙ c.loop-c.invariant

pub returns-in_default : goal.returns-in_default
returns-in_default c =
    path_differs c.args.path.now c.loop-c.c-index (omega arith) (sym c.is_blank.ensures ∙ c.if-is_blank.false) _ _ c.if-first-c.false
    ∙ rw c.in-Some.ensures.cases.0 at c.loop-c.invariant

pub returns-in_default-2 : goal.returns-in_default-2
returns-in_default-2 c =
    path_short c.args.path.now c.loop-c.c-index (omega arith) (sym c.is_blank.ensures ∙ c.if-is_blank.false) _ (rw c.in_default.is at c.split_first.ensures.cases)
    ∙ c.loop-c.invariant

pub loop-c-preserved : goal.loop-c-preserved
loop-c-preserved c =
    path_on c.args.path.now c.loop-c.c-index (omega arith) (sym c.is_blank.ensures ∙ c.if-is_blank.false) _ _ c.if-first-c.true
    ∙ rw c.in-Some.ensures.cases.0 at c.loop-c.invariant

pub returns : goal.returns
returns c = c.is_empty.ensures ∙ path_end c.args.path.now c.loop-c.c-index _ (omega arith) ∙ c.loop-c.invariant
