-- The reader of a candidate meets its contract. Assumes nothing.
use Rattle.std.proofs.Common.{◌≡◌, arith, sym, ◌∙◌}
use Rattle.bags.proofs.ReadLaws.{got, not_got}
use Rattle.questions.proofs.ColumnLaws.{candidate_none, candidate_absent, candidate_value}
use Rattle.questions.proofs.columns.CandidateThing.end.Goals as goal

pub returns-in_err-kind : goal.returns-in_err-kind
returns-in_err-kind c = c.from_residual.ensures ∙ candidate_none _ _ (not_got _ _ c.in_err-kind.ensures.lookup.0)

pub returns-in-0 : goal.returns-in-0
returns-in-0 c =
    let b = got c.args.s.now c.args.at _ c.in_ok-kind.ensures.lookup.0 c.in_ok-kind.ensures.lookup.1 in
    candidate_absent _ _ b.0 (sym b.1 ∙ c.in-0.is)

pub returns-in_default : goal.returns-in_default
returns-in_default c =
    let b = got c.args.s.now c.args.at _ c.in_ok-kind.ensures.lookup.0 c.in_ok-kind.ensures.lookup.1 in
    rw b.1 at c.value_end.ensures ∙ candidate_value _ _ b.0 (let is = b.1 in omega arith)
