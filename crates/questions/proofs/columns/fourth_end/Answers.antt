-- `questions::columns::fourth_end` meets its contract. Assumes nothing.
use Rattle.std.proofs.Common.{◌≡◌, arith, ◌∙◌}
use Rattle.bags.specs.Reading.{byte}
use Rattle.bags.proofs.ReadLaws.{got, not_got}
use Rattle.questions.proofs.ColumnLaws.{fourth_none, fourth_long, fourth_whole}
use Rattle.questions.proofs.columns.fourth_end.Goals as goal

pub returns-in_err-get : goal.returns-in_err-get
returns-in_err-get c = c.from_residual.ensures ∙ fourth_none _ _ (not_got _ _ c.in_err-get.ensures.lookup.0)

pub returns-then-n-gt-MOST_COLUMNS : goal.returns-then-n-gt-MOST_COLUMNS
returns-then-n-gt-MOST_COLUMNS c =
    let b = got c.args.s.now c.args.at _ c.in_ok-get.ensures.lookup.0 c.in_ok-get.ensures.lookup.1 in
    let size : c.from-n.result ≡ byte c.args.s.now c.args.at = c.from-n.ensures ∙ b.1 in
    fourth_long _ _ b.0 (omega arith)

pub returns : goal.returns
returns c =
    let b = got c.args.s.now c.args.at _ c.in_ok-get.ensures.lookup.0 c.in_ok-get.ensures.lookup.1 in
    let size : c.from-n.result ≡ byte c.args.s.now c.args.at = c.from-n.ensures ∙ b.1 in
    c.columns_end.ensures ∙ rw size (fourth_whole _ _ b.0 (omega arith))
