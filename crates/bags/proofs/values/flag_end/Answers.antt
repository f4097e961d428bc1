-- `bags::values::flag_end` meets its contract. Assumes nothing.
use Rattle.std.proofs.Common.{◌≡◌, ◌<◌, ◌≤◌, length, arith, sym, ◌∙◌}
use Rattle.bags.specs.Reading.{byte}
use Rattle.bags.proofs.ReadLaws.{got, not_got}
use Rattle.bags.proofs.ValueLaws.{flag_none, flag_high, flag_whole}
use Rattle.bags.proofs.values.flag_end.Goals as goal

pub returns-in_err-get : goal.returns-in_err-get
returns-in_err-get c = c.from_residual.ensures ∙ flag_none _ _ (not_got _ _ c.in_err-get.ensures.lookup.0)

pub returns-then-branch-le1 : goal.returns-then-branch-le1
returns-then-branch-le1 c =
    let b = got c.args.s.now c.args.at _ c.in_ok-get.ensures.lookup.0 c.in_ok-get.ensures.lookup.1 in
    flag_whole _ _ b.0 (omega arith)

pub returns-else-branch-le1 : goal.returns-else-branch-le1
returns-else-branch-le1 c =
    let b = got c.args.s.now c.args.at _ c.in_ok-get.ensures.lookup.0 c.in_ok-get.ensures.lookup.1 in
    flag_high _ _ b.0 (omega arith)
