-- `bags::values::list_end` meets its contract. Assumes nothing.
use Rattle.std.proofs.Common.{◌≡◌, arith, ◌∙◌}
use Rattle.bags.specs.Reading.{byte}
use Rattle.bags.proofs.ReadLaws.{got, not_got}
use Rattle.bags.proofs.ValueLaws.{list_none, list_long, list_whole}
use Rattle.bags.proofs.values.list_end.Goals as goal

pub returns-in_err-get : goal.returns-in_err-get
returns-in_err-get c = c.from_residual.ensures ∙ list_none _ _ (not_got _ _ c.in_err-get.ensures.lookup.0)

pub returns-then-n-gt-MOST_STRINGS : goal.returns-then-n-gt-MOST_STRINGS
returns-then-n-gt-MOST_STRINGS c =
    let b = got c.args.s.now c.args.at _ c.in_ok-get.ensures.lookup.0 c.in_ok-get.ensures.lookup.1 in
    let size : c.from-n.result ≡ byte c.args.s.now c.args.at = c.from-n.ensures ∙ b.1 in
    list_long _ _ b.0 (omega arith)

pub returns : goal.returns
returns c =
    let b = got c.args.s.now c.args.at _ c.in_ok-get.ensures.lookup.0 c.in_ok-get.ensures.lookup.1 in
    let size : c.from-n.result ≡ byte c.args.s.now c.args.at = c.from-n.ensures ∙ b.1 in
    c.many_end.ensures ∙ rw size (list_whole _ _ b.0 (omega arith))
