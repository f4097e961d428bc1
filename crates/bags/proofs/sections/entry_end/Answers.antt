-- `bags::sections::entry_end` meets its contract. Assumes nothing.
use Rattle.std.proofs.Common.{◌≡◌, ◌+◌, ◌<◌, ◌≤◌, length, arith, sym, ◌∙◌, ap}
use Rattle.bags.specs.Reading.{byte}
use Rattle.bags.specs.Paths.{is_path}
use Rattle.bags.proofs.ReadLaws.{got, not_got, part_to}
use Rattle.bags.proofs.SectionLaws.{entry_cut, entry_wrong, entry_whole}
use Rattle.bags.proofs.sections.entry_end.Goals as goal

pub returns-in_err-get : goal.returns-in_err-get
returns-in_err-get c =
    let out : length c.args.s.now ≤ c.args.at = not_got _ _ c.in_err-get.ensures.lookup.0 in
    c.from_residual.ensures ∙ entry_cut _ _ (omega arith)

pub returns-in_err-kind : goal.returns-in_err-kind
returns-in_err-kind c =
    let b = got c.args.s.now c.args.at _ c.in_ok-get.ensures.lookup.0 c.in_ok-get.ensures.lookup.1 in
    let out : length c.args.s.now ≤ c.args.at + 1 + c.from-n.result = not_got _ _ c.in_err-kind.ensures.lookup.0 in
    let size : c.from-n.result ≡ byte c.args.s.now c.args.at = c.from-n.ensures ∙ b.1 in
    c.from_residual-in_err-kind.ensures ∙ entry_cut _ _ (omega arith)

pub returns-then-is_path : goal.returns-then-is_path
returns-then-is_path c =
    let b = got c.args.s.now c.args.at _ c.in_ok-get.ensures.lookup.0 c.in_ok-get.ensures.lookup.1 in
    let size : c.from-n.result ≡ byte c.args.s.now c.args.at = c.from-n.ensures ∙ b.1 in
    let k = got c.args.s.now (c.args.at + 1 + c.from-n.result) _ c.in_ok-kind.ensures.lookup.0 c.in_ok-kind.ensures.lookup.1 in
    let path = ap is_path (sym (part_to _ _ _)) ∙ sym (rw size at c.is_path.ensures) ∙ c.if-is_path.true in
    rw (k.1, size) at c.value_end.ensures ∙ entry_whole _ _ (omega (arith, k.0)) path

pub returns-else-is_path : goal.returns-else-is_path
returns-else-is_path c =
    let b = got c.args.s.now c.args.at _ c.in_ok-get.ensures.lookup.0 c.in_ok-get.ensures.lookup.1 in
    let size : c.from-n.result ≡ byte c.args.s.now c.args.at = c.from-n.ensures ∙ b.1 in
    let k = got c.args.s.now (c.args.at + 1 + c.from-n.result) _ c.in_ok-kind.ensures.lookup.0 c.in_ok-kind.ensures.lookup.1 in
    entry_wrong _ _ (omega (arith, k.0)) (ap is_path (sym (part_to _ _ _)) ∙ sym (rw size at c.is_path.ensures) ∙ c.if-is_path.false)
