use Rattle.std.proofs.Common.{◌≡◌, ◌+◌, ◌*◌, get_or, arith}
use Rattle.cases.proofs.CaseLaws.{no_part, part_cut, part_whole}
use Rattle.cases.proofs.part_at.Goals as goal

pub returns-then-left-lt2 : goal.returns-then-left-lt2
returns-then-left-lt2 c = no_part _ _ c.requires c.if-left-lt2.true

pub returns-then-left-size : goal.returns-then-left-size
returns-then-left-size c =
    let e : c.from-size.result ≡ get_or c.args.s.now c.args.at 0 + 256 * get_or c.args.s.now (c.args.at + 1) 0 = omega arith in
    part_cut _ _ e c.if-left-lt2.false c.if-left-size.true

pub returns : goal.returns
returns c =
    let e : c.from-size.result ≡ get_or c.args.s.now c.args.at 0 + 256 * get_or c.args.s.now (c.args.at + 1) 0 = omega arith in
    part_whole _ _ e c.if-left-lt2.false c.if-left-size.false
