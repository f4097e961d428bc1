use Rattle.std.proofs.Common.{◌≡◌, ◌-◌, cond, length, take, drop, eqb, ltb, Some, None, rules, tests}
use Rattle.std.proofs.lemmas.Iterator.{YieldsList-from_slice}
use Rattle.std.proofs.lemmas.Iterator.Search.{position_from_yields_List}
use Rattle.request_lines.proofs.LineLaws.{feed_place, ends_from}
use Rattle.request_lines.proofs.line_end.Goals as goal

pub returns : goal.returns
returns c =
    let rest = take (length c.args.s.now - c.args.at) (drop c.args.at c.args.s.now) in
    let found : c.position.result ≡ cond (ltb (feed_place rest) (length rest)) (Some (feed_place rest)) None =
    position_from_yields_List (λ b. eqb b 10) _ _ c.position.result c.position.ensures.ran (YieldsList-from_slice _ c.iter.ensures.rest) (λ x b q k. search (rules, tests)) in
    rw c.unwrap_or.ensures (ends_from _ _ _ c.requires found)
