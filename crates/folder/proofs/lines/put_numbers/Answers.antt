use Rattle.std.proofs.Common.{◌≤◌, length, arith}
use Rattle.folder.proofs.DecimalLaws.{line_begun, number_then, number_at_last, number_put, line_done}
use Rattle.folder.proofs.lines.put_numbers.Goals as goal
use Rattle.folder.proofs.lines.put_numbers.Goals.{then-i-numbers, else-i-numbers}

pub loop-i-init : goal.loop-i-init
loop-i-init c = record { put = line_begun _ c.requires.0 c.put_word-next.ensures; room = omega arith }

pub loop-i-preserved : goal.loop-i-preserved
loop-i-preserved c = record {
  put = number_put _ _ c.loop-i.invariant.put
      (elim c.if-i-numbers.branch [
        | then-i-numbers w ↦ number_then _ _ w.if-i-numbers.true w.end-is
        | else-i-numbers w ↦ number_at_last _ _ c.loop-i-test.true w.if-i-numbers.false w.end-is
      ])
      c.put_number-next.ensures.0;
  room = omega arith;
}

pub returns : goal.returns
returns c = let past : length c.args.numbers.now ≤ c.loop-i.i = omega arith in (line_done _ _ past c.loop-i.invariant.put, omega arith)
