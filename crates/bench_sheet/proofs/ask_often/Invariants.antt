use Rattle.std.proofs.Common.{◌<◌}
use Rattle.bench_sheet.proofs.ask_often.Given as goal

abbrev pub invariant-loop : goal.invariant-loop
invariant-loop l = l.sum < 1000003
