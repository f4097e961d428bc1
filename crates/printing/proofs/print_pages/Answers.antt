use Rattle.std.proofs.Common.{arith}
use Rattle.printing.proofs.PageLaws.{goes_on, goes_within, few_written, rows_joined, all_counted}
use Rattle.printing.proofs.print_pages.Goals as goal

pub overflow_add-listed : goal.overflow_add-listed
overflow_add-listed g c = omega (arith, few_written c.print_page-page.ensures (omega arith))

pub loop-start-smaller : goal.loop-start-smaller
loop-start-smaller g c = omega (arith, goes_on c.print_page-page.ensures (omega arith) c.loop-start-test.true)

pub loop-start-preserved : goal.loop-start-preserved
loop-start-preserved g c = record {
  few = omega (arith, few_written c.print_page-page.ensures (omega arith), goes_on c.print_page-page.ensures (omega arith) c.loop-start-test.true);
  within = goes_within c.print_page-page.ensures (omega arith);
  all = omega (arith, rows_joined c.print_page-page.ensures (omega arith), c.loop-start.invariant.all);
}

pub returns : goal.returns
returns g c = all_counted _ _ _ c.loop-start.invariant.all c.loop-start-test.false
