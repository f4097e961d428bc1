use Rattle.ask.proofs.TallyLaws.{policies_few, refused_counted, none_counted, some_counted}
use Rattle.ask.proofs.print_counted.Goals as goal

pub returns-then-c-gt0 : goal.returns-then-c-gt0
returns-then-c-gt0 g c = refused_counted c.desk_compile-c.ensures _ _ c.if-c-gt0.true

pub print_tally-requires : goal.print_tally-requires
print_tally-requires g c = policies_few c.desk_compile-c.ensures

pub returns-then-n-lt1 : goal.returns-then-n-lt1
returns-then-n-lt1 g c = none_counted c.desk_compile-c.ensures _ _ c.if-c-gt0.false c.if-n-lt1.true c.print_tally.ensures

pub print_tally-requires-2 : goal.print_tally-requires-2
print_tally-requires-2 g c = policies_few c.desk_compile-c.ensures

pub returns : goal.returns
returns g c = some_counted c.desk_compile-c.ensures _ _ _ c.if-c-gt0.false c.from.ensures c.print_tally-2.ensures
