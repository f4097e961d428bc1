use Rattle.ask.proofs.LineLaws.{begun, refused_answered, cases_answered}
use Rattle.ask.proofs.print_answers.Goals as goal

pub returns-then-c-gt0 : goal.returns-then-c-gt0
returns-then-c-gt0 g c = refused_answered _ c.desk_compile-c.ensures c.if-c-gt0.true

pub print_cases-requires : goal.print_cases-requires
print_cases-requires g c = begun c.desk_compile-c.ensures c.if-c-gt0.false

pub returns : goal.returns
returns g c = cases_answered _ c.desk_compile-c.ensures c.if-c-gt0.false c.print_cases.ensures
