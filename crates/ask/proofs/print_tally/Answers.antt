use Rattle.ask.proofs.TallyLaws.{requests_few}
use Rattle.ask.proofs.print_tally.Goals as goal

pub print_counts-requires : goal.print_counts-requires
print_counts-requires g c = (requests_few _ _ _ _ c.desk_tally-refusal.ensures.answered c.if-refusal-gt0.false, c.requires)
