use Rattle.bags_vectors.proofs.Finite.{value_finite}
use Rattle.bags_vectors.proofs.answer.Goals as goal

pub report-requires : goal.report-requires
report-requires g c = value_finite _ _ _ c.desk_lookup-v.ensures
