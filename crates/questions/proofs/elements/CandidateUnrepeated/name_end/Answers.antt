-- What tells a candidate from the others ends where it ends. Assumes nothing.
use Rattle.questions.proofs.ColumnLaws.{candidate_name}
use Rattle.questions.proofs.elements.CandidateUnrepeated.name_end.Goals as goal

pub returns : goal.returns
returns c = candidate_name _ _ _ c.requires
