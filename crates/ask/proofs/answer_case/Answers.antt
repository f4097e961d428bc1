use Rattle.ask.proofs.LineLaws.{case_answered}
use Rattle.ask.proofs.answer_case.Goals as goal

pub returns : goal.returns
returns c =
    case_answered _ _ c.part_at-subject.ensures c.part_at-action.ensures c.part_at-resource.ensures c.part_at-bag.ensures c.requires.0
    c.desk_decide-answer.ensures c.put_decided-line.ensures.0 c.put_decided-line.ensures.1
