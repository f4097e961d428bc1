use Rattle.printing.proofs.PageLaws.{printed_for_lines}
use Rattle.printing.proofs.print_request.Goals as goal

pub returns : goal.returns
returns g c =
    printed_for_lines _ _ _ c.print_sheet.ensures c.line_end-subject.ensures c.line_after-second.ensures c.line_end-action.ensures c.line_after-third.ensures c.line_end-resource.ensures
