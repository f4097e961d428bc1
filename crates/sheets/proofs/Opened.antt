-- One word for proofs that compute: who unfolds it sees through what the sheet call answers and writes. Assumes nothing.
use Rattle.deciding.proofs.Opened.{deciding_opened}
use Rattle.pages.proofs.Opened.{pages_opened}
use Rattle.sheets.specs.Sheets.{divided_as, sheet_answer, sheet_said, sheet_after, refusal_of, request_refusal, unless, decision_by, mark_there}

unfoldable pub sheets_opened : Unit {0}
unfolding deciding_opened pages_opened divided_as sheet_answer sheet_said sheet_after refusal_of request_refusal unless decision_by mark_there
sheets_opened = tt
