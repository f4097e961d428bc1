-- `desk::desk_sheet` meets its contract: each arm is a case of what document 01 says. Assumes nothing.
use borrow.Author.Rules.{rules}
use mathlib.Core.Path.{sym, ap, ◌∙◌}
use Rattle.sheets.specs.Sheets.{sheet_said}
use Rattle.desk.specs.Answers.{listed_as, sheet_says}
use Rattle.desk.proofs.desk_sheet.Goals as goal

pub returns-in-Ok : goal.returns-in-Ok
unfolding sheet_says sheet_said
returns-in-Ok c =
    let e = c.sheet.ensures in
    record { answered = ap (λ a. listed_as (sheet_said a)) (sym c.in-Ok.is ∙ e.answered); sheet = e.sheet }

pub returns-in-Err : goal.returns-in-Err
unfolding sheet_says sheet_said
returns-in-Err c =
    let e = c.sheet.ensures in
    record { answered = ap (λ a. listed_as (sheet_said a)) (sym c.in-Err.is ∙ e.answered); sheet = e.sheet }
