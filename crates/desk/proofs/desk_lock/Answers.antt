-- `desk::desk_lock` meets its contract: each arm is a case of what document 02 says. Assumes nothing.
use borrow.Author.Rules.{rules}
use mathlib.Core.Path.{sym, ap, ◌∙◌}
use Rattle.desk.specs.Answers.{locked_as, lock_says}
use Rattle.desk.proofs.desk_lock.Goals as goal

pub returns-in-Ok : goal.returns-in-Ok
unfolding lock_says locked_as
returns-in-Ok c =
    let e = c.lock.ensures in
    record { answered = ap locked_as (sym c.in-Ok.is ∙ e.answered); room = e.bytes }

pub returns-in-Err : goal.returns-in-Err
unfolding lock_says locked_as
returns-in-Err c =
    let e = c.lock.ensures in
    record { answered = ap locked_as (sym c.in-Err.is ∙ e.answered); room = e.bytes }
