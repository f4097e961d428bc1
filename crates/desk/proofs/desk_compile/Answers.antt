-- `desk::desk_compile` meets its contract: each arm is a case of what document 01 says. Assumes nothing.
use borrow.Author.Rules.{rules}
use mathlib.Core.Path.{sym, ap, ◌∙◌}
use Rattle.compiling.specs.Outcome.{compile_said}
use Rattle.desk.specs.Answers.{compiled_as, compile_says}
use Rattle.desk.proofs.desk_compile.Goals as goal

pub returns-in-Ok : goal.returns-in-Ok
unfolding compile_says compile_said
returns-in-Ok c =
    let e = c.compile.ensures in
    record { answered = ap (λ a. compiled_as (compile_said a)) (sym c.in-Ok.is ∙ e.answered); table = e.table }

pub returns-in-Err : goal.returns-in-Err
unfolding compile_says compile_said
returns-in-Err c =
    let e = c.compile.ensures in
    record { answered = ap (λ a. compiled_as (compile_said a)) (sym c.in-Err.is ∙ e.answered); table = e.table }
