-- `kept::late::lates` meets its contract: the marks of the columns passed are found. Assumes nothing.
use mathlib.Core.Path.{◌≡◌, refl}
use Prim.Native.Nat.{ℕ, ◌-◌, ◌≤◌, ◌<◌}
use native.Mathlib.Omega.{arith}
use lib.ListN.{length, get_or, length-set}
use Rattle.questions.proofs.PlaceLaws.{set_cases}
use Rattle.kept.specs.Notes.{Late}
use Rattle.kept.proofs.late.lates.Goals as goal

pub loop-column-init : goal.loop-column-init
loop-column-init c = (refl, omega arith, λ j h. absurd (omega arith))

pub late-mark-requires : goal.late-mark-requires
late-mark-requires c = c.requires

pub loop-column-preserved : goal.loop-column-preserved
loop-column-preserved c =
    let loop = c.loop-column in (
      simp length-set loop.invariant.0,
      omega (arith, c.loop-column-test.true),
      λ j h.
          set_cases loop.found loop.column c.late-mark.result 0 (omega (arith, c.loop-column-test.true)) (λ x. Late c.args.looks.now c.args.policies j x) j
          (λ e. rw e c.late-mark.ensures) (λ d. loop.invariant.2 j (omega arith)),
    )

pub returns : goal.returns
returns c = λ column h. c.loop-column.invariant.2 column (omega arith)
