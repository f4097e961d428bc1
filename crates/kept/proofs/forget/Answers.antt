-- `kept::forget` meets its contract: the notes before `at + c` are set. Assumes nothing.
use mathlib.Core.Path.{◌≡◌, ◌∙◌}
use mathlib.Core.Bool.{cond, ◌&&◌}
use Prim.Native.Nat.{ℕ, ◌+◌, ◌-◌, ◌≤◌}
use native.Mathlib.Omega.{arith}
use lib.Dec.{leb, ltb}
use lib.ListN.{length, get_or, length-set}
use Rattle.questions.proofs.PlaceLaws.{set_cases}
use Rattle.kept.proofs.Noting.{clear_none, clear_here, clear_other, clear_all, not_cleared}
use Rattle.kept.proofs.forget.Goals as goal

pub loop-c-init : goal.loop-c-init
loop-c-init c = (c.requires.notes_len, λ j. clear_none c.args.at j _)

pub loop-c-preserved : goal.loop-c-preserved
loop-c-preserved c = (
  simp length-set c.loop-c.invariant.0,
  λ j.
      set_cases c.loop-c.notes (c.args.at + c.loop-c.c) 0 0 (omega arith)
      (λ x. x ≡ cond (leb c.args.at j && ltb j (c.args.at + (c.loop-c.c + 1))) 0 (get_or c.args.notes.now j 0)) j
      (clear_here c.args.at j _ c.loop-c.c) (λ d. c.loop-c.invariant.1 j ∙ clear_other c.args.at j _ c.loop-c.c d),
)

pub returns-after-loop-c : goal.returns-after-loop-c
returns-after-loop-c c = record {
  by_index = (λ j. c.loop-c.invariant.1 j ∙ clear_all c.args.at j _ _ c.loop-c.c c.if-stale.true (omega arith));
  notes_len_2 = c.loop-c.invariant.0;
}

pub returns-else-stale : goal.returns-else-stale
returns-else-stale c = record {
  by_index = (λ j. not_cleared c.args.at j _ _ c.if-stale.false);
  notes_len_2 = c.requires.notes_len;
}
