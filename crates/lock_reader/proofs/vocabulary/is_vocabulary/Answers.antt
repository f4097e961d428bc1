-- `lock_reader::vocabulary::is_vocabulary` meets its contract: the entries left are a vocabulary's exactly when all are. Assumes nothing.
use native.Mathlib.Omega.{arith}
use Rattle.locks.proofs.EntryLaws.{entries_end, entries_none, entries_bad, entries_on}
use borrow.Author.Tests.{not-true, not-false}
use mathlib.Core.Path.{◌≡◌, refl, sym, ◌∙◌}
use Prim.Native.Nat.{◌-◌, ◌+◌}
use Rattle.lock_reader.proofs.vocabulary.is_vocabulary.Goals as goal

pub loop-init : goal.loop-init
loop-init c = (refl, omega arith)

pub returns-then-vocabulary-at : goal.returns-then-vocabulary-at
returns-then-vocabulary-at c = entries_end _ (16 - c.loop.counter) _ c.if-vocabulary-at.true ∙ c.loop.invariant.0

pub returns-then-not-is_entry : goal.returns-then-not-is_entry
returns-then-not-is_entry c = entries_bad _ _ _ c.entry_at-e.ensures.answer (omega arith) (16 - c.loop.counter) (λ z. omega arith) (sym c.is_entry.ensures ∙ c.if-not-is_entry.true) ∙ c.loop.invariant.0

pub loop-preserved : goal.loop-preserved
loop-preserved c =
    let m : 16 - (c.loop.counter + 1) ≡ 16 - c.loop.counter - 1 = omega arith in
    (rw m (entries_on _ _ _ c.entry_at-e.ensures.answer (omega arith) (16 - c.loop.counter) (λ z. omega arith) (sym c.is_entry.ensures ∙ c.if-not-is_entry.false) ∙ c.loop.invariant.0), c.entry_at-e.ensures.lies.next_high)

pub returns : goal.returns
returns c = entries_none _ (16 - c.loop.counter) _ (omega arith) ∙ c.loop.invariant.0
