-- `lock_reader::vocabulary::find` meets its contract: what is found from the next entry on is what is found from all. Assumes nothing.
use native.Mathlib.Omega.{arith}
use Rattle.locks.proofs.EntryLaws.{none_is, find_stop, find_here, find_on, find_done}
use mathlib.Core.Path.{◌≡◌, refl, ◌∙◌}
use Prim.Native.Nat.{◌-◌, ◌+◌}
use Rattle.lock_reader.proofs.vocabulary.find.Goals as goal

pub loop-init : goal.loop-init
loop-init c = refl

pub returns-then-e-eq0 : goal.returns-then-e-eq0
returns-then-e-eq0 c = none_is _ _ _ c.no_entry.ensures (find_stop _ _ _ _ c.entry_at-e.ensures.answer (16 - c.loop.counter) (omega arith) c.if-e-eq0.true ∙ c.loop.invariant)

pub returns-then-same : goal.returns-then-same
returns-then-same c = record { answer = find_here _ _ _ _ c.entry_at-e.ensures.answer c.if-e-eq0.false c.same.ensures (16 - c.loop.counter) (omega arith) c.if-same.true ∙ c.loop.invariant; lies = c.entry_at-e.ensures.lies }

pub loop-preserved : goal.loop-preserved
loop-preserved c =
    let m : 16 - (c.loop.counter + 1) ≡ 16 - c.loop.counter - 1 = omega arith in
    rw m (find_on _ _ _ _ c.entry_at-e.ensures.answer c.if-e-eq0.false c.same.ensures (16 - c.loop.counter) (omega arith) c.if-same.false ∙ c.loop.invariant)

pub returns : goal.returns
returns c = none_is _ _ _ c.no_entry-2.ensures (find_done _ _ _ (16 - c.loop.counter) (omega arith) ∙ c.loop.invariant)
