-- `lock_reader::actions::actions_size` meets its contract: the bytes so far and those of the strings left are those of all. Assumes nothing.
use native.Mathlib.Omega.{arith}
use Rattle.locks.proofs.TestLaws.{few_of, none_of, size_none, actions_wrong, actions_last, actions_on}
use mathlib.Core.Path.{◌≡◌, refl, ◌∙◌}
use Prim.Native.Nat.{◌-◌, ◌+◌}
use Rattle.lock_reader.proofs.actions.actions_size.Goals as goal

pub loop-init : goal.loop-init
loop-init c = (refl, omega arith)

pub returns-in_err-p : goal.returns-in_err-p
returns-in_err-p c = rw c.from_residual.ensures (record { answer = actions_wrong _ (16 - c.loop.counter) _ _ c.action_at.ensures c.in_err-p.was _ (omega arith) ∙ c.loop.invariant.0; small = none_of _ })

pub returns-then-p-actions : goal.returns-then-p-actions
returns-then-p-actions c = record { answer = actions_last _ (16 - c.loop.counter) _ _ c.action_at.ensures _ c.in_ok-p.was _ (omega arith) c.if-p-actions.true ∙ c.loop.invariant.0; small = λ m. few_of _ _ m (let f = c.action_at.ensures.few _ c.in_ok-p.was in omega arith) }

pub loop-preserved : goal.loop-preserved
loop-preserved c =
    let m : 16 - (c.loop.counter + 1) ≡ 16 - c.loop.counter - 1 = omega arith in
    (rw m (actions_on _ (16 - c.loop.counter) _ _ c.action_at.ensures _ c.in_ok-p.was _ (omega arith) c.if-p-actions.false ∙ c.loop.invariant.0), let f = c.action_at.ensures.few _ c.in_ok-p.was in omega arith)

pub returns : goal.returns
returns c = record { answer = size_none _ _ _ (16 - c.loop.counter) _ _ (omega arith) ∙ c.loop.invariant.0; small = none_of _ }
