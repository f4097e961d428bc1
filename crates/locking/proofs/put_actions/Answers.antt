-- `locking::put_actions` meets its contract: what is left to put behind the place is the text of the strings left. Assumes nothing.
use Rattle.locks.proofs.PutLaws.{rest_room}
use native.Mathlib.Omega.{arith}
use borrow.Author.Rules.{rules}
use Rattle.locks.proofs.TestLaws.{actions_there, actions_first, actions_end, actions_more, actions_left}
use Rattle.locks.proofs.PutLaws.{Rest, rest_start, rest_last, rest_on}
use Rattle.locks.proofs.ListedLaws.{some_left}
use Rattle.locks.specs.Reading.{are_some, things_from, action_step, text_of, between_actions, actions_text}
use Rattle.permits.specs.Permits.{quoted}
use Rattle.slices.specs.Parts.{part}
use mathlib.Core.Bool.{true}
use mathlib.Core.Path.{◌≡◌}
use Prim.Native.Nat.{◌-◌, ◌+◌}
use Rattle.locking.proofs.put_actions.Goals as goal

pub loop-init : goal.loop-init
loop-init c = (c.requires.actions_value, rest_start _ _ _)

pub put_quoted-end-requires : goal.put_quoted-end-requires
unfolding part
put_quoted-end-requires c = omega (arith, actions_first _ (16 - c.loop.counter) _ _ c.action_at.ensures _ c.in-Some.is c.loop.invariant.0, c.loop.invariant.1.stop, c.loop.invariant.1.long)

pub returns-then-p-actions : goal.returns-then-p-actions
unfolding part
returns-then-p-actions c = rest_last c.loop.invariant.1 (actions_end _ (16 - c.loop.counter) _ _ c.action_at.ensures _ c.in-Some.is c.loop.invariant.0 c.if-p-actions.true) c.put_quoted-end.ensures

pub put-end-requires : goal.put-end-requires
unfolding part
put-end-requires c = rest_room c.loop.invariant.1 between_actions _ (actions_more _ (16 - c.loop.counter) _ _ c.action_at.ensures _ c.in-Some.is c.loop.invariant.0 c.if-p-actions.false) c.put_quoted-end.ensures c.requires.actions_in_bounds

pub loop-preserved : goal.loop-preserved
unfolding part
loop-preserved c =
    let m : 16 - (c.loop.counter + 1) ≡ 16 - c.loop.counter - 1 = omega arith in
    rw m (
      actions_left _ (16 - c.loop.counter) _ _ c.action_at.ensures _ c.in-Some.is c.loop.invariant.0 c.if-p-actions.false,
      rest_on c.loop.invariant.1 (actions_more _ (16 - c.loop.counter) _ _ c.action_at.ensures _ c.in-Some.is c.loop.invariant.0 c.if-p-actions.false) c.put_quoted-end.ensures c.put-end.ensures c.requires.actions_in_bounds,
    )

pub returns-in_default : goal.returns-in_default
returns-in_default c = absurd (actions_there _ (16 - c.loop.counter) _ _ c.action_at.ensures c.in_default.is c.loop.invariant.0)

pub returns : goal.returns
returns c = absurd (omega (arith, some_left _ (16 - c.loop.counter) _ c.loop.invariant.0))
