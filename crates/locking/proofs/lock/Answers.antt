-- `locking::lock` meets its contract: no lock, no room, or the permit. Assumes nothing.
use mathlib.Core.Path.{sym, ◌∙◌}
use native.Mathlib.Omega.{arith}
use Rattle.locks.proofs.AnswerLaws.{ready, no_room, no_lock, written}
use borrow.Author.Rules.{rules}
use Rattle.locking.proofs.lock.Goals as goal

pub returns-then-room-size : goal.returns-then-room-size
returns-then-room-size c = no_room _ _ _ _ c.in-Some.size (sym c.permit_size.ensures ∙ c.in-Some.is) _ c.if-room-size.true

pub put_permit-requires : goal.put_permit-requires
put_permit-requires c = record {
  writable = ready _ _ _ _ c.in-Some.size (sym c.permit_size.ensures ∙ c.in-Some.is) _ (omega arith);
}

pub returns-in-None : goal.returns-in-None
returns-in-None c = no_lock _ _ _ _ _ (sym c.permit_size.ensures ∙ c.in-None.is)

pub returns-else-room-size : goal.returns-else-room-size
returns-else-room-size c = written _ _ _ _ c.in-Some.size (sym c.permit_size.ensures ∙ c.in-Some.is) _ _ _ (omega arith) c.put_permit.ensures
