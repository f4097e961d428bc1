-- `locking::put_permit` meets its contract: its pieces one behind the other are the permit. Assumes nothing.
use Rattle.locks.proofs.AnswerLaws.{put_frame}
use native.Mathlib.Omega.{arith}
use mathlib.Core.List.{[], ◌∷◌}
use Rattle.locks.proofs.AnswerLaws.{framed_long}
use Rattle.locks.specs.Reading.{actions_text, tests_text}
use lib.ListN.{length-append}
use borrow.Author.Rules.{rules}
use Rattle.locking.proofs.put_permit.Goals as goal

pub put-a-requires : goal.put-a-requires
put-a-requires c = omega (arith, framed_long (actions_text c.args.actions.now) c.args.resource.now (tests_text c.args.vocabulary.now c.args.lock.now), c.requires.writable.fits)

pub put_actions-b-requires : goal.put_actions-b-requires
put_actions-b-requires c = record {
  actions_value = c.requires.writable.actions;
  actions_in_bounds = omega (arith, framed_long (actions_text c.args.actions.now) c.args.resource.now (tests_text c.args.vocabulary.now c.args.lock.now), c.requires.writable.fits);
}

pub put-c-requires : goal.put-c-requires
put-c-requires c = omega (arith, framed_long (actions_text c.args.actions.now) c.args.resource.now (tests_text c.args.vocabulary.now c.args.lock.now), c.requires.writable.fits)

pub put_quoted-d-requires : goal.put_quoted-d-requires
put_quoted-d-requires c = simp length-append (omega (arith, framed_long (actions_text c.args.actions.now) c.args.resource.now (tests_text c.args.vocabulary.now c.args.lock.now), c.requires.writable.fits))

pub put-e-requires : goal.put-e-requires
put-e-requires c = omega (arith, framed_long (actions_text c.args.actions.now) c.args.resource.now (tests_text c.args.vocabulary.now c.args.lock.now), c.requires.writable.fits, length-append c.args.resource.now (34 ∷ []))

pub put_tests-f-requires : goal.put_tests-f-requires
put_tests-f-requires c = record {
  tests_value = c.requires.writable.tests;
  lock_in_bounds = omega (arith, framed_long (actions_text c.args.actions.now) c.args.resource.now (tests_text c.args.vocabulary.now c.args.lock.now), c.requires.writable.fits, length-append c.args.resource.now (34 ∷ []));
}

pub put-requires : goal.put-requires
put-requires c = omega (arith, framed_long (actions_text c.args.actions.now) c.args.resource.now (tests_text c.args.vocabulary.now c.args.lock.now), c.requires.writable.fits, length-append c.args.resource.now (34 ∷ []))

pub returns : goal.returns
returns c = put_frame _ _ _ c.put-a.ensures c.put_actions-b.ensures c.put-c.ensures c.put_quoted-d.ensures c.put-e.ensures c.put_tests-f.ensures c.put.ensures c.requires.writable.fits
