-- `lock_pieces::put_mark` meets its contract: a case for each comparator. Assumes nothing.
use Rattle.locks.specs.Reading.{comparator_for}
use Rattle.permits.specs.Permits.{sign_of}
use native.Mathlib.Omega.{arith}
use borrow.Author.Tests.{ne_eqb}
use borrow.Author.Rules.{rules}
use Rattle.lock_pieces.proofs.put_mark.Goals as goal

pub put-requires : goal.put-requires
unfolding comparator_for sign_of
put-requires c = rw c.in-62.is at c.requires

pub returns-in-62 : goal.returns-in-62
unfolding comparator_for sign_of
returns-in-62 c = rw c.in-62.is c.put.ensures

pub put-requires-in-60 : goal.put-requires-in-60
unfolding comparator_for sign_of
put-requires-in-60 c = rw c.in-60.is at c.requires

pub returns-in-60 : goal.returns-in-60
unfolding comparator_for sign_of
returns-in-60 c = rw c.in-60.is c.put-in-60.ensures

pub put-requires-in-190 : goal.put-requires-in-190
unfolding comparator_for sign_of
put-requires-in-190 c = rw c.in-190.is at c.requires

pub returns-in-190 : goal.returns-in-190
unfolding comparator_for sign_of
returns-in-190 c = rw c.in-190.is c.put-in-190.ensures

pub put-requires-in_default : goal.put-requires-in_default
unfolding comparator_for sign_of
put-requires-in_default c = rw (ne_eqb c.args.mark 62 (omega arith), ne_eqb c.args.mark 60 (omega arith), ne_eqb c.args.mark 190 (omega arith)) at c.requires

pub returns-in_default : goal.returns-in_default
unfolding comparator_for sign_of
returns-in_default c = rw (ne_eqb c.args.mark 62 (omega arith), ne_eqb c.args.mark 60 (omega arith), ne_eqb c.args.mark 190 (omega arith)) c.put-in_default.ensures
