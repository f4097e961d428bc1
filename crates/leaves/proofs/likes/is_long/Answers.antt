-- `leaves::likes::is_long` meets its contract: few bytes, or the invariant `Counted` says how many of them so far began a character. Assumes nothing.
use native.Mathlib.Omega.{arith}
use Rattle.utf8.specs.Reading.{goes_on_character}
use Rattle.leaves.proofs.Counted.{counted_none, counted_more, inside_few, inside_counted}
use Rattle.leaves.proofs.likes.is_long.Goals as goal

pub returns-then-t : goal.returns-then-t
returns-then-t c = inside_few c.args.text.now c.args.t c.requires.1 c.requires.0.high c.if-t.true

pub loop-b-init : goal.loop-b-init
loop-b-init c = counted_none _

pub overflow_add-characters : goal.overflow_add-characters
unfolding goes_on_character
overflow_add-characters c = let few = (counted_more c.loop-b.invariant c.loop-b-test.true).few in omega arith

pub loop-b-preserved : goal.loop-b-preserved
unfolding goes_on_character
loop-b-preserved c = counted_more c.loop-b.invariant c.loop-b-test.true

pub returns : goal.returns
returns c = inside_counted c.args.text.now c.args.t c.requires.1 c.loop-b.invariant c.loop-b-test.false
