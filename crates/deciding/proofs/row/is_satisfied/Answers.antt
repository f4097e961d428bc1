-- `deciding::row::is_satisfied` meets its contract: by the target, and then by the condition. Assumes nothing.
use Rattle.deciding.proofs.Counting.{no_target, target_met}
use borrow.Author.Tests.{not-true, not-false}
use Rattle.deciding.proofs.row.is_satisfied.Goals as goal

pub target_matches-requires : goal.target_matches-requires
target_matches-requires c = record {
  last = c.requires.last;
  types_of = c.requires.types_of;
}

pub returns-then-not-target_matches : goal.returns-then-not-target_matches
returns-then-not-target_matches c = no_target _ _ _ _ _ _ c.target_matches.ensures c.if-not-target_matches.true

pub condition_holds-requires : goal.condition_holds-requires
condition_holds-requires c = c.requires.last

pub returns : goal.returns
returns c = target_met _ _ _ _ _ _ c.target_matches.ensures c.if-not-target_matches.false c.condition_holds.ensures
