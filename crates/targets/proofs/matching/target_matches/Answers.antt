-- `targets::matching::target_matches` meets its contract: part by part. Assumes nothing.
use Rattle.targets.proofs.MatchLaws.{other_subject, other_resource, by_action}
use native.Mathlib.Omega.{arith}
use Rattle.stored.specs.ReadBack.{policy_by}
use borrow.Author.Tests.{not-true, not-false}
use borrow.Author.Rules.{rules}
use Rattle.targets.proofs.matching.target_matches.Goals as goal

pub principal_matches-requires : goal.principal_matches-requires
unfolding policy_by
principal_matches-requires c = rw c.entry_in-principal.ensures c.requires.last.placed.principal

pub returns-then-not-principal_matches : goal.returns-then-not-principal_matches
returns-then-not-principal_matches c = other_subject _ _ _ _ c.args.subject.now c.args.action.now c.args.resource.now _ c.entry_in-principal.ensures (c.principal_matches.ensures _ _ _ c.requires.types_of.subject_type) c.if-not-principal_matches.true

pub part_matches-requires : goal.part_matches-requires
unfolding policy_by
part_matches-requires c = rw c.entry_in-part.ensures c.requires.last.placed.resource

pub returns-then-not-part_matches : goal.returns-then-not-part_matches
returns-then-not-part_matches c = other_resource _ _ _ _ c.args.subject.now c.args.action.now c.args.resource.now _ c.entry_in-principal.ensures _ c.entry_in-part.ensures (c.part_matches.ensures _ c.requires.types_of.resource_type) c.if-not-part_matches.true

pub overflow_sub-x-3 : goal.overflow_sub-x-3
overflow_sub-x-3 c = omega (arith, c.requires.last.begins)

pub action_matches-requires : goal.action_matches-requires
unfolding policy_by
action_matches-requires c = rw c.entry_in-actions.ensures (record { placed = c.requires.last.placed.action; room = omega (arith, c.requires.last.listed); here = omega (arith, c.requires.last.ends, c.requires.last.here) })

pub returns : goal.returns
returns c = by_action _ _ _ _ c.args.subject.now c.args.action.now c.args.resource.now _ c.entry_in-principal.ensures _ c.entry_in-part.ensures (c.principal_matches.ensures _ _ _ c.requires.types_of.subject_type) c.if-not-principal_matches.false (c.part_matches.ensures _ c.requires.types_of.resource_type) c.if-not-part_matches.false _ c.entry_in-actions.ensures c.action_matches.ensures
