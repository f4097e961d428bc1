-- `tallies::counting::count_row` meets its contract: a place for each arm, and one for the policy. Assumes nothing.
use Prim.Native.Nat.{◌<◌}
use Rattle.tallies.proofs.Deciders.{counted_allowed, counted_forbidden, counted_nothing, counted_system}
use Rattle.tallies.proofs.Deciders.{allowed_numbered, forbidden_numbered, bumped_few}
use Rattle.pages.specs.Tally.{bumped}
use lib.ListN.{length, get_or}
use native.Mathlib.Omega.{arith}
use Prim.Native.Nat.{ℕ, ◌+◌}
use mathlib.Core.List.{List}
use mathlib.Core.Path.{ap, ◌∙◌}
use Rattle.tallies.proofs.counting.count_row.Goals as goal

pub bump-requires : goal.bump-requires
bump-requires c =
    let few = c.requires.counts_few.few 0 (omega arith) in
    record {
      k_in_bounds = omega arith;
      k_bound = omega arith;
    }

pub overflow_add-n : goal.overflow_add-n
overflow_add-n c = let n = allowed_numbered c.requires.countable c.in-Allowed.is in omega arith

pub bump-requires-in-Allowed : goal.bump-requires-in-Allowed
bump-requires-in-Allowed c =
    let n = c.in-Allowed.n in
    let k = allowed_numbered c.requires.countable c.in-Allowed.is in
    let few = c.requires.counts_few.few (3 + n) (omega arith) in
    let more = bumped_few c.args.group.now 0 (3 + n) in
    let there : 3 + n < length c.bump.new.group = omega (arith, c.bump.auto.group) in
    let fits : get_or c.bump.new.group (3 + n) 0 < 4294967295 = rw c.bump.ensures (omega arith) in
    record {
      k_in_bounds = there;
      k_bound = fits;
    }

pub bump-requires-in-Forbidden : goal.bump-requires-in-Forbidden
bump-requires-in-Forbidden c =
    let few = c.requires.counts_few.few 1 (omega arith) in
    record {
      k_in_bounds = omega arith;
      k_bound = omega arith;
    }

pub overflow_add-n-in-Forbidden : goal.overflow_add-n-in-Forbidden
overflow_add-n-in-Forbidden c = let n = forbidden_numbered c.requires.countable c.in-Forbidden.is in omega arith

pub bump-requires-in-Forbidden-2 : goal.bump-requires-in-Forbidden-2
bump-requires-in-Forbidden-2 c =
    let n = c.in-Forbidden.n in
    let k = forbidden_numbered c.requires.countable c.in-Forbidden.is in
    let few = c.requires.counts_few.few (3 + n) (omega arith) in
    let more = bumped_few c.args.group.now 1 (3 + n) in
    let there : 3 + n < length c.bump-in-Forbidden.new.group = omega (arith, c.bump-in-Forbidden.auto.group) in
    let fits : get_or c.bump-in-Forbidden.new.group (3 + n) 0 < 4294967295 = rw c.bump-in-Forbidden.ensures (omega arith) in
    record {
      k_in_bounds = there;
      k_bound = fits;
    }

pub bump-requires-in-Nothing : goal.bump-requires-in-Nothing
bump-requires-in-Nothing c =
    let few = c.requires.counts_few.few 2 (omega arith) in
    record {
      k_in_bounds = omega arith;
      k_bound = omega arith;
    }

pub bump-requires-in-System : goal.bump-requires-in-System
bump-requires-in-System c =
    let few = c.requires.counts_few.few 3 (omega arith) in
    record {
      k_in_bounds = omega arith;
      k_bound = omega arith;
    }

pub returns-in-Allowed : goal.returns-in-Allowed
returns-in-Allowed c = c.bump-in-Allowed.ensures ∙ ap (λ (l : List ℕ). bumped l (3 + c.in-Allowed.n)) c.bump.ensures ∙ counted_allowed _ c.in-Allowed.is

pub returns-in-Forbidden : goal.returns-in-Forbidden
returns-in-Forbidden c = c.bump-in-Forbidden-2.ensures ∙ ap (λ (l : List ℕ). bumped l (3 + c.in-Forbidden.n)) c.bump-in-Forbidden.ensures ∙ counted_forbidden _ c.in-Forbidden.is

pub returns-in-Nothing : goal.returns-in-Nothing
returns-in-Nothing c = c.bump-in-Nothing.ensures ∙ counted_nothing _ c.in-Nothing.is

pub returns-in-System : goal.returns-in-System
returns-in-System c = c.bump-in-System.ensures ∙ counted_system _ c.in-System.is
