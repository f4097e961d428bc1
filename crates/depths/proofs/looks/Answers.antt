-- `depths::looks` meets its contract: what is found of the policies met is right. Assumes nothing.
use mathlib.Core.Path.{refl}
use Prim.Native.Nat.{◌-◌, ◌≤◌, ◌<◌}
use native.Mathlib.Omega.{arith}
use borrow.Author.Rules.{rules}
use Rattle.table.specs.Layout.{entry_at}
use Rattle.stored.specs.ReadBack.{policy_at, policies_at}
use Rattle.stored.specs.Ready.{Last}
use Rattle.targets.specs.Matching.{request}
use Rattle.stored.proofs.Evaluating.{last_there}
use Rattle.depths.proofs.Steady.{depth_few, last_steady}
use Rattle.meaning.proofs.Deciding.{numbered_few, numbered_some}
use Rattle.depths.proofs.Numbering.{Left, all_left, none_there, fewer_left, last_numbered, one_left}
use Rattle.depths.proofs.Finding.{Found, found_more, zeros_say, ends_there}
use Rattle.depths.proofs.looks.Goals as goal

pub loop-end-init : goal.loop-end-init
loop-end-init c = (
  all_left c.requires.ready_policies c.requires.policies_value c.requires.policies_le_most_policies,
  omega arith,
  record {
    long = refl;
    few = λ i h. omega (arith, zeros_say 320 i);
    steady = λ m policy h l. absurd (let all = c.requires.policies_value in omega (arith, numbered_few h));
    aimed = λ m policy h l. absurd (let all = c.requires.policies_value in omega (arith, numbered_few h));
    ended = λ m policy h l. absurd (let all = c.requires.policies_value in omega (arith, numbered_few h));
  },
)

pub entry_at-x-requires : goal.entry_at-x-requires
entry_at-x-requires c = omega (arith, c.loop-end.invariant.0.ready.stored.stands.few)

pub overflow_sub-i : goal.overflow_sub-i
overflow_sub-i c =
    let last : Last c.args.text.now c.args.table.now c.loop-end.end c.entry_at-x.result = last_there c.loop-end.invariant.0.ready c.loop-end-test.true c.entry_at-x.ensures in
    let one : 1 ≤ c.loop-end.number = one_left c.loop-end.invariant.0 last in
    one

pub depth-own-requires : goal.depth-own-requires
depth-own-requires c =
    let last : Last c.args.text.now c.args.table.now c.loop-end.end c.entry_at-x.result = last_there c.loop-end.invariant.0.ready c.loop-end-test.true c.entry_at-x.ensures in
    let l = last in let e = l.ends in
    record {
      counted = c.requires.counted;
      first_le_end = omega arith;
      end_lt_field_numbers = omega (arith, l.few);
    }

pub depth-other-requires : goal.depth-other-requires
depth-other-requires c =
    let last : Last c.args.text.now c.args.table.now c.loop-end.end c.entry_at-x.result = last_there c.loop-end.invariant.0.ready c.loop-end-test.true c.entry_at-x.ensures in
    let l = last in let e = l.ends in
    record {
      counted = c.requires.counted;
      first_le_end = omega arith;
      end_lt_field_numbers = omega (arith, l.few);
    }

pub target_matches-aimed-requires : goal.target_matches-aimed-requires
target_matches-aimed-requires c =
    let last : Last c.args.text.now c.args.table.now c.loop-end.end c.entry_at-x.result = last_there c.loop-end.invariant.0.ready c.loop-end-test.true c.entry_at-x.ensures in
    record {
      last = last;
      types_of = c.requires.types_of (let h = c.loop-end-test.true in let l = c.loop-end.invariant.1 in omega arith);
    }

pub bounds-found-i : goal.bounds-found-i
bounds-found-i c =
    let last : Last c.args.text.now c.args.table.now c.loop-end.end c.entry_at-x.result = last_there c.loop-end.invariant.0.ready c.loop-end-test.true c.entry_at-x.ensures in
    let one : 1 ≤ c.loop-end.number = one_left c.loop-end.invariant.0 last in
    let few : c.loop-end.number - 1 < 64 = let o = one in omega (arith, c.loop-end.invariant.0.few) in
    omega (arith, few)

pub overflow_add-found : goal.overflow_add-found
overflow_add-found c =
    let last : Last c.args.text.now c.args.table.now c.loop-end.end c.entry_at-x.result = last_there c.loop-end.invariant.0.ready c.loop-end-test.true c.entry_at-x.ensures in
    let one : 1 ≤ c.loop-end.number = one_left c.loop-end.invariant.0 last in
    let few : c.loop-end.number - 1 < 64 = let o = one in omega (arith, c.loop-end.invariant.0.few) in
    omega (arith, few)

pub bounds-found-i-in-loop-end : goal.bounds-found-i-in-loop-end
bounds-found-i-in-loop-end c =
    let last : Last c.args.text.now c.args.table.now c.loop-end.end c.entry_at-x.result = last_there c.loop-end.invariant.0.ready c.loop-end-test.true c.entry_at-x.ensures in
    let one : 1 ≤ c.loop-end.number = one_left c.loop-end.invariant.0 last in
    let few : c.loop-end.number - 1 < 64 = let o = one in omega (arith, c.loop-end.invariant.0.few) in
    omega (arith, few)

pub overflow_add-found-in-loop-end : goal.overflow_add-found-in-loop-end
overflow_add-found-in-loop-end c =
    let last : Last c.args.text.now c.args.table.now c.loop-end.end c.entry_at-x.result = last_there c.loop-end.invariant.0.ready c.loop-end-test.true c.entry_at-x.ensures in
    let one : 1 ≤ c.loop-end.number = one_left c.loop-end.invariant.0 last in
    let few : c.loop-end.number - 1 < 64 = let o = one in omega (arith, c.loop-end.invariant.0.few) in
    omega (arith, few)

pub bounds-found-i-in-loop-end-2 : goal.bounds-found-i-in-loop-end-2
bounds-found-i-in-loop-end-2 c =
    let last : Last c.args.text.now c.args.table.now c.loop-end.end c.entry_at-x.result = last_there c.loop-end.invariant.0.ready c.loop-end-test.true c.entry_at-x.ensures in
    let one : 1 ≤ c.loop-end.number = one_left c.loop-end.invariant.0 last in
    let few : c.loop-end.number - 1 < 64 = let o = one in omega (arith, c.loop-end.invariant.0.few) in
    omega (arith, few)

pub low_of-requires : goal.low_of-requires
low_of-requires c =
    let last : Last c.args.text.now c.args.table.now c.loop-end.end c.entry_at-x.result = last_there c.loop-end.invariant.0.ready c.loop-end-test.true c.entry_at-x.ensures in
    last.few

pub overflow_add-found-in-loop-end-2 : goal.overflow_add-found-in-loop-end-2
overflow_add-found-in-loop-end-2 c =
    let last : Last c.args.text.now c.args.table.now c.loop-end.end c.entry_at-x.result = last_there c.loop-end.invariant.0.ready c.loop-end-test.true c.entry_at-x.ensures in
    let one : 1 ≤ c.loop-end.number = one_left c.loop-end.invariant.0 last in
    let few : c.loop-end.number - 1 < 64 = let o = one in omega (arith, c.loop-end.invariant.0.few) in
    omega (arith, few)

pub bounds-found-i-in-loop-end-3 : goal.bounds-found-i-in-loop-end-3
bounds-found-i-in-loop-end-3 c =
    let last : Last c.args.text.now c.args.table.now c.loop-end.end c.entry_at-x.result = last_there c.loop-end.invariant.0.ready c.loop-end-test.true c.entry_at-x.ensures in
    let one : 1 ≤ c.loop-end.number = one_left c.loop-end.invariant.0 last in
    let few : c.loop-end.number - 1 < 64 = let o = one in omega (arith, c.loop-end.invariant.0.few) in
    omega (arith, few)

pub high_of-requires : goal.high_of-requires
high_of-requires c =
    let last : Last c.args.text.now c.args.table.now c.loop-end.end c.entry_at-x.result = last_there c.loop-end.invariant.0.ready c.loop-end-test.true c.entry_at-x.ensures in
    last.few

pub overflow_add-found-in-loop-end-3 : goal.overflow_add-found-in-loop-end-3
overflow_add-found-in-loop-end-3 c =
    let last : Last c.args.text.now c.args.table.now c.loop-end.end c.entry_at-x.result = last_there c.loop-end.invariant.0.ready c.loop-end-test.true c.entry_at-x.ensures in
    let one : 1 ≤ c.loop-end.number = one_left c.loop-end.invariant.0 last in
    let few : c.loop-end.number - 1 < 64 = let o = one in omega (arith, c.loop-end.invariant.0.few) in
    omega (arith, few)

pub bounds-found-i-in-loop-end-4 : goal.bounds-found-i-in-loop-end-4
bounds-found-i-in-loop-end-4 c =
    let last : Last c.args.text.now c.args.table.now c.loop-end.end c.entry_at-x.result = last_there c.loop-end.invariant.0.ready c.loop-end-test.true c.entry_at-x.ensures in
    let one : 1 ≤ c.loop-end.number = one_left c.loop-end.invariant.0 last in
    let few : c.loop-end.number - 1 < 64 = let o = one in omega (arith, c.loop-end.invariant.0.few) in
    omega (arith, few)

pub loop-end-smaller : goal.loop-end-smaller
loop-end-smaller c =
    let last : Last c.args.text.now c.args.table.now c.loop-end.end c.entry_at-x.result = last_there c.loop-end.invariant.0.ready c.loop-end-test.true c.entry_at-x.ensures in
    let l = last in let b = l.begins in let e = l.ends in omega arith

pub loop-end-preserved : goal.loop-end-preserved
loop-end-preserved c =
    let last : Last c.args.text.now c.args.table.now c.loop-end.end c.entry_at-x.result = last_there c.loop-end.invariant.0.ready c.loop-end-test.true c.entry_at-x.ensures in
    let one : 1 ≤ c.loop-end.number = one_left c.loop-end.invariant.0 last in
    let args = c.args in
    let pre = c.requires in
    let loop = c.loop-end in
    let left = loop.invariant.0 in
    let own = c.depth-own in
    let other = c.depth-other in
    let zero = c.from_zero in (
      fewer_left left last,
      (let b = last.begins in let e = last.ends in let l = loop.invariant.1 in omega arith),
      rw (c.one_if.ensures, c.low_of.ensures, c.high_of.ensures)
          (found_more args.text.now args.table.now args.s.now args.n args.heads.now _ _ loop.number loop.found
          (policy_at args.table.now loop.end c.entry_at-x.result) zero.result other.result c.target_matches-aimed.result loop.end
          one (rw (← pre.policies_value) pre.policies_le_most_policies) (last_numbered left last) loop.invariant.2
          (rw (zero.ensures, own.ensures) (omega (arith, depth_few args.text.now (entry_at args.table.now) args.s.now args.n args.heads.now 0 pre.counted.few (loop.end - 1 - c.entry_at-x.result.second) c.entry_at-x.result.second 0 (omega arith))))
          (rw (zero.ensures, other.ensures) (last_steady left.ready c.entry_at-x.ensures last _ _ _ _))
          c.target_matches-aimed.ensures (ends_there args.text.now args.table.now c.entry_at-x.ensures last)),
    )

pub returns : goal.returns
returns c =
    let z = none_there c.loop-end.invariant.0 c.loop-end-test.false in
    let found = c.loop-end.invariant.2 in
    record {
      depths = record { few = found.few; steady = λ m policy h. found.steady m policy h (omega (arith, numbered_some h)) };
      aims = record { aimed = λ m policy h. found.aimed m policy h (omega (arith, numbered_some h)) };
      ends = record { ended = λ m policy h. found.ended m policy h (omega (arith, numbered_some h)) };
    }
