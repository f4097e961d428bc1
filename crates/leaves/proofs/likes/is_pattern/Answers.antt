-- `leaves::likes::is_pattern` meets its contract: the invariant `Seen` says what the bytes so far have. Assumes nothing.
use mathlib.Core.Path.{◌≡◌, ◌∙◌, sym, ap}
use Prim.Native.Nat.{◌+◌, ◌-◌}
use native.Mathlib.Omega.{arith}
use Rattle.grammar.specs.Rules.{is_pattern}
use Rattle.parts.proofs.Texts.{between, inside_is}
use Rattle.leaves.proofs.Wildcards.{seen_none, seen_more, seen_bad, seen_all, too_long}
use Rattle.leaves.proofs.likes.is_pattern.Goals as goal

pub returns-then-is_long : goal.returns-then-is_long
returns-then-is_long c = too_long _ (sym c.is_long.ensures ∙ c.if-is_long.true)

pub returns-then-t-le2 : goal.returns-then-t-le2
returns-then-t-le2 c =
    let s = c.args.text.now in
    let t = c.args.t in
    let few = rw (inside_is s t) at (sym c.is_long.ensures ∙ c.if-is_long.false) in
    let none : t.end - 1 - (t.start + 1) ≡ 0 = (let k = c.if-t-le2.true in omega arith) in
    seen_all (seen_none (between s t.end (t.start + 1))) (rw none (omega arith)) few ∙ sym (ap is_pattern (inside_is s t))

pub loop-b-init : goal.loop-b-init
loop-b-init c = seen_none _

pub returns-then-b-star : goal.returns-then-b-star
returns-then-b-star c = seen_bad c.loop-b.invariant c.loop-b-test.true c.if-b-star.true ∙ sym (ap is_pattern (inside_is c.args.text.now c.args.t))

pub overflow_add-wildcards : goal.overflow_add-wildcards
overflow_add-wildcards c = let few = (seen_more c.loop-b.invariant c.loop-b-test.true c.if-b-star.false).few in omega arith

pub loop-b-preserved : goal.loop-b-preserved
loop-b-preserved c = seen_more c.loop-b.invariant c.loop-b-test.true c.if-b-star.false

pub returns : goal.returns
returns c =
    let few = rw (inside_is c.args.text.now c.args.t) at (sym c.is_long.ensures ∙ c.if-is_long.false) in
    seen_all c.loop-b.invariant c.loop-b-test.false few ∙ sym (ap is_pattern (inside_is c.args.text.now c.args.t))
