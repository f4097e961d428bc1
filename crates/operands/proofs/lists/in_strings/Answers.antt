-- `operands::lists::in_strings` meets its contract. Assumes nothing.
use Rattle.operands.proofs.ListLaws.{among, cut_same, none_listed, here_listed, later_listed}
use Rattle.lookups.proofs.StepLaws.{StringFirst, string_first}
use native.Mathlib.Omega.{arith}
use Prim.Native.Nat.{◌+◌, ◌-◌, ◌<◌}
use mathlib.Core.Path.{◌≡◌, sym, ◌∙◌}
use Rattle.operands.proofs.lists.in_strings.Goals as goal

pub loop-init : goal.loop-init
loop-init c = let z : c.args.n - 0 ≡ c.args.n = omega arith in (rw z, rw z)

pub overflow_add-start : goal.overflow_add-start
overflow_add-start c =
    let some : 0 < c.args.n - c.loop.counter = omega arith in
    let one : StringFirst c.args.s.now (c.args.n - c.loop.counter) c.loop.next c.requires.0 = string_first _ _ _ _ some (c.loop.invariant.0 ∙ c.requires.1) in
    omega (arith, one.fits)

pub bounds-s-next : goal.bounds-s-next
bounds-s-next c =
    let some : 0 < c.args.n - c.loop.counter = omega arith in
    let one : StringFirst c.args.s.now (c.args.n - c.loop.counter) c.loop.next c.requires.0 = string_first _ _ _ _ some (c.loop.invariant.0 ∙ c.requires.1) in
    omega (arith, one.fits)

pub overflow_add-end : goal.overflow_add-end
overflow_add-end c =
    let some : 0 < c.args.n - c.loop.counter = omega arith in
    let one : StringFirst c.args.s.now (c.args.n - c.loop.counter) c.loop.next c.requires.0 = string_first _ _ _ _ some (c.loop.invariant.0 ∙ c.requires.1) in
    omega (arith, one.fits)

pub slice_bounds-same_string-end : goal.slice_bounds-same_string-end
slice_bounds-same_string-end c =
    let some : 0 < c.args.n - c.loop.counter = omega arith in
    let one : StringFirst c.args.s.now (c.args.n - c.loop.counter) c.loop.next c.requires.0 = string_first _ _ _ _ some (c.loop.invariant.0 ∙ c.requires.1) in
    omega (arith, one.fits)

pub returns-then-same_string : goal.returns-then-same_string
returns-then-same_string c =
    let some : 0 < c.args.n - c.loop.counter = omega arith in
    here_listed _ _ _ _ _ some (c.loop.invariant.0 ∙ c.requires.1) (cut_same c.args.s.now c.args.x.now c.loop.next _ _ c.same_string.ensures c.if-same_string.true) ∙ c.loop.invariant.1

pub loop-preserved : goal.loop-preserved
loop-preserved c =
    let some : 0 < c.args.n - c.loop.counter = omega arith in
    let one : StringFirst c.args.s.now (c.args.n - c.loop.counter) c.loop.next c.requires.0 = string_first _ _ _ _ some (c.loop.invariant.0 ∙ c.requires.1) in
    let less : c.args.n - (c.loop.counter + 1) ≡ c.args.n - c.loop.counter - 1 = omega arith in (
      rw less (one.later ∙ sym c.requires.1),
      rw less (sym (later_listed _ _ _ _ _ some (c.loop.invariant.0 ∙ c.requires.1) (cut_same c.args.s.now c.args.x.now c.loop.next _ _ c.same_string.ensures c.if-same_string.false)) ∙ c.loop.invariant.1),
    )

pub returns : goal.returns
returns c = none_listed _ _ _ _ (omega arith) ∙ c.loop.invariant.1
