-- `bags::sections::entries_end` meets its contract: the entries left, the first after the last path passed, end where all do. Assumes nothing.
use Rattle.std.proofs.Common.{◌≡◌, ◌+◌, ◌-◌, ◌<◌, length, arith, sym, ◌∙◌}
use Rattle.slices.specs.Parts.{part}
use Rattle.bags.proofs.SectionLaws.{Entry, entry_at, entries_first, entries_done, entries_stop, entries_on, entries_halt}
use Rattle.bags.proofs.sections.entries_end.Goals as goal

pub loop-init : goal.loop-init
loop-init c = let e : c.args.n - 0 ≡ c.args.n = omega arith in rw e (entries_first _ _ _)

pub returns-in_err-e : goal.returns-in_err-e
returns-in_err-e c =
    c.from_residual.ensures ∙ sym (entries_stop _ _ _ _ (omega arith) (sym c.entry_end.ensures ∙ c.in_err-e.was)) ∙ c.loop.invariant

pub overflow_add-start : goal.overflow_add-start
overflow_add-start c =
    let whole : Entry c.args.s.now c.loop.next c.in_ok-e.e = entry_at _ _ _ (sym c.entry_end.ensures ∙ c.in_ok-e.was) in
    omega (arith, whole.named)

pub bounds-s-next : goal.bounds-s-next
bounds-s-next c =
    let whole : Entry c.args.s.now c.loop.next c.in_ok-e.e = entry_at _ _ _ (sym c.entry_end.ensures ∙ c.in_ok-e.was) in
    omega (arith, whole.named)

pub overflow_add-end : goal.overflow_add-end
overflow_add-end c =
    let whole : Entry c.args.s.now c.loop.next c.in_ok-e.e = entry_at _ _ _ (sym c.entry_end.ensures ∙ c.in_ok-e.was) in
    omega (arith, whole.named, c.from.ensures)

pub slice_bounds-path-end : goal.slice_bounds-path-end
slice_bounds-path-end c =
    let whole : Entry c.args.s.now c.loop.next c.in_ok-e.e = entry_at _ _ _ (sym c.entry_end.ensures ∙ c.in_ok-e.was) in
    omega (arith, whole.named, c.from.ensures)

pub loop-preserved : goal.loop-preserved
unfolding part
loop-preserved c =
    let e : c.args.n - (c.loop.counter + 1) ≡ c.args.n - c.loop.counter - 1 = omega arith in
    rw (e, c.from.ensures) (entries_on _ _ _ _ _ _ (omega arith) (sym c.entry_end.ensures ∙ c.in_ok-e.was) (rw c.from.ensures at c.before-in-loop.ensures) c.if-not-before.false ∙ c.loop.invariant)

pub returns-then-not-before : goal.returns-then-not-before
returns-then-not-before c =
    entries_halt _ _ _ _ c.in_ok-e.e _ (omega arith) (sym c.entry_end.ensures ∙ c.in_ok-e.was) (rw c.from.ensures at c.before-in-loop.ensures) c.if-not-before.true
    ∙ c.loop.invariant

pub returns : goal.returns
returns c = entries_done _ _ _ _ (omega arith) ∙ c.loop.invariant
