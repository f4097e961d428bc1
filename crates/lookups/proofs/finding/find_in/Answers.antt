-- `lookups::finding::find_in` meets its contract: the entry with the path is among those left exactly when it is among all. Assumes nothing.
use borrow.Author.Rules.{rules}
use Rattle.lookups.specs.Values.{absent}
use Rattle.lookups.specs.Lookups.{look_in, bag_entry_at}
use Rattle.tokens.specs.Blanks.{unblanked}
use Rattle.lookups.proofs.FindLaws.{look_done, look_here, look_on}
use Rattle.lookups.proofs.BagLaws.{entry_valued}
use Rattle.lookups.proofs.StepLaws.{past_end}
use Rattle.bags.specs.Sections.{entry_end}
use Rattle.bags.specs.Reading.{many, each}
use Rattle.bags.proofs.SectionLaws.{Entry, entry_at}
use Rattle.bags.proofs.ReadLaws.{First, first, same_end, many_more}
use native.Mathlib.Omega.{arith}
use mathlib.Core.Path.{◌≡◌, refl, sym, ◌∙◌}
use Rattle.std.proofs.Common.{◌-◌, ◌+◌}
use Rattle.lookups.proofs.finding.find_in.Goals as goal

pub loop-init : goal.loop-init
loop-init c = let e : c.args.n - 0 ≡ c.args.n = omega arith in rw e (refl, refl)

pub bounds-s-next : goal.bounds-s-next
bounds-s-next c =
    let one : First (entry_end c.args.s.now) (c.args.n - c.loop.counter) c.loop.next c.requires.0 = first _ _ _ _ (omega arith) (c.loop.invariant.0 ∙ c.requires.1) in
    let whole : Entry c.args.s.now c.loop.next one.stop = entry_at _ _ _ one.ends in
    omega (arith, whole.named)

pub overflow_cast-size : goal.overflow_cast-size
overflow_cast-size c =
    let one : First (entry_end c.args.s.now) (c.args.n - c.loop.counter) c.loop.next c.requires.0 = first _ _ _ _ (omega arith) (c.loop.invariant.0 ∙ c.requires.1) in
    let whole : Entry c.args.s.now c.loop.next one.stop = entry_at _ _ _ one.ends in
    omega (arith, whole.named)

pub overflow_add-start : goal.overflow_add-start
overflow_add-start c =
    let one : First (entry_end c.args.s.now) (c.args.n - c.loop.counter) c.loop.next c.requires.0 = first _ _ _ _ (omega arith) (c.loop.invariant.0 ∙ c.requires.1) in
    let whole : Entry c.args.s.now c.loop.next one.stop = entry_at _ _ _ one.ends in
    omega (arith, whole.named)

pub overflow_add-kind_at : goal.overflow_add-kind_at
overflow_add-kind_at c =
    let one : First (entry_end c.args.s.now) (c.args.n - c.loop.counter) c.loop.next c.requires.0 = first _ _ _ _ (omega arith) (c.loop.invariant.0 ∙ c.requires.1) in
    let whole : Entry c.args.s.now c.loop.next one.stop = entry_at _ _ _ one.ends in
    omega (arith, whole.named)

pub is_named-requires : goal.is_named-requires
is_named-requires c =
    let one : First (entry_end c.args.s.now) (c.args.n - c.loop.counter) c.loop.next c.requires.0 = first _ _ _ _ (omega arith) (c.loop.invariant.0 ∙ c.requires.1) in
    let whole : Entry c.args.s.now c.loop.next one.stop = entry_at _ _ _ one.ends in
    record {
      n_in_bounds = omega (arith, whole.named);
      n_value = whole.path;
      lead_value = c.lead_of-lead.ensures;
    }

pub returns-then-is_named : goal.returns-then-is_named
returns-then-is_named c =
    let one : First (entry_end c.args.s.now) (c.args.n - c.loop.counter) c.loop.next c.requires.0 = first _ _ _ _ (omega arith) (c.loop.invariant.0 ∙ c.requires.1) in
    record {
      is =
          look_here absent _ (bag_entry_at c.args.s.now) _ _ _ (omega arith) _ one.ends (sym c.is_named.ensures ∙ c.if-is_named.true)
          ∙ c.loop.invariant.1;
      valued = λ h. entry_valued _ _ _ one.ends;
    }

pub bounds-s-kind_at : goal.bounds-s-kind_at
bounds-s-kind_at c =
    let one : First (entry_end c.args.s.now) (c.args.n - c.loop.counter) c.loop.next c.requires.0 = first _ _ _ _ (omega arith) (c.loop.invariant.0 ∙ c.requires.1) in
    let whole : Entry c.args.s.now c.loop.next one.stop = entry_at _ _ _ one.ends in
    omega (arith, whole.named)

pub overflow_add-kind_at-in-loop : goal.overflow_add-kind_at-in-loop
overflow_add-kind_at-in-loop c =
    let one : First (entry_end c.args.s.now) (c.args.n - c.loop.counter) c.loop.next c.requires.0 = first _ _ _ _ (omega arith) (c.loop.invariant.0 ∙ c.requires.1) in
    let whole : Entry c.args.s.now c.loop.next one.stop = entry_at _ _ _ one.ends in
    omega (arith, whole.named)

pub value_next-next-requires : goal.value_next-next-requires
value_next-next-requires c =
    let one : First (entry_end c.args.s.now) (c.args.n - c.loop.counter) c.loop.next c.requires.0 = first _ _ _ _ (omega arith) (c.loop.invariant.0 ∙ c.requires.1) in
    let whole : Entry c.args.s.now c.loop.next one.stop = entry_at _ _ _ one.ends in
    (one.stop, whole.valued)

pub loop-preserved : goal.loop-preserved
loop-preserved c =
    let one : First (entry_end c.args.s.now) (c.args.n - c.loop.counter) c.loop.next c.requires.0 = first _ _ _ _ (omega arith) (c.loop.invariant.0 ∙ c.requires.1) in
    let whole : Entry c.args.s.now c.loop.next one.stop = entry_at _ _ _ one.ends in
    let f = one in
    let is = same_end whole.valued c.value_next-next.ensures in
    let ends = rw is at f.ends in
    let left : c.args.n - (c.loop.counter + 1) ≡ c.args.n - c.loop.counter - 1 = omega arith in
    rw left (
      sym (many_more _ _ _ _ (omega arith) ends) ∙ c.loop.invariant.0,
      look_on absent _ (bag_entry_at c.args.s.now) _ _ _ (omega arith) _ ends (sym c.is_named.ensures ∙ c.if-is_named.false) ∙ c.loop.invariant.1,
    )

pub returns : goal.returns
returns c = record {
  is = past_end _ ∙ look_done absent _ (bag_entry_at c.args.s.now) _ _ _ (omega arith) ∙ c.loop.invariant.1;
  valued = λ h. absurd (omega arith);
}
