-- `tallies::counting::count_rows` meets its contract: the rows passed are counted, and the walk stands at the row. Assumes nothing.
use Rattle.tallies.proofs.Deciders.{countable_there, counted_turn}
use Rattle.sheets.specs.Asked.{Asked}
use Rattle.sheets.specs.Sheets.{rows_in}
use Rattle.turns.proofs.RowLaws.{choices_small, stands_first, kept_first, ends_few, walked_gone, underway_gone, at_gone, at_back}
use Rattle.pages.proofs.Tallying.{group_none, group_few}
use Rattle.pages.specs.Tally.{group_size, tally_of, Countable}
use Rattle.meaning.specs.declared.Decision.{Decision}
use Rattle.bags.specs.declared.sections.Sections.{Sections}
use lib.ListN.{length, get_or, length-replicate}
use native.Mathlib.Omega.{arith}
use native.Mathlib.Nat.{le_trans}
use Prim.Native.Nat.{ℕ, ◌-◌, ◌≤◌, ◌<◌}
use mathlib.Core.List.{List}
use mathlib.Core.Path.{◌≡◌, refl, sym, ap, ◌∙◌, subst}
use Rattle.tallies.proofs.counting.count_rows.Goals as goal

there : {s : List ℕ} {p : Sections} {all start row : ℕ} → Asked s p all start → row < all → row < rows_in s p
there a h = rw (← a.all_rows) h

fits : {policies n : ℕ} → policies ≡ n → policies ≤ 64 → n ≤ 64
fits e h = omega arith

pub choices_of-choices-requires : goal.choices_of-choices-requires
choices_of-choices-requires c = let w = c.requires.rows_asked.walked in ends_few w.question w.laid

pub chosen-values-requires : goal.chosen-values-requires
chosen-values-requires c =
    let w = c.requires.rows_asked.walked in
    record {
      n_le_most_columns = omega arith;
      by_index = λ i h. choices_small _ _ _ c.choices_of-choices.ensures (ends_few w.question w.laid) i h;
    }

pub lates-lates-requires : goal.lates-lates-requires
lates-lates-requires c = c.requires.rows_asked.walked.few

pub loop-init : goal.loop-init
loop-init c = (
  c.requires.rows_asked.asked.few,
  c.requires.rows_asked.asked.within,
  ap length c.requires.group_value ∙ length-replicate {A = ℕ} group_size 0,
  λ q f. (
    c.requires.group_value ∙ group_none _,
    record {
      acts = f.acts;
      whose = f.whose;
      standing = stands_first c.choices_of-choices.ensures (omega arith) c.chosen-values.ensures;
      within = omega arith;
      kept = kept_first c.chosen-values.result (omega arith) f.aims;
    },
  ),
)

pub offset_bounds-lates-from : goal.offset_bounds-lates-from
offset_bounds-lates-from c =
    let within : c.loop.from < 6 = let pre = c.requires in (c.loop.invariant.3 pre.walk_for_some.q pre.walk_for_some.walk_for).1.within in
    omega (arith, within)

pub bounds-lates-from : goal.bounds-lates-from
bounds-lates-from c =
    let within : c.loop.from < 6 = let pre = c.requires in (c.loop.invariant.3 pre.walk_for_some.q pre.walk_for_some.walk_for).1.within in
    omega (arith, within)

pub take_turn-t-requires : goal.take_turn-t-requires
take_turn-t-requires c =
    let within : c.loop.from < 6 = let pre = c.requires in (c.loop.invariant.3 pre.walk_for_some.q pre.walk_for_some.walk_for).1.within in
    let late : ℕ = get_or c.lates-lates.result c.loop.from 0 in
    let pre = c.requires in
    let at = (c.loop.invariant.3 pre.walk_for_some.q pre.walk_for_some.walk_for).1 in
    record {
      walked = walked_gone c.args.walk c.loop.from late c.loop.kept pre.rows_asked.walked;
      somewhere = record { row = c.loop.counter; below = there pre.rows_asked.asked c.loop-test.true; standing = at.standing };
      notes_len = at.kept.carried.long;
      underway = underway_gone c.args.walk c.loop.from late c.loop.kept refl pre.rows_asked.walked (c.lates-lates.ensures c.loop.from within) at.kept.carried.below;
      places_of = pre.places_of;
    }

pub count_row-requires : goal.count_row-requires
count_row-requires c =
    let late : ℕ = get_or c.lates-lates.result c.loop.from 0 in
    let pre = c.requires in
    let inv = c.loop.invariant.3 pre.walk_for_some.q pre.walk_for_some.walk_for in
    let turned = c.take_turn-t.ensures pre.walk_for_some.q c.loop.counter (there pre.rows_asked.asked c.loop-test.true) (at_gone c.args.walk c.loop.from late c.loop.kept inv.1) in
    record {
      countable = subst (λ (d : Decision). Countable d) (sym turned.decided) (countable_there _ _ _ _ _ _ _ (fits pre.rows_asked.walked.many pre.rows_asked.walked.few));
      group_len = c.loop.invariant.2;
      counts_few = record { few = λ k h. rw inv.0 (le_trans (group_few _ c.loop.counter k) (omega arith)) };
    }

pub loop-preserved : goal.loop-preserved
loop-preserved c =
    let late : ℕ = get_or c.lates-lates.result c.loop.from 0 in
    let pre = c.requires in
    let below = c.loop-test.true in (
      c.loop.invariant.0,
      omega (arith, below),
      c.count_row.auto.group ∙ c.loop.invariant.2,
      λ q f.
          let inv = c.loop.invariant.3 q f in
          let turned = c.take_turn-t.ensures q c.loop.counter (there pre.rows_asked.asked below) (at_gone c.args.walk c.loop.from late c.loop.kept inv.1) in (
            counted_turn _ c.loop.counter inv.0 turned.decided c.count_row.ensures
                (countable_there _ _ _ _ _ _ _ (fits pre.rows_asked.walked.many pre.rows_asked.walked.few)),
            at_back c.args.walk c.loop.from late c.loop.kept turned.next,
          ),
    )

pub shape_of-group : goal.shape_of-group
shape_of-group c = c.loop.invariant.2 ∙ sym (ap length c.requires.group_value ∙ length-replicate {A = ℕ} group_size 0)

pub returns : goal.returns
returns c =
    λ q f.
    let l = c.loop in
    let last : l.counter ≡ c.args.all = omega arith in
    (l.invariant.3 q f).0 ∙ ap (tally_of _) last
