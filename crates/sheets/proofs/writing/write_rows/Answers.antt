-- `sheets::writing::write_rows` meets its contract: the rows passed are written, and the walk stands at the row. Assumes nothing.
use borrow.Author.Rules.{rules}
use Rattle.views.specs.Places.{kept_heads}
use Rattle.turns.specs.Turns.{AtRow}
use Rattle.turns.proofs.RowLaws.{choices_small, stands_first, kept_first, ends_few, policy_fits, walked_gone, underway_gone, at_gone, at_back}
use Rattle.placing.specs.Said.{words_of}
use Rattle.sheets.specs.Asked.{Asked, WalkFor}
use Rattle.table.specs.Recorded.{recorded}
use Rattle.sheets.specs.Sheets.{rows_in, decision_at, row_mark}
use Rattle.pages.proofs.Progress.{Progress, begun, turn_yes, turn_no, turn_full, turn_none}
use Rattle.pages.specs.Listing.{row_size, listed}
use Rattle.bags.specs.declared.sections.Sections.{Sections}
use Rattle.meaning.specs.Targets.{Request}
use Rattle.meaning.specs.declared.Decision.{Decision}
use Rattle.meaning.specs.Decisions.{is_allowed, policy_of}
use Rattle.stored.specs.ReadBack.{policies_at}
use lib.ListN.{length, get_or, length-drop, length-take}
use native.Mathlib.Omega.{arith}
use Prim.Native.Nat.{ℕ, ◌≤◌, ◌<◌, ◌*◌, ◌+◌, ◌-◌}
use mathlib.Core.List.{List}
use mathlib.Core.Path.{◌≡◌, refl, sym, ap, ◌∙◌, subst}
use Rattle.sheets.proofs.writing.write_rows.Goals as goal

there : {s : List ℕ} {p : Sections} {all start row : ℕ} → Asked s p all start → row < all → row < rows_in s p
there a h = rw (← a.all_rows) h

fits : {policies n : ℕ} → policies ≡ n → policies ≤ 64 → n ≤ 64
fits e h = omega arith

pub choices_of-choices-requires : goal.choices_of-choices-requires
choices_of-choices-requires c = let w = c.requires.rows_asked.walked in ends_few w.question w.laid

pub chosen-values-requires : goal.chosen-values-requires
chosen-values-requires c =
    let w = c.requires.rows_asked.walked in
    record {
      n_le_most_columns = omega arith;
      by_index = λ i h. choices_small _ _ _ c.choices_of-choices.ensures (ends_few w.question w.laid) i h;
    }

pub lates-lates-requires : goal.lates-lates-requires
lates-lates-requires c = c.requires.rows_asked.walked.few

pub loop-row-init : goal.loop-row-init
loop-row-init c = (
  c.requires.rows_asked.asked.few,
  c.requires.rows_asked.asked.within,
  omega arith,
  refl,
  refl,
  λ q f. (
    begun _ _ _ _,
    record {
      acts = f.acts;
      whose = f.whose;
      standing = stands_first c.choices_of-choices.ensures (omega arith) c.chosen-values.ensures;
      within = omega arith;
      kept = kept_first c.chosen-values.result (omega arith) f.aims;
    },
  ),
)

pub offset_bounds-lates-from : goal.offset_bounds-lates-from
offset_bounds-lates-from c =
    let within : c.loop-row.from < 6 = let pre = c.requires in (c.loop-row.invariant.5 pre.walk_for_some.q pre.walk_for_some.walk_for).1.within in
    omega (arith, within)

pub bounds-lates-from : goal.bounds-lates-from
bounds-lates-from c =
    let within : c.loop-row.from < 6 = let pre = c.requires in (c.loop-row.invariant.5 pre.walk_for_some.q pre.walk_for_some.walk_for).1.within in
    omega (arith, within)

pub take_turn-t-requires : goal.take_turn-t-requires
take_turn-t-requires c =
    let within : c.loop-row.from < 6 = let pre = c.requires in (c.loop-row.invariant.5 pre.walk_for_some.q pre.walk_for_some.walk_for).1.within in
    let late : ℕ = get_or c.lates-lates.result c.loop-row.from 0 in
    let pre = c.requires in
    let at = (c.loop-row.invariant.5 pre.walk_for_some.q pre.walk_for_some.walk_for).1 in
    record {
      walked = walked_gone c.args.walk c.loop-row.from late c.loop-row.kept pre.rows_asked.walked;
      somewhere = record { row = c.loop-row.row; below = there pre.rows_asked.asked c.loop-row-test.true; standing = at.standing };
      notes_len = at.kept.carried.long;
      underway = underway_gone c.args.walk c.loop-row.from late c.loop-row.kept refl pre.rows_asked.walked (c.lates-lates.ensures c.loop-row.from within) at.kept.carried.below;
      places_of = pre.places_of;
    }

pub overflow_sub-part : goal.overflow_sub-part
overflow_sub-part c =
    let pre = c.requires in
    omega (arith, (c.loop-row.invariant.5 pre.walk_for_some.q pre.walk_for_some.walk_for).0.room)

pub returns-then-part-at-lt-ROW_SIZE : goal.returns-then-part-at-lt-ROW_SIZE
returns-then-part-at-lt-ROW_SIZE c =
    let late : ℕ = get_or c.lates-lates.result c.loop-row.from 0 in
    λ q f.
    let inv = c.loop-row.invariant.5 q f in
    let below = c.loop-row-test.true in
    let turned = c.take_turn-t.ensures q c.loop-row.row (there c.requires.rows_asked.asked below) (at_gone c.args.walk c.loop-row.from late c.loop-row.kept inv.1) in
    turn_full _ _ _ _ _ _ _ _ below inv.0 (sym (c.is_allowed.ensures ∙ ap is_allowed turned.decided) ∙ c.if-is_allowed.true) (omega arith)

pub put_row-requires : goal.put_row-requires
put_row-requires c =
    let late : ℕ = get_or c.lates-lates.result c.loop-row.from 0 in
    let pre = c.requires in
    let inv = c.loop-row.invariant.5 pre.walk_for_some.q pre.walk_for_some.walk_for in
    let turned = c.take_turn-t.ensures pre.walk_for_some.q c.loop-row.row (there pre.rows_asked.asked c.loop-row-test.true) (at_gone c.args.walk c.loop-row.from late c.loop-row.kept inv.1) in
    record {
      row_size_in_bounds = simp (length-take, length-drop) (omega arith);
      d_bound = subst (λ (d : Decision). policy_of d < 256) (sym turned.decided) (policy_fits _ _ _ _ _ _ _ (fits pre.rows_asked.walked.many pre.rows_asked.walked.few));
    }

pub loop-row-preserved-then-is_allowed : goal.loop-row-preserved-then-is_allowed
loop-row-preserved-then-is_allowed c =
    let late : ℕ = get_or c.lates-lates.result c.loop-row.from 0 in
    let inv = c.loop-row.invariant in
    let below = c.loop-row-test.true in (
      inv.0,
      omega (arith, below),
      omega arith,
      omega arith,
      c.part-1.given.1 ∙ inv.4,
      λ q f.
          let turned = c.take_turn-t.ensures q c.loop-row.row (there c.requires.rows_asked.asked below) (at_gone c.args.walk c.loop-row.from late c.loop-row.kept (inv.5 q f).1) in (
            turn_yes _ _ _ _ _ _ _ _ below (inv.5 q f).0 (sym (c.is_allowed.ensures ∙ ap is_allowed turned.decided) ∙ c.if-is_allowed.true) c.loop-row.at inv.3 (omega arith)
                c.put_row.new.tail (rw (← turned.decided, ← turned.marked) c.put_row.ensures),
            at_back c.args.walk c.loop-row.from late c.loop-row.kept turned.next,
          ),
    )

pub loop-row-preserved : goal.loop-row-preserved
loop-row-preserved c =
    let late : ℕ = get_or c.lates-lates.result c.loop-row.from 0 in
    let inv = c.loop-row.invariant in
    let below = c.loop-row-test.true in (
      inv.0,
      omega arith,
      omega arith,
      inv.3,
      inv.4,
      λ q f.
          let turned = c.take_turn-t.ensures q c.loop-row.row (there c.requires.rows_asked.asked below) (at_gone c.args.walk c.loop-row.from late c.loop-row.kept (inv.5 q f).1) in (
            turn_no _ _ _ _ _ _ _ _ below (inv.5 q f).0 (sym (c.is_allowed.ensures ∙ ap is_allowed turned.decided) ∙ c.if-is_allowed.false),
            at_back c.args.walk c.loop-row.from late c.loop-row.kept turned.next,
          ),
    )

pub returns : goal.returns
returns c = λ q f. turn_none _ _ _ _ _ _ _ _ (omega arith) (c.loop-row.invariant.5 q f).0
