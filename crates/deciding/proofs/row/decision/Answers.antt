-- `deciding::row::decision` meets its contract. The invariant: the marks of those met become those of all. Assumes nothing.
use native.Mathlib.Omega.{arith}
use borrow.Author.Rules.{rules}
use Rattle.marks.specs.Marks.{permits_of}
use Rattle.marks.proofs.ByMarks.{permits_words, bit_there, bit_fits, no_bits}
use Rattle.stored.proofs.Evaluating.{some_left, number_falls, last_there}
use Rattle.deciding.proofs.MarkLaws.{all_marked, mark_one, none_marked, effect_there}
use Rattle.targets.specs.Matching.{request}
use Rattle.placing.specs.Said.{policy_words, words_of}
use Rattle.table.specs.Kinds.{permit_kind}
use Rattle.table.specs.Recorded.{recorded}
use Rattle.meaning.specs.Decisions.{under, satisfied, mark_of}
use Rattle.meaning.proofs.Marking.{mark_after, none_met}
use Rattle.meaning.proofs.WordLaws.{many_words}
use Rattle.views.specs.Meaning.{look}
use Rattle.views.specs.Places.{BagPlaced}
use Rattle.views.proofs.RowLaws.{plain_placed, plain_view}
use Rattle.slots.specs.Slots.{kept_sections}
use Rattle.views.specs.Values.{base_bag}
use Rattle.stored.specs.Ready.{ReadyPolicies, Last}
use Rattle.stored.specs.ReadBack.{policies_at}
use Prim.Native.Nat.{◌-◌, ◌^◌, ◌≤◌, ◌<◌}
use lib.Dec.{eqb}
use lib.ListN.{length}
use mathlib.Core.Path.{◌≡◌, refl, ◌∙◌}
use Rattle.deciding.proofs.row.decision.Goals as goal

pub index_of-places-requires : goal.index_of-places-requires
index_of-places-requires c = record { sectioned = (c.requires.sectioned).0; s_len_bound = (c.requires.sectioned).1 }

pub loop-end-init : goal.loop-end-init
loop-end-init c = (c.requires.ready_policies, c.requires.entries_len_bound, no_bits _, no_bits _, none_met _ _, none_marked _ _ _ _)

pub entry_at-x-requires : goal.entry_at-x-requires
entry_at-x-requires c = omega (arith, c.loop-end.invariant.0.stored.stands.few)

pub is_satisfied-hit-requires : goal.is_satisfied-hit-requires
is_satisfied-hit-requires c =
    let last : Last c.args.text.now c.args.table.now c.loop-end.end c.entry_at-x.result = last_there c.loop-end.invariant.0 c.loop-end-test.true c.entry_at-x.ensures in
    record {
      last = last;
      types_of = c.requires.types_of;
    }

pub invariant_of-row : goal.invariant_of-row
invariant_of-row c =
    let placed : BagPlaced c.args.bag.now c.index_of-places.result = record {
      sections = rw c.index_of-places.ensures.sections c.requires.sectioned.0;
      indexed = c.index_of-places.ensures.indexed;
      plain = c.index_of-places.ensures.free 195 (omega arith);
    } in
    record { stands = ∣ plain_placed _ _ _ placed ∣₁ }

pub mark_with-permits-requires : goal.mark_with-permits-requires
mark_with-permits-requires c =
    let last : Last c.args.text.now c.args.table.now c.loop-end.end c.entry_at-x.result = last_there c.loop-end.invariant.0 c.loop-end-test.true c.entry_at-x.ensures in
    let one : 1 ≤ length (policies_at c.args.table.now c.loop-end.end) = some_left last refl in
    let inv = c.loop-end.invariant in
    bit_fits (eqb c.entry_at-x.result.kind permit_kind) c.loop-end.permits _ one inv.1 inv.2

pub mark_with-mark-requires : goal.mark_with-mark-requires
mark_with-mark-requires c =
    let last : Last c.args.text.now c.args.table.now c.loop-end.end c.entry_at-x.result = last_there c.loop-end.invariant.0 c.loop-end-test.true c.entry_at-x.ensures in
    let one : 1 ≤ length (policies_at c.args.table.now c.loop-end.end) = some_left last refl in
    let inv = c.loop-end.invariant in
    bit_fits c.is_satisfied-hit.result c.loop-end.mark _ one inv.1 inv.3

pub loop-end-smaller : goal.loop-end-smaller
loop-end-smaller c =
    let last : Last c.args.text.now c.args.table.now c.loop-end.end c.entry_at-x.result = last_there c.loop-end.invariant.0 c.loop-end-test.true c.entry_at-x.ensures in
    let l = last in let b = l.begins in let e = l.ends in omega arith

pub loop-end-preserved : goal.loop-end-preserved
loop-end-preserved c =
    let last : Last c.args.text.now c.args.table.now c.loop-end.end c.entry_at-x.result = last_there c.loop-end.invariant.0 c.loop-end-test.true c.entry_at-x.ensures in
    let one : 1 ≤ length (policies_at c.args.table.now c.loop-end.end) = some_left last refl in
    let inv = c.loop-end.invariant in
    let sat = c.is_satisfied-hit in
    let falls = number_falls last refl in
    let few = inv.1 in (
      last.before,
      omega (arith, one),
      rw (← falls, c.mark_with-permits.ensures) (bit_there (eqb c.entry_at-x.result.kind permit_kind) c.loop-end.permits _ one inv.1 inv.2),
      rw (← falls, c.mark_with-mark.ensures) (bit_there sat.result c.loop-end.mark _ one inv.1 inv.3),
      mark_one _ last c.loop-end.permits c.mark_with-permits.result (eqb c.entry_at-x.result.kind permit_kind) (effect_there _ _ _) c.mark_with-permits.ensures ∙ inv.4,
      mark_one _ last c.loop-end.mark c.mark_with-mark.result sat.result (rw (plain_view _ _ _ (c.index_of-places.ensures.free 195 (omega arith)), c.index_of-places.ensures.sections) at sat.ensures) c.mark_with-mark.ensures ∙ inv.5,
    )

pub returns : goal.returns
returns c =
    let inv = c.loop-end.invariant in
    let ps = policies_at c.args.table.now c.args.entries in
    let none = c.loop-end-test.false in
    let mark = all_marked _ _ _ _ none ∙ inv.5 in
    let allowed = all_marked _ _ _ _ none ∙ inv.4 ∙ permits_words _ _ in
    let d = c.by_marks-d.ensures _ _ (words_of c.args.text.now ps) (rw (many_words c.args.text.now ps) c.requires.entries_len_bound) mark allowed in
    λ i. record { d = d i; mark = mark i }
