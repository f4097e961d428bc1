-- `kept::late::effects` meets its contract: the mark of those met becomes that of all. Assumes nothing.
use mathlib.Core.Path.{◌≡◌, refl, ◌∙◌}
use Prim.Native.Nat.{◌-◌, ◌^◌, ◌≤◌, ◌<◌}
use native.Mathlib.Omega.{arith}
use lib.Dec.{eqb}
use lib.ListN.{length}
use Rattle.table.specs.Kinds.{permit_kind}
use Rattle.stored.specs.ReadBack.{policies_at}
use Rattle.stored.specs.Ready.{Last}
use Rattle.stored.proofs.Evaluating.{some_left, number_falls, last_there}
use Rattle.meaning.proofs.Marking.{mark_after, none_met}
use Rattle.marks.specs.Marks.{permits_of}
use Rattle.marks.proofs.ByMarks.{bit_there, bit_fits, no_bits}
use Rattle.deciding.proofs.MarkLaws.{all_marked, mark_one, effect_there}
use Rattle.kept.specs.Notes.{ReadyOfSome}
use Rattle.kept.proofs.late.effects.Goals as goal

pub loop-end-init : goal.loop-end-init
loop-end-init c = (c.requires.ready_of_some, c.requires.entries_len_bound, no_bits _, none_met _ _)

pub entry_at-x-requires : goal.entry_at-x-requires
entry_at-x-requires c = omega (arith, c.loop-end.invariant.0.ready.stored.stands.few)

pub mark_with-mark-requires : goal.mark_with-mark-requires
mark_with-mark-requires c =
    let last : Last c.loop-end.invariant.0.text c.args.table.now c.loop-end.end c.entry_at-x.result = last_there c.loop-end.invariant.0.ready c.loop-end-test.true c.entry_at-x.ensures in
    let inv = c.loop-end.invariant in
    bit_fits (eqb c.entry_at-x.result.kind permit_kind) c.loop-end.mark _ (some_left last refl) inv.1 inv.2

pub loop-end-smaller : goal.loop-end-smaller
loop-end-smaller c =
    let last : Last c.loop-end.invariant.0.text c.args.table.now c.loop-end.end c.entry_at-x.result = last_there c.loop-end.invariant.0.ready c.loop-end-test.true c.entry_at-x.ensures in
    let l = last in let b = l.begins in let e = l.ends in omega arith

pub loop-end-preserved : goal.loop-end-preserved
loop-end-preserved c =
    let last : Last c.loop-end.invariant.0.text c.args.table.now c.loop-end.end c.entry_at-x.result = last_there c.loop-end.invariant.0.ready c.loop-end-test.true c.entry_at-x.ensures in
    let inv = c.loop-end.invariant in
    let falls = number_falls last refl in
    let one = some_left last refl in
    let few = inv.1 in (
      record { text = inv.0.text; ready = last.before },
      omega arith,
      rw (← falls, c.mark_with-mark.ensures) (bit_there (eqb c.entry_at-x.result.kind permit_kind) c.loop-end.mark _ one inv.1 inv.2),
      mark_one _ last c.loop-end.mark c.mark_with-mark.result (eqb c.entry_at-x.result.kind permit_kind) (effect_there _ _ _) c.mark_with-mark.ensures ∙ inv.3,
    )

pub returns : goal.returns
returns c = all_marked _ _ _ _ c.loop-end-test.false ∙ c.loop-end.invariant.3
