use Prim.Native.Nat.{◌+◌}
use borrow.Author.Rules.{rules}
use lib.ListN.{get_or}
use mathlib.Core.Path.{◌≡◌, refl, sym, ◌∙◌}
use native.Mathlib.Omega.{arith}
use Rattle.tokens.specs.Blanks.{unblanked}
use Rattle.tokens.specs.Table.{values_from}
use Rattle.slots.specs.Slots.{kept_sections}
use Rattle.views.proofs.ViewLaws.{columns_none, columns_here, columns_on}
use Rattle.views.specs.Meaning.{columns_first}
use Rattle.views.specs.Places.{kept_columns, kept_heads, placed_value}
use Rattle.views.specs.Rows.{chosen_at, chosen_of, base_value, row_value}
use Rattle.views.proofs.attribute.Reads as reads
use Rattle.views.proofs.attribute.Lts as lts
use Rattle.slots.proofs.place_in.Reads as place_in_reads
use Rattle.views.proofs.head_of.Reads as head_of_reads
use Rattle.views.proofs.names.Reads as names_reads
use Rattle.std.proofs.Common.{◌≡◌, ◌-◌, ◌+◌}
use Rattle.views.specs.Places.{kept_columns}
use Rattle.views.proofs.attribute.Goals as goal

pub loop-i-init : goal.loop-i-init
unfolding row_value chosen_of
loop-i-init c = let e : kept_columns c.args.places.now - 0 ≡ kept_columns c.args.places.now = omega arith in rw e (refl, omega arith)

pub head_of-head-requires : goal.head_of-head-requires
head_of-head-requires c = omega (arith, c.requires.stands.few)

pub names-requires : goal.names-requires
names-requires c = rw c.head_of-head.ensures (c.requires.stands.named c.loop-i.i (omega arith))

pub returns-then-names : goal.returns-then-names
returns-then-names c = record {
  is =
      columns_here (λ i. chosen_at c.args.s.now (get_or (kept_heads c.args.places.now) i 0) (get_or c.args.values.now i 0)) (base_value c.args.s.now (kept_sections c.args.places.now))
      c.args.root (unblanked c.args.path.now) (kept_columns c.args.places.now - c.loop-i.i) c.loop-i.i (omega arith)
      (rw c.head_of-head.ensures at (sym c.names.ensures ∙ c.if-names.true))
      ∙ c.loop-i.invariant.0;
  valued = λ h. c.requires.stands.valued c.loop-i.i (omega arith);
}

pub loop-i-preserved : goal.loop-i-preserved
loop-i-preserved c =
    let e : kept_columns c.args.places.now - (c.loop-i.i + 1) ≡ kept_columns c.args.places.now - c.loop-i.i - 1 = omega arith in
    rw e (
      columns_on (λ i. chosen_at c.args.s.now (get_or (kept_heads c.args.places.now) i 0) (get_or c.args.values.now i 0)) (base_value c.args.s.now (kept_sections c.args.places.now))
          c.args.root (unblanked c.args.path.now) (kept_columns c.args.places.now - c.loop-i.i) c.loop-i.i (omega arith)
          (rw c.head_of-head.ensures at (sym c.names.ensures ∙ c.if-names.false))
          ∙ c.loop-i.invariant.0,
      omega arith,
    )

pub place_in-requires : goal.place_in-requires
place_in-requires c = record {
  sectioned = c.requires.stands.sections;
  indexed = c.requires.indexed;
}

pub returns : goal.returns
returns c = record {
  is =
      c.place_in.ensures.is
      ∙ sym (columns_none (λ i. chosen_at c.args.s.now (get_or (kept_heads c.args.places.now) i 0) (get_or c.args.values.now i 0)) (base_value c.args.s.now (kept_sections c.args.places.now))
      c.args.root (unblanked c.args.path.now) (kept_columns c.args.places.now - c.loop-i.i) c.loop-i.i (omega arith))
      ∙ c.loop-i.invariant.0;
  valued = c.place_in.ensures.valued;
}
