use Prim.Native.Nat.{◌+◌}
use borrow.Author.Rules.{rules}
use lib.ListN.{get_or}
use mathlib.Core.Path.{◌≡◌, refl, sym, ◌∙◌}
use native.Mathlib.Omega.{arith}
use Rattle.tokens.specs.Blanks.{unblanked}
use Rattle.tokens.specs.Table.{values_from}
use Rattle.slots.specs.Slots.{kept_sections}
use Rattle.views.proofs.ViewLaws.{columns_none, columns_here, columns_on}
use Rattle.views.specs.Meaning.{columns_first}
use Rattle.views.specs.Places.{kept_columns, kept_heads, placed_value}
use Rattle.views.specs.Rows.{chosen_at, chosen_of, base_value, row_value}
use Rattle.views.proofs.attribute.Reads as reads
use Rattle.views.proofs.attribute.Lts as lts
use Rattle.slots.proofs.place_in.Reads as place_in_reads
use Rattle.views.proofs.head_of.Reads as head_of_reads
use Rattle.views.proofs.names.Reads as names_reads
use Rattle.std.proofs.Common.{◌-◌, ◌≤◌}
use Rattle.views.proofs.attribute.Given as goal

abbrev pub invariant-loop-i : goal.invariant-loop-i
invariant-loop-i l =
    (columns_first (values_from (λ i. chosen_at l.s (get_or (kept_heads l.places) i 0) (get_or l.values i 0)) l.i (kept_columns l.places - l.i)) (base_value l.s (kept_sections l.places)) l.root (unblanked l.path)
    ≡ placed_value l.s l.places l.values l.root (unblanked l.path))
    × (l.i ≤ kept_columns l.places)
