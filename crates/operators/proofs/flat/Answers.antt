-- `operators::flat` meets its contract. Assumes nothing.
use native.Mathlib.Omega.{arith}
use Rattle.operators.proofs.flat.Goals as goal

pub overflow_sub-end : goal.overflow_sub-end
overflow_sub-end c = omega (arith, c.requires.node.some)

pub entry_in-x-requires : goal.entry_in-x-requires
entry_in-x-requires c = omega (arith, c.requires.node.some, c.requires.node.here)

pub flat_of-requires : goal.flat_of-requires
flat_of-requires c = record {
  node = rw c.entry_in-x.ensures c.requires.node;
  kind_le_contains_any_kind = rw c.entry_in-x.ensures c.requires.end_bound;
}

pub returns : goal.returns
returns c = rw c.entry_in-x.ensures at c.flat_of.ensures
