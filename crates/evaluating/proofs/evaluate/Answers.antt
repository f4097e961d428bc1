-- `evaluating::evaluate` meets its contract. Assumes nothing.
use Rattle.evaluating.proofs.Verdicts.{flat_counted}
use Rattle.stored.proofs.Evaluating.{node_of}
use Rattle.placing.specs.Said.{tree_words}
use Rattle.meaning.specs.Conditions.{verdict}
use borrow.Author.Rules.{rules}
use mathlib.Core.Path.{sym, ◌∙◌, ap}
use native.Mathlib.Omega.{arith}
use Rattle.evaluating.proofs.evaluate.Goals as goal

pub overflow_sub-end : goal.overflow_sub-end
overflow_sub-end c = omega (arith, (node_of c.requires.ready).some)

pub entry_in-x-requires : goal.entry_in-x-requires
entry_in-x-requires c = let k = node_of c.requires.ready in omega (arith, k.here, k.some)

pub flat-v-requires : goal.flat-v-requires
flat-v-requires c = record {
  node = node_of c.requires.ready;
  end_bound = rw c.entry_in-x.ensures at c.if-x-le-CONTAINS_ANY.true;
}

pub returns-then-x-le-CONTAINS_ANY : goal.returns-then-x-le-CONTAINS_ANY
returns-then-x-le-CONTAINS_ANY c =
    let k = node_of c.requires.ready in
    rw (← c.recorded.ensures, ← c.settles-settled.ensures, k.is)
    (c.settled_as.ensures ∙ flat_counted _ _ _ _ _ _ (rw c.entry_in-x.ensures at c.if-x-le-CONTAINS_ANY.true) c.flat-v.ensures)

pub returns : goal.returns
returns c = rw (← c.recorded.ensures, ← c.settles-settled.ensures) c.evaluate_by.ensures
