-- The readers of conditions meet their contracts. They end: four times the levels that are left, and the reader's rank; the loops of chains take of the text. Assumes nothing.
use Prim.Native.Nat.{◌*◌, ◌+◌, ◌-◌}
use lib.ListN.{length}
use Rattle.tokens.specs.Kinds as kinds
use Rattle.reading.specs.Lexemes.{stream}
use Rattle.grammar.specs.Parser.{read_condition as read_condition_spec, read_conjunction as read_conjunction_spec, read_disjunction as read_disjunction_spec}
use Rattle.grammar.specs.Policies.{both, either}
use Rattle.conditions.proofs.Chains.{Chained}
use Rattle.conditions.proofs.+condition_readers.Given as goal

abbrev pub decreases-read_choice : goal.decreases-read_choice
decreases-read_choice l = 4 * l.depth + 4

abbrev pub decreases-read_condition : goal.decreases-read_condition
decreases-read_condition l = 4 * l.depth + 1

abbrev pub decreases-read_conjunction : goal.decreases-read_conjunction
decreases-read_conjunction l = 4 * l.depth + 2

abbrev pub decreases-read_disjunction : goal.decreases-read_disjunction
decreases-read_disjunction l = 4 * l.depth + 3

abbrev pub decreases-read_group : goal.decreases-read_group
decreases-read_group l = 4 * l.depth + 4

abbrev pub decreases-read_negation : goal.decreases-read_negation
decreases-read_negation l = 4 * l.depth + 4

abbrev pub invariant-read_conjunction-loop-reader : goal.invariant-read_conjunction-loop-reader
invariant-read_conjunction-loop-reader l =
    Chained l.fn.reader l.reader kinds.and both (read_condition_spec l.depth) (read_conjunction_spec (read_condition_spec l.depth) (stream l.fn.reader.text.now l.fn.reader.next))

abbrev pub decreases-read_conjunction-loop-reader : goal.decreases-read_conjunction-loop-reader
decreases-read_conjunction-loop-reader l = length l.fn.reader.text.now - l.reader.next.start

abbrev pub invariant-read_disjunction-loop-reader : goal.invariant-read_disjunction-loop-reader
invariant-read_disjunction-loop-reader l =
    Chained l.fn.reader l.reader kinds.or either (read_conjunction_spec (read_condition_spec l.depth)) (read_disjunction_spec (read_condition_spec l.depth) (stream l.fn.reader.text.now l.fn.reader.next))

abbrev pub decreases-read_disjunction-loop-reader : goal.decreases-read_disjunction-loop-reader
decreases-read_disjunction-loop-reader l = length l.fn.reader.text.now - l.reader.next.start
