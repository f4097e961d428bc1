-- `parts::lists::read_list` meets its contract: the invariant `Listing` says what was read and put so far; each turn takes a literal and a comma. Assumes nothing.
use Prim.Native.Nat.{◌-◌}
use lib.ListN.{length}
use Rattle.reading.specs.Lexemes.{stream}
use Rattle.grammar.specs.Parser.{read_list}
use Rattle.parts.specs.Names.{sort_of}
use Rattle.parts.proofs.Literals.{Listing}
use Rattle.parts.proofs.lists.read_list.Given as goal

abbrev pub invariant-loop-t : goal.invariant-loop-t
invariant-loop-t l = Listing (sort_of l.strings) l.initial.reader l.reader (read_list (sort_of l.strings) (stream l.initial.reader.text.now l.initial.reader.next))

abbrev pub decreases-loop-t : goal.decreases-loop-t
decreases-loop-t l = length l.initial.reader.text.now - l.reader.next.start
