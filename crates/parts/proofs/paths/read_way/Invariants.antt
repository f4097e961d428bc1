-- `parts::paths::read_way` meets its contract: the invariant says what the name that must stand next makes of the path, and that only that token changes; each turn takes a name and a dot. Assumes nothing.
use mathlib.Core.Path.{◌≡◌}
use Prim.Native.Nat.{◌-◌}
use lib.ListN.{length}
use Rattle.reading.specs.Lexemes.{stream}
use Rattle.grammar.specs.Parser.{read_way}
use Rattle.parts.specs.Answers.{at_token}
use Rattle.parts.specs.Names.{root_from, exit_of}
use Rattle.parts.proofs.Ways.{Walking}
use Rattle.parts.proofs.paths.read_way.Given as goal

abbrev pub invariant-loop-name : goal.invariant-loop-name
invariant-loop-name l = record {
  path : Walking l.left (root_from l.root) l.initial.reader.text.now (read_way (exit_of l.left) (root_from l.root) (stream l.initial.reader.text.now l.initial.reader.next)) l.initial.reader.next.start l.start l.used l.reader.next;
  stays : l.reader ≡ at_token l.initial.reader l.reader.next;
}

abbrev pub decreases-loop-name : goal.decreases-loop-name
decreases-loop-name l = length l.initial.reader.text.now - l.reader.next.start
