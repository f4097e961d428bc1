use Rattle.std.proofs.Common.{◌++◌, ◌+◌, ◌*◌, ◌≤◌, length, drop}
use Rattle.folder.specs.Decimals.{numbers_line}
use Rattle.folder.proofs.DecimalLaws.{PutBut, line_left}
use Rattle.folder.proofs.lines.put_numbers.Given as goal

abbrev pub invariant-loop-i : goal.invariant-loop-i
invariant-loop-i l = record {
  put : PutBut l.fn.out l.at (l.word ++ numbers_line l.numbers) (line_left (drop l.i l.numbers)) l.out l.next;
  room : l.next ≤ l.at + length l.word + 21 * l.i;
}
