-- `tokens::classes::is_of` meets its contract: each arm is told the sort, and its bit of the entry tells it. Assumes nothing.
use Rattle.tokens.proofs.ClassLaws.{bit_tells, blank_tells, mark_tells, digit_tells, letter_tells, word_tells, string_tells, lone_tells}
use Rattle.tokens.specs.declared.classes.Sort.TheVariants.{Blanks, Marks, Digits, Letters, WordBytes, StringBytes, LoneMarks}
use borrow.Author.Rules.{rules}
use Rattle.tokens.proofs.classes.is_of.Goals as goal

pub returns-in-Blanks : goal.returns-in-Blanks
returns-in-Blanks c = rw c.in-Blanks.is (bit_tells 2 Blanks blank_tells c.args.b _ (search rules) c.entry_of-entry.ensures)

pub returns-in-Marks : goal.returns-in-Marks
returns-in-Marks c = rw c.in-Marks.is (bit_tells 4 Marks mark_tells c.args.b _ (search rules) c.entry_of-entry.ensures)

pub returns-in-Digits : goal.returns-in-Digits
returns-in-Digits c = rw c.in-Digits.is (bit_tells 8 Digits digit_tells c.args.b _ (search rules) c.entry_of-entry.ensures)

pub returns-in-Letters : goal.returns-in-Letters
returns-in-Letters c = rw c.in-Letters.is (bit_tells 16 Letters letter_tells c.args.b _ (search rules) c.entry_of-entry.ensures)

pub returns-in-WordBytes : goal.returns-in-WordBytes
returns-in-WordBytes c = rw c.in-WordBytes.is (bit_tells 32 WordBytes word_tells c.args.b _ (search rules) c.entry_of-entry.ensures)

pub returns-in-StringBytes : goal.returns-in-StringBytes
returns-in-StringBytes c = rw c.in-StringBytes.is (bit_tells 64 StringBytes string_tells c.args.b _ (search rules) c.entry_of-entry.ensures)

pub returns-in-LoneMarks : goal.returns-in-LoneMarks
returns-in-LoneMarks c = rw c.in-LoneMarks.is (bit_tells 128 LoneMarks lone_tells c.args.b _ (search rules) c.entry_of-entry.ensures)
