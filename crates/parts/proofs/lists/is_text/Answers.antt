-- `parts::lists::is_text` meets its contract: no string, an empty one, an ASCII one, or by the bytes between its quotes. Assumes nothing.
use mathlib.Core.Path.{sym}
use borrow.Author.Rules.{rules}
use Rattle.slices.proofs.Decided.{yes_to}
use Rattle.utf8.proofs.Readings.{utf8_decides}
use Rattle.utf8.proofs.Counting.{ascii_utf8}
use Rattle.parts.proofs.Texts.{no_string_text, empty_text, string_text}
use Rattle.parts.proofs.lists.is_text.Goals as goal

pub returns-then-t-ne-STRING : goal.returns-then-t-ne-STRING
returns-then-t-ne-STRING c = no_string_text c.args.text.now c.args.t c.if-t-ne-STRING.true

pub returns-then-t-le2 : goal.returns-then-t-le2
returns-then-t-le2 c = empty_text c.args.text.now c.args.t c.if-t-le2.true

pub returns-then-is_ascii : goal.returns-then-is_ascii
returns-then-is_ascii c =
    let ascii = c.is_ascii.ensures.sound c.if-is_ascii.true in
    string_text c.args.text.now c.args.t c.if-t-ne-STRING.false _ (yes_to ((utf8_decides _).sound (ascii_utf8 ascii)))

pub returns : goal.returns
returns c = string_text c.args.text.now c.args.t c.if-t-ne-STRING.false _ c.is_utf8.ensures
