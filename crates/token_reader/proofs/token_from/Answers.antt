-- `token_reader::token_from` meets its contract: the bits of the entry decide `token_from`. Assumes nothing.
use mathlib.Core.Path.{◌∙◌}
use mathlib.Core.List.{List}
use Prim.Native.Nat.{ℕ, ◌<◌}
use native.Mathlib.Omega.{arith}
use lib.ListN.{get_or}
use Rattle.tokens.proofs.EntryLaws.{lone_here, letter_here, digit_here, mark_here, none_here}
use Rattle.token_reader.proofs.token_from.Goals as goal

pub bounds-text-start : goal.bounds-text-start
bounds-text-start c =
    let text : List ℕ = c.args.text.now in
    let start : ℕ = c.args.start in
    let byte : get_or text start 0 < 256 = omega (arith, c.type_inv.text start) in
    (lone_here text start _ byte c.requires.1 c.if-entry-ne0.true).0

pub returns-then-entry-ne0 : goal.returns-then-entry-ne0
returns-then-entry-ne0 c =
    let text : List ℕ = c.args.text.now in
    let start : ℕ = c.args.start in
    let byte : get_or text start 0 < 256 = omega (arith, c.type_inv.text start) in
    c.one_byte.ensures ∙ (lone_here text start _ byte c.requires.1 c.if-entry-ne0.true).1

pub word-requires : goal.word-requires
word-requires c =
    let text : List ℕ = c.args.text.now in
    let start : ℕ = c.args.start in
    let byte : get_or text start 0 < 256 = omega (arith, c.type_inv.text start) in
    let h = letter_here text start _ byte c.requires.1 c.if-entry-ne0-2.true in (h.0, h.1)

pub returns-then-entry-ne0-2 : goal.returns-then-entry-ne0-2
returns-then-entry-ne0-2 c =
    let text : List ℕ = c.args.text.now in
    let start : ℕ = c.args.start in
    let byte : get_or text start 0 < 256 = omega (arith, c.type_inv.text start) in
    c.word.ensures ∙ (letter_here text start _ byte c.requires.1 c.if-entry-ne0-2.true).2

pub number-requires : goal.number-requires
number-requires c =
    let text : List ℕ = c.args.text.now in
    let start : ℕ = c.args.start in
    let byte : get_or text start 0 < 256 = omega (arith, c.type_inv.text start) in
    (digit_here text start _ byte c.requires.1 c.if-entry-ne0-2.false c.if-entry-ne0-3.true).0

pub returns-then-entry-ne0-3 : goal.returns-then-entry-ne0-3
returns-then-entry-ne0-3 c =
    let text : List ℕ = c.args.text.now in
    let start : ℕ = c.args.start in
    let byte : get_or text start 0 < 256 = omega (arith, c.type_inv.text start) in
    c.number.ensures ∙ (digit_here text start _ byte c.requires.1 c.if-entry-ne0-2.false c.if-entry-ne0-3.true).1

pub from_mark-requires : goal.from_mark-requires
from_mark-requires c =
    let text : List ℕ = c.args.text.now in
    let start : ℕ = c.args.start in
    let byte : get_or text start 0 < 256 = omega (arith, c.type_inv.text start) in
    (mark_here text start _ byte c.requires.1 c.if-entry-ne0-2.false c.if-entry-ne0-3.false c.if-entry-ne0-4.true).0

pub returns-then-entry-ne0-4 : goal.returns-then-entry-ne0-4
returns-then-entry-ne0-4 c =
    let text : List ℕ = c.args.text.now in
    let start : ℕ = c.args.start in
    let byte : get_or text start 0 < 256 = omega (arith, c.type_inv.text start) in
    c.from_mark.ensures ∙ (mark_here text start _ byte c.requires.1 c.if-entry-ne0-2.false c.if-entry-ne0-3.false c.if-entry-ne0-4.true).1

pub returns : goal.returns
returns c =
    let text : List ℕ = c.args.text.now in
    let start : ℕ = c.args.start in
    let byte : get_or text start 0 < 256 = omega (arith, c.type_inv.text start) in
    c.no_token.ensures ∙ none_here text start _ byte c.requires.1 c.if-entry-ne0-2.false c.if-entry-ne0-3.false c.if-entry-ne0-4.false
