-- `parts::lists::read_list` meets its contract: the invariant `Listing` says what was read and put so far; each turn takes a literal and a comma. Assumes nothing.
use mathlib.Core.Path.{◌≡◌, ◌∙◌, sym, ap}
use native.Mathlib.Omega.{arith}
use borrow.Author.Rules.{rules}
use Rattle.table.specs.Entries.{literal_entry}
use Rattle.parts.specs.Names.{sort_of}
use Rattle.parts.proofs.Literals.{listing_none, free_past, listing_off, listing_full, listing_odd, taken, listing_ends, listing_on, listing_smaller}
use Rattle.parts.proofs.Sorts.{sort_some, sort_of_lem, literal_of_lem}
use Rattle.parts.proofs.SoFar.{so_lies, so_high, so_small}
use Rattle.parts.proofs.lists.read_list.Goals as goal

pub loop-t-init : goal.loop-t-init
loop-t-init c = listing_none (sort_of c.args.strings) c.args.reader.now c.requires.lies

pub returns-then-not-is_sort : goal.returns-then-not-is_sort
returns-then-not-is_sort c = listing_off _ c.loop-t.invariant (sym (sort_of_lem _ _ _) ∙ sym c.is_sort.ensures ∙ c.if-not-is_sort.true)

pub overflow_sub-reader : goal.overflow_sub-reader
overflow_sub-reader c = free_past _ c.loop-t.invariant

pub returns-then-reader-first-ge-MOST_LITERALS : goal.returns-then-reader-first-ge-MOST_LITERALS
returns-then-reader-first-ge-MOST_LITERALS c = listing_full _ c.loop-t.invariant (sym (sort_of_lem _ _ _) ∙ sym c.is_sort.ensures ∙ c.if-not-is_sort.false) c.if-reader-first-ge-MOST_LITERALS.true

pub is_text-requires : goal.is_text-requires
is_text-requires c = so_lies c.loop-t.invariant.so (omega arith)

pub returns-then-not-is_text : goal.returns-then-not-is_text
returns-then-not-is_text c = listing_odd _ c.loop-t.invariant (sym (sort_of_lem _ _ _) ∙ sym c.is_sort.ensures ∙ c.if-not-is_sort.false) c.if-reader-first-ge-MOST_LITERALS.false (sym c.is_text.ensures ∙ c.if-not-is_text.true)

pub pass-requires : goal.pass-requires
pass-requires c = so_high c.loop-t.invariant.so

pub put_entry-requires : goal.put_entry-requires
put_entry-requires c = rw c.pass.ensures (so_small c.loop-t.invariant.so c.requires.small c.requires.lies.low)

pub expect-requires : goal.expect-requires
expect-requires c =
    let here = sym (sort_of_lem c.args.strings c.loop-t.reader.text.now c.loop-t.reader.next) ∙ sym c.is_sort.ensures ∙ c.if-not-is_sort.false in
    so_lies (taken _ c.loop-t.invariant here (sort_some _ _ here) c.if-reader-first-ge-MOST_LITERALS.false (sym c.is_text.ensures ∙ c.if-not-is_text.false) _ (c.literal_entry.ensures ∙ ap literal_entry (literal_of_lem _ _)) c.pass.ensures c.put_entry.ensures) (omega arith)

pub returns-then-reader-ne44 : goal.returns-then-reader-ne44
returns-then-reader-ne44 c =
    let here = sym (sort_of_lem c.args.strings c.loop-t.reader.text.now c.loop-t.reader.next) ∙ sym c.is_sort.ensures ∙ c.if-not-is_sort.false in
    listing_ends _ c.loop-t.invariant here (sort_some _ _ here) c.if-reader-first-ge-MOST_LITERALS.false (sym c.is_text.ensures ∙ c.if-not-is_text.false) _ (c.literal_entry.ensures ∙ ap literal_entry (literal_of_lem _ _)) c.pass.ensures c.put_entry.ensures c.if-reader-ne44.true c.expect.ensures (omega arith)

pub pass-requires-in-loop-t : goal.pass-requires-in-loop-t
pass-requires-in-loop-t c =
    let here = sym (sort_of_lem c.args.strings c.loop-t.reader.text.now c.loop-t.reader.next) ∙ sym c.is_sort.ensures ∙ c.if-not-is_sort.false in
    so_high (taken _ c.loop-t.invariant here (sort_some _ _ here) c.if-reader-first-ge-MOST_LITERALS.false (sym c.is_text.ensures ∙ c.if-not-is_text.false) _ (c.literal_entry.ensures ∙ ap literal_entry (literal_of_lem _ _)) c.pass.ensures c.put_entry.ensures)

pub loop-t-smaller : goal.loop-t-smaller
loop-t-smaller c =
    let here = sym (sort_of_lem c.args.strings c.loop-t.reader.text.now c.loop-t.reader.next) ∙ sym c.is_sort.ensures ∙ c.if-not-is_sort.false in
    listing_smaller _ c.loop-t.invariant here (sort_some _ _ here) c.if-reader-first-ge-MOST_LITERALS.false (sym c.is_text.ensures ∙ c.if-not-is_text.false) _ (c.literal_entry.ensures ∙ ap literal_entry (literal_of_lem _ _)) c.pass.ensures c.put_entry.ensures c.if-reader-ne44.false c.pass-in-loop-t.ensures

pub loop-t-preserved : goal.loop-t-preserved
loop-t-preserved c =
    let here = sym (sort_of_lem c.args.strings c.loop-t.reader.text.now c.loop-t.reader.next) ∙ sym c.is_sort.ensures ∙ c.if-not-is_sort.false in
    listing_on _ c.loop-t.invariant here (sort_some _ _ here) c.if-reader-first-ge-MOST_LITERALS.false (sym c.is_text.ensures ∙ c.if-not-is_text.false) _ (c.literal_entry.ensures ∙ ap literal_entry (literal_of_lem _ _)) c.pass.ensures c.put_entry.ensures c.if-reader-ne44.false c.pass-in-loop-t.ensures
