-- `parts::attributes::read_operand` meets its contract: a literal, an attribute, or neither. Assumes nothing.
use mathlib.Core.List.{[], ◌∷◌}
use mathlib.Core.Path.{refl, ◌∙◌, sym, ap}
use native.Mathlib.Omega.{arith}
use borrow.Author.Rules.{rules}
use Rattle.reading.specs.Lexemes.{lexeme}
use Rattle.reading.specs.Reader.{bind, took}
use Rattle.grammar.specs.Parser.{no_text, is_text_of, read_operand, read_attribute}
use Rattle.grammar.proofs.Completeness.{of_sort}
use Rattle.grammar.specs.Policies.{attribute, literal}
use Rattle.grammar.specs.Rules.{is_literal, is_root, literal_of}
use Rattle.table.specs.Entries.{literal_entry, operand_entry}
use Rattle.table.specs.declared.Entry.{Entry}
use Rattle.parts.specs.Names.{root_from}
use Rattle.parts.proofs.Roots.{root_of_lem}
use Rattle.parts.proofs.Sorts.{literal_some, root_some, literal_of_lem}
use Rattle.parts.proofs.Ways.{attribute_is}
use Rattle.parts.proofs.SoFar.{so_begins, so_passed, so_other, so_as, so_put, so_ready, so_small, so_last, so_done_put, so_refused}
use Rattle.parts.proofs.attributes.read_operand.Goals as goal

pub pass-requires : goal.pass-requires
pass-requires c = c.requires.lies.high

pub put_entry-requires : goal.put_entry-requires
put_entry-requires c = let l = c.requires.lies in rw c.pass.ensures (omega (arith, l.low, l.order, l.high, c.requires.small))

pub returns-then-is_text_literal : goal.returns-then-is_text_literal
unfolding read_operand operand_entry
returns-then-is_text_literal c =
    let old = c.args.reader.now in
    let x = lexeme old.text.now old.next in
    let fits = sym c.is_text_literal.ensures ∙ c.if-is_text_literal.true in
    let so = so_passed (is_text_of is_literal) _ _ (so_begins old read_operand c.requires.lies) c.pass.ensures (literal_some x (of_sort is_literal x fits)) fits in
    so_done_put [] _ (literal (literal_of x)) (so_put so c.put_entry.ensures)
    (sym (ap (λ (e : Entry). e ∷ []) (c.literal_entry.ensures ∙ ap literal_entry (literal_of_lem old.text.now old.next)))) (omega arith)

pub pass-requires-then-is_root : goal.pass-requires-then-is_root
pass-requires-then-is_root c = c.requires.lies.high

pub read_attribute-requires : goal.read_attribute-requires
unfolding read_operand
read_attribute-requires c =
    let old = c.args.reader.now in
    let off = sym c.is_text_literal.ensures ∙ c.if-is_text_literal.false in
    let fits = sym c.is_root.ensures ∙ c.if-is_root.true in
    let so = so_passed is_root _ _ (so_other (is_text_of is_literal) _ _ (so_begins old read_operand c.requires.lies) off) c.pass-then-is_root.ensures (root_some (lexeme old.text.now old.next) fits) fits in
    so_ready so c.requires.small (omega (arith, ap (λ r. r.free) c.pass-then-is_root.ensures, c.requires.lies.low))

pub returns-then-is_root : goal.returns-then-is_root
unfolding read_operand operand_entry
returns-then-is_root c =
    let old = c.args.reader.now in
    let off = sym c.is_text_literal.ensures ∙ c.if-is_text_literal.false in
    let fits = sym c.is_root.ensures ∙ c.if-is_root.true in
    let so = so_passed is_root _ _ (so_other (is_text_of is_literal) _ _ (so_begins old read_operand c.requires.lies) off) c.pass-then-is_root.ensures (root_some (lexeme old.text.now old.next) fits) fits in
    let root = root_from old.next.kind in
    so_last (read_attribute root (λ root s. s)) (attribute root)
    (so_as (λ i. bind (read_attribute root (λ root s. s) i) (λ s. took (attribute root s))) (λ i. rw (root_of_lem old.text.now old.next) (attribute_is root attribute i)) so)
    c.read_attribute.ensures (λ s. refl) (omega arith)

pub returns : goal.returns
unfolding read_operand no_text
returns c =
    let old = c.args.reader.now in
    so_refused no_text (so_other is_root _ _ (so_other (is_text_of is_literal) _ _ (so_begins old read_operand c.requires.lies) (sym c.is_text_literal.ensures ∙ c.if-is_text_literal.false))
    (sym c.is_root.ensures ∙ c.if-is_root.false)) c.no_text.ensures
