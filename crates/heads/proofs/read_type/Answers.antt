-- `heads::read_type` meets its contract: no name, no type, or its entry. Assumes nothing.
use mathlib.Core.Path.{◌≡◌, ◌∙◌, sym}
use mathlib.Core.List.{[]}
use native.Mathlib.Omega.{arith}
use borrow.Author.Rules.{rules}
use Rattle.reading.specs.Lexemes.{lexeme}
use Rattle.grammar.specs.Parser.{no_type, read_type}
use Rattle.grammar.specs.Policies.{typed}
use Rattle.grammar.specs.Rules.{is_type, type_of}
use Rattle.table.specs.Entries.{part_entry, raised}
use Rattle.parts.specs.Names.{types_of}
use Rattle.parts.proofs.SoFar.{so_begins, so_passed, so_other, so_put, so_small, so_done_put, so_refused}
use Rattle.heads.proofs.Types.{no_type_name, is_type_lem, no_type_lem, ten_for_type, nine_for_type}
use Rattle.heads.proofs.read_type.Goals as goal

pub returns-then-t-ne-NAME : goal.returns-then-t-ne-NAME
unfolding read_type
returns-then-t-ne-NAME c =
    let old = c.args.reader.now in
    let types = types_of c.args.resource in
    so_refused no_type (so_other (is_type types) _ _ (so_begins old (read_type types) c.requires.0.lies) (no_type_name types old.text.now old.next c.if-t-ne-NAME.true))
    (sym (ten_for_type old.text.now old.next c.if-t-ne-NAME.true))

pub slice_bounds-type_number-count : goal.slice_bounds-type_number-count
slice_bounds-type_number-count c = c.requires.0.lies.order

pub slice_bounds-type_number-start : goal.slice_bounds-type_number-start
slice_bounds-type_number-start c = c.requires.0.lies.order

pub slice_bounds-type_number-end : goal.slice_bounds-type_number-end
slice_bounds-type_number-end c = c.requires.0.lies.high

pub returns-then-sort-eq0 : goal.returns-then-sort-eq0
unfolding read_type
returns-then-sort-eq0 c =
    let old = c.args.reader.now in
    let types = types_of c.args.resource in
    so_refused no_type (so_other (is_type types) _ _ (so_begins old (read_type types) c.requires.0.lies)
    (no_type_lem types old.text.now old.next c.if-t-ne-NAME.false (sym c.type_number-sort.ensures ∙ c.if-sort-eq0.true))) (sym (nine_for_type old.text.now old.next c.if-t-ne-NAME.false))

pub pass-requires : goal.pass-requires
pass-requires c = c.requires.0.lies.high

pub overflow_add-step : goal.overflow_add-step
overflow_add-step c = omega (arith, c.requires.1)

pub put-requires : goal.put-requires
put-requires c = let l = c.requires.0.lies in rw c.pass.ensures (omega (arith, l.low, l.order, l.high, c.requires.0.small))

pub returns : goal.returns
unfolding read_type raised part_entry
returns c =
    let old = c.args.reader.now in
    let t = old.next in
    let types = types_of c.args.resource in
    let some : t.kind ≡ 0 → ⊥ = λ (z : t.kind ≡ 0). (let k = c.if-t-ne-NAME.false in omega arith) in
    let fits = is_type_lem types old.text.now t c.if-t-ne-NAME.false (λ z. c.if-sort-eq0.false (c.type_number-sort.ensures ∙ z)) in
    so_done_put [] _ (typed (type_of types (lexeme old.text.now t))) (so_put (so_passed (is_type types) _ _ (so_begins old (read_type types) c.requires.0.lies) c.pass.ensures some fits) c.put.ensures)
    (rw c.type_number-sort.ensures) (omega arith)
