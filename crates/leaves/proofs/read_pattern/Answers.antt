-- `leaves::read_pattern` meets its contract: no string, none of UTF-8, no pattern, or the two entries. Assumes nothing.
use mathlib.Core.Path.{◌≡◌, ◌∙◌, sym, ap, refl}
use mathlib.Core.List.{[], ◌∷◌, ◌++◌}
use Prim.Native.Nat.{ℕ, ◌+◌, ◌-◌}
use native.Mathlib.Omega.{arith}
use borrow.Author.Tests.{eq-eqb, ne_eqb}
use Rattle.reading.specs.Lexemes.{Lexeme, lexeme}
use Rattle.reading.specs.Reader.{took, refuse_by}
use Rattle.grammar.specs.Parser.{no_pattern, is_like, read_pattern}
use Rattle.grammar.specs.Policies.{like}
use Rattle.grammar.specs.Rules.{span_of}
use Rattle.table.specs.Entries.{placed, tree_entries}
use Rattle.parts.proofs.Standing.{number_small, lowered}
use Rattle.parts.proofs.Texts.{inside_utf8}
use Rattle.parts.proofs.SoFar.{so_begins, so_from, so_put, so_passed, so_other, so_refused, so_done_put}
use Rattle.leaves.proofs.Simple.{no_string, no_text, string_like, ten_for, seventeen_for, thirteen_for}
use Rattle.leaves.proofs.read_pattern.Goals as goal

pub returns-then-t-ne-STRING : goal.returns-then-t-ne-STRING
unfolding read_pattern
returns-then-t-ne-STRING c =
    λ a e.
    let r = c.args.reader.now in
    let s = r.text.now in
    so_refused no_pattern (so_other is_like (λ x. took (like a (span_of x))) (refuse_by no_pattern) (so_begins r (read_pattern a) c.requires.lies) (no_string s r.next c.if-t-ne-STRING.true)) (sym (ten_for s r.next c.if-t-ne-STRING.true))

pub returns-then-not-is_text : goal.returns-then-not-is_text
unfolding read_pattern
returns-then-not-is_text c =
    λ a e.
    let r = c.args.reader.now in
    let s = r.text.now in
    let no = sym c.is_text.ensures ∙ c.if-not-is_text.true in
    so_refused no_pattern (so_other is_like (λ x. took (like a (span_of x))) (refuse_by no_pattern) (so_begins r (read_pattern a) c.requires.lies) (no_text s r.next no)) (sym (seventeen_for s r.next c.if-t-ne-STRING.false no))

pub is_pattern-requires : goal.is_pattern-requires
is_pattern-requires c =
    let r = c.args.reader.now in
    (lowered (omega arith) c.requires.lies, inside_utf8 r.text.now r.next c.if-t-ne-STRING.false ∙ (sym c.is_text.ensures ∙ c.if-not-is_text.false))

pub returns-then-not-is_pattern : goal.returns-then-not-is_pattern
unfolding read_pattern
returns-then-not-is_pattern c =
    λ a e.
    let r = c.args.reader.now in
    let s = r.text.now in
    let fine = sym c.is_text.ensures ∙ c.if-not-is_text.false in
    so_refused no_pattern (so_other is_like (λ x. took (like a (span_of x))) (refuse_by no_pattern) (so_begins r (read_pattern a) c.requires.lies) (string_like s r.next c.if-t-ne-STRING.false fine ∙ sym c.is_pattern.ensures ∙ c.if-not-is_pattern.true))
    (sym (thirteen_for s r.next c.if-t-ne-STRING.false fine))

pub returns : goal.returns
unfolding read_pattern tree_entries
returns c =
    λ a e.
    let r = c.args.reader.now in
    let s = r.text.now in
    let x = lexeme s r.next in
    let fine = sym c.is_text.ensures ∙ c.if-not-is_text.false in
    let some : r.next.kind ≡ 0 → ⊥ = λ (z : r.next.kind ≡ 0). (let k = c.if-t-ne-STRING.false in omega arith) in
    let so = so_passed is_like (λ x. took (like a (span_of x))) (refuse_by no_pattern) (so_begins r (read_pattern a) c.requires.lies) c.pass.ensures some (string_like s r.next c.if-t-ne-STRING.false fine ∙ sym c.is_pattern.ensures ∙ c.if-not-is_pattern.false) in
    so_done_put (c.args.left ∷ []) (placed 19 (span_of x)) (like a (span_of x)) (so_put (so_from (r.next.start - 1 + 1) (omega (arith, c.requires.lies.low)) (so_put so c.put_entry.ensures)) c.put.ensures) (rw e refl) (omega arith)
