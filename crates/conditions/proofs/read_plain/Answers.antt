-- `conditions::read_plain` meets its contract: a root, a literal, or neither. Assumes nothing.
use mathlib.Core.Path.{◌≡◌, ◌∙◌, sym, refl}
use Prim.Native.Nat.{ℕ, ◌+◌, ◌-◌}
use native.Mathlib.Omega.{arith}
use Rattle.tokens.specs.Tokens.{token_at}
use Rattle.reading.specs.Lexemes.{lexeme}
use Rattle.grammar.specs.Rules.{is_literal, literal_of}
use Rattle.grammar.specs.Parser.{no_level, no_text, read_condition, read_operator, read_rooted}
use Rattle.grammar.specs.Policies.{literal}
use Rattle.grammar.proofs.Completeness.{no_sort_of, of_sort, root_no_literal}
use Rattle.table.specs.Entries.{operand_entry}
use Rattle.parts.specs.Names.{root_from}
use Rattle.parts.proofs.Sorts.{literal_some, root_some}
use Rattle.parts.proofs.SoFar.{so_begins, so_at, so_refused}
use Rattle.reading.specs.Reader.{refuse_by}
use Rattle.leaves.proofs.Handed.{handed, ready_on, next_later}
use Rattle.conditions.proofs.Forms.{literal_first, root_first, none_first}
use Rattle.conditions.proofs.read_plain.Goals as goal

pub read_rooted-requires : goal.read_rooted-requires
read_rooted-requires c =
    let r = c.args.reader.now in
    let f : c.pass.new.self.free ≡ r.free = rw c.pass.ensures refl in
    ready_on c.pass.ensures c.requires (root_some (lexeme r.text.now r.next) (sym c.is_root.ensures ∙ c.if-is_root.true)) (omega (arith, f, c.requires.lies.low))

pub returns-then-is_root : goal.returns-then-is_root
returns-then-is_root c =
    let r = c.args.reader.now in
    let s = r.text.now in
    let yes = sym c.is_root.ensures ∙ c.if-is_root.true in
    handed (read_rooted (root_from r.next.kind)) c.pass.ensures (root_first s r.next (token_at s r.next.end) refl c.requires.lies.high (no_sort_of is_literal (lexeme s r.next) (root_no_literal (lexeme s r.next) yes)) yes)
    (omega (arith, next_later c.pass.ensures c.requires.lies (root_some (lexeme s r.next) yes))) c.read_rooted.ensures

pub read_operator-requires : goal.read_operator-requires
read_operator-requires c =
    let r = c.args.reader.now in
    let x = lexeme r.text.now r.next in
    let f : c.pass-then-is_text_literal.new.self.free ≡ r.free = rw c.pass-then-is_text_literal.ensures refl in
    ready_on c.pass-then-is_text_literal.ensures c.requires (literal_some x (of_sort is_literal x (sym c.is_text_literal.ensures ∙ c.if-is_text_literal.true))) (omega (arith, f, c.requires.lies.low))

pub returns-then-is_text_literal : goal.returns-then-is_text_literal
unfolding operand_entry literal_of
returns-then-is_text_literal c =
    let r = c.args.reader.now in
    let s = r.text.now in
    let x = lexeme s r.next in
    let yes = sym c.is_text_literal.ensures ∙ c.if-is_text_literal.true in
    handed (read_operator (literal (literal_of x))) c.pass-then-is_text_literal.ensures (literal_first s r.next (token_at s r.next.end) refl c.requires.lies.high yes)
    (omega (arith, next_later c.pass-then-is_text_literal.ensures c.requires.lies (literal_some x (of_sort is_literal x yes)))) (c.read_operator.ensures (literal (literal_of x)) (sym c.literal_entry.ensures))

pub returns : goal.returns
unfolding no_level no_text
returns c =
    let r = c.args.reader.now in
    let s = r.text.now in
    so_refused no_level (so_at (refuse_by no_level) (so_begins r (read_condition 0) c.requires.lies) (none_first s r.next (token_at s r.next.end) refl c.requires.lies.high (sym c.is_text_literal.ensures ∙ c.if-is_text_literal.false) (sym c.is_root.ensures ∙ c.if-is_root.false))) c.no_level.ensures
