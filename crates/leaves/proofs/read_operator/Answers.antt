-- `leaves::read_operator` meets its contract: by the token that stands next. Assumes nothing.
use mathlib.Core.Path.{◌≡◌, ◌∙◌, sym, ap, refl}
use mathlib.Core.List.{[], ◌∷◌, ◌++◌}
use Prim.Native.Nat.{ℕ, ◌+◌, ◌-◌}
use native.Mathlib.Omega.{arith}
use borrow.Author.Tests.{eq-eqb, ne_eqb}
use Rattle.std.specs.Prelude.{Some, None}
use Rattle.tokens.specs.Kinds as kinds
use Rattle.tokens.specs.Tokens.{token_at}
use Rattle.reading.proofs.Stream.{next_on, next_off}
use Rattle.reading.specs.Lexemes.{lexeme}
use Rattle.reading.specs.Reader.{mapped}
use Rattle.grammar.specs.Parser.{read_operand, read_pattern, read_in, read_bare, read_operator}
use Rattle.grammar.specs.Policies.{compare}
use Rattle.grammar.specs.Rules.{is_comparator, comparator_of}
use Rattle.parts.specs.Names.{comparing}
use Rattle.parts.proofs.Sorts.{comparator_some}
use Rattle.parts.proofs.Standing.{kind_on, kind_off}
use Rattle.leaves.proofs.Handed.{handed, handed_on, ready_on, next_later}
use Rattle.leaves.proofs.Simple.{compares, no_compare, compare_is}
use Rattle.leaves.proofs.read_operator.Goals as goal

pub read_compared-requires : goal.read_compared-requires
read_compared-requires c =
    let r = c.args.reader.now in
    let x = lexeme r.text.now r.next in
    let f : c.pass.new.self.free ≡ r.free = rw c.pass.ensures in
    ready_on c.pass.ensures c.requires (comparator_some x (compares x (sym c.comparator_kind.ensures ∙ c.in-Some.is))) (omega (arith, f, c.requires.lies.low))

pub returns-in-Some : goal.returns-in-Some
unfolding read_operator
returns-in-Some c =
    λ a e.
    let r = c.args.reader.now in
    let x = lexeme r.text.now r.next in
    let k = sym c.comparator_kind.ensures ∙ c.in-Some.is in
    let some = comparator_some x (compares x k) in
    handed (mapped (compare (comparator_of x) a) read_operand) c.pass.ensures
    (next_on r.text.now r.next is_comparator _ _ (token_at r.text.now r.next.end) some c.requires.lies.high refl (compares x k))
    (omega (arith, next_later c.pass.ensures c.requires.lies some))
    (c.read_compared.ensures a e (comparator_of x) (compare_is x k))

pub read_pattern-requires : goal.read_pattern-requires
read_pattern-requires c =
    let r = c.args.reader.now in
    let f : c.pass-in-211.new.self.free ≡ r.free = rw c.pass-in-211.ensures in
    ready_on c.pass-in-211.ensures c.requires (λ (z : r.next.kind ≡ 0). let k = c.in-211.is in omega arith) (omega (arith, f, c.requires.lies.low))

pub read_in-requires : goal.read_in-requires
read_in-requires c =
    let r = c.args.reader.now in
    let f : c.pass-in-209.new.self.free ≡ r.free = rw c.pass-in-209.ensures in
    ready_on c.pass-in-209.ensures c.requires (λ (z : r.next.kind ≡ 0). let k = c.in-209.is in omega arith) (omega (arith, f, c.requires.lies.low))

pub returns-in-211 : goal.returns-in-211
unfolding read_operator
returns-in-211 c =
    λ a e.
    let r = c.args.reader.now in
    let s = r.text.now in
    let some : r.next.kind ≡ 0 → ⊥ = λ (z : r.next.kind ≡ 0). (let k = c.in-211.is in omega arith) in
    handed (read_pattern a) c.pass-in-211.ensures
    (next_off s r.next is_comparator _ _ (no_compare (lexeme s r.next) (sym c.comparator_kind.ensures ∙ c.in_default.is)) ∙ kind_on s r.next kinds.like_word _ _ (token_at s r.next.end) (omega arith) c.in-211.is c.requires.lies.high refl)
    (omega (arith, next_later c.pass-in-211.ensures c.requires.lies some))
    (c.read_pattern.ensures a e)

pub returns-in-209 : goal.returns-in-209
unfolding read_operator
returns-in-209 c =
    λ a e.
    let r = c.args.reader.now in
    let s = r.text.now in
    let some : r.next.kind ≡ 0 → ⊥ = λ (z : r.next.kind ≡ 0). (let k = c.in-209.is in omega arith) in
    handed (read_in a) c.pass-in-209.ensures
    (next_off s r.next is_comparator _ _ (no_compare (lexeme s r.next) (sym c.comparator_kind.ensures ∙ c.in_default.is))
    ∙ kind_off s r.next kinds.like_word _ _ (λ (z : r.next.kind ≡ 211). let k = c.in-209.is in omega arith) ∙ kind_on s r.next kinds.in_word _ _ (token_at s r.next.end) (omega arith) c.in-209.is c.requires.lies.high refl)
    (omega (arith, next_later c.pass-in-209.ensures c.requires.lies some))
    (c.read_in.ensures a e)

pub returns-in_default-kind : goal.returns-in_default-kind
unfolding read_operator
returns-in_default-kind c =
    λ a e.
    let r = c.args.reader.now in
    let s = r.text.now in
    handed_on
    (next_off s r.next is_comparator _ _ (no_compare (lexeme s r.next) (sym c.comparator_kind.ensures ∙ c.in_default.is))
    ∙ kind_off s r.next kinds.like_word _ _ (λ (z : r.next.kind ≡ 211). omega arith) ∙ kind_off s r.next kinds.in_word _ _ (λ (z : r.next.kind ≡ 209). omega arith))
    (omega arith)
    (c.read_bare.ensures a e)
