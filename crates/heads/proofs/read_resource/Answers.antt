-- `heads::read_resource` meets its contract: what follows `is` or `==`, or nothing. Assumes nothing.
use mathlib.Core.Path.{◌≡◌, refl, sym, ◌∙◌, ap}
use mathlib.Core.List.{List, [], ◌∷◌}
use Prim.Native.Nat.{ℕ, ◌+◌, ◌-◌}
use native.Mathlib.Omega.{arith}
use borrow.Author.Rules.{rules}
use borrow.Author.Tests.{eq-eqb, ne_eqb}
use Rattle.tokens.specs.Kinds as kinds
use Rattle.tokens.specs.declared.reader.Token.{Token}
use Rattle.reading.specs.Lexemes.{lexeme, is}
use Rattle.grammar.specs.Parser.{no_text, is_text_of, read_resource, read_type}
use Rattle.grammar.proofs.Completeness.{text_of, no_text_of, no_sort_of}
use Rattle.grammar.specs.Policies.{any, pinned}
use Rattle.grammar.specs.Rules.{span_of, resource_types}
use Rattle.table.specs.declared.Entry.{Entry}
use Rattle.table.specs.Entries.{part_entry}
use Rattle.table.proofs.Versions.{raised_none}
use Rattle.parts.specs.Names.{types_of}
use Rattle.parts.proofs.SoFar.{so_begins, so_passed, so_other, so_from, so_put, so_ready, so_lies, so_high, so_small, so_same, so_refused, so_done_put}
use Rattle.heads.proofs.read_resource.Goals as goal

-- the number of a token where a string may stand
other-number : (s : List ℕ) (t : Token) → (t.kind ≡ kinds.string → ⊥) → no_text (lexeme s t) ≡ 10
unfolding no_text
other-number s t n = rw (ne_eqb _ _ n)

string-number : (s : List ℕ) (t : Token) → t.kind ≡ kinds.string → no_text (lexeme s t) ≡ 17
unfolding no_text
string-number s t e = rw (eq-eqb _ _ e)

pub read_type-requires : goal.read_type-requires
unfolding read_resource
read_type-requires c =
    let old = c.args.reader.now in
    let some : old.next.kind ≡ 0 → ⊥ = λ (z : old.next.kind ≡ 0). (let k = c.in-208.is in omega arith) in
    let one = so_passed (is kinds.is_word) _ _ (so_begins old read_resource c.requires.lies) c.pass.ensures some (eq-eqb _ _ c.in-208.is) in
    (so_ready one c.requires.small (let l = c.requires.lies.low in omega arith), omega arith)

pub returns-in-208 : goal.returns-in-208
unfolding read_resource types_of
returns-in-208 c =
    let old = c.args.reader.now in
    let some : old.next.kind ≡ 0 → ⊥ = λ (z : old.next.kind ≡ 0). (let k = c.in-208.is in omega arith) in
    let one = so_passed (is kinds.is_word) _ _ (so_begins old read_resource c.requires.lies) c.pass.ensures some (eq-eqb _ _ c.in-208.is) in
    so_same (read_type resource_types) one c.read_type.ensures (λ p. sym (ap (λ (x : Entry). x ∷ []) (raised_none (part_entry p)))) (omega arith)

pub returns-then-s-ne-STRING : goal.returns-then-s-ne-STRING
unfolding read_resource
returns-then-s-ne-STRING c =
    let old = c.args.reader.now in
    let some : old.next.kind ≡ 0 → ⊥ = λ (z : old.next.kind ≡ 0). (let k = c.in-61.is in omega arith) in
    let one = so_passed (is kinds.equal) _ _ (so_other (is kinds.is_word) _ _ (so_begins old read_resource c.requires.lies) (rw c.in-61.is)) c.pass-in-61.ensures some (eq-eqb _ _ c.in-61.is) in
    let now = c.pass-in-61.new.self in
    so_refused no_text (so_other (is_text_of (is kinds.string)) _ _ one (no_sort_of (is kinds.string) (lexeme now.text.now now.next) (ne_eqb _ _ c.if-s-ne-STRING.true)))
    (sym (other-number now.text.now now.next c.if-s-ne-STRING.true))

pub is_text-requires : goal.is_text-requires
unfolding read_resource
is_text-requires c =
    let old = c.args.reader.now in
    let some : old.next.kind ≡ 0 → ⊥ = λ (z : old.next.kind ≡ 0). (let k = c.in-61.is in omega arith) in
    let one = so_passed (is kinds.equal) _ _ (so_other (is kinds.is_word) _ _ (so_begins old read_resource c.requires.lies) (rw c.in-61.is)) c.pass-in-61.ensures some (eq-eqb _ _ c.in-61.is) in
    let now = c.pass-in-61.new.self in
    so_lies one (omega arith)

pub returns-then-not-is_text : goal.returns-then-not-is_text
unfolding read_resource
returns-then-not-is_text c =
    let old = c.args.reader.now in
    let some : old.next.kind ≡ 0 → ⊥ = λ (z : old.next.kind ≡ 0). (let k = c.in-61.is in omega arith) in
    let one = so_passed (is kinds.equal) _ _ (so_other (is kinds.is_word) _ _ (so_begins old read_resource c.requires.lies) (rw c.in-61.is)) c.pass-in-61.ensures some (eq-eqb _ _ c.in-61.is) in
    let now = c.pass-in-61.new.self in
    so_refused no_text (so_other (is_text_of (is kinds.string)) _ _ one (no_text_of (is kinds.string) (lexeme now.text.now now.next) (sym c.is_text.ensures ∙ c.if-not-is_text.true)))
    (sym (string-number now.text.now now.next c.if-s-ne-STRING.false))

pub pass-requires-in-61-2 : goal.pass-requires-in-61-2
unfolding read_resource
pass-requires-in-61-2 c =
    let old = c.args.reader.now in
    let some : old.next.kind ≡ 0 → ⊥ = λ (z : old.next.kind ≡ 0). (let k = c.in-61.is in omega arith) in
    let one = so_passed (is kinds.equal) _ _ (so_other (is kinds.is_word) _ _ (so_begins old read_resource c.requires.lies) (rw c.in-61.is)) c.pass-in-61.ensures some (eq-eqb _ _ c.in-61.is) in
    let now = c.pass-in-61.new.self in
    so_high one

pub returns-else-not-is_text : goal.returns-else-not-is_text
unfolding read_resource part_entry
returns-else-not-is_text c =
    let old = c.args.reader.now in
    let some : old.next.kind ≡ 0 → ⊥ = λ (z : old.next.kind ≡ 0). (let k = c.in-61.is in omega arith) in
    let one = so_passed (is kinds.equal) _ _ (so_other (is kinds.is_word) _ _ (so_begins old read_resource c.requires.lies) (rw c.in-61.is)) c.pass-in-61.ensures some (eq-eqb _ _ c.in-61.is) in
    let now = c.pass-in-61.new.self in
    let some' : now.next.kind ≡ 0 → ⊥ = λ (z : now.next.kind ≡ 0). (let k = c.if-s-ne-STRING.false in omega arith) in
    let two = so_passed (is_text_of (is kinds.string)) _ _ one c.pass-in-61-2.ensures some' (text_of (is kinds.string) (lexeme now.text.now now.next) (eq-eqb _ _ c.if-s-ne-STRING.false) (sym c.is_text.ensures ∙ c.if-not-is_text.false)) in
    so_done_put [] _ (pinned (span_of (lexeme old.text.now now.next))) (so_put two c.put.ensures) refl (omega arith)

pub returns-in_default : goal.returns-in_default
unfolding read_resource part_entry
returns-in_default c =
    let old = c.args.reader.now in
    let l = c.requires.lies.low in
    let so = so_other (is kinds.equal) _ _ (so_other (is kinds.is_word) _ _ (so_begins old read_resource c.requires.lies) (ne_eqb _ _ (λ e. omega arith))) (ne_eqb _ _ (λ e. omega arith)) in
    so_done_put [] _ any (so_put (so_from (old.next.start - 1 + 1) (omega arith) so) c.put-in_default.ensures) refl (omega arith)
