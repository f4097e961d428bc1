-- `leaves::read_rooted` meets its contract: `has`, a dot, or neither. Assumes nothing.
use mathlib.Core.Path.{◌≡◌, ◌∙◌, sym, ap, refl}
use mathlib.Core.List.{[], ◌∷◌, ◌++◌}
use Prim.Native.Nat.{ℕ, ◌+◌, ◌-◌}
use native.Mathlib.Omega.{arith}
use borrow.Author.Tests.{eq-eqb, ne_eqb}
use Rattle.std.specs.Prelude.{Some, None}
use Rattle.std.proofs.lemmas.Result.{err_from_is_err_and}
use Rattle.tokens.specs.Kinds as kinds
use Rattle.reading.specs.Lexemes.{Lexeme, is}
use Rattle.reading.specs.Reader.{Reader, took, refuse_by, ten, bind, need, mapped}
use Rattle.grammar.specs.Parser.{Way, read_way, read_path, read_rest, read_call, read_operator, read_rooted}
use Rattle.grammar.specs.Policies.{Tree, Root, has, attribute, span}
use Rattle.grammar.specs.Rules.{is_contains}
use Rattle.table.specs.Entries.{operand_entry, tree_entries}
use Rattle.parts.specs.declared.answers.Reader.{Reader as Text-reader}
use Rattle.parts.specs.Names.{root_from, exit_of}
use Rattle.parts.proofs.Standing.{lowered}
use Rattle.parts.proofs.Ways.{so_way, so_way_lost}
use Rattle.parts.proofs.SoFar.{so_begins, so_as, so_from, so_passed, so_other, so_refused, so_mapped, so_last, so_same, so_ready, as_stood, as_stopped}
use Rattle.leaves.proofs.Handed.{ready_on, ready_way}
use Rattle.leaves.proofs.Simple.{rest_plain, rest_call}
use Rattle.leaves.proofs.read_rooted.Goals as goal

-- after a dot, and where there is none
abbrev dotted : Root → Reader Tree
dotted root i = bind (read_way is_contains root i) (read_rest root)

abbrev had : Root → Reader Tree
had root = need kinds.has_word (mapped (has root) (read_path root))

pub read_placed-requires : goal.read_placed-requires
read_placed-requires c =
    let r = c.args.reader.now in
    let f : c.pass.new.self.free ≡ r.free = rw c.pass.ensures in
    ready_on c.pass.ensures c.requires (λ (z : r.next.kind ≡ 0). let k = c.if-reader.true in omega arith) (omega (arith, f, c.requires.lies.low))

pub returns-then-reader : goal.returns-then-reader
unfolding read_rooted need tree_entries
returns-then-reader c =
    let r = c.args.reader.now in
    let root = root_from c.args.root in
    let some : r.next.kind ≡ 0 → ⊥ = λ (z : r.next.kind ≡ 0). (let k = c.if-reader.true in omega arith) in
    let so = so_other (is kinds.dot) (λ _. dotted root) (had root) (so_begins r (read_rooted root) c.requires.lies) (ne_eqb _ _ (λ (z : r.next.kind ≡ 46). let k = c.if-reader.true in omega arith)) in
    let so₂ = so_passed (is kinds.has_word) (λ _. mapped (has root) (read_path root)) (refuse_by ten) so c.pass.ensures some (eq-eqb _ _ c.if-reader.true) in
    so_last (read_path root) (has root) (so_mapped (has root) (read_path root) so₂) c.read_placed.ensures (λ v. rw c.has_kind.ensures refl) (omega arith)

pub expect-requires : goal.expect-requires
expect-requires c = lowered (omega arith) c.requires.lies

pub returns-in_err-expect : goal.returns-in_err-expect
unfolding read_rooted need
returns-in_err-expect c =
    let r = c.args.reader.now in
    let root = root_from c.args.root in
    let p = err_from_is_err_and c.from_residual.result c.from_residual.ensures.1 in
    let s = as_stopped c.in_err-expect.was c.expect.ensures in
    let so = so_other (is kinds.dot) (λ _. dotted root) (had root) (so_begins r (read_rooted root) c.requires.lies) (ne_eqb _ _ s.differs) in
    rw (p.1, p.2, s.number, s.stays) (so_refused ten (so_other (is kinds.has_word) (λ _. mapped (has root) (read_path root)) (refuse_by ten) so (ne_eqb _ _ c.if-reader.false)) refl)

pub read_way-requires : goal.read_way-requires
read_way-requires c =
    let r = c.args.reader.now in
    let s = as_stood c.in_ok-expect.was c.expect.ensures in
    ready_on s.1 c.requires (λ (z : r.next.kind ≡ 0). omega (arith, s.0)) (omega arith)

pub returns-in_err-path : goal.returns-in_err-path
unfolding read_rooted exit_of
returns-in_err-path c =
    let r = c.args.reader.now in
    let root = root_from c.args.root in
    let p = err_from_is_err_and c.from_residual-in_err-path.result c.from_residual-in_err-path.ensures.1 in
    let s = as_stood c.in_ok-expect.was c.expect.ensures in
    let so = so_passed (is kinds.dot) (λ _. dotted root) (had root) (so_begins r (read_rooted root) c.requires.lies) s.1 (λ (z : r.next.kind ≡ 0). omega (arith, s.0)) (eq-eqb _ _ s.0) in
    rw (p.1, p.2) (so_way_lost (read_way is_contains root) (read_rest root) so c.read_way.ensures c.in_err-path.was)

pub read_call-requires : goal.read_call-requires
read_call-requires c =
    let r = c.args.reader.now in
    let s = as_stood c.in_ok-expect.was c.expect.ensures in
    let f : c.read_way.new.reader.free ≡ r.free = ap (λ (x : Text-reader). x.free) c.read_way.ensures.stays ∙ rw s.1 refl in
    let a = ready_on {low = r.free + 2} s.1 c.requires (λ (z : r.next.kind ≡ 0). omega (arith, s.0)) (omega (arith, c.requires.lies.low)) in
    ready_way c.read_way.ensures c.in_ok-path.was a.small (omega (arith, f, a.lies.low))

pub read_operator-requires : goal.read_operator-requires
read_operator-requires c =
    let r = c.args.reader.now in
    let s = as_stood c.in_ok-expect.was c.expect.ensures in
    let f : c.read_way.new.reader.free ≡ r.free = ap (λ (x : Text-reader). x.free) c.read_way.ensures.stays ∙ rw s.1 refl in
    let a = ready_on {low = r.free + 2} s.1 c.requires (λ (z : r.next.kind ≡ 0). omega (arith, s.0)) (omega (arith, c.requires.lies.low)) in
    ready_way c.read_way.ensures c.in_ok-path.was a.small (omega (arith, f, a.lies.low))

pub returns-in-Some : goal.returns-in-Some
unfolding read_rooted exit_of operand_entry
returns-in-Some c =
    let r = c.args.reader.now in
    let root = root_from c.args.root in
    let w = c.in_ok-path.path in
    let s = as_stood c.in_ok-expect.was c.expect.ensures in
    let f : c.read_way.new.reader.free ≡ r.free = ap (λ (x : Text-reader). x.free) c.read_way.ensures.stays ∙ rw s.1 refl in
    let so = so_passed (is kinds.dot) (λ _. dotted root) (had root) (so_begins r (read_rooted root) c.requires.lies) s.1 (λ (z : r.next.kind ≡ 0). omega (arith, s.0)) (eq-eqb _ _ s.0) in
    let k = so_way (read_way is_contains root) (read_rest root) so c.read_way.ensures c.in_ok-path.was in
    let x = rest_call root k.way k.span_is (k.call_is ∙ c.in-Some.is) in
    so_same (read_call x.which root (span w.start w.end)) (so_as (read_call x.which root (span w.start w.end)) (λ i. ap (λ (p : Reader Tree). p i) x.reads) k.so)
    (c.read_call.ensures x.which x.kind_is root (span w.start w.end) (rw c.root_kind.ensures refl)) (λ v. ap (λ (n : ℕ). tree_entries n v) (sym f)) (omega arith)

pub returns-in-None : goal.returns-in-None
unfolding read_rooted exit_of operand_entry
returns-in-None c =
    let r = c.args.reader.now in
    let root = root_from c.args.root in
    let w = c.in_ok-path.path in
    let s = as_stood c.in_ok-expect.was c.expect.ensures in
    let f : c.read_way.new.reader.free ≡ r.free = ap (λ (x : Text-reader). x.free) c.read_way.ensures.stays ∙ rw s.1 refl in
    let so = so_passed (is kinds.dot) (λ _. dotted root) (had root) (so_begins r (read_rooted root) c.requires.lies) s.1 (λ (z : r.next.kind ≡ 0). omega (arith, s.0)) (eq-eqb _ _ s.0) in
    let k = so_way (read_way is_contains root) (read_rest root) so c.read_way.ensures c.in_ok-path.was in
    let a = attribute root (span w.start w.end) in
    so_same (read_operator a) (so_as (read_operator a) (λ i. ap (λ (p : Reader Tree). p i) (rest_plain root k.way k.span_is (k.call_is ∙ c.in-None.is))) k.so)
    (c.read_operator.ensures a (rw c.root_kind.ensures refl)) (λ v. ap (λ (n : ℕ). tree_entries n v) (sym f)) (omega arith)
