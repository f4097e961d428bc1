-- `policies::read_when` meets its contract: by whether `when` and `{` stand next. Assumes nothing.
use mathlib.Core.Path.{◌≡◌, refl, ap}
use mathlib.Core.Option.{none, some}
use Prim.Native.Nat.{ℕ, ◌+◌}
use native.Mathlib.Omega.{arith}
use borrow.Author.Rules.{rules}
use borrow.Author.Tests.{eq-eqb, ne_eqb}
use Rattle.tokens.specs.Kinds as kinds
use Rattle.reading.specs.Lexemes.{is}
use Rattle.reading.specs.Reader.{took, bind, need, before, mapped}
use Rattle.grammar.specs.Parser.{read_conditions, read_when as when_spec}
use Rattle.table.specs.Entries.{tree_entries, condition_entries}
use Rattle.parts.proofs.SoFar.{gives_back, so_begins, so_passed, so_other, so_as, so_stood, so_stopped, so_read, so_lost, so_lies, so_ready, so_short, so_free, so_closed, so_done, so_mapped}
use Rattle.policies.proofs.Gates.{before_then}
use Rattle.policies.proofs.read_when.Goals as goal

pub returns-then-reader : goal.returns-then-reader
unfolding when_spec condition_entries
returns-then-reader c =
    let old = c.args.reader.now in
    let l = c.requires.0.lies.low in
    so_done none (so_other (is kinds.when_word) _ _ (so_begins old when_spec c.requires.0.lies) (ne_eqb _ _ c.if-reader.true)) refl (omega arith)

pub pass-requires : goal.pass-requires
pass-requires c = c.requires.0.lies.high

pub expect-requires : goal.expect-requires
unfolding when_spec
expect-requires c =
    let old = c.args.reader.now in
    let some_byte : old.next.kind ≡ 0 → ⊥ = λ (z : old.next.kind ≡ 0). (let k = c.if-reader.false in omega arith) in
    let one = so_passed (is kinds.when_word) _ _ (so_begins old when_spec c.requires.0.lies) c.pass.ensures some_byte (eq-eqb _ _ c.if-reader.false) in
    so_lies one (omega arith)

pub returns-in_err-expect : goal.returns-in_err-expect
unfolding when_spec
returns-in_err-expect c =
    let old = c.args.reader.now in
    let some_byte : old.next.kind ≡ 0 → ⊥ = λ (z : old.next.kind ≡ 0). (let k = c.if-reader.false in omega arith) in
    let one = so_passed (is kinds.when_word) _ _ (so_begins old when_spec c.requires.0.lies) c.pass.ensures some_byte (eq-eqb _ _ c.if-reader.false) in
    rw (gives_back c.from_residual.result c.from_residual.ensures.1) (so_stopped kinds.left_brace _ one c.expect.ensures c.in_err-expect.was)

pub read_disjunction-requires : goal.read_disjunction-requires
unfolding when_spec
read_disjunction-requires c =
    let old = c.args.reader.now in
    let some_byte : old.next.kind ≡ 0 → ⊥ = λ (z : old.next.kind ≡ 0). (let k = c.if-reader.false in omega arith) in
    let one = so_passed (is kinds.when_word) _ _ (so_begins old when_spec c.requires.0.lies) c.pass.ensures some_byte (eq-eqb _ _ c.if-reader.false) in
    let two = so_as (λ i. bind (read_conditions i) (λ v. need kinds.right_brace (took (some v)))) (before_then kinds.right_brace read_conditions some)
    (so_mapped some (before kinds.right_brace read_conditions) (so_stood kinds.left_brace (mapped some (before kinds.right_brace read_conditions)) (omega arith) one c.expect.ensures c.in_ok-expect.was)) in
    (so_ready two c.requires.0.small (let l = c.requires.0.lies.low in omega arith), so_short two c.requires.1)

pub returns-in_err-read_disjunction : goal.returns-in_err-read_disjunction
unfolding when_spec read_conditions
returns-in_err-read_disjunction c =
    let old = c.args.reader.now in
    let some_byte : old.next.kind ≡ 0 → ⊥ = λ (z : old.next.kind ≡ 0). (let k = c.if-reader.false in omega arith) in
    let one = so_passed (is kinds.when_word) _ _ (so_begins old when_spec c.requires.0.lies) c.pass.ensures some_byte (eq-eqb _ _ c.if-reader.false) in
    let two = so_as (λ i. bind (read_conditions i) (λ v. need kinds.right_brace (took (some v)))) (before_then kinds.right_brace read_conditions some)
    (so_mapped some (before kinds.right_brace read_conditions) (so_stood kinds.left_brace (mapped some (before kinds.right_brace read_conditions)) (omega arith) one c.expect.ensures c.in_ok-expect.was)) in
    rw (gives_back c.from_residual-in_err-read_disjunction.result c.from_residual-in_err-read_disjunction.ensures.1)
    (so_lost read_conditions (λ v. need kinds.right_brace (took (some v))) two c.read_disjunction.ensures c.in_err-read_disjunction.was)

pub expect-requires-2 : goal.expect-requires-2
unfolding when_spec read_conditions
expect-requires-2 c =
    let old = c.args.reader.now in
    let some_byte : old.next.kind ≡ 0 → ⊥ = λ (z : old.next.kind ≡ 0). (let k = c.if-reader.false in omega arith) in
    let one = so_passed (is kinds.when_word) _ _ (so_begins old when_spec c.requires.0.lies) c.pass.ensures some_byte (eq-eqb _ _ c.if-reader.false) in
    let two = so_as (λ i. bind (read_conditions i) (λ v. need kinds.right_brace (took (some v)))) (before_then kinds.right_brace read_conditions some)
    (so_mapped some (before kinds.right_brace read_conditions) (so_stood kinds.left_brace (mapped some (before kinds.right_brace read_conditions)) (omega arith) one c.expect.ensures c.in_ok-expect.was)) in
    let w = so_read read_conditions (λ v. need kinds.right_brace (took (some v))) two c.read_disjunction.ensures {base' = old.next.start + 1 + 1} c.in_ok-read_disjunction.was (omega arith) in
    so_lies w.so (omega arith)

pub returns : goal.returns
unfolding when_spec read_conditions condition_entries
returns c =
    let old = c.args.reader.now in
    let some_byte : old.next.kind ≡ 0 → ⊥ = λ (z : old.next.kind ≡ 0). (let k = c.if-reader.false in omega arith) in
    let one = so_passed (is kinds.when_word) _ _ (so_begins old when_spec c.requires.0.lies) c.pass.ensures some_byte (eq-eqb _ _ c.if-reader.false) in
    let two = so_as (λ i. bind (read_conditions i) (λ v. need kinds.right_brace (took (some v)))) (before_then kinds.right_brace read_conditions some)
    (so_mapped some (before kinds.right_brace read_conditions) (so_stood kinds.left_brace (mapped some (before kinds.right_brace read_conditions)) (omega arith) one c.expect.ensures c.in_ok-expect.was)) in
    let w = so_read read_conditions (λ v. need kinds.right_brace (took (some v))) two c.read_disjunction.ensures {base' = old.next.start + 1 + 1} c.in_ok-read_disjunction.was (omega arith) in
    so_closed kinds.right_brace (some w.value) (omega arith) w.so c.expect-2.ensures
    (let n = so_free two in ap (λ (e : ℕ). tree_entries e w.value) (omega arith)) (omega arith)
