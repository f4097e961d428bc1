-- `heads::read_principal` meets its contract: what follows `is`, or nothing. Assumes nothing.
use mathlib.Core.Path.{◌≡◌}
use mathlib.Core.List.{[]}
use Prim.Native.Nat.{◌+◌, ◌-◌}
use native.Mathlib.Omega.{arith}
use borrow.Author.Rules.{rules}
use borrow.Author.Tests.{eq-eqb, ne_eqb}
use Rattle.tokens.specs.Kinds as kinds
use Rattle.reading.specs.Lexemes.{is}
use Rattle.grammar.specs.Parser.{read_principal, read_type}
use Rattle.grammar.specs.Policies.{any}
use Rattle.table.specs.Entries.{part_entry, raised, principal_entry}
use Rattle.table.proofs.Versions.{step_small}
use Rattle.grammar.specs.Rules.{principal_types}
use Rattle.parts.specs.Names.{types_of}
use Rattle.parts.proofs.SoFar.{so_begins, so_passed, so_other, so_from, so_put, so_ready, so_same, so_done_put}
use Rattle.heads.proofs.read_principal.Goals as goal

pub pass-requires : goal.pass-requires
pass-requires c = c.requires.lies.high

pub read_type-requires : goal.read_type-requires
unfolding read_principal
read_type-requires c =
    let old = c.args.reader.now in
    let t = old.next in
    let some : t.kind ≡ 0 → ⊥ = λ (z : t.kind ≡ 0). (let k = c.if-reader.true in omega arith) in
    let so = so_passed (is kinds.is_word) _ _ (so_begins old read_principal c.requires.lies) c.pass.ensures some (eq-eqb _ _ c.if-reader.true) in
    (so_ready so c.requires.small (let l = c.requires.lies.low in omega arith), rw c.step_of-step.ensures (step_small c.args.version))

pub returns-then-reader : goal.returns-then-reader
unfolding read_principal types_of principal_entry
returns-then-reader c =
    let old = c.args.reader.now in
    let t = old.next in
    let some : t.kind ≡ 0 → ⊥ = λ (z : t.kind ≡ 0). (let k = c.if-reader.true in omega arith) in
    let so = so_passed (is kinds.is_word) _ _ (so_begins old read_principal c.requires.lies) c.pass.ensures some (eq-eqb _ _ c.if-reader.true) in
    so_same (read_type principal_types) so c.read_type.ensures (λ p. rw c.step_of-step.ensures) (omega arith)

pub overflow_add-step : goal.overflow_add-step
overflow_add-step c = omega (arith, c.step_of-step.ensures, step_small c.args.version)

pub put-requires : goal.put-requires
put-requires c = let l = c.requires.lies in omega (arith, l.low, l.order, l.high, c.requires.small)

pub returns : goal.returns
unfolding read_principal principal_entry raised part_entry
returns c =
    let old = c.args.reader.now in
    let l = c.requires.lies.low in
    let so = so_other (is kinds.is_word) _ _ (so_begins old read_principal c.requires.lies) (ne_eqb _ _ c.if-reader.false) in
    so_done_put [] _ any (so_put (so_from (old.next.start - 1 + 1) (omega arith) so) c.put.ensures) (rw c.step_of-step.ensures) (omega arith)
