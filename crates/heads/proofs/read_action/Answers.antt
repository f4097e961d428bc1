-- `heads::read_action` meets its contract: a list after `in`, or nothing. Assumes nothing.
use mathlib.Core.Path.{◌≡◌, refl, ◌∙◌, ap}
use mathlib.Core.Bool.{true}
use mathlib.Core.List.{[], ◌++◌}
use Prim.Native.Nat.{◌+◌, ◌-◌}
use native.Mathlib.Omega.{arith}
use borrow.Author.Rules.{rules}
use borrow.Author.Tests.{eq-eqb, ne_eqb}
use Rattle.tokens.specs.Kinds as kinds
use Rattle.reading.specs.Lexemes.{is}
use Rattle.reading.specs.Reader.{took, mapped}
use Rattle.grammar.specs.Parser.{read_action, read_list}
use Rattle.grammar.specs.Policies.{every, one_of}
use Rattle.table.specs.Entries.{literal_entries, action_entries}
use Rattle.parts.specs.Names.{sort_of}
use Rattle.parts.proofs.Literals.{list_count}
use Rattle.parts.proofs.SoFar.{gives_back, so_begins, so_passed, so_other, so_from, so_put, so_ready, so_lies, so_stood, so_stopped, so_mapped, so_read, so_lost, so_small, so_free, so_done_put}
use Rattle.heads.proofs.read_action.Goals as goal

pub returns-then-reader : goal.returns-then-reader
unfolding read_action action_entries
returns-then-reader c =
    let old = c.args.reader.now in
    let l = c.requires.lies.low in
    let so = so_other (is kinds.in_word) _ _ (so_begins old read_action c.requires.lies) (ne_eqb _ _ c.if-reader.true) in
    so_done_put [] _ every (so_put (so_from (old.next.start - 1 + 1) (omega arith) so) c.put.ensures) refl (omega arith)

pub expect-requires : goal.expect-requires
unfolding read_action
expect-requires c =
    let old = c.args.reader.now in
    let some : old.next.kind ≡ 0 → ⊥ = λ (z : old.next.kind ≡ 0). (let k = c.if-reader.false in omega arith) in
    let one = so_passed (is kinds.in_word) _ _ (so_begins old read_action c.requires.lies) c.pass.ensures some (eq-eqb _ _ c.if-reader.false) in
    so_lies one (omega arith)

pub returns-in_err-expect : goal.returns-in_err-expect
unfolding read_action
returns-in_err-expect c =
    let old = c.args.reader.now in
    let some : old.next.kind ≡ 0 → ⊥ = λ (z : old.next.kind ≡ 0). (let k = c.if-reader.false in omega arith) in
    let one = so_passed (is kinds.in_word) _ _ (so_begins old read_action c.requires.lies) c.pass.ensures some (eq-eqb _ _ c.if-reader.false) in
    rw (gives_back c.from_residual.result c.from_residual.ensures.1) (so_stopped 91 _ one c.expect.ensures c.in_err-expect.was)

pub read_list-requires : goal.read_list-requires
unfolding read_action sort_of
read_list-requires c =
    let old = c.args.reader.now in
    let some : old.next.kind ≡ 0 → ⊥ = λ (z : old.next.kind ≡ 0). (let k = c.if-reader.false in omega arith) in
    let one = so_passed (is kinds.in_word) _ _ (so_begins old read_action c.requires.lies) c.pass.ensures some (eq-eqb _ _ c.if-reader.false) in
    let two = so_mapped one_of (read_list (sort_of true)) (so_stood 91 _ (omega arith) one c.expect.ensures c.in_ok-expect.was) in
    so_ready two c.requires.small (let l = c.requires.lies.low in omega arith)

pub returns-in_err-read_list : goal.returns-in_err-read_list
unfolding read_action sort_of
returns-in_err-read_list c =
    let old = c.args.reader.now in
    let some : old.next.kind ≡ 0 → ⊥ = λ (z : old.next.kind ≡ 0). (let k = c.if-reader.false in omega arith) in
    let one = so_passed (is kinds.in_word) _ _ (so_begins old read_action c.requires.lies) c.pass.ensures some (eq-eqb _ _ c.if-reader.false) in
    let two = so_mapped one_of (read_list (sort_of true)) (so_stood 91 _ (omega arith) one c.expect.ensures c.in_ok-expect.was) in
    rw (gives_back c.from_residual-in_err-read_list.result c.from_residual-in_err-read_list.ensures.1)
    (so_lost (read_list (sort_of true)) (λ ls. took (one_of ls)) two c.read_list.ensures c.in_err-read_list.was)

pub put-requires-2 : goal.put-requires-2
unfolding read_action sort_of
put-requires-2 c =
    let old = c.args.reader.now in
    let some : old.next.kind ≡ 0 → ⊥ = λ (z : old.next.kind ≡ 0). (let k = c.if-reader.false in omega arith) in
    let one = so_passed (is kinds.in_word) _ _ (so_begins old read_action c.requires.lies) c.pass.ensures some (eq-eqb _ _ c.if-reader.false) in
    let two = so_mapped one_of (read_list (sort_of true)) (so_stood 91 _ (omega arith) one c.expect.ensures c.in_ok-expect.was) in
    let w = so_read (read_list (sort_of true)) (λ ls. took (one_of ls)) two c.read_list.ensures {base' = old.next.start + 1 + 1} c.in_ok-read_list.was (omega arith) in
    so_small w.so c.requires.small (let l = c.requires.lies.low in omega arith)

pub returns : goal.returns
unfolding read_action sort_of action_entries
returns c =
    let old = c.args.reader.now in
    let some : old.next.kind ≡ 0 → ⊥ = λ (z : old.next.kind ≡ 0). (let k = c.if-reader.false in omega arith) in
    let one = so_passed (is kinds.in_word) _ _ (so_begins old read_action c.requires.lies) c.pass.ensures some (eq-eqb _ _ c.if-reader.false) in
    let two = so_mapped one_of (read_list (sort_of true)) (so_stood 91 _ (omega arith) one c.expect.ensures c.in_ok-expect.was) in
    let w = so_read (read_list (sort_of true)) (λ ls. took (one_of ls)) two c.read_list.ensures {base' = old.next.start + 1 + 1} c.in_ok-read_list.was (omega arith) in
    let a = so_free two in
    let b = so_free w.so in
    so_done_put ([] ++ literal_entries w.value) _ (one_of w.value) (so_put w.so c.put-2.ensures)
    (list_count [] w.value 33 c.expect.new.self.free c.read_list.new.reader.free (omega (arith, a, b))) (omega arith)
