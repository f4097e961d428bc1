-- `leaves::read_in` meets its contract: a list, an attribute, or neither, after the left operand's entry. Assumes nothing.
use mathlib.Core.Path.{◌≡◌, ◌∙◌, sym, ap, refl}
use mathlib.Core.List.{[], ◌∷◌, ◌++◌}
use Prim.Native.Nat.{ℕ, ◌+◌, ◌-◌}
use native.Mathlib.Omega.{arith}
use borrow.Author.Tests.{eq-eqb, ne_eqb}
use Rattle.std.proofs.lemmas.Result.{err_from_is_err_and}
use Rattle.tokens.specs.Kinds as kinds
use Rattle.reading.specs.Lexemes.{lexeme, is}
use Rattle.reading.specs.Reader.{took, refuse_by, ten, bind, on, mapped}
use Rattle.grammar.specs.Parser.{read_list, read_attribute, read_in}
use Rattle.grammar.specs.Policies.{among, within, root_byte}
use Rattle.grammar.specs.Rules.{is_literal, is_root, root_of}
use Rattle.table.specs.Entries.{entry, placed, tree_entries}
use Rattle.parts.specs.Names.{root_from}
use Rattle.parts.proofs.Roots.{root_of_lem}
use Rattle.parts.proofs.Sorts.{root_some}
use Rattle.parts.proofs.Standing.{number_small}
use Rattle.parts.proofs.Ways.{attribute_is}
use Rattle.parts.proofs.SoFar.{so_begins, so_as, so_from, so_put, so_passed, so_other, so_refused, so_mapped, so_last, so_read, so_lost, so_done_put}
use Rattle.leaves.proofs.Handed.{free_small, ready_on, ready_put}
use Rattle.leaves.proofs.read_in.Goals as goal

pub put_entry-requires : goal.put_entry-requires
put_entry-requires c = rw c.pass.ensures (omega (arith, number_small c.requires))

pub read_counted-requires : goal.read_counted-requires
read_counted-requires c =
    let r = c.args.reader.now in
    let f : c.pass.new.self.free ≡ r.free = rw c.pass.ensures in
    ready_put c.put_entry.ensures (ready_on {low = r.free + 2} c.pass.ensures c.requires (λ (z : r.next.kind ≡ 0). let k = c.if-t-eq91.true in omega arith) (omega (arith, c.requires.lies.low))) (omega (arith, c.put_entry.ensures.free, f))

pub returns-then-t-eq91 : goal.returns-then-t-eq91
unfolding read_in tree_entries
returns-then-t-eq91 c =
    λ a e.
    let r = c.args.reader.now in
    let so = so_passed (is kinds.left_square) (λ _. mapped (among a) (read_list is_literal)) (on is_root (λ x. read_attribute (root_of x) (within a)) (refuse_by ten)) (so_begins r (read_in a) c.requires.lies) c.pass.ensures
    (λ (z : r.next.kind ≡ 0). let k = c.if-t-eq91.true in omega arith) (eq-eqb _ _ c.if-t-eq91.true) in
    so_last (read_list is_literal) (among a) (so_mapped (among a) (read_list is_literal) (so_put so c.put_entry.ensures)) c.read_counted.ensures (λ v. rw e refl) (omega (arith, c.requires.lies.low))

pub put_entry-requires-then-is_root : goal.put_entry-requires-then-is_root
put_entry-requires-then-is_root c = rw c.pass-then-is_root.ensures (omega (arith, number_small c.requires))

pub read_attribute-requires : goal.read_attribute-requires
read_attribute-requires c =
    let r = c.args.reader.now in
    let f : c.pass-then-is_root.new.self.free ≡ r.free = rw c.pass-then-is_root.ensures in
    ready_put c.put_entry-then-is_root.ensures (ready_on {low = r.free + 2} c.pass-then-is_root.ensures c.requires (root_some (lexeme r.text.now r.next) (sym c.is_root.ensures ∙ c.if-is_root.true)) (omega (arith, c.requires.lies.low)))
    (omega (arith, c.put_entry-then-is_root.ensures.free, f))

pub returns-in_err-read_attribute : goal.returns-in_err-read_attribute
unfolding read_in
returns-in_err-read_attribute c =
    λ a e.
    let r = c.args.reader.now in
    let yes = sym c.is_root.ensures ∙ c.if-is_root.true in
    let root = root_from r.next.kind in
    let so = so_passed is_root (λ x. read_attribute (root_of x) (within a)) (refuse_by ten)
    (so_other (is kinds.left_square) (λ _. mapped (among a) (read_list is_literal)) (on is_root (λ x. read_attribute (root_of x) (within a)) (refuse_by ten)) (so_begins r (read_in a) c.requires.lies) (ne_eqb _ _ c.if-t-eq91.false))
    c.pass-then-is_root.ensures (root_some (lexeme r.text.now r.next) yes) yes in
    let p = err_from_is_err_and c.from_residual.result c.from_residual.ensures.1 in
    rw (p.1, p.2) (so_lost (read_attribute root (λ root s. s)) (λ s. took (within a root s)) (so_as (λ i. bind (read_attribute root (λ root s. s) i) (λ s. took (within a root s))) (λ i. rw (root_of_lem r.text.now r.next) (attribute_is root (within a) i)) (so_put so c.put_entry-then-is_root.ensures)) c.read_attribute.ensures c.in_err-read_attribute.was)

pub put-requires : goal.put-requires
put-requires c =
    let r = c.args.reader.now in
    let f : c.pass-then-is_root.new.self.free ≡ r.free = rw c.pass-then-is_root.ensures in
    let x = ready_put {low = c.put_entry-then-is_root.new.self.free} c.put_entry-then-is_root.ensures (ready_on {low = r.free + 2} c.pass-then-is_root.ensures c.requires (root_some (lexeme r.text.now r.next) (sym c.is_root.ensures ∙ c.if-is_root.true)) (omega (arith, c.requires.lies.low)))
    (omega (arith, c.put_entry-then-is_root.ensures.free, f)) in
    free_small c.read_attribute.ensures c.in_ok-read_attribute.was x.lies.low x.small

pub returns-then-is_root : goal.returns-then-is_root
unfolding read_in tree_entries
returns-then-is_root c =
    λ a e.
    let r = c.args.reader.now in
    let l = c.requires.lies.low in
    let yes = sym c.is_root.ensures ∙ c.if-is_root.true in
    let root = root_from r.next.kind in
    let so = so_passed is_root (λ x. read_attribute (root_of x) (within a)) (refuse_by ten)
    (so_other (is kinds.left_square) (λ _. mapped (among a) (read_list is_literal)) (on is_root (λ x. read_attribute (root_of x) (within a)) (refuse_by ten)) (so_begins r (read_in a) c.requires.lies) (ne_eqb _ _ c.if-t-eq91.false))
    c.pass-then-is_root.ensures (root_some (lexeme r.text.now r.next) yes) yes in
    let k = so_read (read_attribute root (λ root s. s)) (λ s. took (within a root s)) (so_as (λ i. bind (read_attribute root (λ root s. s) i) (λ s. took (within a root s))) (λ i. rw (root_of_lem r.text.now r.next) (attribute_is root (within a) i)) (so_put so c.put_entry-then-is_root.ensures)) c.read_attribute.ensures {base' = r.next.start - 1 + 1} c.in_ok-read_attribute.was (omega (arith, l)) in
    so_done_put (c.args.left ∷ placed (root_byte root) k.value ∷ []) (entry 21 0 0) (within a root k.value) (so_put k.so c.put.ensures) (rw e refl) (omega arith)

pub returns : goal.returns
unfolding read_in
returns c =
    λ a e.
    let r = c.args.reader.now in
    so_refused ten (so_other is_root (λ x. read_attribute (root_of x) (within a)) (refuse_by ten)
    (so_other (is kinds.left_square) (λ _. mapped (among a) (read_list is_literal)) (on is_root (λ x. read_attribute (root_of x) (within a)) (refuse_by ten)) (so_begins r (read_in a) c.requires.lies) (ne_eqb _ _ c.if-t-eq91.false))
    (sym c.is_root.ensures ∙ c.if-is_root.false)) refl
