-- `leaves::read_compared` meets its contract: the left operand's entry, what the right operand's reader says, and the comparator's entry. Assumes nothing.
use mathlib.Core.Path.{◌≡◌, ◌∙◌, sym, ap, refl}
use mathlib.Core.List.{[], ◌∷◌, ◌++◌}
use Prim.Native.Nat.{ℕ, ◌+◌, ◌-◌}
use native.Mathlib.Omega.{arith}
use borrow.Author.Tests.{eq-eqb, ne_eqb}
use Rattle.std.proofs.lemmas.Result.{err_from_is_err_and}
use Rattle.reading.specs.Reader.{took, bind, mapped}
use Rattle.grammar.specs.Parser.{read_operand}
use Rattle.grammar.specs.Policies.{compare}
use Rattle.table.specs.Entries.{entry, operand_entry, tree_entries}
use Rattle.parts.proofs.Standing.{number_small, lowered}
use Rattle.parts.proofs.SoFar.{so_begins, so_from, so_put, so_mapped, so_read, so_lost, so_done_put}
use Rattle.leaves.proofs.Handed.{free_small, ready_put}
use Rattle.leaves.proofs.read_compared.Goals as goal

pub put_entry-requires : goal.put_entry-requires
put_entry-requires c = omega (arith, number_small c.requires)

pub read_operand-requires : goal.read_operand-requires
read_operand-requires c = ready_put c.put_entry.ensures c.requires (omega (arith, c.put_entry.ensures.free))

pub returns-in_err-read_operand : goal.returns-in_err-read_operand
returns-in_err-read_operand c =
    λ a e k q.
    let r = c.args.reader.now in
    let p = err_from_is_err_and c.from_residual.result c.from_residual.ensures.1 in
    let so = so_put (so_from (r.next.start - 1 + 1) (omega (arith, c.requires.lies.low)) (so_begins r (mapped (compare k a) read_operand) c.requires.lies)) c.put_entry.ensures in
    rw (p.1, p.2) (so_lost read_operand (λ b. took (compare k a b)) (so_mapped (compare k a) read_operand so) c.read_operand.ensures c.in_err-read_operand.was)

pub put-requires : goal.put-requires
put-requires c =
    let x = ready_put {low = c.put_entry.new.self.free} c.put_entry.ensures c.requires (omega (arith, c.put_entry.ensures.free)) in
    free_small c.read_operand.ensures c.in_ok-read_operand.was x.lies.low x.small

pub returns : goal.returns
unfolding tree_entries
returns c =
    λ a e k q.
    let r = c.args.reader.now in
    let l = c.requires.lies.low in
    let so = so_put (so_from (r.next.start - 1 + 1) (omega (arith, l)) (so_begins r (mapped (compare k a) read_operand) c.requires.lies)) c.put_entry.ensures in
    let n = so_read read_operand (λ b. took (compare k a b)) (so_mapped (compare k a) read_operand so) c.read_operand.ensures {base' = r.next.start - 2 + 1} c.in_ok-read_operand.was (omega (arith, l)) in
    so_done_put (c.args.left ∷ operand_entry n.value ∷ []) (entry c.args.kind 0 0) (compare k a n.value) (so_put n.so c.put.ensures) (rw (e, q) refl) (omega arith)
