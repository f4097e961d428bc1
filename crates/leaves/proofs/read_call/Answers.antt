-- `leaves::read_call` meets its contract: two marks, what the list's reader says, between the attribute's entry and the call's, and a third mark. Assumes nothing.
use mathlib.Core.Path.{◌≡◌, ◌∙◌, sym, ap, refl}
use mathlib.Core.List.{[], ◌∷◌, ◌++◌}
use Prim.Native.Nat.{ℕ, ◌+◌, ◌-◌}
use native.Mathlib.Omega.{arith}
use borrow.Author.Tests.{eq-eqb, ne_eqb}
use Rattle.std.proofs.lemmas.Result.{err_from_is_err_and}
use Rattle.tokens.specs.Kinds as kinds
use Rattle.reading.specs.Reader.{Reader, took, need, before, mapped, bind}
use Rattle.grammar.specs.Parser.{read_list, read_call}
use Rattle.grammar.specs.Policies.{Tree, Which, Root, Span, contains}
use Rattle.grammar.specs.Rules.{is_literal}
use Rattle.table.specs.Entries.{entry, literal_entries, operand_entry, tree_entries}
use Rattle.parts.proofs.Standing.{number_small, lowered}
use Rattle.parts.proofs.SoFar.{so_begins, so_as, so_from, so_put, so_before, so_stood, so_stopped, so_closed, so_read, so_lost, as_stood}
use Rattle.leaves.proofs.Handed.{ready_on, ready_put, next_lies, mapped_bind}
use Rattle.leaves.proofs.read_call.Goals as goal

-- what is read after each mark
abbrev in_brackets : Which → Root → Span → Reader Tree
in_brackets w root p = before kinds.right_round (mapped (contains w root p) (read_list is_literal))

abbrev in_round : Which → Root → Span → Reader Tree
in_round w root p = need kinds.left_square (in_brackets w root p)

pub expect-requires : goal.expect-requires
expect-requires c = lowered (omega arith) c.requires.lies

pub returns-in_err-expect : goal.returns-in_err-expect
unfolding read_call
returns-in_err-expect c =
    λ w k root q e.
    let r = c.args.reader.now in
    let p = err_from_is_err_and c.from_residual.result c.from_residual.ensures.1 in
    rw (p.1, p.2) (so_stopped kinds.left_round (in_round w root q) (so_begins r (read_call w root q) c.requires.lies) c.expect.ensures c.in_err-expect.was)

pub expect-requires-2 : goal.expect-requires-2
expect-requires-2 c =
    let r = c.args.reader.now in
    let s = as_stood c.in_ok-expect.was c.expect.ensures in
    (ready_on {low = 0} s.1 c.requires (λ (z : r.next.kind ≡ 0). omega (arith, s.0)) (omega arith)).lies

pub returns-in_err-expect-2 : goal.returns-in_err-expect-2
unfolding read_call
returns-in_err-expect-2 c =
    λ w k root q e.
    let r = c.args.reader.now in
    let p = err_from_is_err_and c.from_residual-in_err-expect-2.result c.from_residual-in_err-expect-2.ensures.1 in
    let so = so_stood kinds.left_round (in_round w root q) (omega arith) (so_begins r (read_call w root q) c.requires.lies) c.expect.ensures c.in_ok-expect.was in
    rw (p.1, p.2) (so_stopped kinds.left_square (in_brackets w root q) so c.expect-2.ensures c.in_err-expect-2.was)

pub put_entry-requires : goal.put_entry-requires
put_entry-requires c =
    let r = c.args.reader.now in
    let s = as_stood c.in_ok-expect.was c.expect.ensures in
    let s₂ = as_stood c.in_ok-expect-2.was c.expect-2.ensures in
    rw s₂.1 (rw s.1 (omega (arith, number_small c.requires)))

pub read_counted-requires : goal.read_counted-requires
read_counted-requires c =
    let r = c.args.reader.now in
    let s = as_stood c.in_ok-expect.was c.expect.ensures in
    let s₂ = as_stood c.in_ok-expect-2.was c.expect-2.ensures in
    let f : c.expect-2.new.self.free ≡ r.free = rw s₂.1 (rw s.1 refl) in
    let a = ready_on {low = r.free + 2} s.1 c.requires (λ (z : r.next.kind ≡ 0). omega (arith, s.0)) (omega (arith, c.requires.lies.low)) in
    let q = c.expect.new.self.next in
    let b = ready_on {low = r.free + 3} s₂.1 a (λ (z : q.kind ≡ 0). omega (arith, s₂.0)) (omega (arith, a.lies.low)) in
    ready_put c.put_entry.ensures b (omega (arith, c.put_entry.ensures.free, f))

pub returns-in_err-read_counted : goal.returns-in_err-read_counted
unfolding read_call
returns-in_err-read_counted c =
    λ w k root q e.
    let r = c.args.reader.now in
    let p = err_from_is_err_and c.from_residual-in_err-read_counted.result c.from_residual-in_err-read_counted.ensures.1 in
    let so = so_stood kinds.left_round (in_round w root q) (omega arith) (so_begins r (read_call w root q) c.requires.lies) c.expect.ensures c.in_ok-expect.was in
    let so₂ = so_put (so_stood kinds.left_square (in_brackets w root q) (omega arith) so c.expect-2.ensures c.in_ok-expect-2.was) c.put_entry.ensures in
    let so₃ = so_as (λ i. bind (read_list is_literal i) (λ ls. need kinds.right_round (took (contains w root q ls)))) (mapped_bind (contains w root q) (read_list is_literal) (λ v. need kinds.right_round (took v)))
    (so_before kinds.right_round (mapped (contains w root q) (read_list is_literal)) so₂) in
    rw (p.1, p.2) (so_lost (read_list is_literal) (λ ls. need kinds.right_round (took (contains w root q ls))) so₃ c.read_counted.ensures c.in_err-read_counted.was)

pub expect-requires-3 : goal.expect-requires-3
expect-requires-3 c = next_lies c.read_counted.ensures c.in_ok-read_counted.was

pub returns : goal.returns
unfolding read_call tree_entries operand_entry
returns c =
    λ w k root q e.
    let r = c.args.reader.now in
    let so = so_stood kinds.left_round (in_round w root q) (omega arith) (so_begins r (read_call w root q) c.requires.lies) c.expect.ensures c.in_ok-expect.was in
    let so₂ = so_put (so_stood kinds.left_square (in_brackets w root q) (omega arith) so c.expect-2.ensures c.in_ok-expect-2.was) c.put_entry.ensures in
    let so₃ = so_as (λ i. bind (read_list is_literal i) (λ ls. need kinds.right_round (took (contains w root q ls)))) (mapped_bind (contains w root q) (read_list is_literal) (λ v. need kinds.right_round (took v)))
    (so_before kinds.right_round (mapped (contains w root q) (read_list is_literal)) so₂) in
    let l = so_read (read_list is_literal) (λ ls. need kinds.right_round (took (contains w root q ls))) so₃ c.read_counted.ensures {base' = r.next.start} c.in_ok-read_counted.was (omega arith) in
    so_closed kinds.right_round (contains w root q l.value) (omega arith) l.so c.expect-3.ensures (rw (e, k) refl) (omega arith)
