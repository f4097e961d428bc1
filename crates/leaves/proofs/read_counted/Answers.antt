-- `leaves::read_counted` meets its contract: what the list's reader says, and the entry that counts it. Assumes nothing.
use mathlib.Core.Path.{◌≡◌, ◌∙◌, sym, ap, refl}
use mathlib.Core.List.{[], ◌∷◌, ◌++◌}
use Prim.Native.Nat.{ℕ, ◌+◌, ◌-◌}
use native.Mathlib.Omega.{arith}
use borrow.Author.Tests.{eq-eqb, ne_eqb}
use lib.ListN.{length, length-map}
use Rattle.std.proofs.lemmas.Result.{err_from_is_err_and}
use Rattle.reading.specs.Reader.{took, bind}
use Rattle.grammar.specs.Rules.{is_literal}
use Rattle.grammar.specs.Parser.{read_list}
use Rattle.table.specs.Entries.{entry, literal_entry, literal_entries}
use Rattle.parts.specs.Names.{sort_of}
use Rattle.parts.proofs.Standing.{lowered}
use Rattle.parts.proofs.Literals.{list_count}
use Rattle.parts.proofs.SoFar.{so_begins, so_as, so_free, so_from, so_read, so_put, so_done_put, as_read}
use Rattle.leaves.proofs.Handed.{free_small, lost_as, then_took}
use Rattle.leaves.proofs.read_counted.Goals as goal

pub read_list-requires : goal.read_list-requires
read_list-requires c = record { lies = lowered (omega arith) c.requires.lies; small = c.requires.small }

pub returns-in_err-read_list : goal.returns-in_err-read_list
unfolding sort_of
returns-in_err-read_list c =
    let p = err_from_is_err_and c.from_residual.result c.from_residual.ensures.1 in
    rw (p.1, p.2) (lost_as c.in_err-read_list.was (λ h. h) c.read_list.ensures)

pub overflow_sub-reader : goal.overflow_sub-reader
overflow_sub-reader c = let k = as_read c.in_ok-read_list.was c.read_list.ensures.says in let x = k.counted.free_is in omega arith

pub put-requires : goal.put-requires
put-requires c = free_small c.read_list.ensures c.in_ok-read_list.was (omega (arith, c.requires.lies.low)) c.requires.small

pub returns : goal.returns
unfolding sort_of
returns c =
    let r = c.args.reader.now in
    let so = so_as (λ i. bind (read_list is_literal i) took) (λ i. then_took (read_list is_literal) i) (so_begins r (read_list is_literal) c.requires.lies) in
    let k = so_read (read_list is_literal) took so c.read_list.ensures {base' = r.next.start - 1 + 1} c.in_ok-read_list.was (omega (arith, c.requires.lies.low)) in
    let n : c.read_list.new.reader.free ≡ r.free + length (literal_entries k.value) = so_free k.so in
    so_done_put (literal_entries k.value) (entry c.args.kind (c.read_list.new.reader.free - r.free) 0) k.value (so_put k.so c.put.ensures) (list_count [] k.value c.args.kind r.free _ n) (omega arith)
