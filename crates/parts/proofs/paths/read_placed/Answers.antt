-- `parts::paths::read_placed` meets its contract: what the path's reader says, and one entry. Assumes nothing.
use native.Mathlib.Omega.{arith}
use borrow.Author.Rules.{rules}
use mathlib.Core.Bool.{Bool}
use mathlib.Core.List.{[]}
use Rattle.reading.specs.Reader.{took, bind}
use Rattle.grammar.specs.Parser.{read_path, read_way, spanned_by}
use Rattle.table.specs.Entries.{placed}
use Rattle.parts.specs.Names.{exit_of, root_from}
use Rattle.parts.proofs.Standing.{lowered}
use Rattle.parts.proofs.Ways.{so_way, so_way_lost}
use Rattle.parts.proofs.SoFar.{gives_back, so_begins, so_put, so_small, so_done_put}
use Rattle.parts.proofs.paths.read_placed.Goals as goal

pub read_way-requires : goal.read_way-requires
read_way-requires c = let p = c.requires in record { lies = lowered (omega arith) p.lies; small = p.small }

pub returns-in_err-path : goal.returns-in_err-path
unfolding read_path exit_of
returns-in_err-path c =
    rw (gives_back c.from_residual.result c.from_residual.ensures.1)
    (so_way_lost (read_way (exit_of Bool.false) (root_from c.args.root)) (λ w. took (spanned_by w)) (so_begins c.args.reader.now (read_path (root_from c.args.root)) c.requires.lies)
    c.read_way.ensures c.in_err-path.was)

pub put-requires : goal.put-requires
unfolding read_path exit_of
put-requires c =
    let w = so_way (read_way (exit_of Bool.false) (root_from c.args.root)) (λ w. took (spanned_by w)) (so_begins c.args.reader.now (read_path (root_from c.args.root)) c.requires.lies)
    c.read_way.ensures c.in_ok-path.was in
    so_small w.so c.requires.small (omega (arith, c.requires.lies.low))

pub returns : goal.returns
unfolding read_path exit_of
returns c =
    let w = so_way (read_way (exit_of Bool.false) (root_from c.args.root)) (λ w. took (spanned_by w)) (so_begins c.args.reader.now (read_path (root_from c.args.root)) c.requires.lies)
    c.read_way.ensures c.in_ok-path.was in
    so_done_put [] _ (spanned_by w.way) (so_put w.so c.put.ensures) (rw w.span_is) (omega arith)
