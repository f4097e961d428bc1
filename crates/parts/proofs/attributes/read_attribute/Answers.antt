-- `parts::attributes::read_attribute` meets its contract: after the dot, what the path's reader says. Assumes nothing.
use native.Mathlib.Omega.{arith}
use borrow.Author.Rules.{rules}
use Rattle.grammar.specs.Parser.{read_path, read_attribute}
use Rattle.parts.specs.Names.{root_from}
use Rattle.parts.proofs.SoFar.{gives_back, so_begins, so_stood, so_stopped, so_ready, so_last}
use Rattle.parts.proofs.attributes.read_attribute.Goals as goal

pub expect-requires : goal.expect-requires
expect-requires c = let l = c.requires.lies in record { low = omega arith; order = l.order; high = l.high; some = l.some }

pub returns-in_err-expect : goal.returns-in_err-expect
unfolding read_attribute
returns-in_err-expect c =
    rw (gives_back c.from_residual.result c.from_residual.ensures.1)
    (so_stopped 46 _ (so_begins c.args.reader.now (read_attribute (root_from c.args.root) (λ root s. s)) c.requires.lies) c.expect.ensures c.in_err-expect.was)

pub read_placed-requires : goal.read_placed-requires
unfolding read_attribute
read_placed-requires c =
    let so = so_stood 46 _ (omega arith) (so_begins c.args.reader.now (read_attribute (root_from c.args.root) (λ root s. s)) c.requires.lies) c.expect.ensures c.in_ok-expect.was in
    so_ready so c.requires.small (omega (arith, c.requires.lies.low))

pub returns : goal.returns
unfolding read_attribute
returns c =
    let so = so_stood 46 _ (omega arith) (so_begins c.args.reader.now (read_attribute (root_from c.args.root) (λ root s. s)) c.requires.lies) c.expect.ensures c.in_ok-expect.was in
    so_last (read_path (root_from c.args.root)) (λ s. s) so c.read_placed.ensures (λ s. rw c.root_kind.ensures) (omega arith)
