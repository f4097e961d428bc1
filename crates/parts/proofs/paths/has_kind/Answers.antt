-- `parts::paths::has_kind` meets its contract: each root's kind is 4 more. Assumes nothing.
use native.Mathlib.Omega.{arith}
use borrow.Author.Rules.{rules}
use Rattle.parts.specs.Names.{root_from}
use Rattle.parts.proofs.Roots.{root_small, has_is}
use Rattle.parts.proofs.paths.has_kind.Goals as goal

pub overflow_add-result : goal.overflow_add-result
overflow_add-result c = omega (arith, root_small _ (root_from c.args.root) c.root_kind.ensures)

pub returns : goal.returns
returns c = rw c.root_kind.ensures (has_is (root_from c.args.root))
