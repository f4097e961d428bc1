-- `bags::paths::is_path` meets its contract: the pieces from `at` on are names exactly when all pieces are. Assumes nothing.
use Prim.Native.Nat.{◌≤◌, ◌-◌}
use borrow.Author.Rules.{rules}
use borrow.Author.Tests.{not-true, not-false}
use lib.ListN.{length, drop}
use mathlib.Core.Path.{◌≡◌, refl, sym, ◌∙◌}
use native.Mathlib.Omega.{arith}
use Rattle.bags.proofs.PathLaws.{word_bytes_run, not_a_name, last_name, no_dot, dot_then, path_long, path_is}
use Rattle.bags.specs.Paths.{every, is_name, dot_pieces}
use Rattle.bags.proofs.paths.is_path.Given as goal

abbrev pub invariant-loop-at : goal.invariant-loop-at
invariant-loop-at l = (every is_name (dot_pieces (drop l.at l.path)) ≡ every is_name (dot_pieces l.path)) × (l.at ≤ length l.path)

abbrev pub decreases-loop-at : goal.decreases-loop-at
decreases-loop-at l = length l.path - l.at
