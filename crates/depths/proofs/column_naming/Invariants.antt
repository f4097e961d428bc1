-- `depths::column_naming` meets its contract: the columns left name what all name. Assumes nothing.
use mathlib.Core.Path.{◌≡◌, refl, sym, ◌∙◌}
use Prim.Native.Nat.{◌-◌}
use native.Mathlib.Omega.{arith}
use Rattle.tokens.specs.Blanks.{unblanked}
use Rattle.depths.specs.Columns.{naming}
use Rattle.depths.proofs.Naming.{naming_none, naming_here, naming_on}
use Rattle.depths.proofs.column_naming.Given as goal

abbrev pub invariant-loop-i : goal.invariant-loop-i
invariant-loop-i l = naming (l.n - l.i) l.s l.heads l.i l.root (unblanked l.path) ≡ naming l.n l.s l.heads 0 l.root (unblanked l.path)
