-- `depths::column_naming` meets its contract: the columns left name what all name. Assumes nothing.
use mathlib.Core.Path.{◌≡◌, refl, sym, ◌∙◌}
use Prim.Native.Nat.{◌+◌, ◌-◌}
use native.Mathlib.Omega.{arith}
use Rattle.tokens.specs.Blanks.{unblanked}
use Rattle.depths.specs.Columns.{naming}
use Rattle.depths.proofs.Naming.{naming_none, naming_here, naming_on}
use Rattle.depths.proofs.column_naming.Goals as goal

pub bounds-heads-i : goal.bounds-heads-i
bounds-heads-i c = omega (arith, c.requires.few)

pub names-requires : goal.names-requires
names-requires c = c.requires.inside c.loop-i.i (omega arith)

pub overflow_add-result : goal.overflow_add-result
overflow_add-result c = omega (arith, c.requires.few)

pub overflow_cast-result : goal.overflow_cast-result
overflow_cast-result c = omega (arith, c.requires.few)

pub returns-then-names : goal.returns-then-names
returns-then-names c =
    naming_here c.args.s.now c.args.heads.now c.args.root (unblanked c.args.path.now) (c.args.n - c.loop-i.i) c.loop-i.i (omega arith) (sym c.names.ensures ∙ c.if-names.true) ∙ c.loop-i.invariant

pub loop-i-preserved : goal.loop-i-preserved
loop-i-preserved c =
    let next : c.args.n - c.loop-i.i - 1 ≡ c.args.n - (c.loop-i.i + 1) = omega arith in
    (rw next at (naming_on c.args.s.now c.args.heads.now c.args.root (unblanked c.args.path.now) (c.args.n - c.loop-i.i) c.loop-i.i (omega arith) (sym c.names.ensures ∙ c.if-names.false))) ∙ c.loop-i.invariant

pub returns : goal.returns
returns c = sym (naming_none c.args.s.now c.args.heads.now c.args.root (unblanked c.args.path.now) (c.args.n - c.loop-i.i) c.loop-i.i (omega arith)) ∙ c.loop-i.invariant
