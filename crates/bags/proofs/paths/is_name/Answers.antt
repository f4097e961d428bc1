-- `bags::paths::is_name` meets its contract. Assumes nothing.
use Rattle.std.proofs.Common.{◌≡◌, ℕ, Bool, true, false, length, sym, ◌∙◌, get_or}
use borrow.Author.Tests.{eqb-true}
use Rattle.tokens.specs.Runs.{is_of}
use Rattle.tokens.specs.declared.classes.Sort.TheVariants.{Letters}
use Rattle.tokens.proofs.WordLaws.{name_or_reserved}
use Rattle.bags.proofs.PathLaws.{name_run, no_name}
use Rattle.bags.proofs.paths.is_name.Goals as goal
use Rattle.bags.proofs.paths.is_name.Goals.{then-not-is_empty, else-not-is_empty}

pub returns-then-is_of : goal.returns-then-is_of
returns-then-is_of c =
    let letter : is_of Letters (get_or c.args.run.now 0 0) ≡ true =
    elim c.if-not-is_empty.branch [ then-not-is_empty w ↦ cc | else-not-is_empty w ↦ cc ] in
    simp (c.is_reserved.ensures, sym (name_or_reserved c.args.run.now)) (rw letter at (name_run _ c.requires.run_value))

pub returns-else-is_of : goal.returns-else-is_of
returns-else-is_of c = c.if-is_of.false ∙ elim c.if-not-is_empty.branch [
  | then-not-is_empty w ↦
      let other : is_of Letters (get_or c.args.run.now 0 0) ≡ false = cc in
      rw other at (name_run _ c.requires.run_value)
  | else-not-is_empty w ↦ no_name _ (eqb-true _ _ (sym c.is_empty.ensures ∙ w.if-not-is_empty.false))
]
