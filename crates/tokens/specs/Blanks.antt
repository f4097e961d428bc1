-- Bytes without their blanks: a path of the rule text may have blanks between its names and dots, a bag's paths have none. Definitions only.
use Rattle.std.specs.Prelude.{ℕ, List, [], ◌∷◌, cond}
use Rattle.tokens.specs.Runs.{is_of}
use Rattle.tokens.specs.declared.classes.Sort.TheVariants.{Blanks}

-- the bytes but the blanks
unfoldable pub unblanked : List ℕ → List ℕ
unblanked [] = []
unblanked (b ∷ rest) = cond (is_of Blanks b) (unblanked rest) (b ∷ unblanked rest)
