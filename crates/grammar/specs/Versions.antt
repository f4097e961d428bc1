-- The versions of the rules, and the numbers by which a caller names them (document 02, request 7). Definitions only.
use Rattle.std.specs.Prelude.{cond, ℕ, eqb}
use Rattle.grammar.specs.declared.Version.{Version}
use Rattle.grammar.specs.declared.Version.TheVariants.{First, Second}

-- each version's number
unfoldable pub version_number : Version → ℕ
version_number First = 1
version_number Second = 2

-- what is so under the version that a number names, or else, where it names none
unfoldable pub if_version : {A : Type 0} → ℕ → (Version → A) → A → A
if_version number f other = cond (eqb number 1) (f First) (cond (eqb number 2) (f Second) other)
