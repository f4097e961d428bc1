-- Numbers in decimal digits, and the line of a refusal. Definitions only.
use Rattle.std.specs.Prelude.{List, [], ◌∷◌, ◌++◌, ℕ, decimal}
use Prim.Native.Char.{code}

-- numbers in decimal digits, a blank between them and a line feed at the end
unfoldable pub numbers_line : List ℕ → List ℕ
numbers_line [] = code "\n" ∷ []
numbers_line (n ∷ []) = decimal n ++ (code "\n" ∷ [])
numbers_line (n ∷ m ∷ rest) = decimal n ++ (code " " ∷ numbers_line (m ∷ rest))

-- "refused ", then number, line, column and length
unfoldable pub refused_line : ℕ → ℕ → ℕ → ℕ → List ℕ
refused_line number line column size =
    code "r" ∷ code "e" ∷ code "f" ∷ code "u" ∷ code "s" ∷ code "e" ∷ code "d" ∷ code " " ∷ numbers_line (number ∷ line ∷ column ∷ size ∷ [])
