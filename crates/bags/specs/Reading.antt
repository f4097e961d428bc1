-- Things read from bytes, one after the other. A reader says where the thing that starts at a place ends, or Bad. Definitions only.
use Rattle.std.specs.Prelude.{ℕ, zero, suc, List, [], ◌∷◌, Bool, true, false, eqb, get_or, None, Option, Some}

infixr 5 ◌then◌
-- go on where the first thing ended
abbrev pub ◌then◌ : Option ℕ → (ℕ → Option ℕ) → Option ℕ
Some e then next = next e
None then next = None

-- only where the test holds
abbrev pub only : Bool → Option ℕ → Option ℕ
only true a = a
only false a = None

-- whether it ended at a place
abbrev pub ends_at : Option ℕ → ℕ → Bool
ends_at (Some e) n = eqb e n
ends_at None n = false

-- the place where it ended, and 0 where it is Bad
abbrev pub end_place : Option ℕ → ℕ
end_place (Some e) = e
end_place None = 0

-- n things, one after the other
unfoldable pub many : ℕ → (ℕ → Option ℕ) → ℕ → Option ℕ
many zero next at = Some at
many (suc n) next at = next at then many n next

-- what stands from the end of the first thing on; nothing after a Bad one
abbrev pub following : {A : Type 0} → Option ℕ → (ℕ → List A) → List A
following (Some e) rest = rest e
following None rest = []

-- what each of n things is, one after the other, by where it starts and ends
unfoldable pub each : {A : Type 0} → ℕ → (ℕ → Option ℕ) → (ℕ → ℕ → A) → ℕ → List A
each zero next what at = []
each (suc n) next what at = following (next at) λ e. what at e ∷ each n next what e

-- the byte at a place, and 0 past the end
abbrev pub byte : List ℕ → ℕ → ℕ
byte s at = get_or s at 0
