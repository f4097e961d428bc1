-- What a list of tokens begins with, as relations. Definitions only.
use Rattle.std.specs.Prelude.{◌≡◌, Bool, true, List, ◌∷◌, ℕ}
use Rattle.reading.specs.Listed.{Lexeme}

-- `R i r a`: the tokens i begin with those of an a, and r is what follows them
abbrev pub Reading : Type 0 → Type 1
Reading A = List Lexeme → List Lexeme → A → Type 0

-- what First reads, and any number of times a separator and what Next reads after it; both may go by what was read before
pub data Chain {A : Type 0} (Sep : A → Lexeme → Bool) (First : Reading A) (Next : A → Lexeme → Reading A) : List Lexeme → List Lexeme → A → Type 0 where
  alone : {i r : List Lexeme} {a : A} → First i r a → Chain Sep First Next i r a
  more : {i m r : List Lexeme} {x : Lexeme} {a b : A} → Chain Sep First Next i (x ∷ m) a → Sep a x ≡ true → Next a x m r b → Chain Sep First Next i r b

-- f of what R reads
pub data Onto {A B : Type 0} (f : A → B) (R : Reading A) : List Lexeme → List Lexeme → B → Type 0 where
  onto : {i r : List Lexeme} {a : A} → R i r a → Onto f R i r (f a)

-- what R reads, and a token of the kind k after it
pub data Before {A : Type 0} (k : ℕ) (R : Reading A) : List Lexeme → List Lexeme → A → Type 0 where
  ended : {i r : List Lexeme} {x : Lexeme} {a : A} → R i (x ∷ r) a → x.kind ≡ k → Before k R i r a

-- a token of the kind k, and what R reads after it
pub data After {A : Type 0} (k : ℕ) (R : Reading A) : List Lexeme → List Lexeme → A → Type 0 where
  begun : {i r : List Lexeme} {x : Lexeme} {a : A} → x.kind ≡ k → R i r a → After k R (x ∷ i) r a
