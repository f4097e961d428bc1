-- Readers of token lists. Definitions only.
use Rattle.std.specs.Prelude.{Bool, cond, List, [], ◌∷◌, ℕ, zero, suc, ltb, length}
use Rattle.reading.specs.Lexemes.{Lexeme, is, choose}

-- a reader answers with an a and the tokens after it, or with a refusal: its number, and the tokens from the refused one on ([]: the end of the text)
pub data Answer (A : Type 0) : Type 0 where
  took : A → List Lexeme → Answer A
  refuse : ℕ → List Lexeme → Answer A

-- what finds an A at the front of a list of tokens
abbrev pub Reader : Type 0 → Type 0
Reader A = List Lexeme → Answer A

-- what is no token (kinds 3 to 6) is refused by its own number: the lowest there is at its place
unfoldable pub numbered : (Lexeme → ℕ) → Lexeme → ℕ
numbered number x = cond (ltb x.kind 7) x.kind (number x)

-- refuses the next token, by a number that goes by the token
unfoldable pub refuse_by : {A : Type 0} → (Lexeme → ℕ) → Reader A
refuse_by number [] = refuse 10 []
refuse_by number (x ∷ r) = refuse (numbered number x) (x ∷ r)

-- a token that is not admitted, for no other reason
abbrev pub ten : Lexeme → ℕ
ten x = 10

-- after an answer, what f reads from the tokens that are left; a refusal stays
unfoldable pub bind : {A B : Type 0} → Answer A → (A → Reader B) → Answer B
bind (took a r) f = f a r
bind (refuse n r) f = refuse n r

-- where the next token passes the test it is taken, and f goes on with it; else g goes on, with nothing taken
unfoldable pub on : {A : Type 0} → (Lexeme → Bool) → (Lexeme → Reader A) → Reader A → Reader A
on k f g [] = g []
on k f g (x ∷ r) = choose (k x) (λ _. f x r) (λ _. g (x ∷ r))

-- a token of the kind k must stand next
unfoldable pub need : {A : Type 0} → ℕ → Reader A → Reader A
need k f = on (is k) (λ _. f) (refuse_by ten)

-- what p reads, and a token of the kind k after it
unfoldable pub before : {A : Type 0} → ℕ → Reader A → Reader A
before k p i = bind (p i) (λ a. need k (took a))

-- f of what p reads
unfoldable pub mapped : {A B : Type 0} → (A → B) → Reader A → Reader B
mapped f p i = bind (p i) (λ a. took (f a))

-- after an a: while a separator stands there, it and what `next` reads after it; at most n times
unfoldable pub up_to : {A : Type 0} → ℕ → (A → Lexeme → Bool) → (A → Lexeme → Reader A) → A → Reader A
up_to zero sep next a = took a
up_to (suc n) sep next a = on (sep a) (λ x m. bind (next a x m) (up_to n sep next)) (took a)

-- the same any number of times: each takes a token, so as many as there are tokens is no bound
unfoldable pub onwards : {A : Type 0} → (A → Lexeme → Bool) → (A → Lexeme → Reader A) → A → Reader A
onwards sep next a i = up_to (length i) sep next a i

-- what `first` reads, and then any number of separators with what `next` reads after each
unfoldable pub chain : {A : Type 0} → (A → Lexeme → Bool) → Reader A → (A → Lexeme → Reader A) → Reader A
chain sep first next i = bind (first i) (onwards sep next)
