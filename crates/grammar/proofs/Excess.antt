-- What is refused by a number goes on with the refused token in no rule text of which that limit is asked, nor, where the number is of no limit, in any at all. Assumes nothing.
use mathlib.Core.Path.{◌≡◌, sym}
use mathlib.Core.Logic.{◌⊎◌, inl, inr}
use mathlib.Core.List.{List, [], ◌∷◌, ◌++◌, append_cancel_right}
use Prim.Native.Nat.{ℕ, ◌≤◌, ◌<◌}
use native.Mathlib.Omega.{arith}
use lib.ListN.{length}
use Rattle.tokens.specs.Sizes.{most_inside}
use Rattle.reading.specs.Lexemes.{Lexeme}
use Rattle.reading.specs.Reader.{refuse}
use Rattle.reading.proofs.Local.{same}
use Rattle.grammar.specs.Grammar.{lifting, Beyond}
use Rattle.grammar.specs.Parser.{read_text}
use Rattle.grammar.specs.Lowest.{Under}
use Rattle.grammar.proofs.Completeness.{Excuses}
use Rattle.grammar.proofs.Exactly.{lifted_excuses}
use Rattle.grammar.proofs.Refused.{near_text, refused_again}
use Rattle.grammar.proofs.Theorems.{cut}

-- ---- what is excused

-- a refusal by a limit that is not asked, or in what is to follow
data Excused (Asked : ℕ → Type 0) (on : List Lexeme) : ℕ → List Lexeme → Type 0 where
  lifted : {n : ℕ} {s : List Lexeme} → 11 ≤ n → ¬ Asked n → Excused Asked on n s
  further : {n : ℕ} {s : List Lexeme} → length s ≤ length on → Excused Asked on n s

excuses : (Asked : ℕ → Type 0) (on : List Lexeme) (levels : ℕ) → (Asked 12 → levels ≤ most_inside) → Excuses (lifting levels (λ n r. (¬ Asked n) ⊎ Beyond on r)) (Excused Asked on)
excuses Asked on levels shallow =
    lifted_excuses levels (λ n r. (¬ Asked n) ⊎ Beyond on r) (Excused Asked on)
    (λ n x r l h. elim h [ inl f ↦ lifted l f | inr k ↦ further k ]) (λ l x r. lifted (omega arith) (λ a. let m = shallow a in omega arith))

-- ---- the law

-- Refused by n at x: where n is of no limit, or that limit is asked, no rule text goes on with x.
pub goes_on_nowhere : (Asked : ℕ → Type 0) (b : List Lexeme) (x : Lexeme) (s : List Lexeme) (n : ℕ) → read_text (b ++ x ∷ s) ≡ refuse n (x ∷ s) → (n < 11) ⊎ Asked n
    → ¬ Under Asked (b ++ x ∷ [])
goes_on_nowhere Asked b x s n e a f =
    let split = rw e at (near_text (b ++ x ∷ s)).split in
    let q : (near_text (b ++ x ∷ s)).before ≡ b = sym (append_cancel_right b (near_text (b ++ x ∷ s)).before (x ∷ s) split) in
    go (refused_again (excuses Asked f.on f.levels f.shallow) (b ++ x ∷ s) (x ∷ s) n e (x ∷ f.on) f.policies same
    (rw (q, cut b x f.on) f.belongs)) a
  where
    go : {on : List Lexeme} → Excused Asked on n (x ∷ on) → (n < 11) ⊎ Asked n → ⊥
    go (lifted l g) (inl k) = omega arith
    go (lifted l g) (inr k) = g k
    go (further l) k = omega arith
