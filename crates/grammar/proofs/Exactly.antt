-- A list of tokens is accepted exactly when it is a rule text, and then with its one list of policies. Assumes nothing.
use mathlib.Core.Path.{◌≡◌, refl}
use mathlib.Core.List.{List, [], ◌∷◌}
use mathlib.Core.Logic.{◌↔◌, inl, inr}
use Prim.Native.Nat.{ℕ, ◌≤◌, ◌<◌}
use native.Mathlib.Omega.{arith}
use lib.ListN.{length}
use Rattle.tokens.proofs.TokenLaws.{never}
use Rattle.tokens.specs.Sizes.{most_inside}
use Rattle.reading.specs.Lexemes.{Lexeme, tokens_of}
use Rattle.reading.specs.Reader.{Answer, took}
use Rattle.reading.proofs.Listed.{tokens_stand, tokens_are}
use Rattle.reading.proofs.Readers.{goes_took}
use Rattle.reading.proofs.Complete.{Nearly, exact, excused}
use Rattle.grammar.specs.Policies.{Policy}
use Rattle.grammar.specs.Grammar.{limit_number, sizes, lifting, Beyond, sizes_before, SaysPolicies}
use Rattle.grammar.specs.Parser.{read_text}
use Rattle.grammar.specs.Promise.{TokensAcceptedExactly, Unambiguous}
use Rattle.grammar.proofs.Limits.{limit_low}
use Rattle.grammar.proofs.Viable.{viable_text}
use Rattle.grammar.proofs.Completeness.{Excuses, complete_text}

-- Under the sizes nothing is excused.
pub strictly : Excuses sizes (λ n s. ⊥)
strictly = record {
  over = λ l x r h u. never (rw u at h);
  no_level_lem = λ l x r. omega arith;
}

-- Where limits are lifted, the refusals are that break a lifted one, or go deeper than the reader does.
pub lifted_excuses : (levels : ℕ) (Lifted Z : ℕ → List Lexeme → Type 0) → ((n : ℕ) (x : Lexeme) (r : List Lexeme) → 11 ≤ n → Lifted n r → Z n (x ∷ r))
    → (most_inside < levels → (x : Lexeme) (r : List Lexeme) → Z 12 (x ∷ r)) → Excuses (lifting levels Lifted) Z
lifted_excuses levels Lifted Z f deep = record {
  over = λ l x r h u. elim h [ inl t ↦ absurd (never (rw u at t)) | inr g ↦ f (limit_number l) x r (limit_low l) g ];
  no_level_lem = deep;
}

-- Under the sizes of what stands before `on`, a refusal in `on` is.
pub before_on : (on : List Lexeme) → Excuses (sizes_before on) (λ n s. length s ≤ length on)
before_on on = lifted_excuses most_inside (λ n r. Beyond on r) _ (λ n x r l h. h) (λ l x r. absurd (omega arith))

exactly : {A : Type 0} {a : A} {r : List Lexeme} {x : Answer A} → Nearly (λ n s. ⊥) a r x → x ≡ took a r
exactly exact = refl
exactly (excused z) = absurd z

pub tokens_accepted_exactly : TokensAcceptedExactly
unfolding TokensAcceptedExactly
tokens_accepted_exactly i ps = (λ e. (goes_took (rw e at (viable_text 0 i))).1, λ h. exactly (complete_text strictly i h))

pub one_reading : Unambiguous
unfolding Unambiguous TokensAcceptedExactly
one_reading i ps qs a b = let x = (tokens_accepted_exactly i ps).1 a in let y = (tokens_accepted_exactly i qs).1 b in cc

-- A text of bytes says the policies that the reader finds in its tokens, and no others.
pub says_exactly : (text : List ℕ) (ps : List Policy) → (read_text (tokens_of text) ≡ took ps []) ↔ SaysPolicies text ps
unfolding TokensAcceptedExactly
says_exactly text ps = (
  λ e. record { tokens = tokens_of text; listed = tokens_stand text; belongs = (tokens_accepted_exactly (tokens_of text) ps).0 e },
  λ s. rw (tokens_are text s.listed) ((tokens_accepted_exactly s.tokens ps).1 s.belongs),
)

-- and one list of them
pub says_once : (text : List ℕ) (ps qs : List Policy) → SaysPolicies text ps → SaysPolicies text qs → ps ≡ qs
says_once text ps qs a b = let x = (says_exactly text ps).1 a in let y = (says_exactly text qs).1 b in cc
