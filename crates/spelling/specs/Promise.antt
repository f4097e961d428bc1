-- What is promised of printed policies: read again, they say themselves. Definitions only.
use Rattle.std.specs.Prelude.{◌≡◌, ◌↔◌, Bool, List, [], map, ℕ}
use Rattle.grammar.specs.Policies.{Policy, PolicyOf}
use Rattle.grammar.specs.Grammar.{SaysPolicies}
use Rattle.placing.specs.Said.{Word, words_of}
use Rattle.spelling.specs.Layout.{WrittenToken, laid_out, WellWritten}
use Rattle.spelling.specs.Printed.{PlainToken, plainly, policies_tokens, printed_by}
use Rattle.spelling.specs.Printable.{PrintablePolicies}

-- A text says policies with these words.
pub record SaysWords (text : List ℕ) (ws : List (PolicyOf Word)) : Type 0 where
  pub policies : List Policy
  pub says : SaysPolicies text policies
  pub words : words_of text policies ≡ ws

-- Policies that keep the limits, printed with any blanks that keep their tokens apart, are read as these policies.
unfoldable pub PrintedIsSaid : Type 0
PrintedIsSaid = (xs : List WrittenToken) (ws : List (PolicyOf Word)) → PrintablePolicies ws → map plainly xs ≡ policies_tokens ws → WellWritten xs []
    → SaysWords (laid_out xs) ws

-- So they are where a test says between which tokens no blank stands.
unfoldable pub PrintedByIsSaid : Type 0
PrintedByIsSaid = (hugs : PlainToken → PlainToken → Bool) (ws : List (PolicyOf Word)) → PrintablePolicies ws → SaysWords (printed_by hugs ws) ws

-- And what a text says keeps the limits, so that it can be printed.
unfoldable pub SaidIsPrintable : Type 0
SaidIsPrintable = (text : List ℕ) (ps : List Policy) → SaysPolicies text ps → PrintablePolicies (words_of text ps)

-- Some text says policies with these words.
pub record SaidSomewhere (ws : List (PolicyOf Word)) : Type 0 where
  pub text : List ℕ
  pub says : SaysWords text ws

-- So the limits are kept by exactly the policies that some text says.
unfoldable pub PrintableExactly : Type 0
PrintableExactly = (ws : List (PolicyOf Word)) → PrintablePolicies ws ↔ SaidSomewhere ws
