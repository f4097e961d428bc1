-- `places::judge` meets its contract: what ends at the quote is the string, and there is one answer to whether it is UTF-8. Assumes nothing.
use mathlib.Core.Path.{◌≡◌, refl, sym, ◌∙◌, ap}
use mathlib.Core.Bool.{Bool}
use mathlib.Core.List.{List}
use Prim.Native.Nat.{ℕ}
use Rattle.slices.specs.Decides.{Decides}
use Rattle.slices.proofs.Decided.{one_answer}
use Rattle.utf8.specs.Characters.{Utf8}
use Rattle.utf8.specs.Reading.{utf8}
use Rattle.utf8.proofs.Readings.{utf8_decides}
use Rattle.places.specs.Places.{up_to_quote}
use Rattle.places.proofs.judge.Goals as goal

-- an answer to whether the part before the quote is UTF-8 is the test of the string
tested : (rest part : List ℕ) (r : Bool) → part ≡ up_to_quote rest → Decides (Utf8 part) r → utf8 (up_to_quote rest) ≡ r
tested rest part r e d = ap utf8 (sym e) ∙ one_answer (utf8 part) r (utf8_decides part) d

pub returns-then-is_utf8 : goal.returns-then-is_utf8
returns-then-is_utf8 c = rw (tested _ _ _ c.quote_in.ensures.is c.is_utf8.ensures ∙ c.if-is_utf8.true) refl

pub returns-else-is_utf8 : goal.returns-else-is_utf8
returns-else-is_utf8 c = rw (tested _ _ _ c.quote_in.ensures.is c.is_utf8.ensures ∙ c.if-is_utf8.false) refl
