-- The strings, numbers and paths of a text's policies lie in the text, and what the table keeps of them fits its fields. Assumes nothing.
use mathlib.Core.Path.{◌≡◌}
use mathlib.Core.List.{List, []}
use Prim.Native.Nat.{ℕ, ◌≤◌, ◌<◌}
use native.Mathlib.Omega.{arith}
use lib.ListN.{length}
use Rattle.reading.specs.Lexemes.{tokens_of}
use Rattle.reading.specs.Reader.{took}
use Rattle.grammar.specs.Policies.{Span, Policy}
use Rattle.grammar.specs.Parser.{read_text}
use Rattle.grammar.specs.Promise.{TokensAcceptedExactly}
use Rattle.grammar.proofs.Exactly.{tokens_accepted_exactly}
use Rattle.placing.specs.Placed.{none_left, PoliciesPlaced, Lies}
use Rattle.placing.proofs.Standing.{all_from_text}
use Rattle.placing.proofs.Walk.{policies_walk}

pub policies_placed : (text : List ℕ) (ps : List Policy) → read_text (tokens_of text) ≡ took ps [] → PoliciesPlaced text ps
unfolding TokensAcceptedExactly
policies_placed text ps e = policies_walk ((tokens_accepted_exactly (tokens_of text) ps).0 e) (all_from_text text) (record { few = omega arith; each = none_left })

-- a place in a text of at most 8,192 bytes fits the two fields of an entry, of two bytes each
pub span_fits : {text : List ℕ} {s : Span} → Lies text s → length text ≤ 8192 → (s.start < 65536) × (s.end < 65536)
span_fits l h = let some = l.some in let high = l.high in (omega arith, omega arith)
