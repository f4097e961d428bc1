-- Bytes that are one number token are a number literal. Assumes nothing.
use mathlib.Core.Path.{◌≡◌}
use mathlib.Core.Bool.{true, ◌&&◌}
use mathlib.Core.List.{List}
use Prim.Native.Nat.{ℕ, ◌-◌, zero-le}
use native.Mathlib.Omega.{arith}
use borrow.Author.Tests.{eqb-true}
use lib.Dec.{eqb}
use lib.ListN.{length, take, drop}
use lib.Seq.{take_all}
use Rattle.numbers.specs.Literals.{IsNumber}
use Rattle.numbers.proofs.NumberTokens.{token_is_number}
use Rattle.tokens.specs.Tokens.{token_at}
use Rattle.tokens.specs.declared.reader.Token.{Token}
use Rattle.tokens.proofs.TokenLaws.{and_left, and_right}

pub whole_token : (text : List ℕ) (t : Token) → t ≡ token_at text 0 → (eqb t.kind 48 && eqb t.start 0 && eqb t.end (length text)) ≡ true → IsNumber text
whole_token text t e h =
    let both = and_left (eqb t.kind 48 && eqb t.start 0) (eqb t.end (length text)) h in
    let kind = eqb-true t.kind 48 (and_left (eqb t.kind 48) (eqb t.start 0) both) in
    let start = eqb-true t.start 0 (and_right (eqb t.kind 48) (eqb t.start 0) both) in
    let end = eqb-true t.end (length text) (and_right (eqb t.kind 48 && eqb t.start 0) (eqb t.end (length text)) h) in
    let n : IsNumber (take (t.end - t.start) (drop t.start text)) = rw e (token_is_number text 0 zero-le (rw e at kind)) in
    rw (start, end, take_all (length text - 0) text (omega arith)) at n
