-- `lookups::bytes::same_bytes` meets its contract. The invariant: the bytes passed are the same in both. Assumes nothing.
use Prim.Native.Nat.{ℕ, ◌*◌, ◌<◌}
use borrow.Author.Rules.{rules}
use borrow.Author.Tests.{not-true, not-false}
use mathlib.Core.Path.{◌≡◌}
use native.Mathlib.Omega.{arith}
use Rattle.bags.specs.Reading.{byte}
use Rattle.slices.proofs.Equal.{same_is}
use Rattle.lookups.proofs.WordLaws.{four_other, four_more, fours_same}
use Rattle.lookups.proofs.bytes.same_bytes.Given as goal

abbrev pub invariant-loop-n : goal.invariant-loop-n
invariant-loop-n l = (k : ℕ) → k < 4 * l.n → byte l.a k ≡ byte l.b k
