-- `lookups::bytes::same_four` meets its contract: four bytes are one number's. Assumes nothing.
use native.Mathlib.Omega.{arith}
use Rattle.lookups.proofs.WordLaws.{four_decides}
use Rattle.lookups.proofs.bytes.same_four.Goals as goal

pub returns : goal.returns
returns c = four_decides c.args.a.now c.args.b.now c.args.i _ _ (λ k. omega (arith, c.type_inv.a k)) (λ k. omega (arith, c.type_inv.b k)) c.four_from.ensures c.four_from-2.ensures
