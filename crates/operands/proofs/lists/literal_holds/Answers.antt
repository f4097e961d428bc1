-- `operands::lists::literal_holds` meets its contract. Assumes nothing.
use Rattle.operands.proofs.ListLaws.{literal_compares}
use Rattle.operands.proofs.OperandLaws.{string_placed}
use borrow.Author.Rules.{rules}
use Rattle.operands.proofs.lists.literal_holds.Goals as goal

pub literal_value-w-requires : goal.literal_value-w-requires
literal_value-w-requires c = c.requires

pub quoted-requires : goal.quoted-requires
quoted-requires c = string_placed _ _ c.if-o-eq-STRING.true c.requires

pub returns-then-o-eq-STRING : goal.returns-then-o-eq-STRING
returns-then-o-eq-STRING c = λ l. literal_compares _ _ _ _ _ _ _ _ c.literal_value-w.ensures (λ k. c.quoted.ensures) c.values_hold.ensures l

pub returns : goal.returns
returns c = λ l. literal_compares _ _ _ _ _ _ _ _ c.literal_value-w.ensures (λ k. absurd (c.if-o-eq-STRING.false k)) c.values_hold-2.ensures l
