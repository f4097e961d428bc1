-- `operands::lists::literal_listed` meets its contract. Assumes nothing.
use Rattle.operands.proofs.ListLaws.{no_string, a_string}
use Rattle.operands.proofs.OperandLaws.{string_placed}
use Rattle.operands.proofs.lists.literal_listed.Goals as goal

pub returns-then-o-ne-STRING : goal.returns-then-o-ne-STRING
returns-then-o-ne-STRING c = no_string _ _ _ c.if-o-ne-STRING.true

pub quoted-requires : goal.quoted-requires
quoted-requires c = string_placed _ _ c.if-o-ne-STRING.false c.requires.literal_placed

pub in_list-requires : goal.in_list-requires
in_list-requires c = c.requires.by_index

pub returns : goal.returns
returns c = a_string _ _ _ _ _ c.if-o-ne-STRING.false c.quoted.ensures c.in_list.ensures
