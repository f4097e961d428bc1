-- `targets::forms::typed` meets its contract: by the form, then by the name before the first colon. Assumes nothing.
use native.Mathlib.Omega.{arith}
use Rattle.targets.proofs.FormLaws.{too_long, no_id, its_type, kind_short, cut_there}
use Rattle.grammar.specs.Rules.{type_among}
use Rattle.parts.specs.Names.{types_of}
use mathlib.Core.Path.{◌∙◌, ap}
use borrow.Author.Rules.{rules}
use Rattle.targets.proofs.forms.typed.Goals as goal

pub returns-then-s-gt-MOST_REQUEST_BYTES : goal.returns-then-s-gt-MOST_REQUEST_BYTES
returns-then-s-gt-MOST_REQUEST_BYTES c = too_long _ _ c.if-s-gt-MOST_REQUEST_BYTES.true

pub overflow_add-colon : goal.overflow_add-colon
overflow_add-colon c = omega (arith, c.if-s-gt-MOST_REQUEST_BYTES.false, kind_short c.args.s.now, c.type_end-colon.ensures)

pub returns-then-s-colon : goal.returns-then-s-colon
returns-then-s-colon c = no_id _ _ (let e = c.type_end-colon.ensures in omega arith)

pub returns : goal.returns
returns c =
    c.type_number.ensures
    ∙ ap (type_among (types_of c.args.resource) 1) (cut_there _ _ c.type_end-colon.ensures)
    ∙ its_type _ _ c.if-s-gt-MOST_REQUEST_BYTES.false (let e = c.type_end-colon.ensures in omega arith)
