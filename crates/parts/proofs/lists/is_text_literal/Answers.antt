-- `parts::lists::is_text_literal` meets its contract: a literal by its string, or none. Assumes nothing.
use mathlib.Core.Path.{sym, ◌∙◌}
use borrow.Author.Rules.{rules}
use Rattle.grammar.specs.Rules.{is_literal}
use Rattle.grammar.specs.Parser.{is_text_of}
use Rattle.grammar.proofs.Completeness.{no_sort_of}
use Rattle.parts.proofs.lists.is_text_literal.Goals as goal

pub returns-then-is_literal : goal.returns-then-is_literal
unfolding is_text_of
returns-then-is_literal c = rw (sym c.is_literal.ensures ∙ c.if-is_literal.true) c.is_text.ensures

pub returns-else-is_literal : goal.returns-else-is_literal
returns-else-is_literal c = c.if-is_literal.false ∙ sym (no_sort_of is_literal _ (sym c.is_literal.ensures ∙ c.if-is_literal.false))
