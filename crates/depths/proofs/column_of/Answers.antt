-- `depths::column_of` meets its contract. Assumes nothing.
use mathlib.Core.Path.{◌∙◌}
use Rattle.depths.specs.Columns.{is_attribute}
use Rattle.depths.proofs.Naming.{column_is, no_column, path_lies}
use borrow.Author.Rules.{rules}
use Rattle.depths.proofs.column_of.Goals as goal

pub slice_bounds-column_naming-count : goal.slice_bounds-column_naming-count
unfolding is_attribute
slice_bounds-column_naming-count c = (path_lies c.args.text.now c.args.x c.if-x-start.true).0

pub slice_bounds-column_naming-start : goal.slice_bounds-column_naming-start
unfolding is_attribute
slice_bounds-column_naming-start c = (path_lies c.args.text.now c.args.x c.if-x-start.true).0

pub slice_bounds-column_naming-end : goal.slice_bounds-column_naming-end
unfolding is_attribute
slice_bounds-column_naming-end c = (path_lies c.args.text.now c.args.x c.if-x-start.true).1

pub column_naming-requires : goal.column_naming-requires
column_naming-requires c = c.requires

pub returns-then-x-start : goal.returns-then-x-start
unfolding is_attribute
returns-then-x-start c = c.column_naming.ensures ∙ column_is c.args.text.now _ _ _ c.args.x c.if-x-start.true _ c.root_by-root.ensures

pub returns : goal.returns
unfolding is_attribute
returns c = no_column c.args.text.now _ _ _ c.args.x c.if-x-start.false
