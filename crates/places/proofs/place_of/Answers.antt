-- `places::place_of` meets its contract: from `i` on, the walk comes to the place. Assumes nothing.
use mathlib.Core.Path.{sym, ◌∙◌}
use borrow.Author.Rules.{rules}
use Rattle.slices.proofs.Parts.{tail_lent}
use Rattle.places.proofs.PlaceLaws.{from_the_first, walked_on, no_further}
use Rattle.places.proofs.place_of.Goals as goal

pub loop-i-init : goal.loop-i-init
loop-i-init c = (from_the_first _ _ _ _, search rules, search rules)

pub loop-i-preserved : goal.loop-i-preserved
loop-i-preserved c =
    let args = c.args in
    let k = c.loop-i.k in
    let p = c.loop-i.p in (
      walked_on args.text.now args.at c.loop-i.i k _ p _ _ (search rules) (search rules) (simp tail_lent at c.behind_byte-k.ensures) c.past_byte-p.ensures.is c.loop-i.invariant.0,
      search rules,
      search rules,
    )

pub returns : goal.returns
returns c = sym (no_further _ _ _ _ _ (search rules)) ∙ c.loop-i.invariant.0
