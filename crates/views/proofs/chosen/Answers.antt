-- `views::chosen` meets its contract: the first `i` cells have their places, and the others 0. Assumes nothing.
use Prim.Native.Nat.{ℕ, ◌<◌, ◌≤◌, ◌-◌}
use lib.ListN.{length, get_or, get_or-replicate, length-set}
use mathlib.Core.List.{[]}
use mathlib.Core.Path.{◌≡◌, refl, ◌∙◌, ap}
use native.Mathlib.Omega.{arith}
use Rattle.questions.proofs.PlaceLaws.{first_of, first_none, fill_more}
use Rattle.views.proofs.chosen.Goals as goal

pub loop-i-init : goal.loop-i-init
loop-i-init c = (refl, (λ k h. get_or-replicate 6 k 0 0 h ∙ first_none (λ i. get_or (get_or c.args.grid i []) (get_or c.args.choices.now i 0) 0) k), omega arith)

pub overflow_cast-choice : goal.overflow_cast-choice
overflow_cast-choice c = omega (arith, c.requires.by_index c.loop-i.i (omega arith))

pub offset_bounds-grid-choice : goal.offset_bounds-grid-choice
offset_bounds-grid-choice c = omega (arith, c.requires.by_index c.loop-i.i (omega arith))

pub bounds-grid-choice : goal.bounds-grid-choice
bounds-grid-choice c = c.requires.by_index c.loop-i.i (omega arith)

pub loop-i-preserved : goal.loop-i-preserved
loop-i-preserved c = (
  simp length-set c.loop-i.invariant.0,
  fill_more 6 (λ i. get_or (get_or c.args.grid i []) (get_or c.args.choices.now i 0) 0) c.loop-i.values c.loop-i.i _ (omega arith) refl c.loop-i.invariant.1,
  omega arith,
)

pub returns : goal.returns
returns c =
    let e : c.loop-i.i ≡ c.args.n = omega arith in
    λ k h. c.loop-i.invariant.1 k h ∙ ap (λ (n : ℕ). first_of n (λ i. get_or (get_or c.args.grid i []) (get_or c.args.choices.now i 0) 0) k) e
