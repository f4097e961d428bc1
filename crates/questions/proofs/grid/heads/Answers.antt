-- `questions::grid::heads` meets its contract: the first `i` cells have their places, and the others 0. Assumes nothing.
use Rattle.std.specs.Prelude.{Some}
use Prim.Native.Nat.{ℕ, ◌<◌, ◌≤◌, ◌-◌}
use lib.ListN.{length, get_or, get_or-replicate, length-set}
use mathlib.Core.Path.{◌≡◌, refl, sym, ◌∙◌, ap}
use native.Mathlib.Omega.{arith}
use Rattle.bags.proofs.ReadLaws.{many_done, many_last}
use Rattle.bags.specs.Reading.{many, end_place}
use Rattle.questions.proofs.PlaceLaws.{first_of, first_none, fill_more, at_number}
use Rattle.questions.specs.Columns.{column_end}
use Rattle.questions.specs.Questions.{head_of}
use Rattle.questions.proofs.grid.heads.Goals as goal

pub loop-i-init : goal.loop-i-init
loop-i-init c = (many_done _ _ _ (omega arith), refl, (λ k h. get_or-replicate 6 k 0 0 h ∙ first_none (head_of c.args.s.now c.args.at) k), omega arith)

pub next-next-requires : goal.next-next-requires
next-next-requires c = at_number _ c.args.n c.loop-i.i _ _ _ c.loop-i-test.true c.requires.by_index.1 c.loop-i.invariant.0

pub loop-i-preserved : goal.loop-i-preserved
loop-i-preserved c = (
  many_last _ _ _ _ c.loop-i.invariant.0 ∙ c.next-next.ensures,
  simp length-set c.loop-i.invariant.1,
  fill_more 6 (head_of c.args.s.now c.args.at) c.loop-i.starts c.loop-i.i _ (omega arith) (sym (ap end_place c.loop-i.invariant.0)) c.loop-i.invariant.2,
  omega arith,
)

pub returns : goal.returns
returns c =
    let e : c.loop-i.i ≡ c.args.n = omega arith in
    λ k h. c.loop-i.invariant.2 k h ∙ ap (λ (n : ℕ). first_of n (head_of c.args.s.now c.args.at) k) e
