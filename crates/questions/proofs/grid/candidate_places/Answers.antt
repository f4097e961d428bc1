-- `questions::grid::candidate_places` meets its contract: the first `j` cells have their places, and the others 0. Assumes nothing.
use Rattle.std.specs.Prelude.{Some}
use Prim.Native.Nat.{ℕ, ◌<◌, ◌≤◌, ◌-◌}
use lib.ListN.{length, get_or, get_or-replicate, length-set}
use mathlib.Core.Path.{◌≡◌, refl, sym, ◌∙◌, ap}
use native.Mathlib.Omega.{arith}
use Rattle.bags.proofs.ReadLaws.{many_done, many_last}
use Rattle.bags.specs.Reading.{many, end_place}
use Rattle.questions.proofs.PlaceLaws.{first_of, first_none, fill_more, at_number}
use Rattle.questions.specs.Columns.{candidate_end}
use Rattle.questions.proofs.grid.candidate_places.Goals as goal

pub loop-j-init : goal.loop-j-init
loop-j-init c = (many_done _ _ _ (omega arith), refl, (λ k h. get_or-replicate 8 k 0 0 h ∙ first_none (λ j. end_place (many j (candidate_end c.args.s.now) c.args.at)) k), omega arith)

pub next-next-requires : goal.next-next-requires
next-next-requires c = at_number _ c.args.n c.loop-j.j _ _ _ c.loop-j-test.true c.requires.by_index.1 c.loop-j.invariant.0

pub loop-j-preserved : goal.loop-j-preserved
loop-j-preserved c = (
  many_last _ _ _ _ c.loop-j.invariant.0 ∙ c.next-next.ensures,
  simp length-set c.loop-j.invariant.1,
  fill_more 8 (λ j. end_place (many j (candidate_end c.args.s.now) c.args.at)) c.loop-j.cells c.loop-j.j _ (omega arith) (sym (ap end_place c.loop-j.invariant.0)) c.loop-j.invariant.2,
  omega arith,
)

pub returns : goal.returns
returns c =
    let e : c.loop-j.j ≡ c.args.n = omega arith in
    λ k h. c.loop-j.invariant.2 k h ∙ ap (λ (n : ℕ). first_of n (λ j. end_place (many j (candidate_end c.args.s.now) c.args.at)) k) e
