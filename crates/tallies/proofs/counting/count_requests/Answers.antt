-- `tallies::counting::count_requests` meets its contract: the groups of the requests passed stand in the counts, and zeros behind them. Assumes nothing.
use Rattle.tallies.proofs.Groups.{filled_none, filled_lent, filled_more, filled_all}
use Rattle.tallies.proofs.Refusing.{none_wrong}
use Rattle.tallies.proofs.Lending.{requests_found}
use Rattle.tallies.specs.Tallies.{first_wrong}
use Rattle.tallies.specs.Lent.{requests_of}
use Rattle.pages.proofs.Tallying.{group_long}
use lib.ListN.{length, take, drop, length-replicate}
use native.Mathlib.Omega.{arith}
use Prim.Native.Nat.{ℕ, ◌+◌, ◌-◌, ◌*◌}
use mathlib.Core.Path.{◌≡◌, sym, ap, ◌∙◌}
use Rattle.tallies.proofs.counting.count_requests.Goals as goal

pub loop-k-init : goal.loop-k-init
loop-k-init c =
    let z : c.args.many - 0 ≡ c.args.many = omega arith in
    (omega arith, omega arith, rw z c.requires.requests_value, rw (z, c.requires.counts_value) (filled_none _ (λ q. group_long _ _) _))

pub request_at-spans-requires : goal.request_at-spans-requires
request_at-spans-requires c = c.loop-k.invariant.1

pub overflow_mul-start : goal.overflow_mul-start
overflow_mul-start c = omega (arith, c.requires.many_le_group_count)

pub overflow_add-end : goal.overflow_add-end
overflow_add-end c = omega (arith, c.requires.many_le_group_count)

pub slice_bounds-count_request-end-in-loop-k-3 : goal.slice_bounds-count_request-end-in-loop-k-3
slice_bounds-count_request-end-in-loop-k-3 c = omega (arith, c.loop-k.invariant.3.whole, c.requires.many_le_group_count)

pub count_request-requires : goal.count_request-requires
count_request-requires c =
    let l = c.loop-k in
    let e = requests_found _ _ c.request_at-spans.ensures (c.args.many - l.k) (omega arith) in
    let size : 68 * l.k + 68 - 68 * l.k ≡ 68 = omega arith in
    record {
      surveyed = c.requires.surveyed;
      resource_value = (none_wrong _ _ (sym (ap first_wrong e) ∙ l.invariant.2)).0;
      group_value = ap (λ (n : ℕ). take n (drop (68 * l.k) l.counts)) size ∙ filled_lent _ (λ q. group_long _ _) l.invariant.3 (omega (arith, c.requires.many_le_group_count));
      places_of = c.requires.places_of;
    }

pub loop-k-preserved : goal.loop-k-preserved
loop-k-preserved c =
    let l = c.loop-k in
    let f = c.request_at-spans.ensures in
    let many = c.args.many in
    let e = requests_found _ _ f (many - l.k) (omega arith) in
    let next : many - l.k - 1 ≡ many - (l.k + 1) = omega arith in
    let w = (none_wrong _ _ (sym (ap first_wrong e) ∙ l.invariant.2)).1 in (
      omega arith,
      f.resource_found.inside,
      rw next at w,
      rw next at (filled_more _ (λ q. group_long _ _) (rw e at l.invariant.3) (omega (arith, c.requires.many_le_group_count)) (68 * l.k + 68 - 68 * l.k) (omega arith) _ c.count_request.ensures),
    )

pub shape_of-counts : goal.shape_of-counts
shape_of-counts c = c.loop-k.invariant.3.whole ∙ sym (ap length c.requires.counts_value ∙ length-replicate {A = ℕ} 612 0)

pub returns : goal.returns
unfolding requests_of
returns c =
    let l = c.loop-k in
    let many = c.args.many in
    let last : many - l.k ≡ 0 = omega arith in
    filled_all _ (λ q. group_long _ _) (rw last at l.invariant.3) (omega (arith, c.requires.many_le_group_count))
