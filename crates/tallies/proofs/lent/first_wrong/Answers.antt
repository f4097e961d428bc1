-- `tallies::lent::first_wrong` meets its contract: what was found so far, and what is found in the requests that are left. Assumes nothing.
use Rattle.tallies.proofs.Refusing.{found_here, found_on, found_none}
use Rattle.tallies.proofs.Lending.{requests_found, requests_none}
use Rattle.tallies.specs.Tallies.{some_asks, first_wrong}
use Rattle.meaning.specs.Targets.{Request}
use lib.ListN.{drop}
use native.Mathlib.Omega.{arith}
use Prim.Native.Nat.{◌+◌, ◌-◌}
use mathlib.Core.List.{List}
use mathlib.Core.Bool.{◌||◌}
use mathlib.Core.Path.{◌≡◌, refl, ap, ◌∙◌}
use Rattle.tallies.proofs.lent.first_wrong.Goals as goal

pub loop-init : goal.loop-init
loop-init c = let all : c.args.many - 0 ≡ c.args.many = omega arith in rw all (omega arith, refl, refl)

pub request_at-spans-requires : goal.request_at-spans-requires
request_at-spans-requires c = c.loop.invariant.0

pub form_at-form-requires : goal.form_at-form-requires
form_at-form-requires c = c.request_at-spans.ensures

pub returns-then-form-ne0 : goal.returns-then-form-ne0
returns-then-form-ne0 c =
    let e = requests_found _ _ c.request_at-spans.ensures (c.args.many - c.loop.counter) (omega arith) in
    found_here _ c.loop.asks _ _ (c.loop.invariant.1 ∙ ap (λ (qs : List Request). c.loop.asks || some_asks qs) e) (c.loop.invariant.2 ∙ ap first_wrong e) c.form_at-form.ensures c.if-form-ne0.true

pub loop-preserved : goal.loop-preserved
loop-preserved c =
    let e = requests_found _ _ c.request_at-spans.ensures (c.args.many - c.loop.counter) (omega arith) in
    let on = found_on _ c.loop.asks _ _ (c.loop.invariant.1 ∙ ap (λ (qs : List Request). c.loop.asks || some_asks qs) e) (c.loop.invariant.2 ∙ ap first_wrong e) c.form_at-form.ensures c.if-form-ne0.false in
    let next : c.args.many - (c.loop.counter + 1) ≡ c.args.many - c.loop.counter - 1 = omega arith in
    rw next (c.request_at-spans.ensures.resource_found.inside, on.0, on.1)

pub returns : goal.returns
returns c =
    let e = requests_none (c.args.many - c.loop.counter) (drop c.loop.at c.args.requests.now) (omega arith) in
    found_none _ c.loop.asks (c.loop.invariant.1 ∙ ap (λ (qs : List Request). c.loop.asks || some_asks qs) e) (c.loop.invariant.2 ∙ ap first_wrong e)
