-- `targets::matching::action_matches` meets its contract. The invariant: the action is among the strings exactly if it is among those left. Assumes nothing.
use native.Mathlib.Omega.{arith}
use Rattle.targets.proofs.MatchLaws.{among_at, every_action, one_action, each_listed, each_on, string_lies, found_here, not_here, none_found}
use Prim.Native.Nat.{◌+◌, ◌-◌, ◌<◌, ◌≤◌}
use mathlib.Core.Path.{◌≡◌, refl, sym, ◌∙◌}
use Rattle.targets.proofs.matching.action_matches.Goals as goal

pub returns-then-x-eq-BARE_ACTION : goal.returns-then-x-eq-BARE_ACTION
returns-then-x-eq-BARE_ACTION c = every_action _ _ _ _ _ c.if-x-eq-BARE_ACTION.true

pub loop-e-init : goal.loop-e-init
loop-e-init c =
    let all : c.args.end - 1 - (c.args.end - c.args.x.first - 1) ≡ c.args.x.first = omega (arith, c.requires.room) in
    (refl, rw all (each_listed _ c.args.action.now _ _ _ c.if-x-eq-BARE_ACTION.false c.requires.placed))

pub is_quoted-requires : goal.is_quoted-requires
is_quoted-requires c = let some : 0 < c.args.end - 1 - c.loop-e.e = omega arith in string_lies _ c.args.action.now _ _ _ some c.loop-e.invariant.1 _ c.entry_in-literal.ensures

pub returns-then-is_quoted : goal.returns-then-is_quoted
returns-then-is_quoted c =
    let some : 0 < c.args.end - 1 - c.loop-e.e = omega arith in
    let all : c.args.end - 1 - (c.args.end - c.args.x.first - 1) ≡ c.args.x.first = omega (arith, c.requires.room) in
    found_here _ _ _ _ _ some c.loop-e.invariant.1 _ c.entry_in-literal.ensures (sym c.is_quoted.ensures ∙ c.if-is_quoted.true) ∙ c.loop-e.invariant.0 ∙ rw all (one_action _ _ _ _ _ c.if-x-eq-BARE_ACTION.false)

pub loop-e-preserved : goal.loop-e-preserved
loop-e-preserved c =
    let some : 0 < c.args.end - 1 - c.loop-e.e = omega arith in
    let less : c.args.end - 1 - (c.loop-e.e + 1) ≡ c.args.end - 1 - c.loop-e.e - 1 = omega arith in (
      rw less (not_here _ _ _ _ _ some c.loop-e.invariant.1 _ c.entry_in-literal.ensures (sym c.is_quoted.ensures ∙ c.if-is_quoted.false) ∙ c.loop-e.invariant.0),
      rw less (each_on _ c.args.action.now _ _ _ some c.loop-e.invariant.1),
    )

pub returns : goal.returns
returns c =
    let all : c.args.end - 1 - (c.args.end - c.args.x.first - 1) ≡ c.args.x.first = omega (arith, c.requires.room) in
    none_found _ _ _ _ _ (omega arith) ∙ c.loop-e.invariant.0 ∙ rw all (one_action _ _ _ _ _ c.if-x-eq-BARE_ACTION.false)
