-- `policies::read_all` meets its contract: the policies so far are read, and the rest is what is read from here on; each policy takes of the text. Assumes nothing.
use mathlib.Core.Path.{◌≡◌, refl, ◌∙◌, ap}
use native.Mathlib.Omega.{arith}
use borrow.Author.Rules.{rules}
use Prim.Native.Nat.{ℕ}
use lib.ListN.{length}
use Rattle.grammar.specs.Parser.{no_policy}
use Rattle.parts.specs.Answers.{turned_away}
use Rattle.parts.proofs.SoFar.{so_high, so_ready, so_short}
use Rattle.policies.proofs.Texts.{at_start, ended, stopped, begun, broken, further, smaller}
use Rattle.policies.proofs.read_all.Goals as goal

pub loop-policies-init : goal.loop-policies-init
loop-policies-init c = at_start _ c.next_token.ensures.is c.next_token.ensures.lies refl

pub returns-then-t-eq-END_OF_TEXT : goal.returns-then-t-eq-END_OF_TEXT
returns-then-t-eq-END_OF_TEXT c = ended c.loop-policies.invariant refl refl (search rules) c.if-not-effect-policies.true c.if-t-eq-END_OF_TEXT.true

pub returns-then-not-effect-policies : goal.returns-then-not-effect-policies
unfolding no_policy
returns-then-not-effect-policies c =
    stopped c.loop-policies.invariant c.if-not-effect-policies.true c.if-t-eq-END_OF_TEXT.false
    (c.turned_away.ensures ∙ ap (λ (n : ℕ). turned_away (length c.args.text.now) n c.loop-policies.reader.next) c.no_policy.ensures)

pub pass-requires : goal.pass-requires
pass-requires c = so_high c.loop-policies.invariant.so

pub read_policy-requires : goal.read_policy-requires
read_policy-requires c =
    let s = begun c.loop-policies.invariant c.if-not-effect-policies.false c.pass.ensures in
    (so_ready s (omega (arith, c.requires)) (omega arith), so_short s c.requires)

pub returns-in-Err : goal.returns-in-Err
returns-in-Err c = broken c.loop-policies.invariant c.if-not-effect-policies.false c.pass.ensures c.read_policy.ensures c.in-Err.is c.turned_away-in-Err.ensures

pub loop-policies-smaller : goal.loop-policies-smaller
loop-policies-smaller c = smaller c.loop-policies.invariant c.if-not-effect-policies.false c.pass.ensures c.read_policy.ensures c.in_default.is

pub loop-policies-preserved : goal.loop-policies-preserved
loop-policies-preserved c = further c.loop-policies.invariant c.if-not-effect-policies.false c.pass.ensures c.read_policy.ensures c.in_default.is
