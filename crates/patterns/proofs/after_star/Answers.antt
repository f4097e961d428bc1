-- `patterns::after_star` meets its contract. The measure: what the run can still gain, and below that, as a second digit, what is left of the pattern. Assumes nothing.
use Rattle.patterns.proofs.Trials.{text_here, text_end, tried_none, tried_star, tried_one, tried_all, tried_past, tried_longer, tried_at_colon}
use Rattle.patterns.proofs.Texts.{by_bytes, ascii_admits, ascii_step}
use Rattle.patterns.proofs.LastStar.{lower_falls}
use Rattle.patterns.specs.Like.{Matches}
use Rattle.utf8.proofs.Counting.{ascii_byte}
use Rattle.utf8.specs.Reading.{points}
use Rattle.slices.proofs.Decided.{yes_to, no_to, refuted}
use lib.ListN.{length, drop}
use borrow.Author.Tests.{ne_eqb}
use Prim.Native.Nat.{◌<◌}
use native.Mathlib.Omega.{arith}
use Rattle.patterns.proofs.after_star.Goals as goal
use Rattle.patterns.proofs.after_star.Goals.{then-p-rest+else-x-eq42+else-s-string+then-wide+else-admits_character, then-p-rest+else-x-eq42+else-s-string+else-wide+else-admits, else-p-rest+else-s-string-2}

pub loop-p-init : goal.loop-p-init
loop-p-init c = tried_none c.requires.0 c.requires.1

pub loop-p-smaller-then-x-eq42 : goal.loop-p-smaller-then-x-eq42
loop-p-smaller-then-x-eq42 c = lower_falls _ _ _ _ _ (omega arith) (omega arith)

pub loop-p-preserved-then-x-eq42 : goal.loop-p-preserved-then-x-eq42
loop-p-preserved-then-x-eq42 c = tried_star c.loop-p.invariant c.if-p-rest.true c.if-x-eq42.true

pub returns-then-s-string : goal.returns-then-s-string
returns-then-s-string c = no_to (tried_past c.loop-p.invariant c.if-p-rest.true c.if-x-eq42.false (omega arith))

pub admits_character-requires : goal.admits_character-requires
admits_character-requires c = (c.if-p-rest.true, c.loop-p.invariant.p_good, omega arith, c.loop-p.invariant.s_good)

pub character_end-p-requires : goal.character_end-p-requires
character_end-p-requires c = (c.if-p-rest.true, c.loop-p.invariant.p_good)

pub character_end-s-requires : goal.character_end-s-requires
character_end-s-requires c = (omega arith, c.loop-p.invariant.s_good)

pub loop-p-smaller-then-admits_character : goal.loop-p-smaller-then-admits_character
loop-p-smaller-then-admits_character c = lower_falls _ _ _ _ _ (omega arith) (omega (arith, c.character_end-p.ensures.low, c.character_end-p.ensures.high))

pub loop-p-preserved-then-admits_character : goal.loop-p-preserved-then-admits_character
loop-p-preserved-then-admits_character c = tried_one c.loop-p.invariant c.character_end-p.ensures c.character_end-s.ensures (c.admits_character.ensures.sound c.if-admits_character.true)

pub admits-requires : goal.admits-requires
admits-requires c = tt

pub loop-p-smaller-then-admits : goal.loop-p-smaller-then-admits
loop-p-smaller-then-admits c = lower_falls _ _ _ _ _ (omega arith) (omega arith)

pub loop-p-preserved-then-admits : goal.loop-p-preserved-then-admits
loop-p-preserved-then-admits c =
    let string = c.args.string.now in
    let some : c.loop-p.s < length string = omega arith in
    let narrow = ascii_byte _ _ (c.requires.2 c.if-wide.false) some in
    let d = by_bytes _ string _ c.loop-p.s c.if-p-rest.true c.loop-p.invariant.p_good some c.loop-p.invariant.s_good narrow c.admits.ensures in
    tried_one c.loop-p.invariant
    (ascii_step _ _ c.if-p-rest.true c.loop-p.invariant.p_good (ascii_admits (c.admits.ensures.sound c.if-admits.true) narrow))
    (ascii_step _ _ some c.loop-p.invariant.s_good narrow)
    (d.sound c.if-admits.true)

pub returns-then-s-string-2 : goal.returns-then-s-string-2
returns-then-s-string-2 c = yes_to (tried_all c.loop-p.invariant c.if-p-rest.false c.if-s-string-2.true)

pub returns-then-string-run-eq58 : goal.returns-then-string-run-eq58
returns-then-string-run-eq58 c =
    let left_over : c.loop-p.s < length c.args.string.now =
    elim c.if-p-rest.branch [ then-p-rest+else-x-eq42+else-s-string+then-wide+else-admits_character w ↦ omega (arith, w.if-s-string.false) | then-p-rest+else-x-eq42+else-s-string+else-wide+else-admits w ↦ omega (arith, w.if-s-string.false) | else-p-rest+else-s-string-2 w ↦ omega (arith, w.if-s-string-2.false) ]
    in
    let string = c.args.string.now in
    let good = c.loop-p.invariant.s_good in
    let stuck : Matches (points (drop c.loop-p.p c.args.rest.now)) (points (drop c.loop-p.s string)) → ⊥ =
    elim c.if-p-rest.branch [
      | then-p-rest+else-x-eq42+else-s-string+then-wide+else-admits_character w ↦
          text_here _ string _ c.loop-p.s w.if-p-rest.true c.loop-p.invariant.p_good w.if-x-eq42.false left_over good (refuted w.admits_character.ensures w.if-admits_character.false)
      | then-p-rest+else-x-eq42+else-s-string+else-wide+else-admits w ↦
          text_here _ string _ c.loop-p.s w.if-p-rest.true c.loop-p.invariant.p_good w.if-x-eq42.false left_over good
          (
          refuted
          (
          by_bytes _ string _ c.loop-p.s w.if-p-rest.true c.loop-p.invariant.p_good left_over good (ascii_byte _ _ (c.requires.2 w.if-wide.false) left_over)
          w.admits.ensures
          )
          w.if-admits.false
          )
      | else-p-rest+else-s-string-2 w ↦ refuted (text_end _ string _ c.loop-p.s w.if-p-rest.false c.loop-p.invariant.s_in good) (ne_eqb _ _ w.if-s-string-2.false)
    ]
    in
    no_to (tried_at_colon c.loop-p.invariant stuck (omega (arith, left_over)) c.if-string-run-eq58.true)

pub loop-p-preserved : goal.loop-p-preserved
loop-p-preserved c =
    let left_over : c.loop-p.s < length c.args.string.now =
    elim c.if-p-rest.branch [ then-p-rest+else-x-eq42+else-s-string+then-wide+else-admits_character w ↦ omega (arith, w.if-s-string.false) | then-p-rest+else-x-eq42+else-s-string+else-wide+else-admits w ↦ omega (arith, w.if-s-string.false) | else-p-rest+else-s-string-2 w ↦ omega (arith, w.if-s-string-2.false) ]
    in
    let string = c.args.string.now in
    let good = c.loop-p.invariant.s_good in
    let stuck : Matches (points (drop c.loop-p.p c.args.rest.now)) (points (drop c.loop-p.s string)) → ⊥ =
    elim c.if-p-rest.branch [
      | then-p-rest+else-x-eq42+else-s-string+then-wide+else-admits_character w ↦
          text_here _ string _ c.loop-p.s w.if-p-rest.true c.loop-p.invariant.p_good w.if-x-eq42.false left_over good (refuted w.admits_character.ensures w.if-admits_character.false)
      | then-p-rest+else-x-eq42+else-s-string+else-wide+else-admits w ↦
          text_here _ string _ c.loop-p.s w.if-p-rest.true c.loop-p.invariant.p_good w.if-x-eq42.false left_over good
          (
          refuted
          (
          by_bytes _ string _ c.loop-p.s w.if-p-rest.true c.loop-p.invariant.p_good left_over good (ascii_byte _ _ (c.requires.2 w.if-wide.false) left_over)
          w.admits.ensures
          )
          w.if-admits.false
          )
      | else-p-rest+else-s-string-2 w ↦ refuted (text_end _ string _ c.loop-p.s w.if-p-rest.false c.loop-p.invariant.s_in good) (ne_eqb _ _ w.if-s-string-2.false)
    ]
    in
    tried_longer c.loop-p.invariant stuck (omega (arith, left_over)) c.if-string-run-eq58.false c.next_character-run.ensures
