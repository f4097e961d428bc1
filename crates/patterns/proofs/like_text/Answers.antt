-- `patterns::like_text` meets its contract. The invariant: the pattern matches the string exactly when what is left of it matches what is left of the string. Assumes nothing.
use Rattle.patterns.proofs.Trials.{star_step, star_at, text_end, text_past, text_here, text_on}
use Rattle.patterns.proofs.Texts.{by_bytes, ascii_admits, ascii_step}
use Rattle.patterns.specs.Like.{star, Admits}
use Rattle.patterns.specs.Steps.{Stepped}
use Rattle.utf8.proofs.Counting.{ascii_byte, ascii_rest}
use Rattle.utf8.specs.Reading.{point}
use Rattle.slices.proofs.Decided.{no_to, refuted, carried}
use Rattle.slices.proofs.Parts.{tail_lent}
use lib.ListN.{length, get_or, drop}
use Prim.Native.Nat.{ℕ, ◌<◌}
use mathlib.Core.Path.{◌≡◌}
use mathlib.Core.List.{List}
use mathlib.Core.Logic.Iff
use native.Mathlib.Omega.{arith}
use Rattle.patterns.proofs.like_text.Invariants.{Met}
use Rattle.patterns.proofs.like_text.Goals as goal

met-on : {pattern string : List ℕ} {p s e f : ℕ} → Met pattern string p s → p < length pattern → (get_or pattern p 0 ≡ star → ⊥) → Stepped pattern p e → Stepped string s f
    → Admits (point (drop p pattern)) (point (drop s string)) → Met pattern string e f
met-on {pattern} {string} {p} {s} m hp n g k a = record {
  p_in = g.high;
  s_in = k.high;
  p_good = g.good;
  s_good = k.good;
  left = Iff.trans m.left (text_on pattern string p s hp m.p_good n g k a);
}

pub loop-p-init : goal.loop-p-init
loop-p-init c = record { p_in = omega arith; s_in = omega arith; p_good = c.requires.0; s_good = c.requires.1; left = Iff.rfl }

pub after_star-requires : goal.after_star-requires
after_star-requires c = rw (tail_lent, tail_lent) ((star_step _ _ c.loop-p-test.true c.loop-p.invariant.p_good c.if-x-eq42.true).good, c.loop-p.invariant.s_good, λ e. ascii_rest _ c.loop-p.s (c.requires.2 e))

pub returns-then-x-eq42 : goal.returns-then-x-eq42
returns-then-x-eq42 c = carried c.loop-p.invariant.left (rw (star_at _ _ c.loop-p-test.true c.loop-p.invariant.p_good c.if-x-eq42.true) (simp tail_lent at c.after_star.ensures))

pub returns-then-s-string : goal.returns-then-s-string
returns-then-s-string c = carried c.loop-p.invariant.left (no_to (text_past _ c.args.string.now _ c.loop-p.s c.loop-p-test.true c.loop-p.invariant.p_good c.if-x-eq42.false (omega arith)))

pub admits_character-requires : goal.admits_character-requires
admits_character-requires c = (c.loop-p-test.true, c.loop-p.invariant.p_good, omega arith, c.loop-p.invariant.s_good)

pub returns-then-not-admits_character : goal.returns-then-not-admits_character
returns-then-not-admits_character c = carried c.loop-p.invariant.left (no_to (text_here _ c.args.string.now _ c.loop-p.s c.loop-p-test.true c.loop-p.invariant.p_good c.if-x-eq42.false (omega arith) c.loop-p.invariant.s_good (refuted c.admits_character.ensures c.if-not-admits_character.true)))

pub character_end-p-requires : goal.character_end-p-requires
character_end-p-requires c = (c.loop-p-test.true, c.loop-p.invariant.p_good)

pub character_end-s-requires : goal.character_end-s-requires
character_end-s-requires c = (omega arith, c.loop-p.invariant.s_good)

pub loop-p-smaller-then-wide : goal.loop-p-smaller-then-wide
loop-p-smaller-then-wide c = omega (arith, c.character_end-p.ensures.low, c.character_end-p.ensures.high)

pub loop-p-preserved-then-wide : goal.loop-p-preserved-then-wide
loop-p-preserved-then-wide c = met-on c.loop-p.invariant c.loop-p-test.true c.if-x-eq42.false c.character_end-p.ensures c.character_end-s.ensures (c.admits_character.ensures.sound c.if-not-admits_character.false)

pub admits-requires : goal.admits-requires
admits-requires c = tt

pub returns-then-not-admits : goal.returns-then-not-admits
returns-then-not-admits c =
    let string = c.args.string.now in
    let some : c.loop-p.s < length string = omega arith in
    let narrow = ascii_byte _ _ (c.requires.2 c.if-wide.false) some in
    carried c.loop-p.invariant.left (no_to (text_here _ string _ c.loop-p.s c.loop-p-test.true c.loop-p.invariant.p_good c.if-x-eq42.false some c.loop-p.invariant.s_good
    (refuted (by_bytes _ string _ c.loop-p.s c.loop-p-test.true c.loop-p.invariant.p_good some c.loop-p.invariant.s_good narrow c.admits.ensures) c.if-not-admits.true)))

pub loop-p-preserved : goal.loop-p-preserved
loop-p-preserved c =
    let string = c.args.string.now in
    let some : c.loop-p.s < length string = omega arith in
    let narrow = ascii_byte _ _ (c.requires.2 c.if-wide.false) some in
    let agrees = c.if-not-admits.false in
    let d = by_bytes _ string _ c.loop-p.s c.loop-p-test.true c.loop-p.invariant.p_good some c.loop-p.invariant.s_good narrow c.admits.ensures in
    met-on c.loop-p.invariant c.loop-p-test.true c.if-x-eq42.false
    (ascii_step _ _ c.loop-p-test.true c.loop-p.invariant.p_good (ascii_admits (c.admits.ensures.sound agrees) narrow))
    (ascii_step _ _ some c.loop-p.invariant.s_good narrow)
    (d.sound agrees)

pub returns : goal.returns
returns c = carried c.loop-p.invariant.left (text_end _ c.args.string.now _ c.loop-p.s c.loop-p-test.false c.loop-p.invariant.s_in c.loop-p.invariant.s_good)
