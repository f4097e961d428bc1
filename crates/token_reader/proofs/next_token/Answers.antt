-- `token_reader::next_token` meets its contract: the blanks' end from `start` on is the blanks' end from `at` on. Assumes nothing.
use mathlib.Core.Path.{◌≡◌, ◌∙◌}
use mathlib.Core.Bool.{true}
use Prim.Native.Nat.{ℕ, ◌<◌}
use native.Mathlib.Omega.{arith}
use lib.ListN.{length, get_or}
use Rattle.tokens.specs.Runs.{is_of}
use Rattle.tokens.specs.declared.classes.Sort.TheVariants.{Blanks}
use Rattle.tokens.proofs.EntryLaws.{blank_here, blanks_end}
use Rattle.tokens.proofs.ReadLaws.{after_blanks}
use Rattle.tokens.proofs.RunLaws.{goes_on}
use Rattle.token_reader.proofs.next_token.Goals as goal

pub overflow_add-start : goal.overflow_add-start
overflow_add-start c =
    let byte : (k : ℕ) → get_or c.args.text.now k 0 < 256 = λ k. omega (arith, c.type_inv.text k) in
    let blank : (c.loop-entry.start < length c.args.text.now) × (is_of Blanks (get_or c.args.text.now c.loop-entry.start 0) ≡ true) = blank_here c.args.text.now c.loop-entry.start _ (byte c.loop-entry.start) c.loop-entry.invariant.3 c.loop-entry-test.true in
    omega (arith, blank.0)

pub loop-entry-smaller : goal.loop-entry-smaller
loop-entry-smaller c =
    let byte : (k : ℕ) → get_or c.args.text.now k 0 < 256 = λ k. omega (arith, c.type_inv.text k) in
    let blank : (c.loop-entry.start < length c.args.text.now) × (is_of Blanks (get_or c.args.text.now c.loop-entry.start 0) ≡ true) = blank_here c.args.text.now c.loop-entry.start _ (byte c.loop-entry.start) c.loop-entry.invariant.3 c.loop-entry-test.true in
    omega (arith, blank.0)

pub loop-entry-preserved : goal.loop-entry-preserved
loop-entry-preserved c =
    let byte : (k : ℕ) → get_or c.args.text.now k 0 < 256 = λ k. omega (arith, c.type_inv.text k) in
    let blank : (c.loop-entry.start < length c.args.text.now) × (is_of Blanks (get_or c.args.text.now c.loop-entry.start 0) ≡ true) = blank_here c.args.text.now c.loop-entry.start _ (byte c.loop-entry.start) c.loop-entry.invariant.3 c.loop-entry-test.true in
    let h = blank in
    (goes_on Blanks c.args.text.now c.loop-entry.start h.0 h.1 ∙ c.loop-entry.invariant.0, omega arith, omega (arith, h.0), c.entry_at-entry-in-loop-entry.ensures)

pub returns : goal.returns
returns c =
    let byte : (k : ℕ) → get_or c.args.text.now k 0 < 256 = λ k. omega (arith, c.type_inv.text k) in
    let loop = c.loop-entry in
    let read = after_blanks c.args.text.now c.args.at loop.start _ c.requires
    (blanks_end c.args.text.now loop.start _ (byte loop.start) loop.invariant.3 c.loop-entry-test.false ∙ loop.invariant.0) c.token_from.ensures in
    record { is = read.0; lies = read.1 }
