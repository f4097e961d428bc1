-- Laws of what the ask program prints of a tally. Assumes nothing.
use mathlib.Core.Path.{◌≡◌, refl, sym, ap, ◌∙◌}
use mathlib.Core.Bool.{Bool, true, false}
use mathlib.Core.List.{List, [], ◌∷◌}
use Prim.Native.Nat.{ℕ, ◌+◌, ◌-◌, ◌≤◌, ◌<◌}
use native.Mathlib.Omega.{arith}
use borrow.Author.Tests.{eq-eqb, ne_eqb}
use lib.ListN.{length, get_or, take, drop, length-drop}
use lib.Seq.{take_all}
use Rattle.tallies.specs.Promise.{TallyCall, TallyRefused, no_request, too_many, no_question, by_request}
use Rattle.desk.specs.Answers.{compile_says, compile_leaves, tally_says}
use Rattle.desk.specs.Promises.{CompileAllows}
use Rattle.desk.specs.declared.DeskCompiled.{DeskCompiled}
use Rattle.desk.proofs.Promised.{demand_two, refusals}
use Rattle.ask.specs.Lines.{many_in, counted_for}

-- ---- a text that compiles

module _ {version : ℕ} {text table after : List ℕ} {c : DeskCompiled} (p : CompileAllows version text table after c) where
  -- the answer's refusal is the one of the definition
  as_said : c.refusal ≡ (compile_says version text table).refusal
  as_said = ap (λ (x : DeskCompiled). x.refusal) p.answered

  -- it has at most 64 policies
  pub policies_few : c.policies ≤ 64
  policies_few = rw p.answered (demand_two.policies_few version text table)

  -- ---- what is printed

  pub refused_counted : (question s : List ℕ) → 0 < c.refusal → c.refusal ≡ counted_for version text table question s
  unfolding counted_for
  refused_counted question s h = rw (ne_eqb (compile_says version text table).refusal 0 (λ e. omega (arith, as_said))) as_said

  tally_counted : (question s requests : List ℕ) (many : ℕ) {n : ℕ} → c.refusal ≤ 0 → many ≡ many_in s → requests ≡ drop 1 s
      → n ≡ tally_says text after question many requests → n ≡ counted_for version text table question s
  unfolding counted_for
  tally_counted question s requests many h m r e = rw (eq-eqb (compile_says version text table).refusal 0 (omega (arith, as_said))) (rw (m, r, p.table) at e)

  -- no bytes: no request
  pub none_counted : (question s : List ℕ) {n : ℕ} → c.refusal ≤ 0 → length s < 1 → n ≡ tally_says text after question 0 s → n ≡ counted_for version text table question s
  none_counted question [] h l e = tally_counted question [] [] 0 h refl refl e
  none_counted question (b ∷ s) h l e = absurd (omega arith)

  -- the requests stand behind their number
  pub some_counted : (question s : List ℕ) (many : ℕ) {n : ℕ} → c.refusal ≤ 0 → many ≡ many_in s
      → n ≡ tally_says text after question many (take (length s - 1) (drop 1 s)) → n ≡ counted_for version text table question s
  some_counted question s many h m e =
      tally_counted question s (take (length s - 1) (drop 1 s)) many h m (take_all (length s - 1) (drop 1 s) (omega (arith, length-drop 1 s))) e

-- ---- a tally that is not refused has at most eight requests

not_refused : (c : TallyCall) {number : ℕ} → TallyRefused c number → number ≡ 0 → c.many ≤ 8
not_refused c (no_request m) z = absurd (omega (arith, z))
not_refused c (too_many m) z = absurd (omega (arith, z))
not_refused c (no_question l m q) z = absurd (omega (arith, z))
not_refused c (by_request l m q r s) z = m

pub requests_few : (text table question requests : List ℕ) {many n : ℕ} → n ≡ tally_says text table question many requests → n ≤ 0 → many ≤ 8
requests_few text table question requests {many} e h =
    let c : TallyCall = record { text = text; table = table; question = question; many = many; requests = requests; counts = [] } in
    not_refused c ((refusals.tally_exactly c 0).0 (omega (arith, e))) refl
