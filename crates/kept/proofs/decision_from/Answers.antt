-- `kept::decision_from` meets its contract: notes and mark of the policies met are right for this row, and of those that are not to be met already were; the notes of
-- the policies still to be met are right for the row before. Assumes nothing.
use mathlib.Core.Path.{◌≡◌, sym, ap, ◌∙◌, subst}
use mathlib.Core.Bool.{true, false}
use mathlib.Core.List.{List}
use Prim.Native.Nat.{ℕ, suc, ◌-◌, ◌^◌, ◌<◌, ◌≤◌}
use native.Mathlib.Nat.{lt_of_lt_of_le, one-le-pow, pow-le-pow_right}
use native.Mathlib.Omega.{arith}
use borrow.Author.Rules.{rules}
use lib.Bits.{and_le_l}
use lib.ListN.{length, get_or}
use Rattle.grammar.specs.Policies.{Policy}
use Rattle.table.specs.Recorded.{recorded}
use Rattle.stored.specs.ReadBack.{policies_at}
use Rattle.views.specs.Rows.{row_view}
use Rattle.views.specs.Places.{kept_heads}
use Rattle.views.proofs.PlacedLaws.{stands_placed, same_view}
use Rattle.placing.specs.Said.{policy_words, words_of}
use Rattle.meaning.specs.Targets.{Request}
use Rattle.meaning.specs.Decisions.{under, satisfied, Numbered}
use Rattle.meaning.proofs.WordLaws.{many_words}
use Rattle.marks.specs.Marks.{is_set}
use Rattle.marks.proofs.Bits.{lowest_some, lowest_set, set_below, taken_fits, numbered_there}
use Rattle.marks.proofs.ByMarks.{permits_words}
use Rattle.depths.specs.Looks.{own_of, end_at, policy_ending, PolicyEnds}
use Rattle.kept.specs.Notes.{Kept, sat_by}
use Rattle.kept.proofs.Noting.{Halfway, none_met_yet, one_met, all_met, all_clear, still_clear, bit_below, sat_here, sat_where, note_holds}
use Rattle.kept.proofs.decision_from.Goals as goal

-- ---- the needs
pub overflow_sub-mark : goal.overflow_sub-mark
overflow_sub-mark c = and_le_l _ _

pub invariant_of-row : goal.invariant_of-row
invariant_of-row c = record { stands = ∣ stands_placed c.requires.places_of _ c.requires.row_stands ∣₁ }

pub loop-left-init : goal.loop-left-init
loop-left-init c =
    let underway = c.requires.underway in (
      c.requires.notes_len,
      underway.late.below,
      (let b = underway.below in omega arith),
      all_clear _ _,
      λ q e k.
          none_met_yet _ _ _ _ _ _ q _ _ k.carried.before _ _ k.carried.six c.requires.chosen_there.six k.carried.alike c.requires.depths _ _ _ _ c.requires.policies_value c.requires.policies_le_most_policies underway.late k.carried.noted
          k.carried.told,
    )

pub overflow_sub-i : goal.overflow_sub-i
overflow_sub-i c =
    let number : ℕ = c.lowest-number.result in
    let one : 1 ≤ number = rw c.lowest-number.ensures (lowest_some c.loop-left.left c.loop-left-test.true) in
    one

pub bounds-looks-i : goal.bounds-looks-i
bounds-looks-i c =
    let number : ℕ = c.lowest-number.result in
    let set : is_set c.loop-left.left (number - 1) ≡ true = let small = lt_of_lt_of_le c.loop-left.invariant.1 (pow-le-pow_right (omega arith) c.requires.policies_le_most_policies) in
    ap (λ (m : ℕ). is_set c.loop-left.left (m - 1)) c.lowest-number.ensures ∙ lowest_set c.loop-left.left c.loop-left-test.true small in
    let here : number - 1 < c.args.walk.policies = set_below c.args.walk.policies (number - 1) c.loop-left.left c.loop-left.invariant.1 set in
    let few : number - 1 < 64 = let h = here in omega (arith, c.requires.policies_le_most_policies) in
    omega (arith, few)

pub bounds-choices-column : goal.bounds-choices-column
bounds-choices-column c =
    let number : ℕ = c.lowest-number.result in
    let set : is_set c.loop-left.left (number - 1) ≡ true = let small = lt_of_lt_of_le c.loop-left.invariant.1 (pow-le-pow_right (omega arith) c.requires.policies_le_most_policies) in
    ap (λ (m : ℕ). is_set c.loop-left.left (m - 1)) c.lowest-number.ensures ∙ lowest_set c.loop-left.left c.loop-left-test.true small in
    let here : number - 1 < c.args.walk.policies = set_below c.args.walk.policies (number - 1) c.loop-left.left c.loop-left.invariant.1 set in
    let few : number - 1 < 64 = let h = here in omega (arith, c.requires.policies_le_most_policies) in
    let own-small : own_of c.args.looks.now number < 6 = c.requires.depths.few (number - 1) few in
    omega (arith, c.wide-column.ensures, own-small)

pub overflow_add-i : goal.overflow_add-i
overflow_add-i c =
    let number : ℕ = c.lowest-number.result in
    let set : is_set c.loop-left.left (number - 1) ≡ true = let small = lt_of_lt_of_le c.loop-left.invariant.1 (pow-le-pow_right (omega arith) c.requires.policies_le_most_policies) in
    ap (λ (m : ℕ). is_set c.loop-left.left (m - 1)) c.lowest-number.ensures ∙ lowest_set c.loop-left.left c.loop-left-test.true small in
    let here : number - 1 < c.args.walk.policies = set_below c.args.walk.policies (number - 1) c.loop-left.left c.loop-left.invariant.1 set in
    let few : number - 1 < 64 = let h = here in omega (arith, c.requires.policies_le_most_policies) in
    omega (arith, few)

pub bounds-looks-i-in-loop-left : goal.bounds-looks-i-in-loop-left
bounds-looks-i-in-loop-left c =
    let number : ℕ = c.lowest-number.result in
    let set : is_set c.loop-left.left (number - 1) ≡ true = let small = lt_of_lt_of_le c.loop-left.invariant.1 (pow-le-pow_right (omega arith) c.requires.policies_le_most_policies) in
    ap (λ (m : ℕ). is_set c.loop-left.left (m - 1)) c.lowest-number.ensures ∙ lowest_set c.loop-left.left c.loop-left-test.true small in
    let here : number - 1 < c.args.walk.policies = set_below c.args.walk.policies (number - 1) c.loop-left.left c.loop-left.invariant.1 set in
    let few : number - 1 < 64 = let h = here in omega (arith, c.requires.policies_le_most_policies) in
    omega (arith, few)

pub overflow_add-aim : goal.overflow_add-aim
overflow_add-aim c =
    let number : ℕ = c.lowest-number.result in
    let set : is_set c.loop-left.left (number - 1) ≡ true = let small = lt_of_lt_of_le c.loop-left.invariant.1 (pow-le-pow_right (omega arith) c.requires.policies_le_most_policies) in
    ap (λ (m : ℕ). is_set c.loop-left.left (m - 1)) c.lowest-number.ensures ∙ lowest_set c.loop-left.left c.loop-left-test.true small in
    let here : number - 1 < c.args.walk.policies = set_below c.args.walk.policies (number - 1) c.loop-left.left c.loop-left.invariant.1 set in
    let few : number - 1 < 64 = let h = here in omega (arith, c.requires.policies_le_most_policies) in
    omega (arith, few)

pub bounds-looks-i-in-loop-left-2 : goal.bounds-looks-i-in-loop-left-2
bounds-looks-i-in-loop-left-2 c =
    let number : ℕ = c.lowest-number.result in
    let set : is_set c.loop-left.left (number - 1) ≡ true = let small = lt_of_lt_of_le c.loop-left.invariant.1 (pow-le-pow_right (omega arith) c.requires.policies_le_most_policies) in
    ap (λ (m : ℕ). is_set c.loop-left.left (m - 1)) c.lowest-number.ensures ∙ lowest_set c.loop-left.left c.loop-left-test.true small in
    let here : number - 1 < c.args.walk.policies = set_below c.args.walk.policies (number - 1) c.loop-left.left c.loop-left.invariant.1 set in
    let few : number - 1 < 64 = let h = here in omega (arith, c.requires.policies_le_most_policies) in
    omega (arith, few)

pub met-satisfied-requires : goal.met-satisfied-requires
met-satisfied-requires c =
    let number : ℕ = c.lowest-number.result in
    let among : List Policy = policies_at c.args.table.now c.args.walk.entries in
    let one : 1 ≤ number = rw c.lowest-number.ensures (lowest_some c.loop-left.left c.loop-left-test.true) in
    let set : is_set c.loop-left.left (number - 1) ≡ true = let small = lt_of_lt_of_le c.loop-left.invariant.1 (pow-le-pow_right (omega arith) c.requires.policies_le_most_policies) in
    ap (λ (m : ℕ). is_set c.loop-left.left (m - 1)) c.lowest-number.ensures ∙ lowest_set c.loop-left.left c.loop-left-test.true small in
    let here : number - 1 < c.args.walk.policies = set_below c.args.walk.policies (number - 1) c.loop-left.left c.loop-left.invariant.1 set in
    let few : number - 1 < 64 = let h = here in omega (arith, c.requires.policies_le_most_policies) in
    let some-policy : (r : Policy) × Numbered number r among = let h = here in
    let r = numbered_there among (number - 1) (omega (arith, c.requires.policies_value)) in
    let e : suc (number - 1) ≡ number = let o = one in omega arith in
    (r.0, subst (λ (k : ℕ). Numbered k r.0 among) e r.1) in
    let ends : PolicyEnds c.args.text.now c.args.table.now (end_at c.args.looks.now (number - 1)) some-policy.0 = c.requires.ends.ended number some-policy.0 some-policy.1 in
    let own-small : own_of c.args.looks.now number < 6 = c.requires.depths.few (number - 1) few in
    let pre = c.requires in
    record {
      i_lt_most_policies = (few, pre.chosen_there.small c.wide-column.result (omega (arith, c.wide-column.ensures, own-small)), c.loop-left.invariant.0);
      last_ending = ends.last;
    }

pub bit_at-bit-requires : goal.bit_at-bit-requires
bit_at-bit-requires c =
    let number : ℕ = c.lowest-number.result in
    let set : is_set c.loop-left.left (number - 1) ≡ true = let small = lt_of_lt_of_le c.loop-left.invariant.1 (pow-le-pow_right (omega arith) c.requires.policies_le_most_policies) in
    ap (λ (m : ℕ). is_set c.loop-left.left (m - 1)) c.lowest-number.ensures ∙ lowest_set c.loop-left.left c.loop-left-test.true small in
    let here : number - 1 < c.args.walk.policies = set_below c.args.walk.policies (number - 1) c.loop-left.left c.loop-left.invariant.1 set in
    let few : number - 1 < 64 = let h = here in omega (arith, c.requires.policies_le_most_policies) in
    few

pub overflow_add-mark : goal.overflow_add-mark
overflow_add-mark c =
    let number : ℕ = c.lowest-number.result in
    let set : is_set c.loop-left.left (number - 1) ≡ true = let small = lt_of_lt_of_le c.loop-left.invariant.1 (pow-le-pow_right (omega arith) c.requires.policies_le_most_policies) in
    ap (λ (m : ℕ). is_set c.loop-left.left (m - 1)) c.lowest-number.ensures ∙ lowest_set c.loop-left.left c.loop-left-test.true small in
    let clear : is_set c.loop-left.mark (number - 1) ≡ false = c.loop-left.invariant.3 (number - 1) set in
    let here : number - 1 < c.args.walk.policies = set_below c.args.walk.policies (number - 1) c.loop-left.left c.loop-left.invariant.1 set in
    let below = bit_below c.met-satisfied.result c.args.walk.policies (number - 1) c.loop-left.mark here c.loop-left.invariant.2 clear in
    let most : 2 ^ c.args.walk.policies ≤ 2 ^ 64 = pow-le-pow_right (omega arith) c.requires.policies_le_most_policies in
    rw (c.bit_if-mark.ensures, c.bit_at-bit.ensures) (record { fits = lt_of_lt_of_le below most })

pub overflow_sub-left : goal.overflow_sub-left
overflow_sub-left c =
    let number : ℕ = c.lowest-number.result in
    let set : is_set c.loop-left.left (number - 1) ≡ true = let small = lt_of_lt_of_le c.loop-left.invariant.1 (pow-le-pow_right (omega arith) c.requires.policies_le_most_policies) in
    ap (λ (m : ℕ). is_set c.loop-left.left (m - 1)) c.lowest-number.ensures ∙ lowest_set c.loop-left.left c.loop-left-test.true small in
    rw c.bit_at-bit.ensures (taken_fits (number - 1) c.loop-left.left set)

pub loop-left-smaller : goal.loop-left-smaller
loop-left-smaller c =
    let number : ℕ = c.lowest-number.result in
    let set : is_set c.loop-left.left (number - 1) ≡ true = let small = lt_of_lt_of_le c.loop-left.invariant.1 (pow-le-pow_right (omega arith) c.requires.policies_le_most_policies) in
    ap (λ (m : ℕ). is_set c.loop-left.left (m - 1)) c.lowest-number.ensures ∙ lowest_set c.loop-left.left c.loop-left-test.true small in
    let fits = taken_fits (number - 1) c.loop-left.left set in
    let some = one-le-pow (number - 1) 2 (omega arith) in
    omega (arith, c.bit_at-bit.ensures)

pub loop-left-preserved : goal.loop-left-preserved
loop-left-preserved c =
    let number : ℕ = c.lowest-number.result in
    let among : List Policy = policies_at c.args.table.now c.args.walk.entries in
    let one : 1 ≤ number = rw c.lowest-number.ensures (lowest_some c.loop-left.left c.loop-left-test.true) in
    let set : is_set c.loop-left.left (number - 1) ≡ true = let small = lt_of_lt_of_le c.loop-left.invariant.1 (pow-le-pow_right (omega arith) c.requires.policies_le_most_policies) in
    ap (λ (m : ℕ). is_set c.loop-left.left (m - 1)) c.lowest-number.ensures ∙ lowest_set c.loop-left.left c.loop-left-test.true small in
    let clear : is_set c.loop-left.mark (number - 1) ≡ false = c.loop-left.invariant.3 (number - 1) set in
    let here : number - 1 < c.args.walk.policies = set_below c.args.walk.policies (number - 1) c.loop-left.left c.loop-left.invariant.1 set in
    let few : number - 1 < 64 = let h = here in omega (arith, c.requires.policies_le_most_policies) in
    let policy : Policy = policy_ending c.args.table.now (end_at c.args.looks.now (number - 1)) in
    let some-policy : (r : Policy) × Numbered number r among = let h = here in
    let r = numbered_there among (number - 1) (omega (arith, c.requires.policies_value)) in
    let e : suc (number - 1) ≡ number = let o = one in omega arith in
    (r.0, subst (λ (k : ℕ). Numbered k r.0 among) e r.1) in
    let ends : PolicyEnds c.args.text.now c.args.table.now (end_at c.args.looks.now (number - 1)) some-policy.0 = c.requires.ends.ended number some-policy.0 some-policy.1 in
    let numbered : Numbered number policy among = subst (λ (r : Policy). Numbered number r among) (sym ends.is) some-policy.1 in
    let own-small : own_of c.args.looks.now number < 6 = c.requires.depths.few (number - 1) few in
    let args = c.args in
    let pre = c.requires in
    let loop = c.loop-left in
    let inv = loop.invariant in
    let hit = c.met-satisfied.result in
    let i = number - 1 in
    let version = recorded args.table.now in
    let t = args.text.now in
    let s = args.s.now in
    let p = args.walk.p in
    let n = args.walk.n in
    let heads = kept_heads args.places.now in
    let values = args.values.now in
    let looks = args.looks.now in
    let chosen = pre.chosen_there in (
      c.met-satisfied.ensures.notes_len,
      omega (arith, inv.1),
      rw (c.bit_if-mark.ensures, c.bit_at-bit.ensures) (bit_below hit args.walk.policies i loop.mark here inv.2 clear),
      rw (c.bit_if-mark.ensures, c.bit_at-bit.ensures) (still_clear hit i loop.left loop.mark set clear inv.3),
      λ q e k.
          let half = inv.4 q e k in
          let met_so = sat_where version t s p n heads q values args.action.now policy e (k.aims.aimed number policy numbered) in
          let chosen_so : sat_by version t s p n heads q values (own_of looks number) policy (get_or args.choices.now c.wide-column.result 0)
          ≡ satisfied (under version (row_view s p n heads values)) q (policy_words t policy) =
          rw c.wide-column.ensures (sat_here version t s p n heads q args.choices.now values (own_of looks number) policy own-small chosen) in
          let is = c.met-satisfied.ensures.by_index (sat_by version t s p n heads q values (own_of looks number) policy) (rw (same_view pre.places_of values) (chosen_so ∙ met_so))
          (λ fresh. note_holds version t s p n heads q among looks k.carried.before values args.walk.from k.carried.six chosen.six k.carried.alike pre.depths number policy
          loop.notes numbered own-small (rw c.wide-other.ensures at fresh) (half.pending number policy numbered set)) in
          rw (c.bit_if-mark.ensures, c.bit_at-bit.ensures)
          (one_met version t s p n heads q among looks k.carried.before values loop.left loop.mark number _ policy one numbered set clear is (is.is ∙ chosen_so) half),
    )

pub returns : goal.returns
returns c =
    let args = c.args in
    let loop = c.loop-left in
    let t = args.text.now in
    let ps = policies_at args.table.now args.walk.entries in
    let none : loop.left ≡ 0 = let l = c.loop-left-test.false in omega arith in
    λ q e k.
    let half = subst (λ (x : ℕ). Halfway (recorded args.table.now) t args.s.now args.walk.p args.walk.n (kept_heads args.places.now) q ps args.looks.now k.carried.before args.values.now x loop.notes loop.mark) none (loop.invariant.4 q e k) in
    let below : loop.mark < 2 ^ length ps = rw (← c.requires.policies_value) loop.invariant.2 in
    let all = all_met (recorded args.table.now) t args.s.now args.walk.p args.walk.n (kept_heads args.places.now) q ps args.looks.now k.carried.before args.values.now loop.mark loop.notes below half in
    let m = all.0 in
    let many : length (words_of t ps) ≤ 64 = rw (many_words t ps, ← c.requires.policies_value) c.requires.policies_le_most_policies in
    let d = c.by_marks-d.ensures _ q (words_of t ps) many m (c.requires.underway.permits ∙ permits_words t ps) in
    record { is = λ i. record { d = d i; mark = m i }; noted = all.1; long = loop.invariant.0 }
