-- The readers of conditions meet their contracts. Assumes nothing.
use mathlib.Core.Path.{◌≡◌, refl, sym, ap, ◌∙◌}
use Prim.Native.Nat.{ℕ, ◌+◌, ◌-◌}
use native.Mathlib.Omega.{arith}
use Rattle.std.proofs.lemmas.Result.{err_from_is_err_and}
use Rattle.tokens.specs.Kinds as kinds
use Rattle.tokens.specs.Tokens.{token_at}
use Rattle.reading.specs.Lexemes.{stream}
use Rattle.reading.specs.Reader.{took, before, mapped, chain}
use Rattle.grammar.proofs.Steps.{conjunction_step, disjunction_step}
use Rattle.grammar.specs.Parser.{read_joined, read_negated, read_bracketed, read_conditional, read_condition as read_condition_spec, read_conjunction as read_conjunction_spec, read_disjunction as read_disjunction_spec}
use Rattle.grammar.specs.Policies.{not, both, either}
use Rattle.table.specs.Entries.{entry, tree_entries}
use Rattle.parts.proofs.Standing.{lowered, turned_bind}
use Rattle.parts.proofs.SoFar.{so_begins, so_mapped, so_read, so_put, so_done_put, so_ready, so_short, so_high, so_small}
use Rattle.leaves.proofs.Handed.{handed, handed_on, ready_on, next_later, free_small, next_lies, lost_as}
use Rattle.conditions.proofs.Forms.{negation_first, group_first, choice_first, flat_first}
use Rattle.conditions.proofs.Chains.{chain_begins, chain_ends, chain_turns, chain_lost, chain_small, chain_more, chain_smaller}
use Rattle.conditions.proofs.Nested.{group_open, group_closed, group_ends, choice_lost, choice_no_then, choice_then, choice_lost_then, choice_no_else, choice_else, choice_lost_else, choice_ends}
use Rattle.conditions.proofs.+condition_readers.Goals as goal

-- ---- one condition

pub read_condition-read_negation-requires : goal.read_condition-read_negation-requires
read_condition-read_negation-requires t c =
    let r = c.args.reader.now in
    let p = c.pass.ensures in
    let f : c.pass.new.self.free ≡ r.free = rw p refl in
    (omega (arith, c.decreases, c.if-depth-eq0.false), (ready_on p c.requires.0 (λ (z : r.next.kind ≡ 0). let k = c.in-33.is in omega arith) (omega (arith, f, c.requires.0.lies.low)), rw p c.requires.1))

pub read_condition-returns-in-33 : goal.read_condition-returns-in-33
read_condition-returns-in-33 t c =
    let r = c.args.reader.now in
    let s = r.text.now in
    let p = c.pass.ensures in
    handed (read_negated (read_condition_spec (c.args.depth - 1))) p (negation_first s r.next (token_at s r.next.end) refl c.requires.0.lies.high c.args.depth c.if-depth-eq0.false c.in-33.is)
    (omega (arith, next_later p c.requires.0.lies (λ (z : r.next.kind ≡ 0). let k = c.in-33.is in omega arith))) c.read_negation.ensures

pub read_condition-read_group-requires : goal.read_condition-read_group-requires
read_condition-read_group-requires t c =
    let r = c.args.reader.now in
    let p = c.pass-in-40.ensures in
    let f : c.pass-in-40.new.self.free ≡ r.free = rw p refl in
    (omega (arith, c.decreases, c.if-depth-eq0.false), (ready_on p c.requires.0 (λ (z : r.next.kind ≡ 0). let k = c.in-40.is in omega arith) (omega (arith, f, c.requires.0.lies.low)), rw p c.requires.1))

pub read_condition-returns-in-40 : goal.read_condition-returns-in-40
read_condition-returns-in-40 t c =
    let r = c.args.reader.now in
    let s = r.text.now in
    let p = c.pass-in-40.ensures in
    handed (read_bracketed (read_condition_spec (c.args.depth - 1))) p (group_first s r.next (token_at s r.next.end) refl c.requires.0.lies.high c.args.depth c.if-depth-eq0.false (λ (z : r.next.kind ≡ 33). let k = c.in-40.is in omega arith) c.in-40.is)
    (omega (arith, next_later p c.requires.0.lies (λ (z : r.next.kind ≡ 0). let k = c.in-40.is in omega arith))) c.read_group.ensures

pub read_condition-read_choice-requires : goal.read_condition-read_choice-requires
read_condition-read_choice-requires t c =
    let r = c.args.reader.now in
    let p = c.pass-in-214.ensures in
    let f : c.pass-in-214.new.self.free ≡ r.free = rw p refl in
    (omega (arith, c.decreases, c.if-depth-eq0.false), (ready_on p c.requires.0 (λ (z : r.next.kind ≡ 0). let k = c.in-214.is in omega arith) (omega (arith, f, c.requires.0.lies.low)), rw p c.requires.1))

pub read_condition-returns-in-214 : goal.read_condition-returns-in-214
read_condition-returns-in-214 t c =
    let r = c.args.reader.now in
    let s = r.text.now in
    let p = c.pass-in-214.ensures in
    handed (read_conditional (read_condition_spec (c.args.depth - 1))) p (choice_first s r.next (token_at s r.next.end) refl c.requires.0.lies.high c.args.depth c.if-depth-eq0.false (λ (z : r.next.kind ≡ 33). let k = c.in-214.is in omega arith) (λ (z : r.next.kind ≡ 40). let k = c.in-214.is in omega arith) c.in-214.is)
    (omega (arith, next_later p c.requires.0.lies (λ (z : r.next.kind ≡ 0). let k = c.in-214.is in omega arith))) c.read_choice.ensures

pub read_condition-returns-then-depth-eq0 : goal.read_condition-returns-then-depth-eq0
read_condition-returns-then-depth-eq0 t c =
    let r = c.args.reader.now in
    handed_on (ap (λ (d : ℕ). read_condition_spec d (stream r.text.now r.next)) c.if-depth-eq0.true) (omega arith) c.read_plain.ensures

pub read_condition-returns-in_default : goal.read_condition-returns-in_default
read_condition-returns-in_default t c =
    let r = c.args.reader.now in
    let s = r.text.now in
    handed_on (flat_first s r.next (token_at s r.next.end) refl c.requires.0.lies.high c.args.depth c.if-depth-eq0.false (λ (z : r.next.kind ≡ 33). omega arith) (λ (z : r.next.kind ≡ 40). omega arith) (λ (z : r.next.kind ≡ 214). omega arith))
    (omega arith) c.read_plain-in_default.ensures

-- ---- what holds one

pub read_negation-read_condition-requires : goal.read_negation-read_condition-requires
read_negation-read_condition-requires t c = (omega (arith, c.decreases), (record { lies = lowered (omega arith) c.requires.0.lies; small = c.requires.0.small }, c.requires.1))

pub read_negation-returns-in_err-read_condition : goal.read_negation-returns-in_err-read_condition
unfolding read_negated mapped
read_negation-returns-in_err-read_condition t c =
    let p = err_from_is_err_and c.from_residual.result c.from_residual.ensures.1 in
    rw (p.1, p.2) (lost_as c.in_err-read_condition.was (turned_bind _) c.read_condition.ensures)

pub read_negation-put-requires : goal.read_negation-put-requires
read_negation-put-requires t c = free_small c.read_condition.ensures c.in_ok-read_condition.was (omega (arith, c.requires.0.lies.low)) c.requires.0.small

pub read_negation-returns : goal.read_negation-returns
unfolding read_negated tree_entries
read_negation-returns t c =
    let r = c.args.reader.now in
    let inner = read_condition_spec c.args.depth in
    let k = so_read inner (λ v. took (not v)) (so_mapped not inner (so_begins r (mapped not inner) c.requires.0.lies)) c.read_condition.ensures {base' = r.next.start - 1 + 1} c.in_ok-read_condition.was (omega (arith, c.requires.0.lies.low)) in
    so_done_put (tree_entries r.free k.value) (entry 24 0 0) (not k.value) (so_put k.so c.put.ensures) refl (omega arith)

pub read_group-read_disjunction-requires : goal.read_group-read_disjunction-requires
read_group-read_disjunction-requires t c = (omega (arith, c.decreases), (record { lies = lowered (omega arith) c.requires.0.lies; small = c.requires.0.small }, c.requires.1))

pub read_group-returns-in_err-read_disjunction : goal.read_group-returns-in_err-read_disjunction
unfolding read_bracketed before mapped
read_group-returns-in_err-read_disjunction t c =
    let p = err_from_is_err_and c.from_residual.result c.from_residual.ensures.1 in
    rw (p.1, p.2) (lost_as c.in_err-read_disjunction.was (λ h. turned_bind _ (turned_bind _ h)) c.read_disjunction.ensures)

pub read_group-expect-requires : goal.read_group-expect-requires
read_group-expect-requires t c = next_lies c.read_disjunction.ensures c.in_ok-read_disjunction.was

pub read_group-returns-in_err-expect : goal.read_group-returns-in_err-expect
read_group-returns-in_err-expect t c =
    let p = err_from_is_err_and c.from_residual-in_err-expect.result c.from_residual-in_err-expect.ensures.1 in
    rw (p.1, p.2) (group_open (read_condition_spec c.args.depth) c.requires.0.lies c.read_disjunction.ensures c.in_ok-read_disjunction.was c.expect.ensures c.in_err-expect.was)

pub read_group-put-requires : goal.read_group-put-requires
read_group-put-requires t c =
    so_small (group_closed (read_condition_spec c.args.depth) c.requires.0.lies c.read_disjunction.ensures c.in_ok-read_disjunction.was c.expect.ensures c.in_ok-expect.was) c.requires.0.small (omega (arith, c.requires.0.lies.low))

pub read_group-returns : goal.read_group-returns
read_group-returns t c = group_ends (read_condition_spec c.args.depth) c.requires.0.lies c.read_disjunction.ensures c.in_ok-read_disjunction.was c.expect.ensures c.in_ok-expect.was c.put.ensures

-- ---- a choice

pub read_choice-read_condition-requires : goal.read_choice-read_condition-requires
read_choice-read_condition-requires t c = (omega (arith, c.decreases), (record { lies = lowered (omega arith) c.requires.0.lies; small = c.requires.0.small }, c.requires.1))

pub read_choice-returns-in_err-read_condition : goal.read_choice-returns-in_err-read_condition
read_choice-returns-in_err-read_condition t c =
    let p = err_from_is_err_and c.from_residual.result c.from_residual.ensures.1 in
    rw (p.1, p.2) (choice_lost (read_condition_spec c.args.depth) c.requires.0.lies c.read_condition.ensures c.in_err-read_condition.was)

pub read_choice-expect-requires : goal.read_choice-expect-requires
read_choice-expect-requires t c = next_lies c.read_condition.ensures c.in_ok-read_condition.was

pub read_choice-returns-in_err-expect : goal.read_choice-returns-in_err-expect
read_choice-returns-in_err-expect t c =
    let p = err_from_is_err_and c.from_residual-in_err-expect.result c.from_residual-in_err-expect.ensures.1 in
    rw (p.1, p.2) (choice_no_then (read_condition_spec c.args.depth) c.requires.0.lies c.read_condition.ensures c.in_ok-read_condition.was c.expect.ensures c.in_err-expect.was)

pub read_choice-read_condition-requires-2 : goal.read_choice-read_condition-requires-2
read_choice-read_condition-requires-2 t c =
    let k = choice_then (read_condition_spec c.args.depth) c.requires.0.lies c.read_condition.ensures c.in_ok-read_condition.was c.expect.ensures c.in_ok-expect.was in
    (omega (arith, c.decreases), (so_ready k c.requires.0.small (omega (arith, c.requires.0.lies.low)), so_short k c.requires.1))

pub read_choice-returns-in_err-read_condition-2 : goal.read_choice-returns-in_err-read_condition-2
read_choice-returns-in_err-read_condition-2 t c =
    let p = err_from_is_err_and c.from_residual-in_err-read_condition-2.result c.from_residual-in_err-read_condition-2.ensures.1 in
    rw (p.1, p.2) (choice_lost_then (read_condition_spec c.args.depth) c.requires.0.lies c.read_condition.ensures c.in_ok-read_condition.was c.expect.ensures c.in_ok-expect.was c.read_condition-2.ensures c.in_err-read_condition-2.was)

pub read_choice-expect-requires-2 : goal.read_choice-expect-requires-2
read_choice-expect-requires-2 t c = next_lies c.read_condition-2.ensures c.in_ok-read_condition-2.was

pub read_choice-returns-in_err-expect-2 : goal.read_choice-returns-in_err-expect-2
read_choice-returns-in_err-expect-2 t c =
    let p = err_from_is_err_and c.from_residual-in_err-expect-2.result c.from_residual-in_err-expect-2.ensures.1 in
    rw (p.1, p.2) (choice_no_else (read_condition_spec c.args.depth) c.requires.0.lies c.read_condition.ensures c.in_ok-read_condition.was c.expect.ensures c.in_ok-expect.was c.read_condition-2.ensures c.in_ok-read_condition-2.was c.expect-2.ensures c.in_err-expect-2.was)

pub read_choice-read_condition-requires-3 : goal.read_choice-read_condition-requires-3
read_choice-read_condition-requires-3 t c =
    let k = choice_else (read_condition_spec c.args.depth) c.requires.0.lies c.read_condition.ensures c.in_ok-read_condition.was c.expect.ensures c.in_ok-expect.was c.read_condition-2.ensures c.in_ok-read_condition-2.was c.expect-2.ensures c.in_ok-expect-2.was in
    (omega (arith, c.decreases), (so_ready k c.requires.0.small (omega (arith, c.requires.0.lies.low)), so_short k c.requires.1))

pub read_choice-returns-in_err-read_condition-3 : goal.read_choice-returns-in_err-read_condition-3
read_choice-returns-in_err-read_condition-3 t c =
    let p = err_from_is_err_and c.from_residual-in_err-read_condition-3.result c.from_residual-in_err-read_condition-3.ensures.1 in
    rw (p.1, p.2) (choice_lost_else (read_condition_spec c.args.depth) c.requires.0.lies c.read_condition.ensures c.in_ok-read_condition.was c.expect.ensures c.in_ok-expect.was c.read_condition-2.ensures c.in_ok-read_condition-2.was c.expect-2.ensures c.in_ok-expect-2.was c.read_condition-3.ensures c.in_err-read_condition-3.was)

pub read_choice-put-requires : goal.read_choice-put-requires
read_choice-put-requires t c =
    let k = choice_else (read_condition_spec c.args.depth) c.requires.0.lies c.read_condition.ensures c.in_ok-read_condition.was c.expect.ensures c.in_ok-expect.was c.read_condition-2.ensures c.in_ok-read_condition-2.was c.expect-2.ensures c.in_ok-expect-2.was in
    let x = so_ready k {n = c.expect-2.new.self.free} c.requires.0.small (omega (arith, c.requires.0.lies.low)) in
    free_small c.read_condition-3.ensures c.in_ok-read_condition-3.was x.lies.low x.small

pub read_choice-returns : goal.read_choice-returns
read_choice-returns t c = choice_ends (read_condition_spec c.args.depth) c.requires.0.lies c.read_condition.ensures c.in_ok-read_condition.was c.expect.ensures c.in_ok-expect.was c.read_condition-2.ensures c.in_ok-read_condition-2.was c.expect-2.ensures c.in_ok-expect-2.was c.read_condition-3.ensures c.in_ok-read_condition-3.was c.put.ensures

-- ---- chains

pub read_conjunction-read_condition-requires : goal.read_conjunction-read_condition-requires
read_conjunction-read_condition-requires t c = (omega (arith, c.decreases), c.requires)

pub read_conjunction-returns-in_err-read_condition : goal.read_conjunction-returns-in_err-read_condition
unfolding read_conjunction_spec read_joined chain
read_conjunction-returns-in_err-read_condition t c =
    let p = err_from_is_err_and c.from_residual.result c.from_residual.ensures.1 in
    rw (p.1, p.2) (lost_as c.in_err-read_condition.was (turned_bind _) c.read_condition.ensures)

pub read_conjunction-loop-reader-init : goal.read_conjunction-loop-reader-init
unfolding read_conjunction_spec read_joined chain
read_conjunction-loop-reader-init t c = chain_begins c.requires.0.lies refl c.read_condition.ensures c.in_ok-read_condition.was

pub read_conjunction-pass-requires : goal.read_conjunction-pass-requires
read_conjunction-pass-requires t c = so_high c.loop-reader.invariant.so

pub read_conjunction-read_condition-requires-in-loop-reader : goal.read_conjunction-read_condition-requires-in-loop-reader
read_conjunction-read_condition-requires-in-loop-reader t c =
    let k = chain_turns c.loop-reader.invariant (conjunction_step c.args.depth) (omega arith) c.loop-reader-test.true c.pass.ensures in
    (omega (arith, c.decreases), (so_ready k c.requires.0.small (omega (arith, c.requires.0.lies.low)), so_short k c.requires.1))

pub read_conjunction-returns-in_err-read_condition-2 : goal.read_conjunction-returns-in_err-read_condition-2
read_conjunction-returns-in_err-read_condition-2 t c =
    let p = err_from_is_err_and c.from_residual-in_err-read_condition-2.result c.from_residual-in_err-read_condition-2.ensures.1 in
    rw (p.1, p.2) (chain_lost c.loop-reader.invariant (conjunction_step c.args.depth) (omega arith) c.loop-reader-test.true c.pass.ensures c.read_condition-in-loop-reader.ensures c.in_err-read_condition-2.was)

pub read_conjunction-put-requires : goal.read_conjunction-put-requires
read_conjunction-put-requires t c =
    chain_small c.loop-reader.invariant (conjunction_step c.args.depth) (omega arith) c.loop-reader-test.true c.pass.ensures c.read_condition-in-loop-reader.ensures c.in_ok-read_condition-2.was c.requires.0.small c.requires.0.lies.low

pub read_conjunction-loop-reader-smaller : goal.read_conjunction-loop-reader-smaller
read_conjunction-loop-reader-smaller t c =
    chain_smaller c.loop-reader.invariant (conjunction_step c.args.depth) (omega arith) c.loop-reader-test.true c.pass.ensures c.read_condition-in-loop-reader.ensures c.in_ok-read_condition-2.was c.put.ensures

pub read_conjunction-loop-reader-preserved : goal.read_conjunction-loop-reader-preserved
unfolding tree_entries
read_conjunction-loop-reader-preserved t c =
    chain_more c.loop-reader.invariant (conjunction_step c.args.depth) (omega arith) c.loop-reader-test.true c.pass.ensures c.read_condition-in-loop-reader.ensures c.in_ok-read_condition-2.was c.put.ensures (λ l v. refl)

pub read_conjunction-returns : goal.read_conjunction-returns
read_conjunction-returns t c = chain_ends c.loop-reader.invariant (conjunction_step c.args.depth) c.loop-reader-test.false

pub read_disjunction-read_conjunction-requires : goal.read_disjunction-read_conjunction-requires
read_disjunction-read_conjunction-requires t c = (omega (arith, c.decreases), c.requires)

pub read_disjunction-returns-in_err-read_conjunction : goal.read_disjunction-returns-in_err-read_conjunction
unfolding read_disjunction_spec read_joined chain
read_disjunction-returns-in_err-read_conjunction t c =
    let p = err_from_is_err_and c.from_residual.result c.from_residual.ensures.1 in
    rw (p.1, p.2) (lost_as c.in_err-read_conjunction.was (turned_bind _) c.read_conjunction.ensures)

pub read_disjunction-loop-reader-init : goal.read_disjunction-loop-reader-init
unfolding read_disjunction_spec read_joined chain
read_disjunction-loop-reader-init t c = chain_begins c.requires.0.lies refl c.read_conjunction.ensures c.in_ok-read_conjunction.was

pub read_disjunction-pass-requires : goal.read_disjunction-pass-requires
read_disjunction-pass-requires t c = so_high c.loop-reader.invariant.so

pub read_disjunction-read_conjunction-requires-in-loop-reader : goal.read_disjunction-read_conjunction-requires-in-loop-reader
read_disjunction-read_conjunction-requires-in-loop-reader t c =
    let k = chain_turns c.loop-reader.invariant (disjunction_step c.args.depth) (omega arith) c.loop-reader-test.true c.pass.ensures in
    (omega (arith, c.decreases), (so_ready k c.requires.0.small (omega (arith, c.requires.0.lies.low)), so_short k c.requires.1))

pub read_disjunction-returns-in_err-read_conjunction-2 : goal.read_disjunction-returns-in_err-read_conjunction-2
read_disjunction-returns-in_err-read_conjunction-2 t c =
    let p = err_from_is_err_and c.from_residual-in_err-read_conjunction-2.result c.from_residual-in_err-read_conjunction-2.ensures.1 in
    rw (p.1, p.2) (chain_lost c.loop-reader.invariant (disjunction_step c.args.depth) (omega arith) c.loop-reader-test.true c.pass.ensures c.read_conjunction-in-loop-reader.ensures c.in_err-read_conjunction-2.was)

pub read_disjunction-put-requires : goal.read_disjunction-put-requires
read_disjunction-put-requires t c =
    chain_small c.loop-reader.invariant (disjunction_step c.args.depth) (omega arith) c.loop-reader-test.true c.pass.ensures c.read_conjunction-in-loop-reader.ensures c.in_ok-read_conjunction-2.was c.requires.0.small c.requires.0.lies.low

pub read_disjunction-loop-reader-smaller : goal.read_disjunction-loop-reader-smaller
read_disjunction-loop-reader-smaller t c =
    chain_smaller c.loop-reader.invariant (disjunction_step c.args.depth) (omega arith) c.loop-reader-test.true c.pass.ensures c.read_conjunction-in-loop-reader.ensures c.in_ok-read_conjunction-2.was c.put.ensures

pub read_disjunction-loop-reader-preserved : goal.read_disjunction-loop-reader-preserved
unfolding tree_entries
read_disjunction-loop-reader-preserved t c =
    chain_more c.loop-reader.invariant (disjunction_step c.args.depth) (omega arith) c.loop-reader-test.true c.pass.ensures c.read_conjunction-in-loop-reader.ensures c.in_ok-read_conjunction-2.was c.put.ensures (λ l v. refl)

pub read_disjunction-returns : goal.read_disjunction-returns
read_disjunction-returns t c = chain_ends c.loop-reader.invariant (disjunction_step c.args.depth) c.loop-reader-test.false
