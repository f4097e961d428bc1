-- `policies::read_policy` meets its contract: its four parts in order, and its own entry. Assumes nothing.
use mathlib.Core.List.{◌++◌}
use Prim.Native.Nat.{◌+◌}
use native.Mathlib.Omega.{arith}
use borrow.Author.Rules.{rules}
use Rattle.tokens.specs.Kinds as kinds
use Rattle.reading.specs.Reader.{took, need}
use Rattle.grammar.specs.Parser.{read_when as when_spec, read_policy as policy_spec}
use Rattle.table.specs.Entries.{condition_entries}
use Rattle.parts.proofs.SoFar.{gives_back, so_begins, so_as, so_stood, so_stopped, so_read, so_lost, so_lies, so_ready, so_short, so_small, so_free, so_put, so_done_put}
use Rattle.policies.proofs.Gates.{policy_with, first_part, second_part, third_part, after_first, after_second, after_third, policy_first, policy_second, policy_third, policy_last, target, policy_put}
use Rattle.policies.proofs.read_policy.Goals as goal

pub read_first-requires : goal.read_first-requires
read_first-requires c = c.requires.0

pub returns-in_err-read_first : goal.returns-in_err-read_first
returns-in_err-read_first c =
    let old = c.args.reader.now in
    let permits = c.args.permits in
    let begun = so_as _ (policy_first permits) (so_begins old (policy_spec permits) c.requires.0.lies) in
    rw (gives_back c.from_residual.result c.from_residual.ensures.1) (so_lost first_part (after_first permits) begun c.read_first.ensures c.in_err-read_first.was)

pub read_second-requires : goal.read_second-requires
read_second-requires c =
    let old = c.args.reader.now in
    let permits = c.args.permits in
    let begun = so_as _ (policy_first permits) (so_begins old (policy_spec permits) c.requires.0.lies) in
    let w₁ = so_read first_part (after_first permits) begun c.read_first.ensures {base' = old.next.start + 1} c.in_ok-read_first.was (omega arith) in
    so_ready w₁.so c.requires.0.small (let l = c.requires.0.lies.low in omega arith)

pub returns-in_err-read_second : goal.returns-in_err-read_second
returns-in_err-read_second c =
    let old = c.args.reader.now in
    let permits = c.args.permits in
    let begun = so_as _ (policy_first permits) (so_begins old (policy_spec permits) c.requires.0.lies) in
    let w₁ = so_read first_part (after_first permits) begun c.read_first.ensures {base' = old.next.start + 1} c.in_ok-read_first.was (omega arith) in
    rw (gives_back c.from_residual-in_err-read_second.result c.from_residual-in_err-read_second.ensures.1)
    (so_lost second_part (after_second permits w₁.value) (so_as _ (policy_second permits w₁.value) w₁.so) c.read_second.ensures c.in_err-read_second.was)

pub read_third-requires : goal.read_third-requires
read_third-requires c =
    let old = c.args.reader.now in
    let permits = c.args.permits in
    let begun = so_as _ (policy_first permits) (so_begins old (policy_spec permits) c.requires.0.lies) in
    let w₁ = so_read first_part (after_first permits) begun c.read_first.ensures {base' = old.next.start + 1} c.in_ok-read_first.was (omega arith) in
    let w₂ = so_read second_part (after_second permits w₁.value) (so_as _ (policy_second permits w₁.value) w₁.so) c.read_second.ensures {base' = old.next.start + 1} c.in_ok-read_second.was (omega arith) in
    so_ready w₂.so c.requires.0.small (let l = c.requires.0.lies.low in omega arith)

pub returns-in_err-read_third : goal.returns-in_err-read_third
returns-in_err-read_third c =
    let old = c.args.reader.now in
    let permits = c.args.permits in
    let begun = so_as _ (policy_first permits) (so_begins old (policy_spec permits) c.requires.0.lies) in
    let w₁ = so_read first_part (after_first permits) begun c.read_first.ensures {base' = old.next.start + 1} c.in_ok-read_first.was (omega arith) in
    let w₂ = so_read second_part (after_second permits w₁.value) (so_as _ (policy_second permits w₁.value) w₁.so) c.read_second.ensures {base' = old.next.start + 1} c.in_ok-read_second.was (omega arith) in
    rw (gives_back c.from_residual-in_err-read_third.result c.from_residual-in_err-read_third.ensures.1)
    (so_lost third_part (after_third permits w₁.value w₂.value) (so_as _ (policy_third permits w₁.value w₂.value) w₂.so) c.read_third.ensures c.in_err-read_third.was)

pub read_when-requires : goal.read_when-requires
read_when-requires c =
    let old = c.args.reader.now in
    let permits = c.args.permits in
    let begun = so_as _ (policy_first permits) (so_begins old (policy_spec permits) c.requires.0.lies) in
    let w₁ = so_read first_part (after_first permits) begun c.read_first.ensures {base' = old.next.start + 1} c.in_ok-read_first.was (omega arith) in
    let w₂ = so_read second_part (after_second permits w₁.value) (so_as _ (policy_second permits w₁.value) w₁.so) c.read_second.ensures {base' = old.next.start + 1} c.in_ok-read_second.was (omega arith) in
    let w₃ = so_read third_part (after_third permits w₁.value w₂.value) (so_as _ (policy_third permits w₁.value w₂.value) w₂.so) c.read_third.ensures {base' = old.next.start + 1} c.in_ok-read_third.was (omega arith) in
    (so_ready w₃.so c.requires.0.small (let l = c.requires.0.lies.low in omega arith), so_short w₃.so c.requires.1)

pub returns-in_err-read_when : goal.returns-in_err-read_when
returns-in_err-read_when c =
    let old = c.args.reader.now in
    let permits = c.args.permits in
    let begun = so_as _ (policy_first permits) (so_begins old (policy_spec permits) c.requires.0.lies) in
    let w₁ = so_read first_part (after_first permits) begun c.read_first.ensures {base' = old.next.start + 1} c.in_ok-read_first.was (omega arith) in
    let w₂ = so_read second_part (after_second permits w₁.value) (so_as _ (policy_second permits w₁.value) w₁.so) c.read_second.ensures {base' = old.next.start + 1} c.in_ok-read_second.was (omega arith) in
    let w₃ = so_read third_part (after_third permits w₁.value w₂.value) (so_as _ (policy_third permits w₁.value w₂.value) w₂.so) c.read_third.ensures {base' = old.next.start + 1} c.in_ok-read_third.was (omega arith) in
    rw (gives_back c.from_residual-in_err-read_when.result c.from_residual-in_err-read_when.ensures.1)
    (so_lost when_spec (λ t. need kinds.semicolon (took (policy_with permits w₁.value w₂.value w₃.value t))) (so_as _ (policy_last permits w₁.value w₂.value w₃.value) w₃.so)
    c.read_when.ensures c.in_err-read_when.was)

pub expect-requires : goal.expect-requires
expect-requires c =
    let old = c.args.reader.now in
    let permits = c.args.permits in
    let begun = so_as _ (policy_first permits) (so_begins old (policy_spec permits) c.requires.0.lies) in
    let w₁ = so_read first_part (after_first permits) begun c.read_first.ensures {base' = old.next.start + 1} c.in_ok-read_first.was (omega arith) in
    let w₂ = so_read second_part (after_second permits w₁.value) (so_as _ (policy_second permits w₁.value) w₁.so) c.read_second.ensures {base' = old.next.start + 1} c.in_ok-read_second.was (omega arith) in
    let w₃ = so_read third_part (after_third permits w₁.value w₂.value) (so_as _ (policy_third permits w₁.value w₂.value) w₂.so) c.read_third.ensures {base' = old.next.start + 1} c.in_ok-read_third.was (omega arith) in
    let w₄ = so_read when_spec (λ t. need kinds.semicolon (took (policy_with permits w₁.value w₂.value w₃.value t))) (so_as _ (policy_last permits w₁.value w₂.value w₃.value) w₃.so)
    c.read_when.ensures {base' = old.next.start} c.in_ok-read_when.was (omega arith) in
    so_lies w₄.so (omega arith)

pub returns-in_err-expect : goal.returns-in_err-expect
returns-in_err-expect c =
    let old = c.args.reader.now in
    let permits = c.args.permits in
    let begun = so_as _ (policy_first permits) (so_begins old (policy_spec permits) c.requires.0.lies) in
    let w₁ = so_read first_part (after_first permits) begun c.read_first.ensures {base' = old.next.start + 1} c.in_ok-read_first.was (omega arith) in
    let w₂ = so_read second_part (after_second permits w₁.value) (so_as _ (policy_second permits w₁.value) w₁.so) c.read_second.ensures {base' = old.next.start + 1} c.in_ok-read_second.was (omega arith) in
    let w₃ = so_read third_part (after_third permits w₁.value w₂.value) (so_as _ (policy_third permits w₁.value w₂.value) w₂.so) c.read_third.ensures {base' = old.next.start + 1} c.in_ok-read_third.was (omega arith) in
    let w₄ = so_read when_spec (λ t. need kinds.semicolon (took (policy_with permits w₁.value w₂.value w₃.value t))) (so_as _ (policy_last permits w₁.value w₂.value w₃.value) w₃.so)
    c.read_when.ensures {base' = old.next.start} c.in_ok-read_when.was (omega arith) in
    rw (gives_back c.from_residual-in_err-expect.result c.from_residual-in_err-expect.ensures.1) (so_stopped kinds.semicolon _ w₄.so c.expect.ensures c.in_err-expect.was)

pub put-requires : goal.put-requires
put-requires c =
    let old = c.args.reader.now in
    let permits = c.args.permits in
    let begun = so_as _ (policy_first permits) (so_begins old (policy_spec permits) c.requires.0.lies) in
    let w₁ = so_read first_part (after_first permits) begun c.read_first.ensures {base' = old.next.start + 1} c.in_ok-read_first.was (omega arith) in
    let w₂ = so_read second_part (after_second permits w₁.value) (so_as _ (policy_second permits w₁.value) w₁.so) c.read_second.ensures {base' = old.next.start + 1} c.in_ok-read_second.was (omega arith) in
    let w₃ = so_read third_part (after_third permits w₁.value w₂.value) (so_as _ (policy_third permits w₁.value w₂.value) w₂.so) c.read_third.ensures {base' = old.next.start + 1} c.in_ok-read_third.was (omega arith) in
    let w₄ = so_read when_spec (λ t. need kinds.semicolon (took (policy_with permits w₁.value w₂.value w₃.value t))) (so_as _ (policy_last permits w₁.value w₂.value w₃.value) w₃.so)
    c.read_when.ensures {base' = old.next.start} c.in_ok-read_when.was (omega arith) in
    let so = so_stood kinds.semicolon (took (policy_with permits w₁.value w₂.value w₃.value w₄.value)) (omega arith) w₄.so c.expect.ensures c.in_ok-expect.was in
    so_small so c.requires.0.small (let l = c.requires.0.lies.low in omega arith)

pub returns : goal.returns
returns c =
    let old = c.args.reader.now in
    let permits = c.args.permits in
    let begun = so_as _ (policy_first permits) (so_begins old (policy_spec permits) c.requires.0.lies) in
    let w₁ = so_read first_part (after_first permits) begun c.read_first.ensures {base' = old.next.start + 1} c.in_ok-read_first.was (omega arith) in
    let w₂ = so_read second_part (after_second permits w₁.value) (so_as _ (policy_second permits w₁.value) w₁.so) c.read_second.ensures {base' = old.next.start + 1} c.in_ok-read_second.was (omega arith) in
    let w₃ = so_read third_part (after_third permits w₁.value w₂.value) (so_as _ (policy_third permits w₁.value w₂.value) w₂.so) c.read_third.ensures {base' = old.next.start + 1} c.in_ok-read_third.was (omega arith) in
    let w₄ = so_read when_spec (λ t. need kinds.semicolon (took (policy_with permits w₁.value w₂.value w₃.value t))) (so_as _ (policy_last permits w₁.value w₂.value w₃.value) w₃.so)
    c.read_when.ensures {base' = old.next.start} c.in_ok-read_when.was (omega arith) in
    let so = so_stood kinds.semicolon (took (policy_with permits w₁.value w₂.value w₃.value w₄.value)) (omega arith) w₄.so c.expect.ensures c.in_ok-expect.was in
    so_done_put (target c.args.version w₁.value w₂.value w₃.value ++ condition_entries c.read_third.new.reader.free w₄.value) _
    (policy_with permits w₁.value w₂.value w₃.value w₄.value) (so_put so c.put.ensures)
    (policy_put c.args.version permits w₁.value w₂.value w₃.value w₄.value _ _ _ (so_free w₃.so) c.effect_kind.ensures) (omega arith)
