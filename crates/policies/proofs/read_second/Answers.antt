-- `policies::read_second` meets its contract: a token that must stand there, the part, and the token after it. Assumes nothing.
use mathlib.Core.Path.{◌≡◌, refl}
use native.Mathlib.Omega.{arith}
use borrow.Author.Rules.{rules}
use Rattle.tokens.specs.Kinds as kinds
use Rattle.reading.specs.Reader.{took, need, before}
use Rattle.grammar.specs.Parser.{read_action as read_action_spec}
use Rattle.parts.proofs.SoFar.{gives_back, so_begins, so_stood, so_stopped, so_before, so_read, so_lost, so_lies, so_ready, so_closed}
use Rattle.policies.proofs.read_second.Goals as goal

pub expect-requires : goal.expect-requires
expect-requires c = let l = c.requires.lies in record { low = omega arith; order = l.order; high = l.high; some = l.some }

pub returns-in_err-expect : goal.returns-in_err-expect
returns-in_err-expect c =
    let old = c.args.reader.now in
    let begun = so_begins old (need kinds.action_word (before kinds.comma read_action_spec)) c.requires.lies in
    rw (gives_back c.from_residual.result c.from_residual.ensures.1) (so_stopped kinds.action_word _ begun c.expect.ensures c.in_err-expect.was)

pub read_action-requires : goal.read_action-requires
read_action-requires c =
    let old = c.args.reader.now in
    let begun = so_begins old (need kinds.action_word (before kinds.comma read_action_spec)) c.requires.lies in
    let one = so_before kinds.comma read_action_spec (so_stood kinds.action_word (before kinds.comma read_action_spec) (omega arith) begun c.expect.ensures c.in_ok-expect.was) in
    so_ready one c.requires.small (let l = c.requires.lies.low in omega arith)

pub returns-in_err-read_action : goal.returns-in_err-read_action
returns-in_err-read_action c =
    let old = c.args.reader.now in
    let begun = so_begins old (need kinds.action_word (before kinds.comma read_action_spec)) c.requires.lies in
    let one = so_before kinds.comma read_action_spec (so_stood kinds.action_word (before kinds.comma read_action_spec) (omega arith) begun c.expect.ensures c.in_ok-expect.was) in
    rw (gives_back c.from_residual-in_err-read_action.result c.from_residual-in_err-read_action.ensures.1) (so_lost read_action_spec (λ v. need kinds.comma (took v)) one c.read_action.ensures c.in_err-read_action.was)

pub expect-requires-2 : goal.expect-requires-2
expect-requires-2 c =
    let old = c.args.reader.now in
    let begun = so_begins old (need kinds.action_word (before kinds.comma read_action_spec)) c.requires.lies in
    let one = so_before kinds.comma read_action_spec (so_stood kinds.action_word (before kinds.comma read_action_spec) (omega arith) begun c.expect.ensures c.in_ok-expect.was) in
    let w = so_read read_action_spec (λ v. need kinds.comma (took v)) one c.read_action.ensures {base' = old.next.start} c.in_ok-read_action.was (omega arith) in
    so_lies w.so (omega arith)

pub returns : goal.returns
returns c =
    let old = c.args.reader.now in
    let begun = so_begins old (need kinds.action_word (before kinds.comma read_action_spec)) c.requires.lies in
    let one = so_before kinds.comma read_action_spec (so_stood kinds.action_word (before kinds.comma read_action_spec) (omega arith) begun c.expect.ensures c.in_ok-expect.was) in
    let w = so_read read_action_spec (λ v. need kinds.comma (took v)) one c.read_action.ensures {base' = old.next.start} c.in_ok-read_action.was (omega arith) in
    so_closed kinds.comma w.value (omega arith) w.so c.expect-2.ensures refl (omega arith)
