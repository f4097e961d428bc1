-- `policies::read_third` meets its contract: a token that must stand there, the part, and the token after it. Assumes nothing.
use mathlib.Core.Path.{◌≡◌, refl}
use native.Mathlib.Omega.{arith}
use borrow.Author.Rules.{rules}
use Rattle.tokens.specs.Kinds as kinds
use Rattle.reading.specs.Reader.{took, need, before}
use Rattle.grammar.specs.Parser.{read_resource as read_resource_spec}
use Rattle.parts.proofs.SoFar.{gives_back, so_begins, so_stood, so_stopped, so_before, so_read, so_lost, so_lies, so_ready, so_closed}
use Rattle.policies.proofs.read_third.Goals as goal

pub expect-requires : goal.expect-requires
expect-requires c = let l = c.requires.lies in record { low = omega arith; order = l.order; high = l.high; some = l.some }

pub returns-in_err-expect : goal.returns-in_err-expect
returns-in_err-expect c =
    let old = c.args.reader.now in
    let begun = so_begins old (need kinds.resource_word (before kinds.right_round read_resource_spec)) c.requires.lies in
    rw (gives_back c.from_residual.result c.from_residual.ensures.1) (so_stopped kinds.resource_word _ begun c.expect.ensures c.in_err-expect.was)

pub read_resource-requires : goal.read_resource-requires
read_resource-requires c =
    let old = c.args.reader.now in
    let begun = so_begins old (need kinds.resource_word (before kinds.right_round read_resource_spec)) c.requires.lies in
    let one = so_before kinds.right_round read_resource_spec (so_stood kinds.resource_word (before kinds.right_round read_resource_spec) (omega arith) begun c.expect.ensures c.in_ok-expect.was) in
    so_ready one c.requires.small (let l = c.requires.lies.low in omega arith)

pub returns-in_err-read_resource : goal.returns-in_err-read_resource
returns-in_err-read_resource c =
    let old = c.args.reader.now in
    let begun = so_begins old (need kinds.resource_word (before kinds.right_round read_resource_spec)) c.requires.lies in
    let one = so_before kinds.right_round read_resource_spec (so_stood kinds.resource_word (before kinds.right_round read_resource_spec) (omega arith) begun c.expect.ensures c.in_ok-expect.was) in
    rw (gives_back c.from_residual-in_err-read_resource.result c.from_residual-in_err-read_resource.ensures.1) (so_lost read_resource_spec (λ v. need kinds.right_round (took v)) one c.read_resource.ensures c.in_err-read_resource.was)

pub expect-requires-2 : goal.expect-requires-2
expect-requires-2 c =
    let old = c.args.reader.now in
    let begun = so_begins old (need kinds.resource_word (before kinds.right_round read_resource_spec)) c.requires.lies in
    let one = so_before kinds.right_round read_resource_spec (so_stood kinds.resource_word (before kinds.right_round read_resource_spec) (omega arith) begun c.expect.ensures c.in_ok-expect.was) in
    let w = so_read read_resource_spec (λ v. need kinds.right_round (took v)) one c.read_resource.ensures {base' = old.next.start} c.in_ok-read_resource.was (omega arith) in
    so_lies w.so (omega arith)

pub returns : goal.returns
returns c =
    let old = c.args.reader.now in
    let begun = so_begins old (need kinds.resource_word (before kinds.right_round read_resource_spec)) c.requires.lies in
    let one = so_before kinds.right_round read_resource_spec (so_stood kinds.resource_word (before kinds.right_round read_resource_spec) (omega arith) begun c.expect.ensures c.in_ok-expect.was) in
    let w = so_read read_resource_spec (λ v. need kinds.right_round (took v)) one c.read_resource.ensures {base' = old.next.start} c.in_ok-read_resource.was (omega arith) in
    so_closed kinds.right_round w.value (omega arith) w.so c.expect-2.ensures refl (omega arith)
