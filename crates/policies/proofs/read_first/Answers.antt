-- `policies::read_first` meets its contract: two tokens that must stand there, the part, and its comma. Assumes nothing.
use mathlib.Core.Path.{◌≡◌, refl}
use Prim.Native.Nat.{◌+◌}
use native.Mathlib.Omega.{arith}
use borrow.Author.Rules.{rules}
use Rattle.tokens.specs.Kinds as kinds
use Rattle.reading.specs.Reader.{took, need, before}
use Rattle.grammar.specs.Parser.{read_principal as read_principal_spec}
use Rattle.parts.proofs.SoFar.{gives_back, so_begins, so_stood, so_stopped, so_before, so_read, so_lost, so_lies, so_ready, so_closed}
use Rattle.policies.proofs.read_first.Goals as goal

pub expect-requires : goal.expect-requires
expect-requires c = let l = c.requires.lies in record { low = omega arith; order = l.order; high = l.high; some = l.some }

pub returns-in_err-expect : goal.returns-in_err-expect
returns-in_err-expect c =
    let old = c.args.reader.now in
    let begun = so_begins old (need kinds.left_round (need kinds.principal_word (before kinds.comma read_principal_spec))) c.requires.lies in
    rw (gives_back c.from_residual.result c.from_residual.ensures.1) (so_stopped kinds.left_round _ begun c.expect.ensures c.in_err-expect.was)

pub expect-requires-2 : goal.expect-requires-2
expect-requires-2 c =
    let old = c.args.reader.now in
    let begun = so_begins old (need kinds.left_round (need kinds.principal_word (before kinds.comma read_principal_spec))) c.requires.lies in
    let one = so_stood kinds.left_round (need kinds.principal_word (before kinds.comma read_principal_spec)) (omega arith) begun c.expect.ensures c.in_ok-expect.was in
    so_lies one (omega arith)

pub returns-in_err-expect-2 : goal.returns-in_err-expect-2
returns-in_err-expect-2 c =
    let old = c.args.reader.now in
    let begun = so_begins old (need kinds.left_round (need kinds.principal_word (before kinds.comma read_principal_spec))) c.requires.lies in
    let one = so_stood kinds.left_round (need kinds.principal_word (before kinds.comma read_principal_spec)) (omega arith) begun c.expect.ensures c.in_ok-expect.was in
    rw (gives_back c.from_residual-in_err-expect-2.result c.from_residual-in_err-expect-2.ensures.1) (so_stopped kinds.principal_word _ one c.expect-2.ensures c.in_err-expect-2.was)

pub read_principal-requires : goal.read_principal-requires
read_principal-requires c =
    let old = c.args.reader.now in
    let begun = so_begins old (need kinds.left_round (need kinds.principal_word (before kinds.comma read_principal_spec))) c.requires.lies in
    let one = so_stood kinds.left_round (need kinds.principal_word (before kinds.comma read_principal_spec)) (omega arith) begun c.expect.ensures c.in_ok-expect.was in
    let two = so_before kinds.comma read_principal_spec (so_stood kinds.principal_word (before kinds.comma read_principal_spec) (omega arith) one c.expect-2.ensures c.in_ok-expect-2.was) in
    so_ready two c.requires.small (let l = c.requires.lies.low in omega arith)

pub returns-in_err-read_principal : goal.returns-in_err-read_principal
returns-in_err-read_principal c =
    let old = c.args.reader.now in
    let begun = so_begins old (need kinds.left_round (need kinds.principal_word (before kinds.comma read_principal_spec))) c.requires.lies in
    let one = so_stood kinds.left_round (need kinds.principal_word (before kinds.comma read_principal_spec)) (omega arith) begun c.expect.ensures c.in_ok-expect.was in
    let two = so_before kinds.comma read_principal_spec (so_stood kinds.principal_word (before kinds.comma read_principal_spec) (omega arith) one c.expect-2.ensures c.in_ok-expect-2.was) in
    rw (gives_back c.from_residual-in_err-read_principal.result c.from_residual-in_err-read_principal.ensures.1) (so_lost read_principal_spec (λ v. need kinds.comma (took v)) two c.read_principal.ensures c.in_err-read_principal.was)

pub expect-requires-3 : goal.expect-requires-3
expect-requires-3 c =
    let old = c.args.reader.now in
    let begun = so_begins old (need kinds.left_round (need kinds.principal_word (before kinds.comma read_principal_spec))) c.requires.lies in
    let one = so_stood kinds.left_round (need kinds.principal_word (before kinds.comma read_principal_spec)) (omega arith) begun c.expect.ensures c.in_ok-expect.was in
    let two = so_before kinds.comma read_principal_spec (so_stood kinds.principal_word (before kinds.comma read_principal_spec) (omega arith) one c.expect-2.ensures c.in_ok-expect-2.was) in
    let w = so_read read_principal_spec (λ v. need kinds.comma (took v)) two c.read_principal.ensures {base' = old.next.start + 1} c.in_ok-read_principal.was (omega arith) in
    so_lies w.so (omega arith)

pub returns : goal.returns
returns c =
    let old = c.args.reader.now in
    let begun = so_begins old (need kinds.left_round (need kinds.principal_word (before kinds.comma read_principal_spec))) c.requires.lies in
    let one = so_stood kinds.left_round (need kinds.principal_word (before kinds.comma read_principal_spec)) (omega arith) begun c.expect.ensures c.in_ok-expect.was in
    let two = so_before kinds.comma read_principal_spec (so_stood kinds.principal_word (before kinds.comma read_principal_spec) (omega arith) one c.expect-2.ensures c.in_ok-expect-2.was) in
    let w = so_read read_principal_spec (λ v. need kinds.comma (took v)) two c.read_principal.ensures {base' = old.next.start + 1} c.in_ok-read_principal.was (omega arith) in
    so_closed kinds.comma w.value (omega arith) w.so c.expect-3.ensures refl (omega arith)
