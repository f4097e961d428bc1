-- The reader of a string meets its contract. Assumes nothing.
use Rattle.std.proofs.Common.{◌≡◌, ◌<◌, ◌≤◌, length, arith, sym, ◌∙◌}
use Rattle.bags.specs.Reading.{byte}
use Rattle.bags.proofs.ReadLaws.{got, not_got}
use Rattle.bags.proofs.ValueLaws.{string_cut, string_long, string_whole}
use Rattle.bags.proofs.values.TextThing.end.Goals as goal
use Rattle.bags.proofs.values.TextThing.end.Goals.{else-n-s-via-then-n-s+else-n-le-MOST_STRING_BYTES, else-n-s-via-else-n-s}

pub returns-in_err-get : goal.returns-in_err-get
returns-in_err-get c =
    let out : length c.args.s.now ≤ c.args.at = not_got _ _ c.in_err-get.ensures.lookup.0 in
    c.from_residual.ensures ∙ string_cut _ _ (omega arith)

pub returns-then-n-le-MOST_STRING_BYTES : goal.returns-then-n-le-MOST_STRING_BYTES
returns-then-n-le-MOST_STRING_BYTES c =
    let b = got c.args.s.now c.args.at _ c.in_ok-get.ensures.lookup.0 c.in_ok-get.ensures.lookup.1 in
    let size : c.from-n.result ≡ byte c.args.s.now c.args.at = c.from-n.ensures ∙ b.1 in
    rw size (string_whole _ _ (omega arith) (omega arith))

pub returns-else-n-s : goal.returns-else-n-s
returns-else-n-s c =
    let b = got c.args.s.now c.args.at _ c.in_ok-get.ensures.lookup.0 c.in_ok-get.ensures.lookup.1 in
    let size : c.from-n.result ≡ byte c.args.s.now c.args.at = c.from-n.ensures ∙ b.1 in
    elim c.else-n-s.branch [
      | else-n-s-via-then-n-s+else-n-le-MOST_STRING_BYTES w ↦ string_long _ _ (omega arith) (omega arith)
      | else-n-s-via-else-n-s w ↦ string_cut _ _ (omega arith)
    ]
