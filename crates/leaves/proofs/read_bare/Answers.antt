-- `leaves::read_bare` meets its contract: by the kind of the left operand's entry. Assumes nothing.
use mathlib.Core.Path.{◌≡◌, ◌∙◌, sym, ap, refl}
use mathlib.Core.List.{[], ◌∷◌, ◌++◌}
use Prim.Native.Nat.{ℕ, ◌+◌, ◌-◌}
use native.Mathlib.Omega.{arith}
use borrow.Author.Tests.{eq-eqb, ne_eqb}
use Rattle.reading.specs.Lexemes.{stream}
use Rattle.reading.specs.Reader.{Reader, took, refuse_by, ten}
use Rattle.grammar.specs.Parser.{no_operator, read_bare}
use Rattle.grammar.specs.Policies.{Tree, constant}
use Rattle.parts.proofs.SoFar.{so_begins, so_as, so_from, so_put, so_refused, so_done_put}
use Rattle.leaves.proofs.Simple.{bare_attribute, bare_other, bare_truth}
use Rattle.leaves.proofs.read_bare.Goals as goal

pub returns-then-left-le-ACTION : goal.returns-then-left-le-ACTION
unfolding no_operator
returns-then-left-le-ACTION c =
    λ a e.
    let r = c.args.reader.now in
    so_refused no_operator (so_as (refuse_by no_operator) (λ i. ap (λ (p : Reader Tree). p i) (bare_attribute a e c.if-left-le-ACTION.true)) (so_begins r (read_bare a) c.requires.0)) c.no_operator.ensures

pub returns-then-left-le-NUMBER : goal.returns-then-left-le-NUMBER
returns-then-left-le-NUMBER c =
    λ a e.
    let r = c.args.reader.now in
    so_refused ten (so_as (refuse_by ten) (λ i. ap (λ (p : Reader Tree). p i) (bare_other a e c.if-left-le-ACTION.false c.if-left-le-NUMBER.true)) (so_begins r (read_bare a) c.requires.0)) refl

pub returns : goal.returns
returns c =
    λ a e.
    let r = c.args.reader.now in
    let b = bare_truth a e c.if-left-le-NUMBER.false in
    let so = so_as (took (constant b.value)) (λ i. ap (λ (p : Reader Tree). p i) b.reads) (so_begins r (read_bare a) c.requires.0) in
    so_done_put [] c.args.left (constant b.value) (so_put (so_from (r.next.start - 1 + 1) (omega (arith, c.requires.0.low)) so) c.put_entry.ensures) (b.entries _) (omega arith)
