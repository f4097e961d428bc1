-- `parts::paths::read_way` meets its contract: the invariant says what the name that must stand next makes of the path, and that only that token changes; each turn takes a name and a dot. Assumes nothing.
use mathlib.Core.Path.{◌≡◌, refl, ◌∙◌, sym}
use native.Mathlib.Omega.{arith}
use borrow.Author.Rules.{rules}
use Rattle.tokens.specs.Tokens.{Reads}
use Rattle.parts.specs.Answers.{found, lost}
use Rattle.parts.specs.Names.{root_from}
use Rattle.parts.proofs.Roots.{no_name_of}
use Rattle.parts.proofs.Standing.{lowered, ahead}
use Rattle.parts.proofs.Ways.{walking_first, walking_lost, walking_ends, walking_calls, walking_on, moved, same_text, fits, unfit_kind, unfit}
use Rattle.parts.proofs.paths.read_way.Goals as goal
use Rattle.parts.proofs.paths.read_way.Goals.{then-name-ne-NAME-via-then-name-ne-NAME, then-name-ne-NAME-via-else-name-ne-NAME+then-not-is_admitted}

pub loop-name-init : goal.loop-name-init
loop-name-init c = record { path = walking_first c.args.left (root_from c.args.root) c.args.reader.now.text.now c.args.reader.now.next c.requires.lies; stays = refl }

pub is_admitted-requires : goal.is_admitted-requires
is_admitted-requires c =
    let w = c.loop-name.invariant.path in
    let r : Reads c.loop-name.reader.text.now 0 c.loop-name.reader.next = rw (same_text c.args.reader.now c.loop-name.invariant.stays) (lowered (omega arith) w.lies) in
    (omega (arith, w.few, w.lies.order, w.lies.high, c.requires.small), r)

pub returns-then-name-ne-NAME : goal.returns-then-name-ne-NAME
returns-then-name-ne-NAME c =
    let stays = c.loop-name.invariant.stays in
    record {
      stays = stays;
      says = lost (walking_lost _ _ c.loop-name.invariant.path (elim c.then-name-ne-NAME.branch [
        | then-name-ne-NAME-via-then-name-ne-NAME w ↦ unfit_kind _ _ c.args.reader.now c.loop-name.reader stays w.if-name-ne-NAME.true
        | then-name-ne-NAME-via-else-name-ne-NAME+then-not-is_admitted w ↦ unfit _ _ c.args.reader.now c.loop-name.reader stays w.if-name-ne-NAME.false (sym w.is_admitted.ensures ∙ w.if-not-is_admitted.true)
      ]) (c.no_name.ensures ∙ no_name_of _ _ _));
    }

pub pass-requires : goal.pass-requires
pass-requires c = rw (same_text c.args.reader.now c.loop-name.invariant.stays) c.loop-name.invariant.path.lies.high

pub returns-then-reader-ne46 : goal.returns-then-reader-ne46
returns-then-reader-ne46 c =
    let one = moved c.args.reader.now c.loop-name.reader c.loop-name.invariant.stays c.loop-name.invariant.path.lies.high c.pass.ensures in
    record { stays = one.stays; says = found (walking_ends _ _ c.loop-name.invariant.path (fits _ _ c.args.reader.now c.loop-name.reader c.loop-name.invariant.stays c.if-name-ne-NAME.false (sym c.is_admitted.ensures ∙ c.if-not-is_admitted.false)) _ one.next one.lies c.if-reader-ne46.true) }

pub pass-requires-in-loop-name : goal.pass-requires-in-loop-name
pass-requires-in-loop-name c =
    let one = moved c.args.reader.now c.loop-name.reader c.loop-name.invariant.stays c.loop-name.invariant.path.lies.high c.pass.ensures in
    rw (same_text c.args.reader.now one.stays) one.lies.high

pub pass-requires-in-Some : goal.pass-requires-in-Some
pass-requires-in-Some c =
    let one = moved c.args.reader.now c.loop-name.reader c.loop-name.invariant.stays c.loop-name.invariant.path.lies.high c.pass.ensures in
    let two = moved c.args.reader.now c.pass.new.self one.stays one.lies.high c.pass-in-loop-name.ensures in
    rw (same_text c.args.reader.now two.stays) two.lies.high

pub returns-in-Some : goal.returns-in-Some
returns-in-Some c =
    let one = moved c.args.reader.now c.loop-name.reader c.loop-name.invariant.stays c.loop-name.invariant.path.lies.high c.pass.ensures in
    let two = moved c.args.reader.now c.pass.new.self one.stays one.lies.high c.pass-in-loop-name.ensures in
    let three = moved c.args.reader.now c.pass-in-loop-name.new.self two.stays two.lies.high c.pass-in-Some.ensures in
    let call = sym c.call_kind.ensures ∙ c.in-Some.is in
    record {
      stays = three.stays;
      says = found (rw (← call) (walking_calls _ _ c.loop-name.invariant.path (fits _ _ c.args.reader.now c.loop-name.reader c.loop-name.invariant.stays c.if-name-ne-NAME.false (sym c.is_admitted.ensures ∙ c.if-not-is_admitted.false)) _ one.next one.lies c.if-reader-ne46.false _ two.next two.lies call _ three.next three.lies));
    }

pub overflow_sub-used : goal.overflow_sub-used
overflow_sub-used c = c.loop-name.invariant.path.lies.order

pub overflow_add-used : goal.overflow_add-used
overflow_add-used c = let w = c.loop-name.invariant.path in omega (arith, w.few, w.lies.order, w.lies.high, c.requires.small)

pub overflow_add-used-in-loop-name : goal.overflow_add-used-in-loop-name
overflow_add-used-in-loop-name c = let w = c.loop-name.invariant.path in omega (arith, w.few, w.lies.order, w.lies.high, c.requires.small)

pub loop-name-smaller : goal.loop-name-smaller
loop-name-smaller c =
    let one = moved c.args.reader.now c.loop-name.reader c.loop-name.invariant.stays c.loop-name.invariant.path.lies.high c.pass.ensures in
    let two = moved c.args.reader.now c.pass.new.self one.stays one.lies.high c.pass-in-loop-name.ensures in
    let name = c.loop-name.reader.next in
    let dot = c.pass.new.self.next in
    let x = ahead name c.loop-name.invariant.path.lies (λ (z : name.kind ≡ 0). let e = c.if-name-ne-NAME.false in omega arith) one.next in
    let y = ahead dot one.lies (λ (z : dot.kind ≡ 0). let e = c.if-reader-ne46.false in omega arith) two.next in
    omega (arith, x.0, x.1, y.0, y.1)

pub loop-name-preserved : goal.loop-name-preserved
loop-name-preserved c =
    let one = moved c.args.reader.now c.loop-name.reader c.loop-name.invariant.stays c.loop-name.invariant.path.lies.high c.pass.ensures in
    let two = moved c.args.reader.now c.pass.new.self one.stays one.lies.high c.pass-in-loop-name.ensures in
    record {
      path = walking_on _ _ c.loop-name.invariant.path (fits _ _ c.args.reader.now c.loop-name.reader c.loop-name.invariant.stays c.if-name-ne-NAME.false (sym c.is_admitted.ensures ∙ c.if-not-is_admitted.false)) _ one.next one.lies c.if-reader-ne46.false _ two.next two.lies (sym c.call_kind.ensures ∙ c.in_default.is);
      stays = two.stays;
    }
