-- `bags::paths::is_path` meets its contract: the pieces from `at` on are names exactly when all pieces are. Assumes nothing.
use Prim.Native.Nat.{◌≤◌, ◌-◌}
use borrow.Author.Rules.{rules}
use borrow.Author.Tests.{not-true, not-false}
use lib.ListN.{length, drop}
use mathlib.Core.Path.{◌≡◌, refl, sym, ◌∙◌}
use native.Mathlib.Omega.{arith}
use Rattle.bags.proofs.PathLaws.{word_bytes_run, not_a_name, last_name, no_dot, dot_then, path_long, path_is}
use Rattle.bags.specs.Paths.{every, is_name, dot_pieces}
use Rattle.bags.proofs.paths.is_path.Goals as goal

pub returns-then-path-gt-MOST_PATH_BYTES : goal.returns-then-path-gt-MOST_PATH_BYTES
returns-then-path-gt-MOST_PATH_BYTES c = path_long _ (omega arith)

pub loop-at-init : goal.loop-at-init
loop-at-init c = (refl, omega arith)

pub is_name-requires : goal.is_name-requires
is_name-requires c =
    let run = c.run_end-end.ensures in
    record {
      run_value = word_bytes_run _ _ _ run.place run.high;
    }

pub returns-then-not-is_name : goal.returns-then-not-is_name
returns-then-not-is_name c =
    let at = c.loop-at in
    let run = c.run_end-end.ensures in
    path_is _ _ (omega arith) (sym at.invariant.0 ∙ not_a_name _ _ _ run.place run.high (sym c.is_name.ensures ∙ c.if-not-is_name.true))

pub returns-then-end-path : goal.returns-then-end-path
returns-then-end-path c =
    let at = c.loop-at in
    let run = c.run_end-end.ensures in
    path_is _ _ (omega arith) (sym at.invariant.0 ∙ last_name _ _ _ run.place run.high (sym c.is_name.ensures ∙ c.if-not-is_name.false) c.if-end-path.true)

pub returns-then-path-end-ne46 : goal.returns-then-path-end-ne46
returns-then-path-end-ne46 c =
    let at = c.loop-at in
    let run = c.run_end-end.ensures in
    path_is _ _ (omega arith) (sym at.invariant.0 ∙ no_dot _ _ _ run.place run.high (omega arith) c.if-path-end-ne46.true)

pub loop-at-preserved : goal.loop-at-preserved
loop-at-preserved c =
    let at = c.loop-at in
    let run = c.run_end-end.ensures in
    (sym (dot_then _ _ _ run.place run.high (sym c.is_name.ensures ∙ c.if-not-is_name.false) (omega arith) c.if-path-end-ne46.false) ∙ at.invariant.0, omega arith)
