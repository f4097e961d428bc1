-- `deciding::held` meets its contract: by what the table holds. Assumes nothing.
use Rattle.deciding.proofs.HeldLaws.{held_ready, held_many, held_few, held_decides, wrong_decides}
use Rattle.deciding.proofs.Answering.{none_given}
use mathlib.Core.Path.{sym, ◌∙◌}
use Rattle.std.proofs.lemmas.Result.{err_from_is_err_and}
use borrow.Author.Rules.{rules}
use Rattle.deciding.proofs.held.Goals as goal

pub decision-requires : goal.decision-requires
decision-requires c =
    let h = sym c.held_policies.ensures ∙ c.in_ok-size.ensures.ok_part in
    record {
      ready_policies = held_ready _ _ _ _ h;
      entries_len_bound = rw (← held_many _ _ _ _ h) (held_few _ _ _ _ h);
      sectioned = c.requires.sectioned;
      types_of = c.requires.types_of;
    }

pub returns-in_err-size : goal.returns-in_err-size
returns-in_err-size c =
    let p = err_from_is_err_and c.from_residual.result c.from_residual.ensures.1 in
    let n = none_given _ _ _ (sym c.in_err-size.ensures.value) in
    rw (p.1, p.2, ← n.1) (wrong_decides _ _ _ _ (sym c.held_policies.ensures ∙ n.0))

pub returns : goal.returns
returns c = held_decides _ _ _ _ (sym c.held_policies.ensures ∙ c.in_ok-size.ensures.ok_part) _ _ c.decision.ensures
