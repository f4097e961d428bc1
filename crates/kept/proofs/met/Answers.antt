-- `kept::met` meets its contract: the note says, or the policy is met and noted. Assumes nothing.
use mathlib.Core.Path.{sym, ◌∙◌}
use lib.ListN.{length-set}
use Rattle.kept.proofs.Noting.{met_noted, met_anew, last_read, policy_read}
use borrow.Author.Rules.{rules}
use Rattle.kept.proofs.met.Goals as goal

pub returns-then-said-ne0 : goal.returns-then-said-ne0
returns-then-said-ne0 c =
    let forgot = c.forget.ensures in
    record {
      by_index = (λ sat here old. met_noted _ _ _ c.args.note.i forgot.by_index forgot.notes_len_2 c.args.note.choice sat old c.requires.i_lt_most_policies.1 c.if-said-ne0.true);
      notes_len = forgot.notes_len_2;
    }

pub satisfied_where-hit-requires : goal.satisfied_where-hit-requires
satisfied_where-hit-requires c = last_read c.args.row.now.text.now c.args.row.now.table.now c.end_of-end.ensures c.entry_at-x.ensures c.requires.last_ending

pub returns : goal.returns
returns c =
    let forget = c.forget in
    let read = policy_read c.args.row.now.table.now c.end_of-end.ensures c.entry_at-x.ensures in
    record {
      by_index = (λ sat here old.
          rw c.note_of.ensures
          (met_anew _ _ forget.new.notes c.args.note.i forget.ensures.by_index forget.ensures.notes_len_2 c.args.note.choice sat old c.requires.i_lt_most_policies.0 c.requires.i_lt_most_policies.1
          c.satisfied_where-hit.result ((rw read at c.satisfied_where-hit.ensures) ∙ sym here)));
      notes_len = simp length-set forget.ensures.notes_len_2;
    }
