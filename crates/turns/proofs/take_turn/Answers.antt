-- `turns::take_turn` meets its contract: the row is decided by what is kept, and the notes are right for the next row too, up to the column that moves. Assumes nothing.
use mathlib.Core.Path.{◌≡◌, ◌∙◌, ap}
use mathlib.Core.Bool.{cond}
use borrow.Author.Rules.{rules}
use Rattle.meaning.specs.declared.Decision.TheVariants.{System}
use Rattle.meaning.specs.declared.Marked.{Marked}
use Rattle.turns.proofs.RowLaws.{placed_there, stands_next, kept_next, ends_few, as_many_rows, stands_there, chosen_there, decides_there, marks_there, of_system}
use Rattle.turns.proofs.take_turn.Goals as goal

pub decision_from-decided-requires : goal.decision_from-decided-requires
decision_from-decided-requires c =
    let w = c.requires.walked in
    let at = c.requires.somewhere in
    record {
      policies_value = w.many;
      policies_le_most_policies = w.few;
      row_stands = stands_there w.question w.laid at.below at.standing;
      places_of = c.requires.places_of;
      chosen_there = chosen_there w.question w.laid at.below at.standing;
      depths = w.depths;
      ends = w.ended;
      underway = c.requires.underway;
      notes_len = c.requires.notes_len;
    }

pub step-from-requires : goal.step-from-requires
step-from-requires c = placed_there (ends_few c.requires.walked.question c.requires.walked.laid) c.requires.somewhere.standing

pub returns : goal.returns
returns c =
    λ q row below at.
    let decided = c.decision_from-decided.ensures q at.acts at.kept in
    let system = c.args.walk.system in
    let marked = c.unless_system-marked.ensures in
    record {
      decided =
          ap (λ (m : Marked). m.d) marked ∙ (of_system system _).0 ∙ ap (λ (m : Marked). cond system System m.d) decided.is
          ∙ decides_there c.requires.walked.question c.requires.walked.laid below at.standing _ system q _ at.whose;
      marked =
          ap (λ (m : Marked). m.mark) marked ∙ (of_system system _).1 ∙ ap (λ (m : Marked). cond system 0 m.mark) decided.is
          ∙ marks_there c.requires.walked.question c.requires.walked.laid below at.standing _ system q _ at.whose;
      next = record {
        acts = at.acts;
        whose = at.whose;
        standing = stands_next (rw (as_many_rows c.requires.walked.question c.requires.walked.laid) below) at.standing c.step-from.ensures;
        within = c.step-from.ensures.moved.within;
        kept = kept_next at.kept decided at.standing.values_are c.step-from.ensures;
      };
    }
