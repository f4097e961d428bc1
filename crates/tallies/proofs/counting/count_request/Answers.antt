-- `tallies::counting::count_request` meets its contract: what is found of the policies is what the rows are counted with. Assumes nothing.
use Rattle.tallies.proofs.Cases.{rules_are, types_are, counts_are}
use Rattle.turns.proofs.RowLaws.{counted_there}
use Rattle.targets.specs.Matching.{request}
use mathlib.Core.Path.{refl, ◌∙◌}
use borrow.Author.Rules.{rules}
use Rattle.tallies.proofs.counting.count_request.Goals as goal

pub looks-looks-requires : goal.looks-looks-requires
looks-looks-requires c =
    let is = c.rules_for-rules.ensures in
    let rules = rules_are c.is_system-system.result _ _ is c.requires.surveyed.rules in
    record {
      ready_policies = rules.ready;
      policies_value = rules.many;
      policies_le_most_policies = rules.few;
      counted = counted_there c.requires.surveyed.asked.question c.requires.surveyed.laid;
      types_of = types_are c.is_system-system.result _ _ is (request _ _ _) c.is_system-system.ensures c.requires.resource_value c.subject_type.ensures c.resource_type.ensures;
    }

pub effects-permits-requires : goal.effects-permits-requires
effects-permits-requires c =
    let rules = rules_are c.is_system-system.result _ _ c.rules_for-rules.ensures c.requires.surveyed.rules in
    record {
      ready_of_some = record { text = _; ready = rules.ready };
      entries_len_bound = rw (← rules.many) rules.few;
    }

pub count_rows-requires : goal.count_rows-requires
count_rows-requires c =
    let rules = rules_are c.is_system-system.result _ _ c.rules_for-rules.ensures c.requires.surveyed.rules in
    record {
      rows_asked = rw c.requires.places_of.1 (record {
        asked = c.requires.surveyed.asked;
        walked = record {
          question = c.requires.surveyed.asked.question;
          laid = c.requires.surveyed.laid;
          ready = rules.ready;
          many = rules.many;
          few = rules.few;
          depths = c.looks-looks.ensures.depths;
          ended = c.looks-looks.ensures.ends;
          permits = c.effects-permits.ensures;
        };
      });
      walk_for_some = record { q = request _ _ _; walk_for = record { acts = refl; whose = c.is_system-system.ensures; aims = c.looks-looks.ensures.aims } };
      group_value = c.requires.group_value;
      places_of = c.requires.places_of.0;
    }

pub returns : goal.returns
returns c =
    c.count_rows.ensures (request _ _ _) (record { acts = refl; whose = c.is_system-system.ensures; aims = c.looks-looks.ensures.aims })
    ∙ counts_are c.is_system-system.result _ _ c.rules_for-rules.ensures (request _ _ _) c.is_system-system.ensures _ _ _ _ _
