-- One word for proofs that compute: who unfolds it sees through conditions, targets and decisions. Assumes nothing.
use Rattle.grammar.proofs.Opened.{grammar_opened}
use Rattle.numbers.proofs.Opened.{numbers_opened}
use Rattle.patterns.proofs.Opened.{likes_opened}
use Rattle.placing.specs.Said.{literal_words, list_words, operand_words, tree_words, part_words, action_words, condition_words, words_of}
use Rattle.meaning.specs.Values.{literal_value, attribute_value, operand_value, compares, with_action}
use Rattle.meaning.specs.Conditions.{told, given, given_both, settled, settles, settled_if, negated, both_of, either_of, choice_of, some, all, verdict}
use Rattle.meaning.specs.Targets.{before_colon, after_colon, is_typed, is_action, part_matches, is_string, action_matches}
use Rattle.meaning.specs.Decisions.{target_matches, condition_holds, satisfied, first_of, by_numbers, policies_decide, decision_of, outcome_of, policy_of, is_allowed, mark_by, decided_mark, first_marked, decided_by}

unfoldable pub meaning_opened : Unit {0}
unfolding grammar_opened numbers_opened likes_opened literal_words list_words operand_words tree_words part_words action_words condition_words words_of literal_value attribute_value operand_value compares with_action told given given_both settled settles settled_if negated both_of either_of choice_of some all verdict before_colon after_colon is_typed is_action part_matches is_string action_matches target_matches condition_holds satisfied first_of by_numbers policies_decide decision_of outcome_of policy_of is_allowed mark_by decided_mark first_marked decided_by
meaning_opened = tt
