-- One word for proofs that compute: who unfolds it sees through the reader of rule texts. Assumes nothing.
use Rattle.reading.proofs.Opened.{readers_opened}
use Rattle.utf8.specs.Reading.{bytes_by_first, lowest_second, highest_second, may_stand_second, goes_on_character, followed, width, number_said, point, utf8_after, points_after, utf8, points}
use Rattle.grammar.specs.Rules.{root_of, literal_of, comparator_of, which_of, principal_types, resource_types, type_among, admitted, wildcards, plain_pattern, is_pattern}
use Rattle.grammar.specs.Parser.{no_name, no_operator, no_type, no_level, no_text, no_pattern, no_element, no_policy, name_fits, read_first_name, goes_on, read_next_name, read_way, spanned_by, read_path, read_attribute, read_operand, is_text_of, is_element, read_element, read_list, read_bare, read_in, is_like, read_pattern, read_operator, read_call, read_rest, read_rooted, read_simple, read_joined, read_conjunction, read_disjunction, read_negated, read_bracketed, read_conditional, read_deeper, read_condition, read_conditions, read_type, read_principal, read_action, read_resource, read_when, read_policy, may_begin, read_next_policy, at_end, read_text}

unfoldable pub grammar_opened : Unit {0}
unfolding readers_opened bytes_by_first lowest_second highest_second may_stand_second goes_on_character followed width number_said point utf8_after points_after utf8 points root_of literal_of comparator_of which_of principal_types resource_types type_among admitted wildcards plain_pattern is_pattern no_name no_operator no_type no_level no_text no_pattern no_element no_policy name_fits read_first_name goes_on read_next_name read_way spanned_by read_path read_attribute read_operand is_text_of is_element read_element read_list read_bare read_in is_like read_pattern read_operator read_call read_rest read_rooted read_simple read_joined read_conjunction read_disjunction read_negated read_bracketed read_conditional read_deeper read_condition read_conditions read_type read_principal read_action read_resource read_when read_policy may_begin read_next_policy at_end read_text
grammar_opened = tt
