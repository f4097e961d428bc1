-- One word for proofs that compute: who unfolds it sees through the form of bags. Assumes nothing.
use Rattle.tokens.proofs.Opened.{tokens_opened}
use Rattle.numbers.proofs.Opened.{numbers_opened}
use Rattle.slices.specs.Parts.{part}
use Rattle.slices.specs.Order.{sorts_before}
use Rattle.bags.specs.Reading.{many, each}
use Rattle.bags.specs.Paths.{is_path, dot_pieces, every, is_name}
use Rattle.bags.specs.Values.{value_end, string_end, number_end, flag_end, list_end}
use Rattle.bags.specs.Sections.{is_bag, sections_of, section_end, entries_end, ascending, ascends, entry_end}

unfoldable pub bags_opened : Unit {0}
unfolding tokens_opened numbers_opened part sorts_before many each is_path dot_pieces every is_name value_end string_end number_end flag_end list_end is_bag sections_of section_end entries_end ascending ascends entry_end
bags_opened = tt
