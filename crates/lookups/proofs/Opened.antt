-- One word for proofs that compute: who unfolds it sees through bags and what is looked up in them. Assumes nothing.
use Rattle.bags.proofs.Opened.{bags_opened}
use Rattle.lookups.specs.Lookups.{look_in, base_of, section_at, lookup_of, bag_of, start_of, length_of}
use Rattle.lookups.specs.Values.{value_at, value_number}

unfoldable pub lookups_opened : Unit {0}
unfolding bags_opened look_in base_of section_at lookup_of bag_of start_of length_of value_at value_number
lookups_opened = tt
