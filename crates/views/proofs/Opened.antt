-- One word for proofs that compute: who unfolds it sees through the bag of a row. Assumes nothing.
use Rattle.lookups.proofs.Opened.{lookups_opened}
use Rattle.questions.proofs.Opened.{questions_opened}
use Rattle.views.specs.Values.{base_bag, string_at, list_at, datum_of}
use Rattle.views.specs.Meaning.{has_path, without, set_in, set_to, row_bag}
use Rattle.views.specs.Rows.{columns_of, bag_of_row}

unfoldable pub views_opened : Unit {0}
unfolding lookups_opened questions_opened base_bag string_at list_at datum_of has_path without set_in set_to row_bag columns_of bag_of_row
views_opened = tt
