-- One word for proofs that compute: who unfolds it sees through the reading of characters. Assumes nothing.
use Rattle.utf8.specs.Reading.{bytes_by_first, lowest_second, highest_second, may_stand_second, goes_on_character, followed, width, number_said, point, utf8_after, points_after, utf8, points}

unfoldable pub utf8_opened : Unit {0}
unfolding bytes_by_first lowest_second highest_second may_stand_second goes_on_character followed width number_said point utf8_after points_after utf8 points
utf8_opened = tt
