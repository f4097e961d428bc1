-- One word for proofs that compute: who unfolds it sees through lines and columns. Assumes nothing.
use Rattle.utf8.proofs.Opened.{utf8_opened}
use Rattle.places.specs.Places.{up_to_quote, behind_byte, columns_taken, past, past_all}

unfoldable pub places_opened : Unit {0}
unfolding utf8_opened up_to_quote behind_byte columns_taken past past_all
places_opened = tt
