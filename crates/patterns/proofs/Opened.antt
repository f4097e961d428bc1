-- One word for proofs that compute: who unfolds it sees through `like`. Assumes nothing.
use Rattle.utf8.proofs.Opened.{utf8_opened}
use Rattle.patterns.specs.Likes.{stands, steps, runs, likes, likes_text}

unfoldable pub likes_opened : Unit {0}
unfolding utf8_opened stands steps runs likes likes_text
likes_opened = tt
