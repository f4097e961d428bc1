-- One word for proofs that compute: who unfolds it sees through what decide answers. Assumes nothing.
use Rattle.compiling_promise.proofs.Opened.{compiling_opened}
use Rattle.meaning.proofs.Opened.{meaning_opened}
use Rattle.views.proofs.Opened.{views_opened}
use Rattle.deciding.specs.Answers.{decide_answer, decide_said, policies_in, view_in}

unfoldable pub deciding_opened : Unit {0}
unfolding compiling_opened meaning_opened views_opened decide_answer decide_said policies_in view_in
deciding_opened = tt
