-- One word for proofs that compute: who unfolds it sees through what compile and begins answer. Assumes nothing.
use Rattle.grammar.proofs.Opened.{grammar_opened}
use Rattle.places.proofs.Opened.{places_opened}
use Rattle.table.proofs.Opened.{table_opened}
use Rattle.grammar.specs.Versions.{if_version}
use Rattle.parts.specs.Answers.{refusal_at}
use Rattle.compiling.specs.Outcome.{said, found_by, found_of, told_of, compiled_under, compiled_of, compiled_bytes, begins_by, begins_of, compile_said}
use Rattle.compiling_promise.specs.Promise.{bytes_said}

unfoldable pub compiling_opened : Unit {0}
unfolding grammar_opened places_opened table_opened if_version refusal_at said found_by found_of told_of compiled_under compiled_of compiled_bytes begins_by begins_of compile_said bytes_said
compiling_opened = tt
