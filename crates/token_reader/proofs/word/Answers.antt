-- `token_reader::word` meets its contract: a reserved word that is found is the token; else the callees' results are put into `word_to`. Assumes nothing.
use mathlib.Core.Path.{sym, ◌∙◌}
use Rattle.tokens.specs.declared.classes.Sort.TheVariants.{WordBytes}
use Rattle.tokens.proofs.EntryLaws.{letter_goes_on}
use Rattle.tokens.proofs.RunLaws.{goes_on}
use Rattle.words.proofs.StandingLaws.{found_word, name_token}
use Rattle.token_reader.proofs.word.Goals as goal

pub returns-in-Some : goal.returns-in-Some
returns-in-Some c = found_word _ _ (sym c.in-Some.ensures)

pub returns-then-start-text : goal.returns-then-start-text
returns-then-start-text c =
    let args = c.args in
    let next = goes_on WordBytes args.text.now args.start c.requires.0 (letter_goes_on _ c.requires.1) in
    c.within.ensures ∙ name_token args.text.now args.start _ (sym c.in_default.ensures) (c.long_run_end-end.ensures.place ∙ next)
