-- `words::word_kind` meets its contract: only words of the same length can be the word. Assumes nothing.
use mathlib.Core.Path.{refl, sym, ◌∙◌}
use Rattle.tokens.specs.Words.{reserved}
use Rattle.tokens.proofs.WordLaws.{kind_by, of_length, of_no_length, is_word, no_word}
use Rattle.words.proofs.word_kind.Goals as goal

pub returns-in-2 : goal.returns-in-2
unfolding reserved kind_by
returns-in-2 c = sym (of_length _ _ c.in-2.is ∙ is_word _ _ _ c.if-is.ensures)

pub returns-in-2-2 : goal.returns-in-2-2
unfolding reserved kind_by
returns-in-2-2 c = sym (of_length _ _ c.in-2.is ∙ no_word _ _ _ c.if-is.ensures (is_word _ _ _ c.if-is-2.ensures))

pub returns-in-2-3 : goal.returns-in-2-3
unfolding reserved kind_by
returns-in-2-3 c = sym (of_length _ _ c.in-2.is ∙ no_word _ _ _ c.if-is.ensures (no_word _ _ _ c.if-is-2.ensures (is_word _ _ _ c.if-is-3.ensures)))

pub returns-in-3 : goal.returns-in-3
unfolding reserved kind_by
returns-in-3 c = sym (of_length _ _ c.in-3.is ∙ is_word _ _ _ c.if-is-4.ensures)

pub returns-in-3-2 : goal.returns-in-3-2
unfolding reserved kind_by
returns-in-3-2 c = sym (of_length _ _ c.in-3.is ∙ no_word _ _ _ c.if-is-4.ensures (is_word _ _ _ c.if-is-5.ensures))

pub returns-in-4 : goal.returns-in-4
unfolding reserved kind_by
returns-in-4 c = sym (of_length _ _ c.in-4.is ∙ is_word _ _ _ c.if-is-6.ensures)

pub returns-in-4-2 : goal.returns-in-4-2
unfolding reserved kind_by
returns-in-4-2 c = sym (of_length _ _ c.in-4.is ∙ no_word _ _ _ c.if-is-6.ensures (is_word _ _ _ c.if-is-7.ensures))

pub returns-in-4-3 : goal.returns-in-4-3
unfolding reserved kind_by
returns-in-4-3 c = sym (of_length _ _ c.in-4.is ∙ no_word _ _ _ c.if-is-6.ensures (no_word _ _ _ c.if-is-7.ensures (is_word _ _ _ c.if-is-8.ensures)))

pub returns-in-4-4 : goal.returns-in-4-4
unfolding reserved kind_by
returns-in-4-4 c = sym (of_length _ _ c.in-4.is ∙ no_word _ _ _ c.if-is-6.ensures (no_word _ _ _ c.if-is-7.ensures (no_word _ _ _ c.if-is-8.ensures (is_word _ _ _ c.if-is-9.ensures))))

pub returns-in-4-5 : goal.returns-in-4-5
unfolding reserved kind_by
returns-in-4-5 c = sym (of_length _ _ c.in-4.is ∙ no_word _ _ _ c.if-is-6.ensures (no_word _ _ _ c.if-is-7.ensures (no_word _ _ _ c.if-is-8.ensures (no_word _ _ _ c.if-is-9.ensures (is_word _ _ _ c.if-is-10.ensures)))))

pub returns-in-5 : goal.returns-in-5
unfolding reserved kind_by
returns-in-5 c = sym (of_length _ _ c.in-5.is ∙ is_word _ _ _ c.if-is-11.ensures)

pub returns-in-6 : goal.returns-in-6
unfolding reserved kind_by
returns-in-6 c = sym (of_length _ _ c.in-6.is ∙ is_word _ _ _ c.if-is-12.ensures)

pub returns-in-6-2 : goal.returns-in-6-2
unfolding reserved kind_by
returns-in-6-2 c = sym (of_length _ _ c.in-6.is ∙ no_word _ _ _ c.if-is-12.ensures (is_word _ _ _ c.if-is-13.ensures))

pub returns-in-6-3 : goal.returns-in-6-3
unfolding reserved kind_by
returns-in-6-3 c = sym (of_length _ _ c.in-6.is ∙ no_word _ _ _ c.if-is-12.ensures (no_word _ _ _ c.if-is-13.ensures (is_word _ _ _ c.if-is-14.ensures)))

pub returns-in-8 : goal.returns-in-8
unfolding reserved kind_by
returns-in-8 c = sym (of_length _ _ c.in-8.is ∙ is_word _ _ _ c.if-is-15.ensures)

pub returns-in-9 : goal.returns-in-9
unfolding reserved kind_by
returns-in-9 c = sym (of_length _ _ c.in-9.is ∙ is_word _ _ _ c.if-is-16.ensures)

pub returns-in-11 : goal.returns-in-11
unfolding reserved kind_by
returns-in-11 c = sym (of_length _ _ c.in-11.is ∙ is_word _ _ _ c.if-is-17.ensures)

pub returns-in-11-2 : goal.returns-in-11-2
unfolding reserved kind_by
returns-in-11-2 c = sym (of_length _ _ c.in-11.is ∙ no_word _ _ _ c.if-is-17.ensures (is_word _ _ _ c.if-is-18.ensures))

pub returns-in_default : goal.returns-in_default
unfolding reserved kind_by
returns-in_default c = sym (of_length _ _ c.in-2.is ∙ no_word _ _ _ c.if-is.ensures (no_word _ _ _ c.if-is-2.ensures (no_word _ _ _ c.if-is-3.ensures refl)))

pub returns-in_default-2 : goal.returns-in_default-2
unfolding reserved kind_by
returns-in_default-2 c = sym (of_length _ _ c.in-3.is ∙ no_word _ _ _ c.if-is-4.ensures (no_word _ _ _ c.if-is-5.ensures refl))

pub returns-in_default-3 : goal.returns-in_default-3
unfolding reserved kind_by
returns-in_default-3 c = sym (of_length _ _ c.in-4.is ∙ no_word _ _ _ c.if-is-6.ensures (no_word _ _ _ c.if-is-7.ensures (no_word _ _ _ c.if-is-8.ensures (no_word _ _ _ c.if-is-9.ensures (no_word _ _ _ c.if-is-10.ensures refl)))))

pub returns-in_default-4 : goal.returns-in_default-4
unfolding reserved kind_by
returns-in_default-4 c = sym (of_length _ _ c.in-5.is ∙ no_word _ _ _ c.if-is-11.ensures refl)

pub returns-in_default-5 : goal.returns-in_default-5
unfolding reserved kind_by
returns-in_default-5 c = sym (of_length _ _ c.in-6.is ∙ no_word _ _ _ c.if-is-12.ensures (no_word _ _ _ c.if-is-13.ensures (no_word _ _ _ c.if-is-14.ensures refl)))

pub returns-in_default-6 : goal.returns-in_default-6
unfolding reserved kind_by
returns-in_default-6 c = sym (of_length _ _ c.in-8.is ∙ no_word _ _ _ c.if-is-15.ensures refl)

pub returns-in_default-7 : goal.returns-in_default-7
unfolding reserved kind_by
returns-in_default-7 c = sym (of_length _ _ c.in-9.is ∙ no_word _ _ _ c.if-is-16.ensures refl)

pub returns-in_default-8 : goal.returns-in_default-8
unfolding reserved kind_by
returns-in_default-8 c = sym (of_length _ _ c.in-11.is ∙ no_word _ _ _ c.if-is-17.ensures (no_word _ _ _ c.if-is-18.ensures refl))

pub returns-in_default-9 : goal.returns-in_default-9
returns-in_default-9 c =
    let r = c.in_default.in_default-own.rest in
    sym (of_no_length c.args.word.now
    r.0.0.0.0.0.0.0.1 r.0.0.0.0.0.0.1 r.0.0.0.0.0.1 r.0.0.0.0.1 r.0.0.0.1 r.0.0.1 r.0.1 r.1)
