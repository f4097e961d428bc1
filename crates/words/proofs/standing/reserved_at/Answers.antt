-- `words::standing::reserved_at` meets its contract: the first byte says which words are looked at. Assumes nothing.
use mathlib.Core.Path.{refl, sym, ◌∙◌}
use Rattle.tokens.specs.Words.{reserved}
use Rattle.words.proofs.StandingLaws.{from_among, from_byte, from_none, here, not_here}
use Rattle.words.proofs.standing.reserved_at.Goals as goal

pub returns-in-97 : goal.returns-in-97
unfolding from_among reserved
returns-in-97 c = c.word.ensures ∙ sym (from_byte _ _ 97 c.in-97.is ∙ here _ c.if-four_and.ensures)

pub returns-in-99 : goal.returns-in-99
unfolding from_among reserved
returns-in-99 c = c.word-in-99.ensures ∙ sym (from_byte _ _ 99 c.in-99.is ∙ here _ c.if-four_and-2.ensures)

pub returns-in-99-2 : goal.returns-in-99-2
unfolding from_among reserved
returns-in-99-2 c = c.word-in-99-2.ensures ∙ sym (from_byte _ _ 99 c.in-99.is ∙ not_here _ c.if-four_and-2.ensures (here _ c.if-four_and-3.ensures))

pub returns-in-101 : goal.returns-in-101
unfolding from_among reserved
returns-in-101 c = c.word-in-101.ensures ∙ sym (from_byte _ _ 101 c.in-101.is ∙ here _ c.if-ends_in.ensures)

pub returns-in-101-2 : goal.returns-in-101-2
unfolding from_among reserved
returns-in-101-2 c = c.word-in-101-2.ensures ∙ sym (from_byte _ _ 101 c.in-101.is ∙ not_here _ c.if-ends_in.ensures (here _ c.if-ends_in-2.ensures))

pub returns-in-102 : goal.returns-in-102
unfolding from_among reserved
returns-in-102 c = c.word-in-102.ensures ∙ sym (from_byte _ _ 102 c.in-102.is ∙ here _ c.if-four_and-4.ensures)

pub returns-in-102-2 : goal.returns-in-102-2
unfolding from_among reserved
returns-in-102-2 c = c.word-in-102-2.ensures ∙ sym (from_byte _ _ 102 c.in-102.is ∙ not_here _ c.if-four_and-4.ensures (here _ c.if-ends_in-3.ensures))

pub returns-in-104 : goal.returns-in-104
unfolding from_among reserved
returns-in-104 c = c.word-in-104.ensures ∙ sym (from_byte _ _ 104 c.in-104.is ∙ here _ c.if-ends_in-4.ensures)

pub returns-in-105 : goal.returns-in-105
unfolding from_among reserved
returns-in-105 c = c.word-in-105.ensures ∙ sym (from_byte _ _ 105 c.in-105.is ∙ here _ c.if-ends_in-5.ensures)

pub returns-in-105-2 : goal.returns-in-105-2
unfolding from_among reserved
returns-in-105-2 c = c.word-in-105-2.ensures ∙ sym (from_byte _ _ 105 c.in-105.is ∙ not_here _ c.if-ends_in-5.ensures (here _ c.if-ends_in-6.ensures))

pub returns-in-105-3 : goal.returns-in-105-3
unfolding from_among reserved
returns-in-105-3 c = c.word-in-105-3.ensures ∙ sym (from_byte _ _ 105 c.in-105.is ∙ not_here _ c.if-ends_in-5.ensures (not_here _ c.if-ends_in-6.ensures (here _ c.if-ends_in-7.ensures)))

pub returns-in-108 : goal.returns-in-108
unfolding from_among reserved
returns-in-108 c = c.word-in-108.ensures ∙ sym (from_byte _ _ 108 c.in-108.is ∙ here _ c.if-ends_in-8.ensures)

pub returns-in-112 : goal.returns-in-112
unfolding from_among reserved
returns-in-112 c = c.word-in-112.ensures ∙ sym (from_byte _ _ 112 c.in-112.is ∙ here _ c.if-four_and-5.ensures)

pub returns-in-112-2 : goal.returns-in-112-2
unfolding from_among reserved
returns-in-112-2 c = c.word-in-112-2.ensures ∙ sym (from_byte _ _ 112 c.in-112.is ∙ not_here _ c.if-four_and-5.ensures (here _ c.if-four_and-6.ensures))

pub returns-in-114 : goal.returns-in-114
unfolding from_among reserved
returns-in-114 c = c.word-in-114.ensures ∙ sym (from_byte _ _ 114 c.in-114.is ∙ here _ c.if-four_and-7.ensures)

pub returns-in-116 : goal.returns-in-116
unfolding from_among reserved
returns-in-116 c = c.word-in-116.ensures ∙ sym (from_byte _ _ 116 c.in-116.is ∙ here _ c.if-ends_in-9.ensures)

pub returns-in-116-2 : goal.returns-in-116-2
unfolding from_among reserved
returns-in-116-2 c = c.word-in-116-2.ensures ∙ sym (from_byte _ _ 116 c.in-116.is ∙ not_here _ c.if-ends_in-9.ensures (here _ c.if-ends_in-10.ensures))

pub returns-in-119 : goal.returns-in-119
unfolding from_among reserved
returns-in-119 c = c.word-in-119.ensures ∙ sym (from_byte _ _ 119 c.in-119.is ∙ here _ c.if-ends_in-11.ensures)

pub returns-in_default : goal.returns-in_default
unfolding from_among reserved
returns-in_default c = sym (from_byte _ _ 97 c.in-97.is ∙ not_here _ c.if-four_and.ensures refl)

pub returns-in_default-2 : goal.returns-in_default-2
unfolding from_among reserved
returns-in_default-2 c = sym (from_byte _ _ 99 c.in-99.is ∙ not_here _ c.if-four_and-2.ensures (not_here _ c.if-four_and-3.ensures refl))

pub returns-in_default-3 : goal.returns-in_default-3
unfolding from_among reserved
returns-in_default-3 c = sym (from_byte _ _ 101 c.in-101.is ∙ not_here _ c.if-ends_in.ensures (not_here _ c.if-ends_in-2.ensures refl))

pub returns-in_default-4 : goal.returns-in_default-4
unfolding from_among reserved
returns-in_default-4 c = sym (from_byte _ _ 102 c.in-102.is ∙ not_here _ c.if-four_and-4.ensures (not_here _ c.if-ends_in-3.ensures refl))

pub returns-in_default-5 : goal.returns-in_default-5
unfolding from_among reserved
returns-in_default-5 c = sym (from_byte _ _ 104 c.in-104.is ∙ not_here _ c.if-ends_in-4.ensures refl)

pub returns-in_default-6 : goal.returns-in_default-6
unfolding from_among reserved
returns-in_default-6 c = sym (from_byte _ _ 105 c.in-105.is ∙ not_here _ c.if-ends_in-5.ensures (not_here _ c.if-ends_in-6.ensures (not_here _ c.if-ends_in-7.ensures refl)))

pub returns-in_default-7 : goal.returns-in_default-7
unfolding from_among reserved
returns-in_default-7 c = sym (from_byte _ _ 108 c.in-108.is ∙ not_here _ c.if-ends_in-8.ensures refl)

pub returns-in_default-8 : goal.returns-in_default-8
unfolding from_among reserved
returns-in_default-8 c = sym (from_byte _ _ 112 c.in-112.is ∙ not_here _ c.if-four_and-5.ensures (not_here _ c.if-four_and-6.ensures refl))

pub returns-in_default-9 : goal.returns-in_default-9
unfolding from_among reserved
returns-in_default-9 c = sym (from_byte _ _ 114 c.in-114.is ∙ not_here _ c.if-four_and-7.ensures refl)

pub returns-in_default-10 : goal.returns-in_default-10
unfolding from_among reserved
returns-in_default-10 c = sym (from_byte _ _ 116 c.in-116.is ∙ not_here _ c.if-ends_in-9.ensures (not_here _ c.if-ends_in-10.ensures refl))

pub returns-in_default-11 : goal.returns-in_default-11
unfolding from_among reserved
returns-in_default-11 c = sym (from_byte _ _ 119 c.in-119.is ∙ not_here _ c.if-ends_in-11.ensures refl)

pub returns-in_default-12 : goal.returns-in_default-12
returns-in_default-12 c =
    let r = c.in_default.in_default-own.rest in
    sym (from_byte _ _ _ refl
    ∙ from_none _ _ _ r.0.0.0.0.0.0.0.0.0.0.1 r.0.0.0.0.0.0.0.0.0.1 r.0.0.0.0.0.0.0.0.1 r.0.0.0.0.0.0.0.1 r.0.0.0.0.0.0.1 r.0.0.0.0.0.1 r.0.0.0.0.1 r.0.0.0.1 r.0.0.1 r.0.1 r.1)
