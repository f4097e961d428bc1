-- `patterns::admits_character` meets its contract. Assumes nothing.
use Rattle.patterns.proofs.Texts.{ascii_at, by_bytes, others_admit, admits_firsts, same_firsts}
use Rattle.slices.proofs.Decided.{yes_to, no_to, refuted, carried}
use Rattle.patterns.proofs.admits_character.Goals as goal

pub returns-then-not-admits : goal.returns-then-not-admits
returns-then-not-admits c = let h = c.requires in no_to (λ t. refuted c.admits.ensures c.if-not-admits.true (admits_firsts _ _ _ _ h.0 h.1 h.2 h.3 t))

pub returns-then-c-le127 : goal.returns-then-c-le127
returns-then-c-le127 c = let h = c.requires in by_bytes _ _ _ _ h.0 h.1 h.2 h.3 c.if-c-le127.true (yes_to (c.admits.ensures.sound c.if-not-admits.false))

pub returns-then-x-c : goal.returns-then-x-c
returns-then-x-c c = let h = c.requires in yes_to (others_admit (ascii_at _ _ h.0 h.1) (ascii_at _ _ h.2 h.3) c.if-x-c.true (c.admits.ensures.sound c.if-not-admits.false))

pub returns : goal.returns
returns c = let h = c.requires in carried (same_firsts _ _ _ _ h.0 h.1 h.2 h.3 c.character_end-e.ensures c.character_end-f.ensures c.if-x-c.false (c.admits.ensures.sound c.if-not-admits.false)) c.same.ensures
