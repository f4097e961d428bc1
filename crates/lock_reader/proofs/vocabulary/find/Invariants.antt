-- `lock_reader::vocabulary::find` meets its contract: what is found from the next entry on is what is found from all. Assumes nothing.
use Rattle.locks.specs.Reading.{find_from, most}
use mathlib.Core.Path.{◌≡◌}
use Prim.Native.Nat.{◌-◌}
use Rattle.lock_reader.proofs.vocabulary.find.Given as goal

abbrev pub invariant-loop : goal.invariant-loop
invariant-loop l = find_from (16 - l.counter) l.vocabulary l.at l.word ≡ find_from most l.vocabulary l.from l.word
