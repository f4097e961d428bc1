-- `lock_reader::vocabulary::is_vocabulary` meets its contract: the entries left are a vocabulary's exactly when all are. Assumes nothing.
use Rattle.locks.specs.Reading.{entries_from, is_vocabulary}
use lib.ListN.{length}
use mathlib.Core.Path.{◌≡◌}
use Prim.Native.Nat.{◌-◌, ◌≤◌}
use Rattle.lock_reader.proofs.vocabulary.is_vocabulary.Given as goal

abbrev pub invariant-loop : goal.invariant-loop
invariant-loop l = (entries_from (16 - l.counter) l.vocabulary l.at ≡ is_vocabulary l.vocabulary) × (l.at ≤ length l.vocabulary)
