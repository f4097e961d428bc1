-- `token_reader::next_token` meets its contract: the blanks' end from `start` on is the blanks' end from `at` on. Assumes nothing.
use mathlib.Core.Path.{◌≡◌}
use Prim.Native.Nat.{◌-◌, ◌≤◌}
use lib.ListN.{length, get_or}
use Rattle.tokens.specs.Runs.{run_end}
use Rattle.tokens.specs.Table.{entry_of}
use Rattle.tokens.specs.declared.classes.Sort.TheVariants.{Blanks}
use Rattle.token_reader.proofs.next_token.Given as goal

abbrev pub invariant-loop-entry : goal.invariant-loop-entry
invariant-loop-entry l = (run_end Blanks l.text l.start ≡ run_end Blanks l.text l.at) × (l.at ≤ l.start) × (l.start ≤ length l.text) × (l.entry ≡ entry_of (get_or l.text l.start 0))

abbrev pub decreases-loop-entry : goal.decreases-loop-entry
decreases-loop-entry l = length l.text - l.start
