-- `lock_reader::vocabulary::entry_at` meets its contract: a whole entry, or one that is cut off. Assumes nothing.
use native.Mathlib.Omega.{arith}
use lib.ListN.{get_or}
use Prim.Native.Nat.{◌+◌}
use Rattle.locks.proofs.EntryLaws.{none_is, cut, entry_whole}
use borrow.Author.Rules.{rules}
use Rattle.lock_reader.proofs.vocabulary.entry_at.Goals as goal

pub returns-then-vocabulary-at : goal.returns-then-vocabulary-at
returns-then-vocabulary-at c = none_is _ _ _ c.no_entry.ensures (cut _ _ (omega arith))

pub overflow_cast-n : goal.overflow_cast-n
overflow_cast-n c = omega (arith, c.type_inv.vocabulary c.args.at)

pub returns-then-vocabulary-word : goal.returns-then-vocabulary-word
returns-then-vocabulary-word c = none_is _ _ _ c.no_entry-then-vocabulary-word.ensures (cut _ _ (omega arith))

pub overflow_cast-m : goal.overflow_cast-m
overflow_cast-m c = omega (arith, c.type_inv.vocabulary (c.args.at + 1 + get_or c.args.vocabulary.now c.args.at 0))

pub returns-then-vocabulary-path : goal.returns-then-vocabulary-path
returns-then-vocabulary-path c = none_is _ _ _ c.no_entry-then-vocabulary-path.ensures (cut _ _ (omega arith))

pub returns : goal.returns
returns c = entry_whole _ _ (omega (arith, c.type_inv.vocabulary (c.args.at + 1 + get_or c.args.vocabulary.now c.args.at 0))) (omega arith)
