-- `policies::read_all` meets its contract: the policies so far are read, and the rest is what is read from here on; each policy takes of the text. Assumes nothing.
use Prim.Native.Nat.{◌-◌}
use lib.ListN.{length}
use Rattle.reading.specs.Lexemes.{tokens_of}
use Rattle.grammar.specs.Parser.{read_text}
use Rattle.policies.proofs.Texts.{Underway}
use Rattle.policies.proofs.read_all.Given as goal

abbrev pub invariant-loop-policies : goal.invariant-loop-policies
invariant-loop-policies l = Underway l.version l.initial.reader l.reader (read_text (tokens_of l.initial.reader.text.now)) l.policies

abbrev pub decreases-loop-policies : goal.decreases-loop-policies
decreases-loop-policies l = length l.initial.reader.text.now - l.reader.next.start
