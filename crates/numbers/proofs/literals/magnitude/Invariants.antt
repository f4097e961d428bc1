-- `numbers::literals::magnitude` meets its contract. The invariant: the rest of the text, after what is read, gives what the whole text gives. Assumes nothing.
use Rattle.numbers.proofs.Reading.{SoFar}
use Rattle.numbers.proofs.literals.magnitude.Given as goal

abbrev pub invariant-loop-b : goal.invariant-loop-b
invariant-loop-b l = SoFar l.text l.digits l.power l.scale l.b-index
