-- Document 01's checked examples A to L hold of the desk: computed from bytes to answers. Assumes nothing.
use mathlib.Core.Path.{refl}
use Rattle.desk.specs.Answers.{compile_says, decide_says}
use Rattle.desk.specs.Cases.{CasesAtoL, MetInOrder}
use Rattle.deciding.proofs.Opened.{deciding_opened}

pub cases_a_to_l : CasesAtoL
unfolding deciding_opened compile_says decide_says
cases_a_to_l = record {
  A = (refl, refl);
  B = (refl, refl);
  C = refl;
  D = refl;
  E = refl;
  F = refl;
  G = refl;
  H = refl;
  I = (refl, refl);
  I_second = (refl, refl);
  J = (refl, refl, refl);
  K = refl;
  L = refl;
}

pub met_in_order : MetInOrder
unfolding deciding_opened compile_says decide_says
met_in_order = record {
  after_false = refl;
  after_true = refl;
  not_else = refl;
  not_then = refl;
  met_first = refl;
  both_met = refl;
  has_meets = refl;
}
