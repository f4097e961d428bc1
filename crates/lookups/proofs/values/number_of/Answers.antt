-- `lookups::values::number_of` meets its contract. Assumes nothing.
use native.Mathlib.Omega.{arith}
use Rattle.lookups.proofs.StepLaws.{as_number, as_flag, told, number_is, flag_on, flag_off, no_number}
use Rattle.lookups.proofs.values.number_of.Goals as goal

pub number_at-requires : goal.number_at-requires
number_at-requires c =
    let w = as_number _ _ _ _ c.requires.1 c.in-2.is in
    record {
      at_in_bounds = w.fits;
      t = told _ w.is;
    }

pub returns-in-2 : goal.returns-in-2
returns-in-2 c = number_is _ _ _ _ c.in-2.is c.number_at.ensures

pub bounds-s-at : goal.bounds-s-at
bounds-s-at c = (as_flag _ _ _ _ c.requires.1 c.in-3.is).fits

pub returns-in-3 : goal.returns-in-3
returns-in-3 c = flag_on _ _ _ c.in-3.is c.if-s-at-eq1.true

pub returns-in_default : goal.returns-in_default
returns-in_default c = flag_off _ _ _ c.in-3.is c.if-s-at-eq1.false

pub returns-in_default-2 : goal.returns-in_default-2
returns-in_default-2 c = no_number _ _ _ (omega arith) (omega arith)
