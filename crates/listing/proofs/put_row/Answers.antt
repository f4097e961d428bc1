-- `listing::put_row` meets its contract: the row's bytes are put together and written over the start of the part. Assumes nothing.
use native.Mathlib.Nat.{div-div-eq-div-mul}
use native.Mathlib.Omega.{arith}
use lib.ListN.{length-take}
use Rattle.listing.proofs.put_row.Goals as goal

pub copy_from_slice-requires-3 : goal.copy_from_slice-requires-3
copy_from_slice-requires-3 c =
    rw (c.copy_from_slice-2.ensures.after, c.to_le_bytes-2.ensures, c.copy_from_slice.ensures.after, c.to_le_bytes.ensures)
    (simp length-take (omega arith))

pub returns : goal.returns
returns c =
    rw (c.copy_from_slice-3.ensures.after, c.copy_from_slice-2.ensures.after, c.to_le_bytes-2.ensures, c.copy_from_slice.ensures.after, c.to_le_bytes.ensures, c.outcome.ensures, c.policy.ensures)
    (simp div-div-eq-div-mul)
