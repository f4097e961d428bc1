-- Parts of byte strings, and parts of lent slices: their bytes, and where they lie. Definitions only.
use Rattle.std.specs.Prelude.{◌≡◌, List, ◌++◌, ℕ, ◌+◌, take, drop}
use Rattle.std.specs.Borrow.{Bor}

-- the n bytes from a place on
unfoldable pub part : List ℕ → ℕ → ℕ → List ℕ
part s at n = take n (drop at s)

-- the bytes s begin with the bytes a
pub record Begins (a s : List ℕ) : Type 0 where
  pub rest : List ℕ
  pub is : s ≡ a ++ rest

-- r is the n bytes of the slice s from a on: the same bytes, in the same block of memory, a further on than s
pub record IsPart (s r : Bor (List ℕ)) (a n : ℕ) : Type 0 where
  pub bytes : r.now ≡ part s.now a n
  pub block : r.ref_ptr.0 ≡ s.ref_ptr.0
  pub offset : r.ref_ptr.1 ≡ a + s.ref_ptr.1
