-- An entry compared by its fields, each of two bytes. Assumes nothing.
use mathlib.Core.Path.{◌≡◌, refl}
use mathlib.Core.Bool.{Bool, true, false, ◌&&◌}
use mathlib.Core.List.{List}
use Prim.Native.Nat.{ℕ, ◌+◌, ◌*◌, ◌/◌, ◌%◌, ◌<◌}
use native.Mathlib.Omega.{arith}
use lib.Dec.{eqb}
use lib.ListN.{get_or}
use borrow.Author.Tests.{eqb-true, eqb-false, eq-eqb, ne_eqb}
use Rattle.table.specs.declared.Entry.{Entry}
use Rattle.table.specs.Layout.{entry_size, fits, of_two_bytes, entry_is}
use Rattle.table.proofs.Holding.{and_assoc}

-- two bytes are a field's exactly when their number is the field
bytes_equal : (a b n : ℕ) → a < 256 → b < 256 → eqb (of_two_bytes a b) (n % 65536) ≡ eqb a (n % 256) && eqb b (n / 256 % 256)
bytes_equal a b n h k = go (eqb a (n % 256)) (eqb b (n / 256 % 256)) refl refl
  where
    go : (p q : Bool) → eqb a (n % 256) ≡ p → eqb b (n / 256 % 256) ≡ q → eqb (of_two_bytes a b) (n % 65536) ≡ p && q
    go true true e f = let x = eqb-true a (n % 256) e in let y = eqb-true b (n / 256 % 256) f in eq-eqb (of_two_bytes a b) (n % 65536) (omega arith)
    go true false e f = let y = eqb-false b (n / 256 % 256) f in ne_eqb _ _ (λ (z : of_two_bytes a b ≡ n % 65536). y (omega arith))
    go false q e f = let x = eqb-false a (n % 256) e in ne_eqb _ _ (λ (z : of_two_bytes a b ≡ n % 65536). x (omega arith))

-- an entry that is there, compared by its kind and its two fields
pub is_by_fields : (T : List ℕ) (e : ℕ) (x : Entry) → fits T e ≡ true → ((i : ℕ) → get_or T i 0 < 256)
    → eqb (get_or T (entry_size * e) 0) x.kind
    && eqb (of_two_bytes (get_or T (entry_size * e + 1) 0) (get_or T (entry_size * e + 2) 0)) (x.first % 65536)
    && eqb (of_two_bytes (get_or T (entry_size * e + 3) 0) (get_or T (entry_size * e + 4) 0)) (x.second % 65536)
    ≡ entry_is T e x
unfolding entry_is
is_by_fields T e x h b =
    let p = entry_size * e in
    rw (h, bytes_equal _ _ x.first (b (p + 1)) (b (p + 2)), bytes_equal _ _ x.second (b (p + 3)) (b (p + 4)))
    (simp and_assoc)
