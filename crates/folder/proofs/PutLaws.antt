-- Laws of bytes that are put into a lent buffer one behind the other. Assumes nothing.
use mathlib.Core.Path.{◌≡◌, refl, sym, ap, ◌∙◌}
use mathlib.Core.List.{List, [], ◌++◌, append_assoc, append-nil}
use Prim.Native.Nat.{ℕ, ◌+◌}
use native.Mathlib.Omega.{arith}
use lib.ListN.{take, length-append}
use Rattle.folder.specs.Added.{Added}

-- nothing
pub none_added : (l : List ℕ) (at : ℕ) → Added l at [] l (at + 0)
none_added l at = let e : at + 0 ≡ at = omega arith in record { counted = refl; filled = rw e (sym (append-nil (take at l))); long = refl }

-- bytes, and others behind them
pub both_added : {a b c x y : List ℕ} {at mid next : ℕ} → Added a at x b mid → Added b mid y c next → Added a at (x ++ y) c next
both_added {a} {x = x} {y = y} {at} p q = record {
  counted = omega (arith, p.counted, q.counted, length-append x y);
  filled = q.filled ∙ ap (λ (l : List ℕ). l ++ y) p.filled ∙ append_assoc (take at a) x y;
  long = q.long ∙ p.long;
}
