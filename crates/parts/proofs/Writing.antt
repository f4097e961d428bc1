-- What one entry after another leaves in the table and in the count. Assumes nothing.
use mathlib.Core.Path.{◌≡◌, refl, ◌∙◌, sym}
use mathlib.Core.List.{List, [], ◌∷◌, ◌++◌}
use mathlib.Core.Bool.{Bool, ◌&&◌}
use Prim.Native.Nat.{ℕ, ◌+◌}
use native.Mathlib.Omega.{arith}
use native.Mathlib.Nat.{add-zero}
use lib.ListN.{length, length-append}
use Rattle.table.specs.declared.Entry.{Entry}
use Rattle.table.specs.Layout.{put_at, puts, entry_is, held}
use Rattle.table.proofs.Holding.{puts_append, held_append, and_assoc, and_true}
use Rattle.parts.specs.Answers.{EntriesCounted}

-- ---- entries one after another

pub counted_append : {seen : List ℕ} (a b : List Entry) {first free free' : ℕ} {same ok ok' : Bool} → EntriesCounted seen a first same free ok → EntriesCounted seen b free ok free' ok'
    → EntriesCounted seen (a ++ b) first same free' ok'
counted_append {seen} a b {first} {free} {free'} {same} {ok} {ok'} h k = record {
  free_is = let l = length-append a b in let x = h.free_is in let y = k.free_is in omega arith;
  ok_is = k.ok_is ∙ rw (h.ok_is, h.free_is, held_append seen first a b, and_assoc same);
}

-- entries from number `first` on: they are counted, compared and put, and the table is now T
pub record Kept (seen T₀ : List ℕ) (first : ℕ) (same : Bool) (es : List Entry) (free : ℕ) (ok : Bool) (T : List ℕ) : Type 0 where
  pub counted : EntriesCounted seen es first same free ok
  pub stored : T ≡ puts T₀ first es

pub kept_none : (seen T : List ℕ) (first : ℕ) (same : Bool) → Kept seen T first same [] first same T
unfolding held puts
kept_none seen T first same = record { counted = record { free_is = sym (add-zero first); ok_is = sym (and_true same) }; stored = refl }

pub kept_append : {seen T₀ T T₂ : List ℕ} {first free free₂ : ℕ} {same ok ok₂ : Bool} {a b : List Entry} → Kept seen T₀ first same a free ok T → Kept seen T free ok b free₂ ok₂ T₂
    → Kept seen T₀ first same (a ++ b) free₂ ok₂ T₂
kept_append {T₀ = T₀} {first = first} {a = a} {b = b} h k = record {
  counted = counted_append a b h.counted k.counted;
  stored = k.stored ∙ rw (puts_append T₀ first a b, h.stored, h.counted.free_is);
}

pub kept_one : {seen T T₂ : List ℕ} {free : ℕ} {ok ok₂ : Bool} (x : Entry) → (ok₂ ≡ ok && entry_is seen free x) × (T₂ ≡ put_at T free x) → Kept seen T free ok (x ∷ []) (free + 1) ok₂ T₂
unfolding held puts
kept_one {seen} {free = free} x e = record { counted = record { free_is = refl; ok_is = e.0 ∙ rw (and_true (entry_is seen free x)) }; stored = e.1 }

pub kept_more : {seen T₀ T T₂ : List ℕ} {first free : ℕ} {same ok ok₂ : Bool} {a : List Entry} (x : Entry) → Kept seen T₀ first same a free ok T
    → (ok₂ ≡ ok && entry_is seen free x) × (T₂ ≡ put_at T free x) → Kept seen T₀ first same (a ++ x ∷ []) (free + 1) ok₂ T₂
kept_more x h e = kept_append h (kept_one x e)
