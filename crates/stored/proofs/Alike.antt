-- Policies are read alike through two accessors that give the same entries. Assumes nothing.
use mathlib.Core.Path.{sym, ◌∙◌}
use mathlib.Core.List.{List, [], ◌∷◌}
use Prim.Native.Nat.{ℕ, ◌+◌, ◌≤◌}
use native.Mathlib.Omega.{arith}
use lib.ListN.{length}
use Rattle.grammar.specs.Policies.{Policy}
use Rattle.table.specs.declared.Entry.{Entry}
use Rattle.table.specs.Recorded.{recorded_by}
use Rattle.stored.specs.Stored.{StandFrom, none_left, one_more, StoredPolicies}
use Rattle.stored.specs.Alike.{Agree, ReadAlike}
use Rattle.stored.proofs.ReadingBack.{policies_back}
use Rattle.stored.proofs.Evaluating.{ready_policies}

module _ {at at' : ℕ → Entry} {n : ℕ} (a : Agree at at' n) where
  from_alike : {e : ℕ} (es : List Entry) → e + length es ≤ n → StandFrom at e es → StandFrom at' e es
  from_alike [] l s = none_left
  from_alike {e} (x ∷ es) l (one_more h s) = one_more (sym (a.same e (omega arith)) ∙ h) (from_alike {e = e + 1} es (omega arith) s)

  policies_alike : (ps : List Policy) → StoredPolicies at n ps → StoredPolicies at' n ps
  policies_alike ps h =
      let s = h.stands in let e = s.ends in
      record { version = h.version; stands = record { from = from_alike _ (omega arith) s.from; ends = s.ends; few = s.few } }

pub read_alike : ReadAlike
unfolding ReadAlike recorded_by
read_alike text at at' many many' end a l r =
    let other = policies_alike a _ r.stored in
    (policies_back other, ready_policies l other r.placed, λ some. rw (a.same 0 some))
