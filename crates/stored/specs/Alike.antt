-- Two accessors that give the same entries say the same policies, under the same version: how the bytes behind them lie does not matter. Definitions only.
use Rattle.std.specs.Prelude.{◌≡◌, List, ℕ, ◌≤◌, ◌<◌}
use Rattle.table.specs.declared.Entry.{Entry}
use Rattle.table.specs.Recorded.{recorded_by}
use Rattle.stored.specs.ReadBack.{policies_by}
use Rattle.stored.specs.Ready.{PoliciesReadyBy}

-- the entries before number n are the same
pub record Agree (at at' : ℕ → Entry) (n : ℕ) : Type 0 where
  pub same : (e : ℕ) → e < n → at e ≡ at' e

-- policies that can be evaluated through the one accessor are the same, and can be evaluated, through the other, which has as many entries as they take;
-- and where there are any, the version is the same
unfoldable pub ReadAlike : Type 0
ReadAlike = (text : List ℕ) (at at' : ℕ → Entry) (many many' end : ℕ) → Agree at at' end → end ≤ many' → PoliciesReadyBy text at many end
    → (policies_by at' end ≡ policies_by at end) × PoliciesReadyBy text at' many' end × (0 < end → recorded_by at' ≡ recorded_by at)
