-- The bytes that a text is compiled to say its policies: they are read back from any table that begins with them. Assumes nothing.
use mathlib.Core.Path.{◌≡◌, sym, ◌∙◌, ap, subst}
use mathlib.Core.List.{List, [], append-nil}
use Prim.Native.Nat.{ℕ, ◌≤◌}
use native.Mathlib.Omega.{arith}
use lib.ListN.{length, length-append}
use Rattle.grammar.specs.Policies.{Policy}
use Rattle.grammar.specs.declared.Version.{Version}
use Rattle.placing.proofs.Theorems.{policies_placed}
use Rattle.table.specs.Entries.{policies_entries}
use Rattle.slices.specs.Parts.{Begins}
use Rattle.table.specs.Layout.{entry_at, entries_in, bytes_of}
use Rattle.table.proofs.Holding.{length_bytes_of, room_many}
use Rattle.stored.specs.Stored.{TextSays, StoredPolicies}
use Rattle.stored.specs.ReadBack.{policies_at}
use Rattle.stored.specs.Ready.{ReadyPolicies}
use Rattle.stored.proofs.Begun.{begins_stored}
use Rattle.stored.proofs.ReadingBack.{policies_back, one_list}
use Rattle.stored.proofs.Evaluating.{ready_policies}

-- a table that begins with a text's compiled bytes says its policies
module _ (version : Version) {table text : List ℕ} {ps : List Policy} (says : TextSays text ps) (b : Begins (bytes_of (policies_entries version 0 ps)) table) where
  pub compiled_says : policies_at table (length (policies_entries version 0 ps)) ≡ ps
  compiled_says = policies_back (begins_stored version table says b)

  -- and they can be evaluated there
  pub compiled_ready : ReadyPolicies text table (length (policies_entries version 0 ps))
  compiled_ready = ready_policies room (begins_stored version table says b) (policies_placed text ps says.read).each
    where
      room : length (policies_entries version 0 ps) ≤ entries_in table
      room =
          let es = policies_entries version 0 ps in
          let n = length_bytes_of es in let l = ap length b.is in let m = length-append (bytes_of es) b.rest in
          room_many table (length es) (omega arith)

-- two texts that are compiled to the same bytes, under whatever versions, say the same policies
module _ (version version' : Version) {a b : List ℕ} {ps qs : List Policy} (h : TextSays a ps) (k : TextSays b qs) where
  pub same_bytes : bytes_of (policies_entries version 0 ps) ≡ bytes_of (policies_entries version' 0 qs) → ps ≡ qs
  same_bytes e =
      let es = policies_entries version 0 ps in let fs = policies_entries version' 0 qs in let T = bytes_of es in
      let n = length_bytes_of es in let m = length_bytes_of fs in let l = ap length e in
      let same : length fs ≡ length es = omega arith in
      one_list (begins_stored version T h (record { rest = []; is = sym (append-nil T) }))
      (subst (λ (i : ℕ). StoredPolicies (entry_at T) i qs) same (begins_stored version' T k (record { rest = []; is = e ∙ sym (append-nil (bytes_of fs)) })))
