-- A table that holds its text: its policies are those that the text says, and can be evaluated there. Assumes nothing.
use Rattle.compiling.specs.Outcome.{table_size}
use Rattle.std.specs.Prelude.{Err, Ok, None, Some}
use mathlib.Core.Path.{◌≡◌, refl, sym, ◌∙◌, ap}
use mathlib.Core.List.{List, []}
use Prim.Native.Nat.{ℕ, ◌≤◌}
use lib.ListN.{length}
use Rattle.reading.specs.Reader.{took}
use Rattle.grammar.specs.Policies.{Policy}
use Rattle.placing.proofs.Theorems.{policies_placed}
use Rattle.table.specs.Entries.{policies_entries}
use Rattle.slices.specs.Parts.{Begins}
use Rattle.table.specs.Layout.{bytes_of}
use Rattle.table.specs.Recorded.{recorded}
use Rattle.table.proofs.Holding.{starts_decides, held_starts}
use Rattle.stored.specs.Stored.{TextSays}
use Rattle.stored.specs.ReadBack.{policies_at}
use Rattle.stored.specs.Ready.{ReadyPolicies}
use Rattle.stored.proofs.Theorems.{compiled_says, compiled_ready}
use Rattle.compiling.specs.Outcome.{said, held_of}
use Rattle.compiling_promise.specs.Promise.{HeldRightly, TableHolds}
use Rattle.compiling.proofs.Outcomes.{right_begins, wrong_begins}
use Rattle.compiling_promise.proofs.Promised.{held_rightly}
use Rattle.bags.specs.declared.sections.Sections.{Sections}
use Rattle.views.specs.Meaning.{View, look, columns_first}
use Rattle.views.specs.Values.{base_bag}
use Rattle.views.specs.Rows.{chosen_of, row_view}
use Rattle.placing.specs.Said.{words_of}
use Rattle.meaning.specs.Targets.{Request}
use Rattle.meaning.specs.Decisions.{under, policies_marked}
use Rattle.meaning.specs.declared.Marked.{Marked}
use Rattle.deciding.specs.Answers.{policies_in, policies_of, held_decide}

-- the policies that a text says are those that its tokens are read as
pub policies_said : (text : List ℕ) (ps : List Policy) → said text ≡ took ps [] → policies_of text ≡ ps
unfolding policies_in
policies_said text ps e = rw e

-- a bag is a row without columns
pub plain_row : (s : List ℕ) (p : Sections) (heads values : List ℕ) → row_view s p 0 heads values ≡ look (base_bag s p)
unfolding row_view chosen_of columns_first
plain_row s p heads values = refl

module _ (text table : List ℕ) (policies entries : ℕ) (h : held_of text table ≡ Some (table_size policies entries)) where
  holds : TableHolds text table policies entries
  unfolding HeldRightly
  holds = held_rightly text table policies entries h

  says : TextSays text holds.value
  unfolding said
  says = record { short = holds.short; read = holds.is }

  begins : Begins (bytes_of (policies_entries (recorded table) 0 holds.value)) table
  begins = (starts_decides (bytes_of (policies_entries (recorded table) 0 holds.value)) table).sound (sym (held_starts table 0 (policies_entries (recorded table) 0 holds.value)) ∙ holds.held_all)

  pub held_ready : ReadyPolicies text table entries
  held_ready = rw holds.count (compiled_ready (recorded table) says begins)

  pub held_says : policies_at table entries ≡ policies_of text
  held_says = ap (λ (n : ℕ). policies_at table n) holds.count ∙ compiled_says (recorded table) says begins ∙ sym (policies_said text holds.value holds.is)

  pub held_many : policies ≡ length (policies_at table entries)
  held_many = holds.many ∙ ap length (sym (policies_said text holds.value holds.is) ∙ sym held_says)

  -- at most 64
  pub held_few : policies ≤ 64
  held_few = rw holds.many (policies_placed text holds.value says.read).few

  pub held_decides : (view : View) (q : Request) {m : Marked} → m ≡ policies_marked (under (recorded table) view) q (words_of text (policies_at table entries))
      → Ok m ≡ held_decide text table view q
  unfolding held_decide
  held_decides view q e = rw (e, held_says, ← right_begins text table (sym h))

pub wrong_decides : (text table : List ℕ) (view : View) (q : Request) → held_of text table ≡ None → Err 20 ≡ held_decide text table view q
unfolding held_decide
wrong_decides text table view q h = rw (← wrong_begins text table (sym h))
