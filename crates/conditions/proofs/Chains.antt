-- The loop of a chain of conditions: what is known where it turns, how a turn goes on, and what is read where the loop is left. Assumes nothing.
use mathlib.Core.Path.{◌≡◌, refl, ◌∙◌, sym}
use mathlib.Core.List.{List, [], ◌∷◌, ◌++◌}
use Prim.Native.Nat.{ℕ, ◌+◌, ◌-◌, ◌^◌, ◌≤◌, ◌<◌}
use lib.ListN.{length}
use native.Mathlib.Omega.{arith}
use borrow.Author.Tests.{eq-eqb, ne_eqb}
use Rattle.std.specs.Prelude.{Result, Ok, Err}
use Rattle.tokens.specs.Tokens.{Reads}
use Rattle.tokens.proofs.ReadLaws.{reads}
use Rattle.reading.specs.Lexemes.{Lexeme, is, stream}
use Rattle.reading.specs.Reader as reading
use Rattle.reading.specs.Reader.{took, bind, on, mapped, onwards}
use Rattle.grammar.specs.Policies.{Tree}
use Rattle.table.specs.Entries.{entry, joint, tree_entries}
use Rattle.parts.specs.Answers.{ReadyToRead, DoneFrom, PutBy, passed}
use Rattle.parts.specs.declared.answers.Reader.{Reader}
use Rattle.parts.proofs.SoFar.{SoFar, AfterRead, so_begins, so_as, so_of, so_put_as, so_passed, so_other, so_read, so_lost, so_put, so_free, so_ready, so_high, so_small, as_read}
use Rattle.leaves.proofs.Handed.{mapped_bind, so_end}

abbrev pub loop : ℕ → (Tree → Tree → Tree) → reading.Reader Tree → Tree → reading.Reader Tree
loop sep join part = onwards (λ a. is sep) (λ a x. mapped (join a) part)

-- what is read so far: a chain, and what goes on from the token that stands next
pub record Chained (old now : Reader) (sep : ℕ) (join : Tree → Tree → Tree) (part : reading.Reader Tree) (total : reading.Answer Tree) : Type 0 where
  pub value : Tree
  pub so : SoFar old now old.next.start total (loop sep join part value) (tree_entries old.free value)
  pub past : old.next.start + 1 ≤ now.next.start

module _ {old : Reader} {sep : ℕ} {join : Tree → Tree → Tree} {part : reading.Reader Tree} {total : reading.Answer Tree} where
  -- its first part was read
  pub chain_begins : {low : ℕ} {new : Reader} {r : Result (Unit {0}) ℕ} {u : Unit {0}} → Reads old.text.now low old.next → total ≡ bind (part (stream old.text.now old.next)) (loop sep join part)
      → DoneFrom tree_entries old.next.start (part (stream old.text.now old.next)) old new r → r ≡ Ok u → Chained old new sep join part total
  chain_begins lies e d ok =
      let k = so_read part (loop sep join part) (so_of e (so_begins old (λ i. bind (part i) (loop sep join part)) lies)) d ok (omega arith) in
      record { value = k.value; so = k.so; past = (as_read ok d.says).lies.low }

  module _ {now : Reader} (c : Chained old now sep join part total)
      (step : (t : Tree) (i : List Lexeme) → loop sep join part t i ≡ on (is sep) (λ _ m. bind (mapped (join t) part m) (loop sep join part)) (took t) i) where
    -- no separator follows: all is read
    pub chain_ends : {u : Unit {0}} → (now.next.kind ≡ sep → ⊥) → DoneFrom tree_entries old.next.start total old now (Ok u)
    chain_ends n =
        let k = so_other (is sep) (λ _ m. bind (mapped (join c.value) part m) (loop sep join part)) (took c.value) (so_as (on (is sep) (λ _ m. bind (mapped (join c.value) part m) (loop sep join part)) (took c.value)) (step c.value) c.so) (ne_eqb _ _ n) in
        so_end c.value k refl (omega arith) c.past

    module _ (pos : 0 < sep) (m : now.next.kind ≡ sep) {at : Reader} (p : at ≡ passed now) where
      -- a separator follows, and the next part after it
      pub chain_turns : SoFar old at (old.next.start + 1) total (λ i. bind (part i) (λ u. loop sep join part (join c.value u))) (tree_entries old.free c.value)
      chain_turns = so_as (λ i. bind (part i) (λ u. loop sep join part (join c.value u))) (mapped_bind (join c.value) part (loop sep join part))
          (so_passed (is sep) (λ _ m. bind (mapped (join c.value) part m) (loop sep join part)) (took c.value) (so_as (on (is sep) (λ _ m. bind (mapped (join c.value) part m) (loop sep join part)) (took c.value)) (step c.value) c.so)
          p (λ (z : now.next.kind ≡ 0). omega arith) (eq-eqb _ _ m))

      module _ {new : Reader} {r : Result (Unit {0}) ℕ} (d : DoneFrom tree_entries at.next.start (part (stream at.text.now at.next)) at new r) where
        -- the refusal of a part is the refusal of all
        pub chain_lost : {n : ℕ} → r ≡ Err n → DoneFrom tree_entries old.next.start total old new (Err n)
        chain_lost e = so_lost part (λ u. loop sep join part (join c.value u)) chain_turns d e

        module _ {u : Unit {0}} (e : r ≡ Ok u) where
          joined : AfterRead old new (old.next.start + 1) total (λ u. loop sep join part (join c.value u)) (tree_entries old.free c.value) (tree_entries at.free)
          joined = so_read part (λ u. loop sep join part (join c.value u)) chain_turns d e (omega arith)

          pub chain_small : length old.text.now < 2 ^ 60 → old.free ≤ old.next.start → new.free < 2 ^ 60
          chain_small s l = so_small joined.so s (omega arith)

          module _ {kind : ℕ} {put : Reader} (b : PutBy (entry kind now.free 0) new put) where
            -- the token that stands next is a later one
            further : now.next.start < put.next.start
            further =
                let one = c.so.lies.some (λ (z : now.next.kind ≡ 0). omega arith) in
                let after : now.next.end ≤ at.next.start = rw p (rw c.so.keeps.text (reads old.text.now now.next.end c.so.lies.high).low) in
                let low = (as_read e d.says).lies.low in
                rw b.next (omega arith)

            pub chain_more : ((l v : Tree) → tree_entries old.free (join l v) ≡ joint kind old.free (tree_entries old.free l) (λ f. tree_entries f v)) → Chained old put sep join part total
            chain_more shape = record {
              value = join c.value joined.value;
              so = so_put_as (alike c.value joined.value (so_free chain_turns) (so_free c.so)) (so_put joined.so b);
              past = let x = c.past in let y = further in omega (arith, y);
            }
              where
                alike : (l v : Tree) {f g : ℕ} → f ≡ old.free + length (tree_entries old.free l) → g ≡ old.free + length (tree_entries old.free l)
                    → (tree_entries old.free l ++ tree_entries f v) ++ entry kind g 0 ∷ [] ≡ tree_entries old.free (join l v)
                alike l v e q = rw (e, q) (sym (shape l v))

            pub chain_smaller : length old.text.now - put.next.start < length old.text.now - now.next.start
            chain_smaller = let x = further in let y = c.so.lies.some (λ (z : now.next.kind ≡ 0). omega arith) in let h = c.so.lies.high in omega arith
