-- A list's literals, step by step. Assumes nothing.
use mathlib.Core.Path.{◌≡◌, refl, ◌∙◌, ap}
use mathlib.Core.Bool.{Bool, true, false, ◌&&◌, and-false}
use mathlib.Core.List.{List, [], ◌∷◌, ◌++◌, map-append}
use Prim.Native.Nat.{ℕ, ◌+◌, ◌-◌, ◌≤◌, ◌<◌}
use native.Mathlib.Omega.{arith}
use lib.Dec.{ltb}
use lib.ListN.{length, length-map}
use borrow.Author.Tests.{eq-eqb, ne_eqb, lt-ltb, le-ltb}
use Rattle.tokens.specs.Kinds as kinds
use Rattle.tokens.specs.Tokens.{token_at, Reads}
use Rattle.reading.specs.Lexemes.{Lexeme, lexeme, is, stream}
use Rattle.reading.specs.Reader as reading
use Rattle.reading.specs.Reader.{took, refuse_by, bind, need, before, chain, onwards}
use Rattle.reading.proofs.Stream.{next_on, next_off}
use Rattle.grammar.specs.Policies.{Literal}
use Rattle.grammar.specs.Rules.{literal_of, is_text}
use Rattle.grammar.specs.Parser.{no_element, is_text_of, is_element, read_element, read_list}
use Rattle.grammar.proofs.Completeness.{text_of, no_text_of, no_sort_of}
use Rattle.grammar.proofs.Steps.{list_step}
use Rattle.table.specs.declared.Entry.{Entry}
use Rattle.table.specs.Entries.{entry, literal_entry, literal_entries}
use Rattle.std.specs.Prelude.{Result, Err}
use Rattle.parts.specs.Answers.{DoneFrom, passed, PutBy, Expected}
use Rattle.parts.specs.declared.answers.Reader.{Reader}
use Rattle.parts.proofs.Standing.{ahead, turned_as, turned_bind, turned_for}
use Rattle.parts.proofs.SoFar.{SoFar, so_begins, so_from, so_at, so_to, so_put, so_put_as, so_free, so_closed, done_turned}

module _ (sort : Lexeme → Bool) where
  -- after a literal: the others and `]`
  abbrev pub and_others : reading.Answer (List Literal) → reading.Answer (List Literal)
  and_others p = bind (bind p (onwards (λ ls. is kinds.comma) (λ ls comma. read_element sort ls))) (λ ls. need kinds.right_square (took ls))

  -- what is known of a list so far: the literals read and put, and one that must stand next
  pub record Listing (old now : Reader) (total : reading.Answer (List Literal)) : Type 0 where
    pub ls : List Literal
    pub so : SoFar old now old.next.start total (λ i. and_others (read_element sort ls i)) (literal_entries ls)

  pub listing_none : {low : ℕ} (old : Reader) → Reads old.text.now low old.next → Listing old old (read_list sort (stream old.text.now old.next))
  unfolding read_list before chain
  listing_none old r = record { ls = []; so = so_begins old (λ i. and_others (read_element sort [] i)) r }

  module _ {old now : Reader} {total : reading.Answer (List Literal)} (l : Listing old now total) where
    count : now.free ≡ old.free + length l.ls
    count = so_free l.so ∙ ap (λ (n : ℕ). old.free + n) (length-map l.ls literal_entry)

    pub free_past : old.free ≤ now.free
    free_past = let x = count in omega arith

    module _ {es : ℕ → List Literal → List Entry} {from : ℕ} where
      refuses : {n : ℕ} → is_element sort l.ls (lexeme now.text.now now.next) ≡ false → n ≡ no_element sort l.ls (lexeme now.text.now now.next) → DoneFrom es from total old now (Err n)
      unfolding read_element
      refuses e p =
          let keeps = l.so.keeps in
          done_turned keeps (turned_as l.so.is (turned_bind _ (turned_bind _
          (turned_as (next_off old.text.now now.next (is_element sort l.ls) _ _ (rw keeps.text at e)) (turned_for old.text.now now.next (no_element sort l.ls) (rw keeps.text at p) refl)))))

      pub listing_off : sort (lexeme now.text.now now.next) ≡ false → DoneFrom es from total old now (Err 10)
      unfolding is_element no_element
      listing_off e = refuses (rw (no_sort_of sort (lexeme now.text.now now.next) e) (and-false (ltb (length l.ls) 16))) (rw e)

      pub listing_full : sort (lexeme now.text.now now.next) ≡ true → 16 ≤ now.free - old.free → DoneFrom es from total old now (Err 14)
      unfolding is_element no_element
      listing_full e h = let c = count in let k = le-ltb (length l.ls) 16 (omega arith) in refuses (rw k) (rw (e, k))

      pub listing_odd : sort (lexeme now.text.now now.next) ≡ true → now.free - old.free < 16 → is_text (lexeme now.text.now now.next) ≡ false → DoneFrom es from total old now (Err 17)
      unfolding is_element no_element
      listing_odd e h u = let c = count in let k = lt-ltb (length l.ls) 16 (omega arith) in refuses (rw (k, no_text_of sort (lexeme now.text.now now.next) u)) (rw (e, k))

    module _ (e : sort (lexeme now.text.now now.next) ≡ true) (some : now.next.kind ≡ 0 → ⊥) (h : now.free - old.free < 16) (u : is_text (lexeme now.text.now now.next) ≡ true)
        (x : Entry) (x_is : x ≡ literal_entry (literal_of (lexeme now.text.now now.next))) {at after : Reader} (q : at ≡ passed now) (p : PutBy x at after) where
      abbrev more : List Literal
      more = l.ls ++ literal_of (lexeme old.text.now now.next) ∷ []

      -- after that literal: others, or `]`
      abbrev others : reading.Reader (List Literal)
      others i = bind (onwards (λ ls. is kinds.comma) (λ ls comma. read_element sort ls) more i) (λ ls. need kinds.right_square (took ls))

      pub taken : SoFar old after old.next.start total others (literal_entries more)
      unfolding read_element is_element bind
      taken =
          let c = count in
          let keeps = l.so.keeps in
          let fits : is_element sort l.ls (lexeme old.text.now now.next) ≡ true = rw (lt-ltb (length l.ls) 16 (omega arith)) (rw keeps.text at (text_of sort (lexeme now.text.now now.next) e u)) in
          let so = so_to others l.so q some (rw (next_on old.text.now now.next (is_element sort l.ls) (λ x. took (l.ls ++ literal_of x ∷ [])) (refuse_by (no_element sort l.ls)) _ some l.so.lies.high refl fits)) in
          so_put_as (rw (map-append literal_entry l.ls (literal_of (lexeme old.text.now now.next) ∷ [])) (rw (rw keeps.text at x_is))) (so_put so p)

      pub listing_ends : {from : ℕ} {new : Reader} {r : Result (Unit {0}) ℕ} → (after.next.kind ≡ kinds.comma → ⊥) → Expected kinds.right_square after new r → from ≤ old.next.start
          → DoneFrom (λ e. literal_entries) from total old new r
      unfolding bind
      listing_ends n c low =
          so_closed kinds.right_square more (omega arith) (so_at (need kinds.right_square (took more)) taken
          (ap (λ (p : reading.Answer (List Literal)). bind p (λ ls. need kinds.right_square (took ls)))
          (list_step sort more (stream old.text.now after.next) ∙ next_off old.text.now after.next (is kinds.comma) _ _ (ne_eqb _ _ n)))) c refl low

      pub listing_on : {new : Reader} → after.next.kind ≡ kinds.comma → new ≡ passed after → Listing old new total
      unfolding bind
      listing_on {new} c q' = record {
        ls = more;
        so = so_from old.next.start (omega arith) (so_to (λ i. and_others (read_element sort more i)) taken q' (λ (z : after.next.kind ≡ 0). omega arith)
            (ap (λ (p : reading.Answer (List Literal)). bind p (λ ls. need kinds.right_square (took ls)))
            (list_step sort more (stream old.text.now after.next) ∙ next_on old.text.now after.next (is kinds.comma) _ _ _ (λ (z : after.next.kind ≡ 0). omega arith) taken.lies.high refl (eq-eqb _ _ c))));
      }

      pub listing_smaller : {new : Reader} → after.next.kind ≡ kinds.comma → new ≡ passed after → length old.text.now - new.next.start < length old.text.now - now.next.start
      listing_smaller {new} c q' =
          let n : after.next ≡ token_at old.text.now now.next.end = p.next ∙ rw q (rw l.so.keeps.text refl) in
          let m : new.next ≡ token_at old.text.now after.next.end = rw q' (rw taken.keeps.text refl) in
          let x = ahead now.next l.so.lies some n in
          let y = ahead after.next taken.lies (λ (z : after.next.kind ≡ 0). omega arith) m in
          omega (arith, x.0, x.1, y.0, y.1)

-- after the entries `a` and those of the literals comes an entry that counts them
pub list_count : (a : List Entry) (ls : List Literal) (kind first n : ℕ) → n ≡ first + length (literal_entries ls) → (a ++ literal_entries ls) ++ entry kind (length ls) 0 ∷ [] ≡ (a ++ literal_entries ls) ++ entry kind (n - first) 0 ∷ []
list_count a ls kind first n e =
    let l = length-map ls literal_entry in
    let k : length ls ≡ n - first = omega arith in
    rw k
