-- What stands in brackets, and the three parts of a choice: what is read after each part, and what is read at the end. Assumes nothing.
use mathlib.Core.Path.{◌≡◌, refl, ◌∙◌, sym}
use mathlib.Core.List.{List, [], ◌∷◌, ◌++◌}
use Prim.Native.Nat.{ℕ, ◌+◌, ◌-◌, ◌≤◌, ◌<◌}
use native.Mathlib.Omega.{arith}
use lib.ListN.{length, length-append}
use Rattle.std.specs.Prelude.{Result, Ok, Err}
use Rattle.tokens.specs.Kinds as kinds
use Rattle.tokens.specs.Tokens.{Reads}
use Rattle.reading.specs.Lexemes.{Lexeme, stream}
use Rattle.reading.specs.Reader as reading
use Rattle.reading.specs.Reader.{took, bind, need, before, mapped}
use Rattle.grammar.specs.Policies.{Tree, brackets, choice}
use Rattle.grammar.specs.Parser.{read_disjunction, read_bracketed, read_conditional}
use Rattle.table.specs.Entries.{entry, tree_entries}
use Rattle.parts.specs.Answers.{DoneFrom, PutBy, Expected}
use Rattle.parts.specs.declared.answers.Reader.{Reader}
use Rattle.parts.proofs.SoFar.{SoFar, AfterRead, so_begins, so_as, so_put_as, so_put, so_free, so_read, so_lost, so_stood, so_stopped, so_mapped, so_done_put}
use Rattle.leaves.proofs.Handed.{before_bind}

-- ---- brackets

module _ (inner : reading.Reader Tree) {r n₁ : Reader} {low : ℕ} (lies : Reads r.text.now low r.next) {s₁ : Result (Unit {0}) ℕ}
    (d₁ : DoneFrom tree_entries r.next.start (read_disjunction inner (stream r.text.now r.next)) r n₁ s₁) {u₁ : Unit {0}} (ok₁ : s₁ ≡ Ok u₁) where
  abbrev pub total : reading.Answer Tree
  total = read_bracketed inner (stream r.text.now r.next)

  pub group_inside : AfterRead r n₁ r.next.start total (λ v. need kinds.right_round (took (brackets v))) [] (tree_entries r.free)
  unfolding read_bracketed mapped
  group_inside =
      so_read (read_disjunction inner) (λ v. need kinds.right_round (took (brackets v)))
      (so_as (λ i. bind (read_disjunction inner i) (λ v. need kinds.right_round (took (brackets v)))) (before_bind kinds.right_round (read_disjunction inner) (λ v. took (brackets v))) (so_begins r (read_bracketed inner) lies))
      d₁ ok₁ (omega arith)

  module _ {n₂ : Reader} {s₂ : Result (Unit {0}) ℕ} (x : Expected kinds.right_round n₁ n₂ s₂) where
    pub group_open : {n : ℕ} → s₂ ≡ Err n → DoneFrom tree_entries (r.next.start - 1) total r n₂ (Err n)
    group_open e = so_stopped kinds.right_round (took (brackets group_inside.value)) group_inside.so x e

    module _ {u₂ : Unit {0}} (ok₂ : s₂ ≡ Ok u₂) where
      pub group_closed : SoFar r n₂ (r.next.start + 1) total (took (brackets group_inside.value)) (tree_entries r.free group_inside.value)
      group_closed = so_stood kinds.right_round (took (brackets group_inside.value)) (omega arith) group_inside.so x ok₂

      pub group_ends : {n₃ : Reader} {u : Unit {0}} → PutBy (entry 25 0 0) n₂ n₃ → DoneFrom tree_entries (r.next.start - 1) total r n₃ (Ok u)
      unfolding tree_entries
      group_ends p = so_done_put (tree_entries r.free group_inside.value) (entry 25 0 0) (brackets group_inside.value) (so_put group_closed p) refl (omega arith)

-- ---- a choice

-- after the first part
abbrev pub after_then : reading.Reader Tree → Tree → reading.Reader Tree
after_then inner c i = bind (before kinds.else_word inner i) (λ a. mapped (choice c a) inner)

-- after the second
abbrev pub after_else : reading.Reader Tree → Tree → Tree → reading.Reader Tree
after_else inner c a = mapped (choice c a) inner

-- its entries
alike : (e : ℕ) (c a b : Tree) {f g : ℕ} → f ≡ e + length (tree_entries e c) → g ≡ e + length (tree_entries e c ++ tree_entries f a)
    → tree_entries e (choice c a b) ≡ ((tree_entries e c ++ tree_entries f a) ++ tree_entries g b) ++ entry 28 f g ∷ []
unfolding tree_entries
alike e c a b {f} {g} p q =
    let n = length-append (tree_entries e c) (tree_entries f a) in
    let k : g ≡ f + length (tree_entries f a) = omega arith in
    rw (k, p) refl

module _ (inner : reading.Reader Tree) {r n₁ : Reader} {low : ℕ} (lies : Reads r.text.now low r.next) {s₁ : Result (Unit {0}) ℕ}
    (d₁ : DoneFrom tree_entries r.next.start (inner (stream r.text.now r.next)) r n₁ s₁) where
  abbrev pub whole : reading.Answer Tree
  whole = read_conditional inner (stream r.text.now r.next)

  choice_begins : SoFar r r r.next.start whole (λ i. bind (inner i) (λ c. need kinds.then_word (after_then inner c))) []
  unfolding read_conditional
  choice_begins = so_as (λ i. bind (inner i) (λ c. need kinds.then_word (after_then inner c))) (before_bind kinds.then_word inner (after_then inner)) (so_begins r (read_conditional inner) lies)

  pub choice_lost : {n : ℕ} → s₁ ≡ Err n → DoneFrom tree_entries (r.next.start - 1) whole r n₁ (Err n)
  choice_lost e = so_lost inner (λ c. need kinds.then_word (after_then inner c)) choice_begins d₁ e

  module _ {u₁ : Unit {0}} (ok₁ : s₁ ≡ Ok u₁) where
    pub choice_one : AfterRead r n₁ r.next.start whole (λ c. need kinds.then_word (after_then inner c)) [] (tree_entries r.free)
    choice_one = so_read inner (λ c. need kinds.then_word (after_then inner c)) choice_begins d₁ ok₁ (omega arith)

    module _ {n₂ : Reader} {s₂ : Result (Unit {0}) ℕ} (x₂ : Expected kinds.then_word n₁ n₂ s₂) where
      pub choice_no_then : {n : ℕ} → s₂ ≡ Err n → DoneFrom tree_entries (r.next.start - 1) whole r n₂ (Err n)
      choice_no_then e = so_stopped kinds.then_word (after_then inner choice_one.value) choice_one.so x₂ e

      module _ {u₂ : Unit {0}} (ok₂ : s₂ ≡ Ok u₂) where
        pub choice_then : SoFar r n₂ (r.next.start + 1) whole (λ i. bind (inner i) (λ a. need kinds.else_word (after_else inner choice_one.value a))) (tree_entries r.free choice_one.value)
        choice_then =
            so_as (λ i. bind (inner i) (λ a. need kinds.else_word (after_else inner choice_one.value a))) (before_bind kinds.else_word inner (after_else inner choice_one.value))
            (so_stood kinds.then_word (after_then inner choice_one.value) (omega arith) choice_one.so x₂ ok₂)

        module _ {n₃ : Reader} {s₃ : Result (Unit {0}) ℕ} (d₃ : DoneFrom tree_entries n₂.next.start (inner (stream n₂.text.now n₂.next)) n₂ n₃ s₃) where
          pub choice_lost_then : {n : ℕ} → s₃ ≡ Err n → DoneFrom tree_entries (r.next.start - 1) whole r n₃ (Err n)
          choice_lost_then e = so_lost inner (λ a. need kinds.else_word (after_else inner choice_one.value a)) choice_then d₃ e

          module _ {u₃ : Unit {0}} (ok₃ : s₃ ≡ Ok u₃) where
            pub choice_two : AfterRead r n₃ (r.next.start + 1) whole (λ a. need kinds.else_word (after_else inner choice_one.value a)) (tree_entries r.free choice_one.value) (tree_entries n₂.free)
            choice_two = so_read inner (λ a. need kinds.else_word (after_else inner choice_one.value a)) choice_then d₃ ok₃ (omega arith)

            module _ {n₄ : Reader} {s₄ : Result (Unit {0}) ℕ} (x₄ : Expected kinds.else_word n₃ n₄ s₄) where
              pub choice_no_else : {n : ℕ} → s₄ ≡ Err n → DoneFrom tree_entries (r.next.start - 1) whole r n₄ (Err n)
              choice_no_else e = so_stopped kinds.else_word (after_else inner choice_one.value choice_two.value) choice_two.so x₄ e

              module _ {u₄ : Unit {0}} (ok₄ : s₄ ≡ Ok u₄) where
                pub choice_else : SoFar r n₄ (r.next.start + 1 + 1) whole (λ i. bind (inner i) (λ b. took (choice choice_one.value choice_two.value b))) (tree_entries r.free choice_one.value ++ tree_entries n₂.free choice_two.value)
                choice_else =
                    so_mapped (choice choice_one.value choice_two.value) inner
                    (so_stood kinds.else_word (after_else inner choice_one.value choice_two.value) (omega arith) choice_two.so x₄ ok₄)

                module _ {n₅ : Reader} {s₅ : Result (Unit {0}) ℕ} (d₅ : DoneFrom tree_entries n₄.next.start (inner (stream n₄.text.now n₄.next)) n₄ n₅ s₅) where
                  pub choice_lost_else : {n : ℕ} → s₅ ≡ Err n → DoneFrom tree_entries (r.next.start - 1) whole r n₅ (Err n)
                  choice_lost_else e = so_lost inner (λ b. took (choice choice_one.value choice_two.value b)) choice_else d₅ e

                  pub choice_ends : {n₆ : Reader} {u₅ u : Unit {0}} → s₅ ≡ Ok u₅ → PutBy (entry 28 n₂.free n₄.free) n₅ n₆ → DoneFrom tree_entries (r.next.start - 1) whole r n₆ (Ok u)
                  choice_ends ok₅ p =
                      let k = so_read inner (λ b. took (choice choice_one.value choice_two.value b)) choice_else d₅ {base' = r.next.start + 1} ok₅ (omega arith) in
                      so_done_put ((tree_entries r.free choice_one.value ++ tree_entries n₂.free choice_two.value) ++ tree_entries n₄.free k.value) (entry 28 n₂.free n₄.free) (choice choice_one.value choice_two.value k.value)
                      (so_put k.so p) (alike r.free choice_one.value choice_two.value k.value (so_free choice_then) (so_free choice_else)) (omega arith)
