-- What each operator says of the values that were read is what it says of the values that are meant. Assumes nothing.
use Prim.Native.Nat.{ℕ, ◌<◌}
use mathlib.Core.List.{List}
use mathlib.Core.Bool.{Bool, true, false}
use mathlib.Core.Path.{◌≡◌, refl, sym, ◌∙◌, ap}
use Rattle.lookups.specs.declared.values.Value.{Value}
use Rattle.views.specs.Meaning.{Datum, present}
use Rattle.views.specs.Values.{list_at, datum_of}
use Rattle.views.specs.Places.{placed_view, RowAt}
use Rattle.grammar.specs.Policies.{Comparator.Equal, Literal, text as text_literal, number as number_literal, truth}
use Rattle.placing.specs.Placed.{PathPlaced, OperandPlaced, unblanked_at}
use Rattle.placing.specs.Said.{literal_words}
use Rattle.table.specs.declared.Entry.{Entry}
use Rattle.stored.specs.ReadBack.{span_of_entry, root_of_kind, literal_of_entry, operand_of_entry, comparator_of_kind}
use Rattle.meaning.specs.Values.{with_action, literal_value, attribute_value, if_text, if_texts, compares}
use Rattle.meaning.specs.Conditions.{some}
use Rattle.operands.specs.Operands.{attribute_read, operand_read, string_of, meant}
use Rattle.operands.proofs.ValueLaws.{datum_text, datum_texts, not_text, not_texts}
use Rattle.operands.proofs.OperandLaws.{string_under, attribute_is, literal_meant, operand_is}

literal_there : (t : List ℕ) (l : Literal) → present (literal_value (literal_words t l)) ≡ true
unfolding literal_value literal_words
literal_there t (text_literal x) = refl
literal_there t (number_literal x) = refl
literal_there t (truth b) = refl

module _ (t s : List ℕ) (places values : List ℕ) (stands : RowAt s places values) (action : List ℕ) where
  pub compare_is : (k : ℕ) (a b : Entry) (v w : Value) (x y : List ℕ) (r : Bool) → OperandPlaced t (operand_of_entry a) → OperandPlaced t (operand_of_entry b)
      → v ≡ operand_read t s places values a → w ≡ operand_read t s places values b → x ≡ string_of t s action a v → y ≡ string_of t s action b w
      → ((l m : List (List ℕ)) → r ≡ compares (comparator_of_kind k) (datum_of v x l) (datum_of w y m))
      → r ≡ compares (comparator_of_kind k) (meant t s places values action a) (meant t s places values action b)
  compare_is k a b v w x y r i j e f g h held =
      held (list_at s v.place) (list_at s w.place)
      ∙ ap (λ (d : Datum). compares (comparator_of_kind k) d (datum_of w y (list_at s w.place))) (operand_is t s places values stands action a v x i e g)
      ∙ ap (compares (comparator_of_kind k) (meant t s places values action a)) (operand_is t s places values stands action b w y j f h)

  -- the right operand a literal
  pub compare_literal : (k : ℕ) (a b : Entry) (v : Value) (x : List ℕ) (r : Bool) → OperandPlaced t (operand_of_entry a) → 4 < b.kind
      → v ≡ operand_read t s places values a → x ≡ string_of t s action a v
      → ((l : List (List ℕ)) → r ≡ compares (comparator_of_kind k) (datum_of v x l) (literal_value (literal_words t (literal_of_entry b))))
      → r ≡ compares (comparator_of_kind k) (meant t s places values action a) (meant t s places values action b)
  compare_literal k a b v x r i h e g held =
      held (list_at s v.place)
      ∙ ap (λ (d : Datum). compares (comparator_of_kind k) d (literal_value (literal_words t (literal_of_entry b)))) (operand_is t s places values stands action a v x i e g)
      ∙ ap (compares (comparator_of_kind k) (meant t s places values action a)) (sym (literal_meant t (with_action action (placed_view s places values)) b h))

  -- it is present
  pub literal_met : (b : Entry) → 4 < b.kind → present (meant t s places values action b) ≡ true
  literal_met b h = ap present (literal_meant t (with_action action (placed_view s places values)) b h) ∙ literal_there t (literal_of_entry b)

  module _ (a : Entry) (v : Value) (placed : OperandPlaced t (operand_of_entry a)) (e : v ≡ operand_read t s places values a) where
    -- whether it is present
    pub operand_met : (r : Bool) → ((x : List ℕ) (l : List (List ℕ)) → r ≡ present (datum_of v x l)) → r ≡ present (meant t s places values action a)
    operand_met r held =
        held (string_of t s action a v) (list_at s v.place)
        ∙ ap present (operand_is t s places values stands action a v (string_of t s action a v) placed e refl)

    pub among_is : (x : List ℕ) (ls : List Literal) (r : Bool) → x ≡ string_of t s action a v
        → ((l : List (List ℕ)) → r ≡ some (λ o. compares Equal (datum_of v x l) (literal_value (literal_words t o))) ls)
        → r ≡ some (λ o. compares Equal (meant t s places values action a) (literal_value (literal_words t o))) ls
    among_is x ls r g held =
        held (list_at s v.place) ∙ ap (λ (d : Datum). some (λ o. compares Equal d (literal_value (literal_words t o))) ls) (operand_is t s places values stands action a v x placed e g)

    -- a string, and any other value
    pub of_string : (f : List ℕ → Bool) (x : List ℕ) (r : Bool) → v.kind ≡ 1 → x ≡ string_of t s action a v → r ≡ f x → r ≡ if_text (meant t s places values action a) f
    of_string f x r k g held =
        held ∙ ap (λ (d : Datum). if_text d f) (sym (datum_text v x (list_at s v.place) k) ∙ operand_is t s places values stands action a v x placed e g)

    pub of_no_string : (f : List ℕ → Bool) → (v.kind ≡ 1 → ⊥) → false ≡ if_text (meant t s places values action a) f
    of_no_string f k =
        sym (not_text v (string_of t s action a v) (list_at s v.place) f k)
        ∙ ap (λ (d : Datum). if_text d f) (operand_is t s places values stands action a v (string_of t s action a v) placed e refl)

  module _ (b : Entry) (w : Value) (placed : PathPlaced t (root_of_kind b.kind) (span_of_entry b)) (e : w ≡ attribute_read t s places values b) where
    -- a list, and any other value
    pub of_list : (f : List (List ℕ) → Bool) (r : Bool) → w.kind ≡ 4 → r ≡ f (list_at s w.place)
        → r ≡ if_texts (attribute_value (with_action action (placed_view s places values)) (root_of_kind b.kind) (unblanked_at t (span_of_entry b))) f
    of_list f r k held =
        held
        ∙ ap (λ (d : Datum). if_texts d f) (sym (datum_texts w (string_under s action b w) (list_at s w.place) k) ∙ attribute_is t s places values stands action b w placed e)

    pub of_no_list : (f : List (List ℕ) → Bool) → (w.kind ≡ 4 → ⊥)
        → false ≡ if_texts (attribute_value (with_action action (placed_view s places values)) (root_of_kind b.kind) (unblanked_at t (span_of_entry b))) f
    of_no_list f k =
        sym (not_texts w (string_under s action b w) (list_at s w.place) f k)
        ∙ ap (λ (d : Datum). if_texts d f) (attribute_is t s places values stands action b w placed e)

    pub has_is : (r : Bool) → ((x : List ℕ) (l : List (List ℕ)) → r ≡ present (datum_of w x l))
        → r ≡ present (attribute_value (with_action action (placed_view s places values)) (root_of_kind b.kind) (unblanked_at t (span_of_entry b)))
    has_is r held = held (string_under s action b w) (list_at s w.place) ∙ ap present (attribute_is t s places values stands action b w placed e)
