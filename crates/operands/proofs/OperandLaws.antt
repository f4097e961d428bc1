-- What is read for an operand stands for what the operand is; and its string lies where it is taken from. Assumes nothing.
use Rattle.std.specs.Prelude.{Some}
use Prim.Native.Nat.{ℕ, ◌+◌, ◌-◌, ◌≤◌, ◌<◌}
use mathlib.Core.List.{List}
use mathlib.Core.Bool.{Bool, true, false, ◌&&◌, cond, and-eq-true_iff}
use mathlib.Core.Path.{◌≡◌, refl, sym, ◌∙◌, ap, subst}
use borrow.Author.Tests.{eq-eqb, ne_eqb, eqb-true, eqb-false, le-leb, lt-leb, leb-true, leb-false}
use native.Mathlib.Omega.{arith}
use lib.Dec.{eqb, leb}
use lib.Ieee.{Float, eq, of_bits}
use lib.ListN.{length, take, drop}
use Rattle.slices.specs.Ascii.{bytes}
use Rattle.slices.proofs.Equal.{same_itself}
use Rattle.numbers.specs.Literals.{number_in}
use Rattle.bags.specs.Reading.{byte}
use Rattle.bags.specs.Values.{list_end}
use Rattle.bags.proofs.ReadLaws.{part_to}
use Rattle.bags.proofs.ValueLaws.{value_list}
use Rattle.lookups.specs.Values.{nought, unit, ValueWhole}
use Rattle.lookups.specs.declared.values.Value.{Value}
use Rattle.lookups.proofs.StepLaws.{as_string}
use Rattle.views.specs.Meaning.{Datum, text, number, flag, View}
use Rattle.views.specs.Values.{string_at, list_at, datum_of}
use Rattle.views.specs.Places.{placed_value, placed_view, RowAt}
use Rattle.views.proofs.RowLaws.{row_reads}
use Rattle.grammar.specs.Policies.{Root.Principal, root_byte, Root.Resource, Root.Env, Root.Action, Literal, text as text_literal, number as number_literal, truth, Operand, attribute, literal}
use Rattle.placing.specs.Placed.{bytes_at, quoted_at, unblanked_at, StringPlaced, NumberPlaced, PathPlaced, LiteralPlaced, a_string, a_number, a_truth, OperandPlaced, an_attribute, a_literal}
use Rattle.placing.specs.Said.{literal_words, operand_words}
use Rattle.table.specs.declared.Entry.{Entry}
use Rattle.stored.specs.ReadBack.{span_of_entry, root_of_kind, literal_of_entry, operand_of_entry}
use Rattle.meaning.specs.Values.{with_action, literal_value, attribute_value, operand_value}
use Rattle.operands.specs.Operands.{a_string_value, of_bag, attribute_read, literal_read, operand_read, string_of, meant}
use Rattle.operands.proofs.ValueLaws.{datum_text}

-- ---- what an entry is, by its kind

module _ (o : Entry) where
  pub as_attribute : o.kind ≤ 4 → operand_of_entry o ≡ attribute (root_of_kind o.kind) (span_of_entry o)
  unfolding operand_of_entry
  as_attribute h = rw (le-leb o.kind 4 h)

  pub as_literal : 4 < o.kind → operand_of_entry o ≡ literal (literal_of_entry o)
  unfolding operand_of_entry
  as_literal h = rw (lt-leb o.kind 4 h)

  as_string_literal : o.kind ≡ 9 → literal_of_entry o ≡ text_literal (span_of_entry o)
  unfolding literal_of_entry
  as_string_literal k = rw k

  as_number_literal : o.kind ≡ 10 → literal_of_entry o ≡ number_literal (span_of_entry o)
  unfolding literal_of_entry
  as_number_literal k = rw k

-- ---- where it lies

module _ (t : List ℕ) where
  abbrev PathOf : Operand → Type 0
  PathOf (attribute root s) = PathPlaced t root s
  PathOf (literal l) = Unit {0}

  path_of : {q : Operand} → OperandPlaced t q → PathOf q
  path_of (an_attribute p) = p
  path_of (a_literal p) = tt

  abbrev LiteralIn : Operand → Type 0
  LiteralIn (attribute root s) = Unit {0}
  LiteralIn (literal l) = LiteralPlaced t l

  literal_of : {q : Operand} → OperandPlaced t q → LiteralIn q
  literal_of (an_attribute p) = tt
  literal_of (a_literal p) = p

  abbrev StringIn : Literal → Type 0
  StringIn (text_literal s) = StringPlaced t s
  StringIn (number_literal s) = Unit {0}
  StringIn (truth b) = Unit {0}

  string_of_lem : {l : Literal} → LiteralPlaced t l → StringIn l
  string_of_lem (a_string p) = p
  string_of_lem (a_number p) = tt
  string_of_lem a_truth = tt

  abbrev NumberOf : Literal → Type 0
  NumberOf (text_literal s) = Unit {0}
  NumberOf (number_literal s) = NumberPlaced t s
  NumberOf (truth b) = Unit {0}

  number_of : {l : Literal} → LiteralPlaced t l → NumberOf l
  number_of (a_string p) = tt
  number_of (a_number p) = p
  number_of a_truth = tt

  module _ (o : Entry) where
    pub path_placed : o.kind ≤ 4 → OperandPlaced t (operand_of_entry o) → PathPlaced t (root_of_kind o.kind) (span_of_entry o)
    path_placed h p = subst PathOf (as_attribute o h) (path_of p)

    pub literal_placed : 4 < o.kind → OperandPlaced t (operand_of_entry o) → LiteralPlaced t (literal_of_entry o)
    literal_placed h p = subst LiteralIn (as_literal o h) (literal_of p)

    pub string_placed : o.kind ≡ 9 → LiteralPlaced t (literal_of_entry o) → StringPlaced t (span_of_entry o)
    string_placed k p = subst StringIn (as_string_literal o k) (string_of_lem p)

    pub number_placed : o.kind ≡ 10 → LiteralPlaced t (literal_of_entry o) → NumberPlaced t (span_of_entry o)
    number_placed k p = subst NumberOf (as_number_literal o k) (number_of p)

-- ---- what is read, as the code's tests tell it apart

module _ (t s : List ℕ) (places values : List ℕ) (o : Entry) where
  pub read_bag : of_bag o.kind ≡ true → placed_value s places values o.kind (unblanked_at t (span_of_entry o)) ≡ attribute_read t s places values o
  unfolding attribute_read
  read_bag b = simp b

  pub read_action : of_bag o.kind ≡ false → a_string_value ≡ attribute_read t s places values o
  unfolding attribute_read
  read_action b = simp b

  pub read_attribute : o.kind ≤ 4 → attribute_read t s places values o ≡ operand_read t s places values o
  unfolding operand_read
  read_attribute h = rw (le-leb o.kind 4 h)

  pub read_literal : 4 < o.kind → literal_read t o ≡ operand_read t s places values o
  unfolding operand_read
  read_literal h = rw (lt-leb o.kind 4 h)

module _ (t : List ℕ) (o : Entry) where
  pub read_string : o.kind ≡ 9 → a_string_value ≡ literal_read t o
  unfolding literal_read
  read_string k = simp k

  pub read_number : (x : Float) → o.kind ≡ 10 → x ≡ number_in (bytes_at t (span_of_entry o)) → record { kind = 2; number = x; place = 0 } ≡ literal_read t o
  unfolding literal_read
  read_number x k e = simp (k, e)

  pub read_true : o.kind ≡ 11 → record { kind = 3; number = unit; place = 0 } ≡ literal_read t o
  unfolding literal_read
  read_true k = simp k

  pub read_false : (o.kind ≡ 9 → ⊥) → (o.kind ≡ 10 → ⊥) → (o.kind ≡ 11 → ⊥) → record { kind = 3; number = nought; place = 0 } ≡ literal_read t o
  unfolding literal_read
  read_false a b c = simp (ne_eqb _ _ a, ne_eqb _ _ b, ne_eqb _ _ c)

-- ---- strings

pub quoted_cut : (t : List ℕ) (a e : ℕ) → take (e - 1 - (a + 1)) (drop (a + 1) t) ≡ take (e - a - 2) (drop (a + 1) t)
quoted_cut t a e = let q : e - 1 - (a + 1) ≡ e - a - 2 = omega arith in rw q

pub string_cut : (s : List ℕ) (p : ℕ) → take (p + 1 + byte s p - (p + 1)) (drop (p + 1) s) ≡ string_at s p
unfolding string_at
string_cut s p = part_to s (p + 1) (byte s p)

-- a string that is read lies in the bytes
pub string_inside : (s : List ℕ) (v : Value) → ValueWhole s v → v.kind ≡ 1 → v.place + 1 + byte s v.place ≤ length s
string_inside s v w k = let e = w (λ z. omega arith) in (as_string v.kind s v.place e.0 e.1 k).fits

module _ (t s action : List ℕ) (o : Entry) (v : Value) where
  pub no_string : (v.kind ≡ 1 → ⊥) → action ≡ string_of t s action o v
  unfolding string_of
  no_string k = simp (ne_eqb _ _ k)

  module _ (k : v.kind ≡ 1) where
    pub string_of_bag : of_bag o.kind ≡ true → string_at s v.place ≡ string_of t s action o v
    unfolding string_of
    string_of_bag b = simp (eq-eqb _ _ k, b)

    pub string_quoted : of_bag o.kind ≡ false → o.kind ≡ 9 → quoted_at t (span_of_entry o) ≡ string_of t s action o v
    unfolding string_of
    string_quoted b q = simp (eq-eqb _ _ k, b, eq-eqb _ _ q)

    pub string_action : of_bag o.kind ≡ false → (o.kind ≡ 9 → ⊥) → action ≡ string_of t s action o v
    unfolding string_of
    string_action b n = simp (eq-eqb _ _ k, b, ne_eqb _ _ n)

-- ---- roots

bag_root : (k : ℕ) → of_bag k ≡ true → root_byte (root_of_kind k) ≡ k
unfolding root_of_kind
bag_root k b = go (eqb k 1) (eqb k 2) (eqb k 3) refl refl refl
  where
    go : (x y z : Bool) → eqb k 1 ≡ x → eqb k 2 ≡ y → eqb k 3 ≡ z → root_byte (cond x Principal (cond y Resource (cond z Env Action))) ≡ k
    go true y z p q r = sym (eqb-true k 1 p)
    go false true z p q r = sym (eqb-true k 2 q)
    go false false true p q r = sym (eqb-true k 3 r)
    go false false false p q r =
        let w = (and-eq-true_iff (leb 1 k) (leb k 3)).0 b in
        let l : 1 ≤ k = leb-true 1 k w.0 in
        let h : k ≤ 3 = leb-true k 3 w.1 in
        let a = eqb-false k 1 p in
        let b = eqb-false k 2 q in
        let c = eqb-false k 3 r in
        absurd (omega arith)

other_root : (k : ℕ) → of_bag k ≡ false → root_of_kind k ≡ Action
unfolding root_of_kind
other_root k b = go (eqb k 1) (eqb k 2) (eqb k 3) refl refl refl
  where
    no : (j : ℕ) → k ≡ j → of_bag j ≡ true → ⊥
    no j e h = let z : ◌≡◌ {A = Bool} true false = sym h ∙ ap (λ (i : ℕ). of_bag i) (sym e) ∙ b in let w : ◌≡◌ {A = ℕ} 0 1 = cc in omega arith

    go : (x y z : Bool) → eqb k 1 ≡ x → eqb k 2 ≡ y → eqb k 3 ≡ z → cond x Principal (cond y Resource (cond z Env Action)) ≡ Action
    go true y z p q r = absurd (no 1 (eqb-true k 1 p) refl)
    go false true z p q r = absurd (no 2 (eqb-true k 2 q) refl)
    go false false true p q r = absurd (no 3 (eqb-true k 3 r) refl)
    go false false false p q r = refl

-- ---- what is meant

-- the bytes of an attribute's string
abbrev pub string_under : List ℕ → List ℕ → Entry → Value → List ℕ
string_under s action o v = cond (eqb v.kind 1 && of_bag o.kind) (string_at s v.place) action

string_alike : (v : Value) (b : Bool) (x y : List ℕ) (l : List (List ℕ)) → b ≡ true → datum_of v (cond (eqb v.kind 1 && b) x y) l ≡ datum_of v x l
unfolding datum_of
string_alike v b x y l h = simp h (go (eqb v.kind 1) _)
  where
    go : (c : Bool) (d : Datum) → cond c (text (cond (c && true) x y)) d ≡ cond c (text x) d
    go true d = refl
    go false d = refl

module _ (t s : List ℕ) (places values : List ℕ) (action : List ℕ) (o : Entry) where
  seen_in_bag : of_bag o.kind ≡ true
      → placed_view s places values o.kind (unblanked_at t (span_of_entry o)) ≡ attribute_value (with_action action (placed_view s places values)) (root_of_kind o.kind) (unblanked_at t (span_of_entry o))
  unfolding attribute_value with_action
  seen_in_bag b =
      let w = (and-eq-true_iff (leb 1 o.kind) (leb o.kind 3)).0 b in
      let h : o.kind ≤ 3 = leb-true o.kind 3 w.1 in
      let q : o.kind ≡ 4 → ⊥ = λ e. omega arith in
      rw (bag_root o.kind b, ne_eqb o.kind 4 q)

  seen_action : of_bag o.kind ≡ false → PathPlaced t (root_of_kind o.kind) (span_of_entry o)
      → text action ≡ attribute_value (with_action action (placed_view s places values)) (root_of_kind o.kind) (unblanked_at t (span_of_entry o))
  unfolding attribute_value with_action
  seen_action b placed = let e = other_root o.kind b in rw (placed.action e, e) (simp (same_itself (bytes "name")))

module _ (t s : List ℕ) (places values : List ℕ) (stands : RowAt s places values) where
  pub attribute_is : (action : List ℕ) (o : Entry) (v : Value) → PathPlaced t (root_of_kind o.kind) (span_of_entry o) → v ≡ attribute_read t s places values o
      → datum_of v (string_under s action o v) (list_at s v.place) ≡ attribute_value (with_action action (placed_view s places values)) (root_of_kind o.kind) (unblanked_at t (span_of_entry o))
  attribute_is action o v placed e = go (of_bag o.kind) refl
    where
      action_is : (b : Bool) → b ≡ false → datum_of a_string_value (cond b (string_at s 0) action) (list_at s 0) ≡ text action
      action_is b h = rw h (datum_text a_string_value action (list_at s 0) refl)

      go : (b : Bool) → of_bag o.kind ≡ b
          → datum_of v (string_under s action o v) (list_at s v.place) ≡ attribute_value (with_action action (placed_view s places values)) (root_of_kind o.kind) (unblanked_at t (span_of_entry o))
      go true b =
          let r = row_reads s _ _ _ values stands.stands o.kind (unblanked_at t (span_of_entry o)) in
          let is = e ∙ sym (read_bag t s places values o b) in
          string_alike v (of_bag o.kind) (string_at s v.place) action (list_at s v.place) b
          ∙ ap (λ (v : Value). datum_of v (string_at s v.place) (list_at s v.place)) is ∙ r.is
          ∙ seen_in_bag t s places values action o b
      go false b =
          rw (e ∙ sym (read_action t s places values o b)) (action_is (of_bag o.kind) b ∙ seen_action t s places values action o b placed)

  -- a list that is read lies in the bytes
  pub attribute_list : (o : Entry) (v : Value) → v ≡ attribute_read t s places values o → v.kind ≡ 4 → (e : ℕ) × (list_end s v.place ≡ Some e)
  attribute_list o v e k = go (of_bag o.kind) refl
    where
      go : (b : Bool) → of_bag o.kind ≡ b → (e : ℕ) × (list_end s v.place ≡ Some e)
      go true b =
          let r = row_reads s _ _ _ values stands.stands o.kind (unblanked_at t (span_of_entry o)) in
          let whole = subst (ValueWhole s) (read_bag t s places values o b ∙ sym e) r.whole in
          let w = whole (λ z. omega arith) in (w.0, value_list v.kind s v.place k ∙ w.1)
      go false b =
          let is = e ∙ sym (read_action t s places values o b) in
          let z : v.kind ≡ 1 = ap (λ (v : Value). v.kind) is in absurd (omega arith)

  -- a value of the bag lies in the bytes as a whole
  pub operand_whole : (o : Entry) (v : Value) → v ≡ operand_read t s places values o → of_bag o.kind ≡ true → ValueWhole s v
  operand_whole o v e b =
      let w = (and-eq-true_iff (leb 1 o.kind) (leb o.kind 3)).0 b in
      let h : o.kind ≤ 3 = leb-true o.kind 3 w.1 in
      let l : o.kind ≤ 4 = omega arith in
      subst (ValueWhole s) (read_bag t s places values o b ∙ read_attribute t s places values o l ∙ sym e)
      (row_reads s _ _ _ values stands.stands o.kind (unblanked_at t (span_of_entry o))).whole

-- ---- literals

flag_unit : eq unit unit ≡ true
unfolding eq of_bits
flag_unit = refl

flag_nought : eq nought unit ≡ false
unfolding eq of_bits
flag_nought = refl

pub literal_is : (t : List ℕ) (o : Entry) (v : Value) (x : List ℕ) (l : List (List ℕ)) → v ≡ literal_read t o → (o.kind ≡ 9 → x ≡ quoted_at t (span_of_entry o))
    → datum_of v x l ≡ literal_value (literal_words t (literal_of_entry o))
unfolding literal_of_entry literal_read literal_value literal_words datum_of
literal_is t o v x l e s = rw e (go (eqb o.kind 9) (eqb o.kind 10) (eqb o.kind 11) refl)
  where
    go : (a b c : Bool) → eqb o.kind 9 ≡ a
        → datum_of (cond a a_string_value (cond b (record { kind = 2; number = number_in (bytes_at t (span_of_entry o)); place = 0 }) (record { kind = 3; number = cond c unit nought; place = 0 }))) x l
        ≡ literal_value (literal_words t (cond a (text_literal (span_of_entry o)) (cond b (number_literal (span_of_entry o)) (truth c))))
    go true b c q = ap text (s (eqb-true o.kind 9 q))
    go false true c q = refl
    go false false true q = ap flag flag_unit
    go false false false q = ap flag flag_nought

-- ---- operands

attribute_meant : (t : List ℕ) (view : View) (o : Entry) → o.kind ≤ 4 → operand_value view (operand_words t (operand_of_entry o)) ≡ attribute_value view (root_of_kind o.kind) (unblanked_at t (span_of_entry o))
unfolding operand_value operand_words
attribute_meant t view o h = rw (as_attribute o h)

pub literal_meant : (t : List ℕ) (view : View) (o : Entry) → 4 < o.kind → operand_value view (operand_words t (operand_of_entry o)) ≡ literal_value (literal_words t (literal_of_entry o))
unfolding operand_value operand_words
literal_meant t view o h = rw (as_literal o h)

-- no attribute's string has quotes, and no literal's lies in the bag
unquoted : (t s action : List ℕ) (o : Entry) (v : Value) → (o.kind ≡ 9 → ⊥) → string_of t s action o v ≡ string_under s action o v
unfolding string_of
unquoted t s action o v n = simp (ne_eqb _ _ n) (go (eqb v.kind 1) (of_bag o.kind))
  where
    go : (a b : Bool) → cond a (cond b (string_at s v.place) action) action ≡ cond (a && b) (string_at s v.place) action
    go true b = refl
    go false b = refl

outside : (o : Entry) → 4 < o.kind → of_bag o.kind ≡ false
outside o h = let l : 3 < o.kind = omega arith in rw (lt-leb o.kind 3 l) (go (leb 1 o.kind))
  where
    go : (b : Bool) → (b && false) ≡ false
    go true = refl
    go false = refl

module _ (t s : List ℕ) (places values : List ℕ) (stands : RowAt s places values) where
  pub operand_is : (action : List ℕ) (o : Entry) (v : Value) (x : List ℕ) → OperandPlaced t (operand_of_entry o) → v ≡ operand_read t s places values o → x ≡ string_of t s action o v
      → datum_of v x (list_at s v.place) ≡ meant t s places values action o
  operand_is action o v x placed e string = go (leb o.kind 4) refl
    where
      go : (b : Bool) → leb o.kind 4 ≡ b → datum_of v x (list_at s v.place) ≡ meant t s places values action o
      go true b =
          let h : o.kind ≤ 4 = leb-true o.kind 4 b in
          let n9 : o.kind ≡ 9 → ⊥ = λ k. omega arith in
          ap (λ (x : List ℕ). datum_of v x (list_at s v.place)) (string ∙ unquoted t s action o v n9)
          ∙ attribute_is t s places values stands action o v (path_placed t o h placed) (e ∙ sym (read_attribute t s places values o h))
          ∙ sym (attribute_meant t (with_action action (placed_view s places values)) o h)
      go false b =
          let h : 4 < o.kind = leb-false o.kind 4 b in
          let is = e ∙ sym (read_literal t s places values o h) in
          literal_is t o v x (list_at s v.place) is
          (λ k. string ∙ sym (string_quoted t s action o v (ap (λ (v : Value). v.kind) (is ∙ sym (read_string t o k))) (outside o h) k))
          ∙ sym (literal_meant t (with_action action (placed_view s places values)) o h)
