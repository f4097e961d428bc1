-- Lists of literals in a table, and lists of strings in a bag or question: one step of each. Assumes nothing.
use Rattle.std.specs.Prelude.{Some}
use Prim.Native.Nat.{ℕ, zero, suc, ◌+◌, ◌-◌, ◌≤◌, ◌<◌}
use mathlib.Core.List.{List}
use mathlib.Core.Bool.{Bool, true, false, not, ◌||◌, cond}
use mathlib.Core.Path.{◌≡◌, refl, sym, ◌∙◌, ap}
use borrow.Author.Tests.{ne_eqb}
use native.Mathlib.Omega.{arith}
use lib.Dec.{eqb}
use lib.ListN.{take, drop}
use Rattle.slices.specs.Same.{same}
use Rattle.bags.specs.Reading.{byte, many, each}
use Rattle.bags.specs.Values.{string_end, list_end}
use Rattle.bags.proofs.ReadLaws.{first, each_done, each_more}
use Rattle.bags.proofs.ValueLaws.{value_list, string_at_lem, Strings}
use Rattle.lookups.proofs.StepLaws.{as_list}
use Rattle.lookups.specs.declared.values.Value.{Value}
use Rattle.views.specs.Meaning.{Datum}
use Rattle.views.specs.Values.{string_at, list_at, datum_of}
use Rattle.grammar.specs.Policies.{Comparator.Equal, Literal, number as number_literal, truth}
use Rattle.placing.specs.Placed.{quoted_at, Each, and_each, LiteralPlaced}
use Rattle.placing.specs.Said.{literal_words}
use Rattle.table.specs.declared.Entry.{Entry}
use Rattle.stored.specs.ReadBack.{span_of_entry, literal_of_entry, literals_by, comparator_of_kind}
use Rattle.meaning.specs.Values.{literal_value, if_text, same_flag, compares}
use Rattle.meaning.specs.Conditions.{some, all, asked, among_strings}
use Rattle.operands.specs.Operands.{which_by, literal_read}
use Rattle.operands.proofs.ValueLaws.{equal_13}
use Rattle.operands.proofs.OperandLaws.{string_cut, literal_is}

-- ---- literals

-- a literal's value beside another
pub literal_compares : (t : List ℕ) (k : ℕ) (o : Entry) (v w : Value) (x y : List ℕ) (r : Bool) → w ≡ literal_read t o → (o.kind ≡ 9 → y ≡ quoted_at t (span_of_entry o))
    → ((l m : List (List ℕ)) → r ≡ compares (comparator_of_kind k) (datum_of v x l) (datum_of w y m)) → (l : List (List ℕ))
    → r ≡ compares (comparator_of_kind k) (datum_of v x l) (literal_value (literal_words t (literal_of_entry o)))
literal_compares t k o v w x y r e q f l = f l l ∙ rw (literal_is t o w y l e q)

-- 13 is the kind of `==`
pub same_by_13 : {r : Bool} (d e : Datum) → r ≡ compares (comparator_of_kind 13) d e → r ≡ compares Equal d e
same_by_13 d e h = h ∙ rw (← equal_13 13 refl)

-- whether a literal is the same as a value, and whether it is a string of a list
abbrev pub is_same : List ℕ → Value → List ℕ → List (List ℕ) → Literal → Bool
is_same t v x l o = compares Equal (datum_of v x l) (literal_value (literal_words t o))

abbrev pub is_listed : List ℕ → List ℕ → ℕ → Literal → Bool
is_listed t s place o = if_text (literal_value (literal_words t o)) (among_strings (list_at s place))

-- the first of some literals, and those after it
pub record FirstPlaced (t : List ℕ) (n : ℕ) (at : ℕ → Entry) (e : ℕ) : Type 0 where
  pub here : LiteralPlaced t (literal_of_entry (at e))
  pub later : Each (LiteralPlaced t) (literals_by (n - 1) at (e + 1))

pub first_placed : (t : List ℕ) (n : ℕ) (at : ℕ → Entry) (e : ℕ) → 0 < n → Each (LiteralPlaced t) (literals_by n at e) → FirstPlaced t n at e
unfolding literals_by
first_placed t zero at e h p = absurd (omega arith)
first_placed t (suc n) at e h (and_each p ps) = let m : suc n - 1 ≡ n = omega arith in record { here = p; later = rw m ps }

same_yes : (a : Bool) → same_flag a true ≡ true → a ≡ true
same_yes true e = refl
same_yes false e = e

same_no : (a : Bool) → same_flag a false ≡ true → a ≡ false
same_no true e = sym e
same_no false e = refl

other_yes : (a : Bool) → same_flag a true ≡ false → a ≡ false
other_yes true e = e
other_yes false e = refl

other_no : (a : Bool) → same_flag a false ≡ false → a ≡ true
other_no true e = refl
other_no false e = sym e

module _ (test : Literal → Bool) (at : ℕ → Entry) where
  pub some_done : (n e : ℕ) → n ≤ 0 → false ≡ some test (literals_by n at e)
  unfolding some literals_by
  some_done zero e h = refl
  some_done (suc n) e h = absurd (omega arith)

  pub some_here : (n e : ℕ) → 0 < n → test (literal_of_entry (at e)) ≡ true → true ≡ some test (literals_by n at e)
  unfolding some literals_by
  some_here zero e h b = absurd (omega arith)
  some_here (suc n) e h b = simp b

  pub some_more : (n e : ℕ) → 0 < n → test (literal_of_entry (at e)) ≡ false → some test (literals_by n at e) ≡ some test (literals_by (n - 1) at (e + 1))
  unfolding some literals_by
  some_more zero e h b = absurd (omega arith)
  some_more (suc n) e h b = let m : suc n - 1 ≡ n = omega arith in simp (b, m)

  all_done : (n e : ℕ) → n ≤ 0 → true ≡ all test (literals_by n at e)
  unfolding all literals_by
  all_done zero e h = refl
  all_done (suc n) e h = absurd (omega arith)

  all_here : (n e : ℕ) → 0 < n → test (literal_of_entry (at e)) ≡ false → false ≡ all test (literals_by n at e)
  unfolding all literals_by
  all_here zero e h b = absurd (omega arith)
  all_here (suc n) e h b = simp b

  all_more : (n e : ℕ) → 0 < n → test (literal_of_entry (at e)) ≡ true → all test (literals_by n at e) ≡ all test (literals_by (n - 1) at (e + 1))
  unfolding all literals_by
  all_more zero e h b = absurd (omega arith)
  all_more (suc n) e h b = let m : suc n - 1 ≡ n = omega arith in simp (b, m)

  -- any or all: a literal of the asked sort ends it
  pub asked_done : (any : Bool) (n e : ℕ) → n ≤ 0 → not any ≡ asked (which_by any) test (literals_by n at e)
  asked_done true n e h = some_done n e h
  asked_done false n e h = all_done n e h

  pub asked_here : (any : Bool) (n e : ℕ) → 0 < n → same_flag (test (literal_of_entry (at e))) any ≡ true → any ≡ asked (which_by any) test (literals_by n at e)
  asked_here true n e h b = some_here n e h (same_yes (test (literal_of_entry (at e))) b)
  asked_here false n e h b = all_here n e h (same_no (test (literal_of_entry (at e))) b)

  pub asked_more : (any : Bool) (n e : ℕ) → 0 < n → same_flag (test (literal_of_entry (at e))) any ≡ false
      → asked (which_by any) test (literals_by n at e) ≡ asked (which_by any) test (literals_by (n - 1) at (e + 1))
  asked_more true n e h b = some_more n e h (other_yes (test (literal_of_entry (at e))) b)
  asked_more false n e h b = all_more n e h (other_no (test (literal_of_entry (at e))) b)

-- what is found of an entry is found of the one that it is
pub at_entry : (x : Entry) (test : Literal → Bool) (o : Entry) (r b : Bool) → r ≡ test (literal_of_entry o) → o ≡ x → r ≡ b → test (literal_of_entry x) ≡ b
at_entry x test o r b h is q = ap (λ (o : Entry). test (literal_of_entry o)) (sym is) ∙ sym h ∙ q

-- ---- a literal and a list

module _ (t : List ℕ) (o : Entry) (l : List (List ℕ)) where
  pub no_string : (o.kind ≡ 9 → ⊥) → false ≡ if_text (literal_value (literal_words t (literal_of_entry o))) (among_strings l)
  unfolding literal_of_entry literal_value literal_words
  no_string n = simp (ne_eqb _ _ n) (go (eqb o.kind 10) (eqb o.kind 11))
    where
      go : (a b : Bool) → false ≡ if_text (literal_value (literal_words t (cond a (number_literal (span_of_entry o)) (truth b)))) (among_strings l)
      go true b = refl
      go false b = refl

  pub a_string : (r : Bool) (x : List ℕ) → o.kind ≡ 9 → x ≡ quoted_at t (span_of_entry o) → r ≡ among_strings l x → r ≡ if_text (literal_value (literal_words t (literal_of_entry o))) (among_strings l)
  unfolding literal_of_entry literal_value literal_words
  a_string r x k q e = simp k (rw (← q) e)

-- ---- strings

-- whether x is one of n strings
abbrev pub among : List ℕ → List ℕ → ℕ → ℕ → Bool
among x s n at = some (same x) (each n (string_end s) (λ at e. string_at s at) at)

module _ (s x : List ℕ) where
  pub none_listed : (n at : ℕ) → n ≤ 0 → false ≡ among x s n at
  unfolding some
  none_listed n at h = rw (each_done (string_end s) (λ at e. string_at s at) n at h)

  step : (n at e : ℕ) → 0 < n → many n (string_end s) at ≡ Some e → among x s n at ≡ (same x (string_at s at) || among x s (n - 1) (at + 1 + byte s at))
  unfolding some
  step n at e h p =
      let f = first (string_end s) n at e h p in
      let w = string_at_lem s at f.stop f.ends in
      rw (each_more (string_end s) (λ at e. string_at s at) n at f.stop h f.ends, w.stop)

  pub here_listed : (n at e : ℕ) → 0 < n → many n (string_end s) at ≡ Some e → same x (string_at s at) ≡ true → true ≡ among x s n at
  here_listed n at e h p b = sym (step n at e h p ∙ rw b)

  pub later_listed : (n at e : ℕ) → 0 < n → many n (string_end s) at ≡ Some e → same x (string_at s at) ≡ false → among x s n at ≡ among x s (n - 1) (at + 1 + byte s at)
  later_listed n at e h p b = step n at e h p ∙ rw b

-- the bytes of a string as code lends them
pub cut_same : (s x : List ℕ) (at : ℕ) (r b : Bool) → r ≡ same x (take (at + 1 + byte s at - (at + 1)) (drop (at + 1) s)) → r ≡ b → same x (string_at s at) ≡ b
cut_same s x at r b h q = ap (same x) (sym (string_cut s at)) ∙ sym h ∙ q

pub list_counted : (s : List ℕ) (at e : ℕ) → list_end s at ≡ Some e → Strings s at e
list_counted s at e h = as_list 4 s at e (sym (value_list 4 s at refl) ∙ h) (λ k. omega arith) (λ k. omega arith) (λ k. omega arith)

pub listed_at : (s x : List ℕ) (at : ℕ) (r : Bool) → r ≡ among x s (byte s at) (at + 1) → r ≡ among_strings (list_at s at) x
unfolding list_at
listed_at s x at r e = e
