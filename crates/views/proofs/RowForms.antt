-- The bag of a row is the base that the question's bytes say, with each column's attribute set to the candidate that is chosen, or removed. Assumes nothing.
use Rattle.std.specs.Prelude.{Option, Some}
use Prim.Native.Nat.{ℕ, zero, suc, ◌+◌, ◌-◌, ◌<◌}
use mathlib.Core.List.{List, [], ◌∷◌, map}
use mathlib.Core.Bool.{true}
use mathlib.Core.Path.{◌≡◌, refl, sym, ◌∙◌, ap}
use borrow.Author.Tests.{lt-ltb}
use native.Mathlib.Omega.{arith}
use lib.ListN.{get_or, drop}
use Rattle.tokens.specs.Table.{values_from}
use Rattle.bags.specs.Reading.{byte, many}
use Rattle.bags.specs.Data.{Datum, absent, datum_at}
use Rattle.bags.specs.Forms.{Contents}
use Rattle.bags.specs.Sections.{sections_of}
use Rattle.bags.specs.declared.sections.Sections.{Sections}
use Rattle.bags.proofs.ReadLaws.{first, nth, each_done, each_more}
use Rattle.bags.proofs.Told.{map_each, each_nth}
use Rattle.bags.proofs.Exactly.{contents_at}
use Rattle.lookups.specs.Values.{value_at}
use Rattle.lookups.specs.declared.values.Value.{Value}
use Rattle.questions.specs.Columns.{candidate_end, column_path, count_at, column_end}
use Rattle.questions.specs.Questions.{head_of, count_of, choice_at, is_question}
use Rattle.questions.specs.Forms.{Choice, Column, QuestionBytes}
use Rattle.questions.proofs.ColumnLaws.{candidate_valued, column_at, question_only, question_is_lem}
use Rattle.questions.proofs.Exactly.{choice_here, choices_here, column_here, columns_here, columns_at, question_stands, question_exactly}
use Rattle.views.specs.Meaning.{View, as_bag, look, Chosen, row_bag, columns_first}
use Rattle.views.specs.Values.{datum_in, base_bag, chosen_meant}
use Rattle.views.specs.Rows.{chosen_at, columns_of, bag_of_row, Chooses, picked, picked_all}
use Rattle.views.proofs.ReadLaws.{reads_it}
use Rattle.views.proofs.RowBag.{row_view_is}
use Rattle.views.proofs.BagForms.{base_shows}

module _ (s : List ℕ) where
  -- candidate j of a column that stands at c
  value_picked : (c e j : ℕ) → column_end s c ≡ Some e → j < count_of s c
      → datum_in s (value_at s (choice_at s c j)) ≡ get_or (map (λ (x : Choice). x.is) (choices_here s (count_of s c) (count_at s c + 1))) j absent
  unfolding choice_at choices_here
  value_picked c e j h l =
      let w = column_at s c e h in
      let r = nth (candidate_end s) (count_of s c) j (count_at s c + 1) e l w.candidates in
      let m = map_each (λ (x : Choice). x.is) (count_of s c) (candidate_end s) (choice_here s) (count_at s c + 1) in
      let v = each_nth (candidate_end s) (λ at e. datum_at s at) absent (count_of s c) j (count_at s c + 1) r.start r.stop l r.starts r.stops in
      let k = reads_it s r.start (candidate_valued s r.start r.stop r.stops) in
      rw (lt-ltb j (count_of s c) l, r.starts) (k ∙ sym (ap (λ (l : List Datum). get_or l j absent) m ∙ v))

  column_picked : (c e j : ℕ) → column_end s c ≡ Some e → j < count_of s c → chosen_meant s (chosen_at s c (choice_at s c j)) ≡ picked (column_here s c) j
  column_picked c e j h l = ap (λ (d : Datum). record { root = byte s c; path = column_path s c; value = d }) (value_picked c e j h l)

-- values from the second place on are those of the next rule from the first on
shifted : {A : Type 0} (f : ℕ → A) (a n : ℕ) → values_from f (suc a) n ≡ values_from (λ i. f (suc i)) a n
shifted f a zero = refl
shifted {A} f a (suc n) = ap (λ (l : List A). f (suc a) ∷ l) (shifted f (suc a) n)

alike : {A : Type 0} (f g : ℕ → A) (a n : ℕ) → ((i : ℕ) → f i ≡ g i) → values_from f a n ≡ values_from g a n
alike f g a zero h = refl
alike f g a (suc n) h = rw (h a, alike f g (suc a) n h)

later_choice : (choices : List ℕ) (i : ℕ) → get_or choices (suc i) 0 ≡ get_or (drop 1 choices) i 0
later_choice [] zero = refl
later_choice [] (suc i) = refl
later_choice (k ∷ ks) i = refl

module _ (s : List ℕ) where
  no_head : (at : ℕ) → head_of s at 0 ≡ at
  unfolding many
  no_head at = refl

  later_head : (at e i : ℕ) → column_end s at ≡ Some e → head_of s at (suc i) ≡ head_of s e i
  unfolding many
  later_head at e i h = rw h

  -- column i of those from a place on, with its choice
  abbrev numbered : ℕ → List ℕ → ℕ → Chosen Value
  numbered at choices i = chosen_at s (head_of s at i) (choice_at s (head_of s at i) (get_or choices i 0))

  columns_none : (at : ℕ) (choices : List ℕ) → columns_of 0 s at choices ≡ []
  unfolding columns_of
  columns_none at choices = refl

  -- of n columns the first with its choice, and the others with theirs
  columns_first_lem : (n at e : ℕ) (choices : List ℕ) → column_end s at ≡ Some e
      → columns_of (suc n) s at choices ≡ chosen_at s at (choice_at s at (get_or choices 0 0)) ∷ columns_of n s e (drop 1 choices)
  unfolding columns_of many
  columns_first_lem n at e choices h =
      ap (λ (l : List (Chosen Value)). chosen_at s at (choice_at s at (get_or choices 0 0)) ∷ l)
      (shifted (numbered at choices) 0 n
      ∙ alike (λ i. numbered at choices (suc i)) (numbered e (drop 1 choices)) 0 n (λ i. rw (later_head at e i h, later_choice choices i)))

  chooses_later : (n at e : ℕ) (choices : List ℕ) → column_end s at ≡ Some e → Chooses (suc n) s at choices → Chooses n s e (drop 1 choices)
  chooses_later n at e choices h ch i l =
      let k : get_or choices (suc i) 0 < count_of s (head_of s at (suc i)) = ch (suc i) (omega arith) in
      rw (later_head at e i h, later_choice choices i) at k

  columns_picked : (n at last : ℕ) (choices : List ℕ) → many n (column_end s) at ≡ Some last → Chooses n s at choices
      → map (chosen_meant s) (columns_of n s at choices) ≡ picked_all (columns_here s n at) choices
  unfolding columns_here picked_all
  columns_picked zero at last choices h ch = rw (columns_none at choices, each_done (column_end s) (λ at e. column_here s at) 0 at (omega arith))
  columns_picked (suc n) at last choices h ch =
      let f = first (column_end s) (suc n) at last (omega arith) h in
      let m : suc n - 1 ≡ n = omega arith in
      let ih = columns_picked n f.stop last (drop 1 choices) (rw m at f.later) (chooses_later n at f.stop choices f.ends ch) in
      let here = column_picked s at f.stop (get_or choices 0 0) f.ends (head_chosen n at choices ch) in
      let cut = each_more (column_end s) (λ at e. column_here s at) (suc n) at f.stop (omega arith) f.ends in
      rw (columns_first_lem n at f.stop choices f.ends, cut, m) (both here ih)
    where
      both : {x y : Chosen Datum} {xs ys : List (Chosen Datum)} → x ≡ y → xs ≡ ys → x ∷ xs ≡ y ∷ ys
      both p q = cc

      head_chosen : (n at : ℕ) (choices : List ℕ) → Chooses (suc n) s at choices → get_or choices 0 0 < count_of s at
      head_chosen n at choices ch = rw (no_head at) at (ch 0 (omega arith))

-- columns first, and then either of two views that agree
columns_same : (cs : List (Chosen Datum)) (view seen : View) (root : ℕ) (path : List ℕ) → view root path ≡ seen root path
    → columns_first cs view root path ≡ columns_first cs seen root path
unfolding columns_first
columns_same [] view seen root path h = h
columns_same (c ∷ cs) view seen root path h = rw (columns_same cs view seen root path h)

-- each attribute of a row is that of the base and the columns that the question's bytes say
pub row_holds : {s : List ℕ} {base : Contents} {cs : List Column} (p : Sections) → sections_of s ≡ Some p → QuestionBytes s base cs
    → (choices : List ℕ) → Chooses (byte s p.end) s (p.end + 1) choices → (root : ℕ) (path : List ℕ)
    → look (bag_of_row s p (byte s p.end) (p.end + 1) choices) root path ≡ look (row_bag (as_bag base) (picked_all cs choices)) root path
unfolding bag_of_row columns_at
row_holds {s} {base} {cs} p r w choices ch root path =
    let d = question_stands w in
    let q : d.places ≡ p = same_places d.read r in
    let i : is_question s ≡ true = (question_exactly s).1 (base, (cs, w)) in
    let o : question_only s ≡ Some p = rw i r in
    let k = columns_picked s (byte s p.end) (p.end + 1) (question_is_lem s p o).last choices (question_is_lem s p o).columns ch in
    let c : cs ≡ columns_at s p.end = rw q at d.columns_are in
    let b : base ≡ contents_at s p = rw q at d.base_is in
    row_view_is (base_bag s p) _ root path
    ∙ ap (λ (l : List (Chosen Datum)). columns_first l (look (base_bag s p)) root path) (k ∙ ap (λ (l : List Column). picked_all l choices) (sym c))
    ∙ columns_same (picked_all cs choices) (look (base_bag s p)) (look (as_bag base)) root path (base_shows s p base b root path)
    ∙ sym (row_view_is (as_bag base) (picked_all cs choices) root path)
  where
    same_places : {x : Option Sections} {a c : Sections} → x ≡ Some a → x ≡ Some c → a ≡ c
    same_places h k = cc
