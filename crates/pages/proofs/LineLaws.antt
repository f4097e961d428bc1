-- The listed rows are the lines of the combinations that are answered with yes, in order, and there is one such list. Assumes nothing.
use mathlib.Core.Path.{◌≡◌, refl, sym, ap, ◌∙◌, subst}
use mathlib.Core.Logic.{◌↔◌, ⊎_elim}
use mathlib.Core.Bool.{Bool, true, false}
use mathlib.Core.List.Memᴰ
use mathlib.Core.List.{List, [], ◌∷◌, map, Memᴰ}
use Prim.Native.Nat.{ℕ, zero, suc, ◌+◌, ◌/◌, ◌^◌, ◌≤◌, ◌<◌, zero-le}
use native.Mathlib.Decide.{dec_lt, ℕ_discrete}
use native.Mathlib.Omega.{arith}
use borrow.Author.Tests.{le-leb, lt-leb}
use lib.ListN.{length, get_or, take, drop, length-map}
use Rattle.questions.specs.Questions.{product}
use Rattle.meaning.specs.Decisions.{outcome_of, policy_of, is_allowed}
use Rattle.meaning.specs.declared.Decision.{Decision}
use Rattle.pages.specs.Rows.{Combination, none, chosen, row_of, choices_at}
use Rattle.pages.specs.Listing.{cons_if, yes_of, listed, page_rows, next_row, low_first, listed_bytes, rows_bytes}
use Rattle.pages.specs.Lines as lines
use Rattle.pages.specs.Lines.{Line, Sooner, here, later, InOrder, one, more, lines_bytes, little_endian, lines_from, first_row}
use Rattle.pages.proofs.Combinations.{row_below, choices_of_row, choices_combine, row_of_choices, first_slowest}
use Rattle.pages.proofs.Listed.{listed_at, lists_yes, list_ascends}

-- ---- the order

-- nothing comes before itself
not_sooner : {a : List ℕ} → Sooner a a → ⊥
not_sooner s = go s refl
  where
    go : {a b : List ℕ} → Sooner a b → a ≡ b → ⊥
    go (here {c = c} {c' = c'} h) e = let z : c ≡ c' = cc in omega arith
    go (later {cs = cs} {cs' = cs'} s) e = go s (let z : cs ≡ cs' = cc in z)

not_same : {l m : Line} → Sooner l.choices m.choices → m ≡ l → ⊥
not_same {l} s e = not_sooner (subst (λ (x : Line). Sooner l.choices x.choices) e s)

sooner_trans : {a b c : List ℕ} → Sooner a b → Sooner b c → Sooner a c
sooner_trans (here {c = c} h) (here {c' = e} k) = let l : c < e = omega arith in here l
sooner_trans (here h) (later k) = here h
sooner_trans (later h) (here k) = here k
sooner_trans (later h) (later k) = later (sooner_trans h k)

-- a combination that comes first has the lower row
pub sooner_row : {ns a b : List ℕ} → Combination ns a → Combination ns b → Sooner a b → row_of ns a < row_of ns b
unfolding row_of
sooner_row (chosen {n = n} {c = c} {ns = ns} {cs = cs} h ok) (chosen {c = c'} {cs = cs'} h' ok') (here l) = first_slowest n c c' cs' ok l
sooner_row (chosen h ok) (chosen h' ok') (later s) = let r = sooner_row ok ok' s in omega arith
sooner_row none _ s = elim s [ ]

-- of two combinations one comes first, or they are the same
data Ordered (a b : List ℕ) : Type 0 where
  first : Sooner a b → Ordered a b
  same : a ≡ b → Ordered a b
  second : Sooner b a → Ordered a b

ordered : {ns a b : List ℕ} → Combination ns a → Combination ns b → Ordered a b
ordered none none = same refl
ordered (chosen {c = c} {cs = cs} h ok) (chosen {c = c'} {cs = cs'} h' ok') = elim (dec_lt c c') [
  | yes l ↦ first (here l)
  | no l ↦ elim (dec_lt c' c) [
    | yes k ↦ second (here k)
    | no k ↦ next (omega arith) (ordered ok ok')
  ]
]
  where
    next : {c c' : ℕ} {cs cs' : List ℕ} → c ≡ c' → Ordered cs cs' → Ordered (c ∷ cs) (c' ∷ cs')
    next e (first s) = first (rw e (later s))
    next e (same q) = same (cc)
    next e (second s) = second (rw e (later s))

-- and the one with the lower row comes first
pub row_sooner : {ns a b : List ℕ} → Combination ns a → Combination ns b → row_of ns a < row_of ns b → Sooner a b
row_sooner {ns} {a} {b} x y l = go (ordered x y)
  where
    go : Ordered a b → Sooner a b
    go (first s) = s
    go (same e) = absurd (let k : row_of ns a ≡ row_of ns b = ap (row_of ns) e in omega arith)
    go (second s) = absurd (let k = sooner_row y x s in omega arith)

-- ---- one list

-- the first line of a list in order comes before all others
before_others : {l : Line} {ls : List Line} → InOrder (l ∷ ls) → (m : Line) → Memᴰ m ls → Sooner l.choices m.choices
before_others one m i = absurd (Memᴰ.not-nil i)
before_others {l} (more {m = n} {ls = ls} s o) m i = ⊎_elim (λ e. rw e s) (λ k. sooner_trans s (before_others o m k)) (Memᴰ.cases_cons i)

others_ordered : {l : Line} {ls : List Line} → InOrder (l ∷ ls) → InOrder ls
others_ordered one = lines.none
others_ordered (more s o) = o

-- two lists in order with the same lines are the same
pub one_list : (ls ms : List Line) → InOrder ls → InOrder ms → ((l : Line) → Memᴰ l ls → Memᴰ l ms) → ((l : Line) → Memᴰ l ms → Memᴰ l ls)
    → ls ≡ ms
one_list [] [] o p to from = refl
one_list [] (m ∷ ms) o p to from = absurd (Memᴰ.not-nil (from m (Memᴰ.head refl)))
one_list (l ∷ ls) [] o p to from = absurd (Memᴰ.not-nil (to l (Memᴰ.head refl)))
one_list (l ∷ ls) (m ∷ ms) o p to from =
    let e : l ≡ m = ⊎_elim (λ e. e) (λ i. ⊎_elim sym (λ k. absurd (not_sooner (sooner_trans (before_others p l i) (before_others o m k)))) (Memᴰ.cases_cons (from m (Memᴰ.head refl)))) (Memᴰ.cases_cons (to l (Memᴰ.head refl))) in
    both e (one_list ls ms (others_ordered o) (others_ordered p)
    (λ n i. ⊎_elim (λ q. absurd (not_same (before_others o n i) (q ∙ sym e))) (λ k. k) (Memᴰ.cases_cons (to n (Memᴰ.tail i))))
    (λ n i. ⊎_elim (λ q. absurd (not_same (before_others p n i) (q ∙ e))) (λ k. k) (Memᴰ.cases_cons (from n (Memᴰ.tail i)))))
  where
    both : {x y : Line} {xs ys : List Line} → x ≡ y → xs ≡ ys → x ∷ xs ≡ y ∷ ys
    both p q = cc

-- ---- as many as there is room for

map_take : {A B : Type 0} (f : A → B) (n : ℕ) (l : List A) → map f (take n l) ≡ take n (map f l)
map_take f zero l = refl
map_take f (suc n) [] = refl
map_take {A} {B} f (suc n) (x ∷ l) = ap (λ (k : List B). f x ∷ k) (map_take f n l)

among_taken : {A : Type 0} {x : A} (n : ℕ) (l : List A) → Memᴰ x (take n l) → Memᴰ x l
among_taken zero l i = absurd (Memᴰ.not-nil i)
among_taken (suc n) [] i = i
among_taken (suc n) (y ∷ l) i = ⊎_elim Memᴰ.head (λ k. Memᴰ.tail (among_taken n l k)) (Memᴰ.cases_cons i)

-- ---- the lines of the listed rows

-- a row's decision
abbrev pub decided_at : (List ℕ → Decision) → List ℕ → ℕ → Decision
decided_at f ns row = f (choices_at ns row)

-- and its mark
abbrev pub marked_at : (List ℕ → ℕ) → List ℕ → ℕ → ℕ
marked_at g ns row = g (choices_at ns row)

module _ (f : List ℕ → Decision) (g : List ℕ → ℕ) (ns : List ℕ) where
  -- a combination's line
  abbrev pub line_of : List ℕ → Line
  line_of choices = record { choices = choices; outcome = outcome_of (f choices); policy = policy_of (f choices); mark = g choices }

  -- a row's line
  abbrev pub line_at : ℕ → Line
  line_at row = line_of (choices_at ns row)

  -- the listed rows, as lines
  abbrev pub lines_of : List Line
  lines_of = map line_at (listed (decided_at f ns) (product ns) 0)

  -- a line is listed exactly if it is that of a combination that is answered with yes
  pub lines_yes : (l : Line) → Memᴰ l lines_of ↔ ((Combination ns l.choices) × (l ≡ line_of l.choices) × (is_allowed (f l.choices) ≡ true))
  lines_yes l = (to, from)
    where
      to : Memᴰ l lines_of → (Combination ns l.choices) × (l ≡ line_of l.choices) × (is_allowed (f l.choices) ≡ true)
      to i =
          let r = Memᴰ.of_map line_at (listed (decided_at f ns) (product ns) 0) i in
          let h = (lists_yes (decided_at f ns) (product ns) 0 r.0).0 r.1 in
          rw (← r.2) (choices_combine ns r.0 h.1, refl, h.2)

      from : (Combination ns l.choices) × (l ≡ line_of l.choices) × (is_allowed (f l.choices) ≡ true) → Memᴰ l lines_of
      from h =
          let back = choices_of_row h.0 in
          let m = (lists_yes (decided_at f ns) (product ns) 0 (row_of ns l.choices)).1 (zero-le, row_below h.0, rw back h.2) in
          Memᴰ.cast (h.1 ∙ ap line_of (sym back)) (Memᴰ.map line_at m)

  -- rows that ascend have lines in order
  rising : (rows : List ℕ) → ((row : ℕ) → Memᴰ row rows → row < product ns) → ((i j : ℕ) → i < j → j < length rows → get_or rows i 0 < get_or rows j 0) → InOrder (map line_at rows)
  rising [] below asc = lines.none
  rising (r ∷ []) below asc = one
  rising (r ∷ r' ∷ rows) below asc =
      let h = below r (Memᴰ.head refl) in
      let k = below r' (Memᴰ.tail (Memᴰ.head refl)) in
      let l : r < r' = asc 0 1 (omega arith) (omega arith) in
      more
      (row_sooner (choices_combine ns r h) (choices_combine ns r' k) (rw (row_of_choices ns r h, row_of_choices ns r' k) l))
      (rising (r' ∷ rows) (λ row i. below row (Memᴰ.tail i)) (λ i j h l. asc (suc i) (suc j) (omega arith) (omega arith)))

  pub lines_ordered : InOrder lines_of
  lines_ordered =
      rising (listed (decided_at f ns) (product ns) 0) (λ row i. ((lists_yes (decided_at f ns) (product ns) 0 row).0 i).1) (list_ascends (decided_at f ns) (product ns) 0)

  row_bytes : (rows : List ℕ) → ((row : ℕ) → Memᴰ row rows → row < product ns) → rows_bytes (decided_at f ns) (marked_at g ns) rows ≡ lines_bytes ns (map line_at rows)
  unfolding rows_bytes lines_bytes
  row_bytes [] below = refl
  row_bytes (r ∷ rows) below =
      rw (row_of_choices ns r (below r (Memᴰ.head refl)), row_bytes rows (λ row i. below row (Memᴰ.tail i)))

  -- ---- from a start row on

  kept_all : (start : ℕ) (rows : List ℕ) → ((row : ℕ) → Memᴰ row rows → (start ≤ row) × (row < product ns)) → lines_from ns start (map line_at rows) ≡ map line_at rows
  unfolding lines_from
  kept_all start [] among = refl
  kept_all start (r ∷ rows) among =
      let h = among r (Memᴰ.head refl) in
      rw (row_of_choices ns r h.1, le-leb start r h.0, kept_all start rows (λ row i. among row (Memᴰ.tail i)))

  passed_over : (start row : ℕ) (b : Bool) (rows : List ℕ) → row < start → row < product ns
      → lines_from ns start (map line_at (cons_if b row rows)) ≡ lines_from ns start (map line_at rows)
  unfolding lines_from
  passed_over start row false rows h k = refl
  passed_over start row true rows h k = rw (row_of_choices ns row k, lt-leb start row h)

  from_row : (start n row : ℕ) → row ≤ start → start ≤ product ns → row + n ≡ product ns
      → lines_from ns start (map line_at (yes_of (decided_at f ns) row n)) ≡ map line_at (listed (decided_at f ns) (product ns) start)
  unfolding yes_of lines_from
  from_row start zero row l h e = let q : start + 0 ≡ product ns = omega arith in rw (listed_at (decided_at f ns) (product ns) 0 start q)
  from_row start (suc n) row l h e = elim (ℕ_discrete row start) [
    | yes q ↦
        let k : listed (decided_at f ns) (product ns) start ≡ yes_of (decided_at f ns) row (suc n) = rw (← q) (listed_at (decided_at f ns) (product ns) (suc n) row e) in
        ap (λ (rows : List ℕ). lines_from ns start (map line_at rows)) (sym k)
        ∙ kept_all start (listed (decided_at f ns) (product ns) start) (λ row i. let y = (lists_yes (decided_at f ns) (product ns) start row).0 i in (y.0, y.1))
    | no q ↦
        passed_over start row (is_allowed (decided_at f ns row)) (yes_of (decided_at f ns) (suc row) n) (omega arith) (omega arith)
        ∙ from_row start n (suc row) (omega arith) h (omega arith)
  ]

  -- the lines from a start row on are those of the rows listed from there
  pub lines_from_lem : (start : ℕ) → start ≤ product ns → lines_from ns start lines_of ≡ map line_at (listed (decided_at f ns) (product ns) start)
  lines_from_lem start h = rw (listed_at (decided_at f ns) (product ns) (product ns) 0 (omega arith)) (from_row start (product ns) 0 zero-le h (omega arith))

  -- and have their bytes
  pub lines_bytes_lem : (start : ℕ) → start ≤ product ns → rows_bytes (decided_at f ns) (marked_at g ns) (listed (decided_at f ns) (product ns) start) ≡ lines_bytes ns (lines_from ns start lines_of)
  lines_bytes_lem start h =
      row_bytes (listed (decided_at f ns) (product ns) start) (λ row i. ((lists_yes (decided_at f ns) (product ns) start row).0 i).1) ∙ ap (lines_bytes ns) (sym (lines_from_lem start h))

  -- ---- a page of them

  first_there : (rows : List ℕ) (room : ℕ) → ((row : ℕ) → Memᴰ row rows → row < product ns)
      → first_row ns (drop room (map line_at rows)) ≡ get_or rows room (product ns)
  first_there [] zero below = refl
  first_there [] (suc room) below = refl
  first_there (r ∷ rows) zero below = row_of_choices ns r (below r (Memᴰ.head refl))
  first_there (r ∷ rows) (suc room) below = first_there rows room (λ row i. below row (Memᴰ.tail i))

  -- as many lines as there is room for, their bytes, and the row of the first that has none
  pub page_lines : (start room : ℕ) → start ≤ product ns
      → (length (page_rows (decided_at f ns) (product ns) start room) ≡ length (take room (lines_from ns start lines_of)))
      × (rows_bytes (decided_at f ns) (marked_at g ns) (page_rows (decided_at f ns) (product ns) start room) ≡ lines_bytes ns (take room (lines_from ns start lines_of)))
      × (next_row (decided_at f ns) (product ns) start room ≡ first_row ns (drop room (lines_from ns start lines_of)))
  unfolding page_rows next_row
  page_lines start room h =
      let rows = listed (decided_at f ns) (product ns) start in
      let below : (row : ℕ) → Memᴰ row rows → row < product ns = λ row i. ((lists_yes (decided_at f ns) (product ns) start row).0 i).1 in
      rw (lines_from_lem start h, ← map_take line_at room rows) (
        sym (length-map (take room rows) line_at),
        row_bytes (take room rows) (λ row i. below row (among_taken room rows i)),
        sym (first_there rows room below),
      )

-- ---- the bytes of a number

-- so many bytes give the number back that has no more of them
pub low_first_read : (k n : ℕ) → n < 256 ^ k → little_endian (low_first k n) ≡ n
low_first_read zero n h = omega arith
low_first_read (suc k) n h = let r = low_first_read k (n / 256) (omega arith) in omega arith

-- the four bytes of a row give its number back, and the eight its mark
pub row_read : (row outcome policy mark : ℕ) → row ≤ 262144 → little_endian (take 4 (listed_bytes row outcome policy mark)) ≡ row
row_read row outcome policy mark h = low_first_read 4 row (omega arith)

pub mark_read : (row outcome policy mark : ℕ) → mark < 2 ^ 64 → little_endian (drop 6 (listed_bytes row outcome policy mark)) ≡ mark
mark_read row outcome policy mark h = low_first_read 8 mark (omega arith)
