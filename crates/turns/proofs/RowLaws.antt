-- The row at which a walk stands: its choices and their places, its decision, and the next row. Assumes nothing.
use Rattle.std.specs.Prelude.{Some}
use mathlib.Core.Path.{◌≡◌, refl, sym, ap, ◌∙◌}
use mathlib.Core.Bool.{Bool, true, false, cond}
use mathlib.Core.List.{List, []}
use Prim.Native.Nat.{ℕ, ◌+◌, ◌-◌, ◌*◌, ◌%◌, ◌^◌, ◌≤◌, ◌<◌}
use native.Mathlib.Nat.{mod-lt, mod-eq_of_lt, one-le-pow}
use native.Mathlib.Omega.{arith}
use borrow.Author.Tests.{lt-ltb, ltb-true}
use lib.Dec.{ltb}
use lib.ListN.{length, get_or, replicate}
use Rattle.grammar.specs.Policies.{PolicyOf, Policy}
use Rattle.grammar.specs.declared.Version.{Version}
use Rattle.grammar.specs.declared.Version.TheVariants.{First}
use Rattle.bags.specs.Reading.{many}
use Rattle.bags.specs.declared.sections.Sections.{Sections}
use Rattle.questions.specs.Columns.{column_end}
use Rattle.questions.specs.Questions.{Question, cell, product, rows_of}
use Rattle.questions.proofs.PlaceLaws.{first_of}
use Rattle.placing.specs.Placed.{none_left}
use Rattle.table.specs.Entries.{policies_entries}
use Rattle.stored.specs.Stored.{none_left as nothing_left}
use Rattle.stored.specs.ReadBack.{policies_up_to, policies_at}
use Rattle.stored.specs.Ready.{ReadyPolicies}
use Rattle.views.specs.Meaning.{look}
use Rattle.views.specs.Rows.{row_view, RowStands, bag_of_row, Chooses}
use Rattle.views.proofs.RowLaws.{row_stands, row_shows}
use Rattle.placing.specs.Said.{Word, policy_words, words_of}
use Rattle.meaning.specs.Targets.{Request, is_system}
use Rattle.meaning.specs.Decisions.{Terms, under, satisfied, decision_of, policies_decide, policy_of, mark_by, mark_of, decided_mark, system_marked, NamesPolicy, the_system, a_forbid, a_permit, none_named, NamedRightly}
use Rattle.meaning.specs.declared.Decision.TheVariants.{System}
use Rattle.meaning.specs.declared.Marked.{Marked}
use Rattle.meaning.proofs.Deciding.{numbered_few, named_rightly}
use Rattle.meaning.proofs.Marking.{mark_below}
use Rattle.meaning.proofs.WordLaws.{mark_words, many_words}
use Rattle.marks.specs.Marks.{is_set}
use Rattle.marks.proofs.Bits.{marked_bit}
use Rattle.pages.specs.Rows.{counts_of, Combination, row_of, choices_at, counts_by, Few, Counted, Picked, RowPlaced, Moved}
use Rattle.depths.specs.Looks.{Aims}
use Rattle.depths.proofs.Finding.{zeros_say}
use Rattle.kept.specs.Notes.{ChosenThere, Late, Underway, Kept, DecidedFrom}
use Rattle.kept.specs.declared.Walk.{Walk}
use Rattle.pages.proofs.Combinations.{choices_combine, row_of_choices, choice_below}
use Rattle.pages.proofs.Digits.{counts_length, count_is, rows_some}
use Rattle.pages.proofs.SixColumns.{heads_counted, rows_are, row_chooses, lasts_few, six_rows, six_choices}
use Rattle.turns.specs.Rows.{columns_in, first_in, rows_in, decision_by, decision_at, mark_there, row_mark}
use Rattle.turns.specs.Turns.{Laid, Walked, Standing, AtRow}

-- ---- the row at which the choices stand

module _ (ends choices : List ℕ) (row : ℕ) (is : choices ≡ choices_at (counts_by ends) (row % product (counts_by ends))) where
  pub combines : Combination (counts_by ends) choices
  combines = rw is (choices_combine (counts_by ends) (row % product (counts_by ends)) (mod-lt row (rows_some ends 0)))

  -- each choice is below 8
  pub choices_small : Few ends → (i : ℕ) → i < 6 → get_or choices i 0 < 8
  choices_small f i h =
      let here : i < length ends = rw f.six h in
      omega (arith, choice_below combines i (rw (counts_length ends) here), count_is ends i here, f.few i h)

pub placed_there : {grid : List (List ℕ)} {ends choices values : List ℕ} {row : ℕ} → Few ends → Standing grid ends choices values row → RowPlaced grid ends choices values
placed_there f s = record { few = f; combines = combines _ _ _ s.choices_are; values_are = s.values_are }

-- the places of a row's choices, as they are first looked up
pub stands_first : {grid : List (List ℕ)} {ends choices values : List ℕ} {row : ℕ} → choices ≡ choices_at (counts_by ends) (row % product (counts_by ends)) → length values ≡ 6
    → ((i : ℕ) → i < 6 → get_or values i 0 ≡ cond (ltb i 6) (get_or (get_or grid i []) (get_or choices i 0) 0) 0) → Standing grid ends choices values row
stands_first is six v = record { choices_are = is; values_are = record { six = six; picked = λ i l. v i l ∙ simp (lt-ltb i 6 l) } }

-- the next row
pub stands_next : {grid : List (List ℕ)} {ends choices values choices' values' : List ℕ} {row column : ℕ} → row < product (counts_by ends) → Standing grid ends choices values row
    → Moved grid ends choices column choices' values' → Standing grid ends choices' values' (row + 1)
stands_next {ends = ends} {choices = choices} {row = row} h s m =
    let here : row % product (counts_by ends) ≡ row = mod-eq_of_lt h in
    let is : choices ≡ choices_at (counts_by ends) row = s.choices_are ∙ ap (choices_at (counts_by ends)) here in
    let row_is : row_of (counts_by ends) choices ≡ row = ap (row_of (counts_by ends)) is ∙ row_of_choices (counts_by ends) row h in
    record {
      choices_are = m.choices_are ∙ ap (λ (r : ℕ). choices_at (counts_by ends) ((r + 1) % product (counts_by ends))) row_is;
      values_are = m.values_are;
    }

-- ---- what is kept from row to row

module _ {version : Version} {text s : List ℕ} {w : Walk} {starts : List ℕ} {q : Request} {ps : List Policy} {looks : List ℕ} where
  -- before the first row no note says anything, and no bit is set
  pub kept_first : (values : List ℕ) → length values ≡ 6 → Aims text q ps looks → Kept version text s w starts q ps looks values 0 (replicate 512 0) 0
  kept_first values six a = record {
    aims = a;
    carried = record {
      before = values;
      six = six;
      alike = record { alike = λ j h. refl };
      noted = record { right = λ m policy h. record { says = λ c k. record { told = λ z. absurd (z (zeros_say 512 (8 * (m - 1) + c))) } } };
      told = record { told = λ m policy h l. absurd (omega arith) };
      long = refl;
      below = one-le-pow (length ps) 2 (omega arith);
    };
  }

  -- the next row chooses alike in the columns before the one that moves
  pub kept_next : {grid : List (List ℕ)} {ends choices choices' values values' notes notes' : List ℕ} {from column mark : ℕ} {d : Marked}
      → Kept version text s w starts q ps looks values from notes mark → DecidedFrom version text s w.p w.n starts q ps looks values d notes'
      → Picked grid choices values → Moved grid ends choices column choices' values' → Kept version text s w starts q ps looks values' column notes' d.mark
  kept_next {grid = grid} {values = values} {d = d} k by v m = record {
    aims = k.aims;
    carried = record {
      before = values;
      six = v.six;
      alike = record {
        alike = λ j h.
            let l = m.moved.within in
            v.picked j (omega arith) ∙ ap (λ (c : ℕ). get_or (get_or grid j []) c 0) (sym (m.moved.kept j h)) ∙ sym (m.values_are.picked j (omega arith));
      };
      noted = by.noted;
      told = record { told = λ n policy h l. ap (λ (m : ℕ). is_set m (n - 1)) marked ∙ marked_bit test h };
      long = by.long;
      below = rw marked (mark_below test ps);
    };
  }
    where
      test : Policy → Bool
      test r = satisfied (under version (row_view s w.p w.n starts values)) q (policy_words text r)

      marked : d.mark ≡ mark_by test ps
      marked = ap (λ (m : Marked). m.mark) by.is ∙ mark_words text (satisfied (under version (row_view s w.p w.n starts values)) q) ps

-- ---- what the row shows, and what is decided in it

module _ {s : List ℕ} {p : Sections} {n : ℕ} {starts ends : List ℕ} {grid : List (List ℕ)} (question : Question s p) (laid : Laid s p n starts grid ends) where
  most : n ≤ 6
  most = rw laid.many question.few

  columns : many n (column_end s) (first_in p) ≡ Some question.last
  columns = rw laid.many question.columns

  pub ends_few : Few ends
  ends_few = lasts_few s n (first_in p) question.last most columns starts ends laid.six laid.starts_are laid.ends_are

  pub counted_there : Counted s n starts
  counted_there = heads_counted s n (first_in p) question.last most columns starts laid.starts_are

  pub as_many_rows : product (counts_by ends) ≡ rows_in s p
  as_many_rows =
      six_rows s n (first_in p) question.last most columns starts ends laid.six laid.starts_are laid.ends_are
      ∙ ap (λ (n : ℕ). rows_of n s (first_in p)) laid.many

  module _ {choices values : List ℕ} {row : ℕ} (h : row < rows_in s p) (st : Standing grid ends choices values row) where
    rows_of_lem : rows_of n s (first_in p) ≡ rows_in s p
    rows_of_lem = ap (λ (n : ℕ). rows_of n s (first_in p)) laid.many

    there : row < product (counts_of n s (first_in p))
    there = rw (← rows_are s n (first_in p) question.last most columns, rows_of_lem) h

    abbrev chosen_row : List ℕ
    chosen_row = choices_at (counts_of n s (first_in p)) row

    chooses : Chooses n s (first_in p) chosen_row
    chooses = row_chooses s n (first_in p) question.last most columns row there

    same_choice : (i : ℕ) → i < n → get_or choices i 0 ≡ get_or chosen_row i 0
    same_choice i l =
        let here : row % product (counts_by ends) ≡ row = mod-eq_of_lt (rw as_many_rows h) in
        ap (λ (cs : List ℕ). get_or cs i 0) (st.choices_are ∙ ap (choices_at (counts_by ends)) here)
        ∙ six_choices s n (first_in p) question.last most columns starts ends laid.six laid.starts_are laid.ends_are row (rw rows_of_lem h) i l

    values_chosen : (i : ℕ) → i < 6 → get_or values i 0 ≡ first_of n (λ i. get_or (get_or grid i []) (get_or chosen_row i 0) 0) i
    unfolding cell
    values_chosen i l = go (ltb i n) refl
      where
        go : (b : Bool) → ltb i n ≡ b → get_or values i 0 ≡ first_of n (λ i. get_or (get_or grid i []) (get_or chosen_row i 0) 0) i
        go true q = simp q (st.values_are.picked i l ∙ ap (λ (c : ℕ). get_or (get_or grid i []) c 0) (same_choice i (ltb-true i n q)))
        go false q =
            simp q (st.values_are.picked i l ∙ laid.grid_is i (get_or choices i 0) l (choices_small ends choices row st.choices_are ends_few i l) ∙ simp q)

    -- the values stand where the question's columns have the choices
    pub chosen_there : ChosenThere s p n choices values
    chosen_there =
        let small = choices_small ends choices row st.choices_are ends_few in
        record { small = small; six = st.values_are.six; picked = λ i l. st.values_are.picked i l ∙ laid.grid_is i (get_or choices i 0) l (small i l) }

    pub stands_there : RowStands s p n starts values
    stands_there =
        row_stands s p n (first_in p) question.last most columns chosen_row chooses starts values grid laid.starts_are laid.grid_is values_chosen
        question.sections

    shows : row_view s p n starts values ≡ look (bag_of_row s p (columns_in s p) (first_in p) (choices_at (counts_of (columns_in s p) s (first_in p)) row))
    shows =
        (λ i root path.
        row_shows s p n (first_in p) question.last most columns chosen_row chooses starts values grid laid.starts_are laid.grid_is values_chosen root path i)
        ∙ ap (λ (n : ℕ). look (bag_of_row s p n (first_in p) (choices_at (counts_of n s (first_in p)) row))) laid.many

    -- the row's decision
    pub decides_there : (version : Version) (system : Bool) (q : Request) (ps : List (PolicyOf Word)) → system ≡ is_system q.subject
        → cond system System (policies_decide (under version (row_view s p n starts values)) q ps) ≡ decision_at version s p q ps row
    unfolding decision_by decision_of
    decides_there version system q ps e = rw (e, shows)

    -- and its mark
    pub marks_there : (version : Version) (system : Bool) (q : Request) (ps : List (PolicyOf Word)) → system ≡ is_system q.subject
        → cond system 0 (mark_of (under version (row_view s p n starts values)) q ps) ≡ row_mark version s p q ps row
    unfolding mark_there decided_mark
    marks_there version system q ps e = rw (e, shows)

-- the decision and the mark, where the system comes first
pub of_system : (system : Bool) (m : Marked) → ((cond system system_marked m).d ≡ cond system System m.d) × ((cond system system_marked m).mark ≡ cond system 0 m.mark)
of_system true m = (refl, refl)
of_system false m = (refl, refl)

-- ---- a policy's number is at most 64, and fits a byte

named_few : {terms : Terms} {q : Request} {ps : List (PolicyOf Word)} {n : ℕ} → NamesPolicy terms q ps n → n ≤ length ps
named_few (the_system s) = omega arith
named_few (a_forbid s l) = numbered_few l.satisfied_as.numbered
named_few (a_permit s f l) = numbered_few l.satisfied_as.numbered
named_few (none_named s f g) = omega arith

module _ (text : List ℕ) (terms : Terms) (q : Request) (ps : List Policy) where
  system_few : is_system q.subject ≡ true → policy_of (decision_of terms q (words_of text ps)) ≤ 64
  unfolding decision_of policy_of
  system_few e = rw e (omega arith)

  other_few : length ps ≤ 64 → policy_of (decision_of terms q (words_of text ps)) ≤ 64
  unfolding NamedRightly
  other_few h = omega (arith, many_words text ps, named_few (named_rightly terms q (words_of text ps)))

pub policy_few : (version : Version) (text : List ℕ) (s : List ℕ) (p : Sections) (q : Request) (ps : List Policy) (row : ℕ) → length ps ≤ 64
    → policy_of (decision_at version s p q (words_of text ps) row) ≤ 64
unfolding decision_by
policy_few version text s p q ps row h = go (is_system q.subject) refl
  where
    terms : Terms
    terms = under version (look (bag_of_row s p (columns_in s p) (first_in p) (choices_at (counts_of (columns_in s p) s (first_in p)) row)))

    go : (b : Bool) → is_system q.subject ≡ b → policy_of (decision_of terms q (words_of text ps)) ≤ 64
    go true e = system_few text terms q ps e
    go false e = other_few text terms q ps h

pub policy_fits : (version : Version) (text : List ℕ) (s : List ℕ) (p : Sections) (q : Request) (ps : List Policy) (row : ℕ) → length ps ≤ 64
    → policy_of (decision_at version s p q (words_of text ps) row) < 256
policy_fits version text s p q ps row h = omega (arith, policy_few version text s p q ps row h)

-- ---- policies of the system

-- where there are none they can all be evaluated
pub none_ready : (text table : List ℕ) → ReadyPolicies text table 0
unfolding policies_up_to policies_entries
none_ready text table = record { stored = record { version = First; stands = record { from = nothing_left; ends = refl; few = omega arith } }; placed = none_left; here = omega arith }

pub none_many : (table : List ℕ) → ◌≡◌ {A = ℕ} 0 (length (policies_at table 0))
unfolding policies_up_to
none_many table = refl

-- ---- a walk, and the same walk gone on to another column

abbrev pub gone_to : Walk → ℕ → ℕ → ℕ → Walk
gone_to w from late mark =
    record { system = w.system; policies = w.policies; entries = w.entries; p = w.p; n = w.n; from = from; late = late; mark = mark; permits = w.permits }

module _ {text table s starts : List ℕ} {grid : List (List ℕ)} {ends looks : List ℕ} (w : Walk) (from late mark : ℕ) where
  pub walked_gone : Walked text table s w starts grid ends looks → Walked text table s (gone_to w from late mark) starts grid ends looks
  walked_gone k = record { question = k.question; laid = k.laid; ready = k.ready; many = k.many; few = k.few; depths = k.depths; ended = k.ended; permits = k.permits }

  -- its marks there
  pub underway_gone : {policies : ℕ} → policies ≡ w.policies → Walked text table s w starts grid ends looks → Late looks policies from late → mark < 2 ^ length (policies_at table w.entries)
      → Underway (gone_to w from late mark) (policies_at table w.entries) looks
  underway_gone e k l b = record { late = rw e at l; below = rw k.many b; permits = k.permits }

  module _ {action : List ℕ} {q : Request} {row : ℕ} {choices values : List ℕ} {column : ℕ} {notes : List ℕ} {said : ℕ} where
    pub at_gone : AtRow text table s w starts grid ends looks action q row choices values column notes said
        → AtRow text table s (gone_to w from late mark) starts grid ends looks action q row choices values column notes said
    at_gone a = record { acts = a.acts; whose = a.whose; standing = a.standing; within = a.within; kept = record { aims = a.kept.aims; carried = a.kept.carried } }

    pub at_back : AtRow text table s (gone_to w from late mark) starts grid ends looks action q row choices values column notes said
        → AtRow text table s w starts grid ends looks action q row choices values column notes said
    at_back a = record { acts = a.acts; whose = a.whose; standing = a.standing; within = a.within; kept = record { aims = a.kept.aims; carried = a.kept.carried } }
