-- Notes and the mark of policies, kept from row to row: what they say of a policy, and which policies are met again. Definitions only.
use Rattle.std.specs.Prelude.{◌≡◌, Bool, ◌||◌, List, ℕ, ◌+◌, ◌-◌, ◌*◌, ◌^◌, ◌<◌, eqb, leb, ltb, length, get_or, set}
use Rattle.tokens.specs.Sizes.{most_policies}
use Rattle.grammar.specs.Policies.{Policy}
use Rattle.grammar.specs.declared.Version.{Version}
use Rattle.bags.specs.declared.sections.Sections.{Sections}
use Rattle.stored.specs.Ready.{ReadyPolicies}
use Rattle.questions.specs.Questions.{cell}
use Rattle.questions.specs.Sizes.{most_columns, most_candidates}
use Rattle.views.specs.Rows.{row_view}
use Rattle.placing.specs.Said.{policy_words, words_of}
use Rattle.meaning.specs.Targets.{Request}
use Rattle.meaning.specs.Decisions.{under, satisfied, Numbered, policies_marked}
use Rattle.meaning.specs.declared.Marked.{Marked}
use Rattle.depths.specs.Looks.{Alike, own_of, Aims}
use Rattle.marks.specs.Marks.{is_set, permits_of}
use Rattle.kept.specs.declared.Walk.{Walk}

-- ---- which policies are met again

-- whether column number `from` or a later one can matter to policy i, from 0 on
abbrev pub matters : List ℕ → ℕ → ℕ → Bool
matters looks from i = leb from (get_or looks i 0) || ltb from (get_or looks (most_policies + i) 0)

-- the mark of the policies to which such a column can matter
pub record Late (looks : List ℕ) (policies from late : ℕ) : Type 0 where
  pub set : (i : ℕ) → i < policies → is_set late i ≡ matters looks from i
  pub below : late < 2 ^ policies

-- The marks of a walk at a row: that of the policies which are met again, that of the row before, in which no bit is set beyond the last policy, and that of
-- the permits.
pub record Underway (w : Walk) (ps : List Policy) (looks : List ℕ) : Type 0 where
  pub late : Late looks w.policies w.from w.late
  pub below : w.mark < 2 ^ w.policies
  pub permits : w.permits ≡ permits_of ps

-- the policies of some text end before entry number `entries`
pub record ReadyOfSome (table : List ℕ) (entries : ℕ) : Type 0 where
  pub text : List ℕ
  pub ready : ReadyPolicies text table entries

-- ---- notes

-- how many notes there are: each policy has one for each choice that a column can have
abbrev pub notes_size : ℕ
notes_size = most_policies * most_candidates

-- the note 0 says nothing, 2 says yes and any other no
pub record NoteSays (note : ℕ) (b : Bool) : Type 0 where
  pub told : (note ≡ 0 → ⊥) → eqb note 2 ≡ b

-- A policy has eight notes, one for each choice in its own column: row i of them says what is so by choice.
pub record RowSays (notes : List ℕ) (i : ℕ) (sat : ℕ → Bool) : Type 0 where
  pub says : (c : ℕ) → c < most_candidates → NoteSays (get_or notes (most_candidates * i + c) 0) (sat c)

-- whether a policy is satisfied under a version in the row with these values, but with choice c in its own column
unfoldable pub sat_by : Version → List ℕ → List ℕ → Sections → ℕ → List ℕ → Request → List ℕ → ℕ → Policy → ℕ → Bool
sat_by version t s p n heads q values column policy c =
    satisfied (under version (row_view s p n heads (set values column (cell s (p.end + 1) n column c)))) q (policy_words t policy)

-- the notes are right for these values
pub record Noted (version : Version) (t s : List ℕ) (p : Sections) (n : ℕ) (heads : List ℕ) (q : Request) (ps : List Policy) (looks values : List ℕ)
    (notes : List ℕ) : Type 0 where
  pub right : (number : ℕ) (policy : Policy) → Numbered number policy ps
      → RowSays notes (number - 1) (sat_by version t s p n heads q values (own_of looks number) policy)

-- the mark is right for these values, as far as the policies go whose own column stands before number `from`
pub record MarkTold (version : Version) (t s : List ℕ) (p : Sections) (n : ℕ) (heads : List ℕ) (q : Request) (ps : List Policy) (looks values : List ℕ)
    (from mark : ℕ) : Type 0 where
  pub told : (number : ℕ) (policy : Policy) → Numbered number policy ps → own_of looks number < from
      → is_set mark (number - 1) ≡ satisfied (under version (row_view s p n heads values)) q (policy_words t policy)

-- the notes and the mark are right for some row that chooses alike in the columns before number `from`
pub record Carried (version : Version) (t s : List ℕ) (p : Sections) (n : ℕ) (heads : List ℕ) (q : Request) (ps : List Policy) (looks values : List ℕ)
    (from : ℕ) (notes : List ℕ) (mark : ℕ) : Type 0 where
  pub before : List ℕ
  pub six : length before ≡ most_columns
  pub alike : Alike from before values
  pub noted : Noted version t s p n heads q ps looks before notes
  pub told : MarkTold version t s p n heads q ps looks before from mark
  pub long : length notes ≡ notes_size
  pub below : mark < 2 ^ length ps

-- the row's choices are among eight, and its values stand at their places in the question's columns, which begin behind the sections
pub record ChosenThere (s : List ℕ) (p : Sections) (n : ℕ) (choices values : List ℕ) : Type 0 where
  pub small : (i : ℕ) → i < most_columns → get_or choices i 0 < most_candidates
  pub six : length values ≡ most_columns
  pub picked : (i : ℕ) → i < most_columns → get_or values i 0 ≡ cell s (p.end + 1) n i (get_or choices i 0)

-- What is kept from row to row of a walk, for a request: which targets match, and notes and a mark that are right for a row that chooses alike in the columns
-- before number `from`.
pub record Kept (version : Version) (t s : List ℕ) (w : Walk) (heads : List ℕ) (q : Request) (ps : List Policy) (looks values : List ℕ) (from : ℕ)
    (notes : List ℕ) (mark : ℕ) : Type 0 where
  pub aims : Aims t q ps looks
  pub carried : Carried version t s w.p w.n heads q ps looks values from notes mark

-- ---- what the calls do

-- Of a policy that is satisfied by choice as `sat` says: the answer for this choice, the policy's notes right, and all others as before.
pub record Met (sat : ℕ → Bool) (i choice : ℕ) (before : List ℕ) (r : Bool) (after : List ℕ) : Type 0 where
  pub is : r ≡ sat choice
  pub says : RowSays after i sat
  pub others : (i' c : ℕ) → (i' ≡ i → ⊥) → c < most_candidates → get_or after (most_candidates * i' + c) 0 ≡ get_or before (most_candidates * i' + c) 0
  pub long : length after ≡ notes_size

-- what the policies decide in the row, with their mark, and all notes right for it
pub record DecidedFrom (version : Version) (t s : List ℕ) (p : Sections) (n : ℕ) (heads : List ℕ) (q : Request) (ps : List Policy) (looks values : List ℕ)
    (r : Marked) (notes : List ℕ) : Type 0 where
  pub is : r ≡ policies_marked (under version (row_view s p n heads values)) q (words_of t ps)
  pub noted : Noted version t s p n heads q ps looks values notes
  pub long : length notes ≡ notes_size
