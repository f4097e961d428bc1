-- The reader `is_question` takes exactly the bytes of questions, and bytes are those of one question only. Assumes nothing.
use Rattle.std.specs.Prelude.{None, Option, Some}
use Prim.Native.Nat.{ℕ, ◌+◌, ◌-◌, ◌<◌, ◌≤◌}
use mathlib.Core.List.{List, [], ◌∷◌, ◌++◌, map}
use mathlib.Core.Bool.{Bool, true, false, ◌&&◌, and-eq-true_iff, false≢true}
use mathlib.Core.Logic.{◌↔◌}
use mathlib.Core.Path.{◌≡◌, refl, sym, ◌∙◌, ap}
use native.Mathlib.Omega.{arith}
use borrow.Author.Tests.{leb-true, le-leb, ltb-true, eqb-true, eqb-false, eq-eqb}
use lib.Dec.{ltb, leb, eqb}
use lib.ListN.{length}
use Rattle.slices.specs.Parts.{part}
use Rattle.bags.specs.Reading.{byte, ends_at, many, each}
use Rattle.bags.specs.Sections.{sections_of}
use Rattle.bags.specs.Data.{Datum, absent, datum_at}
use Rattle.bags.specs.Forms.{Contents}
use Rattle.bags.specs.declared.sections.Sections.{Sections}
use Rattle.bags.proofs.ReadLaws.{only_at, same_end}
use Rattle.bags.proofs.ValueLaws as values
use Rattle.bags.proofs.ValueLaws.{Ended, value_at_lem, value_inside}
use Rattle.bags.proofs.SectionLaws.{sections_at}
use Rattle.bags.proofs.Laid.{Laid, laid_none, laid_cons, laid_part, laid_join, laid_split, laid_head, laid_is, laid_bytes, laid_whole, whole_laid}
use Rattle.bags.proofs.Told.{Told, Reads, many_sound, many_complete, map_each, each_agree}
use Rattle.bags.proofs.ValueForms.{value_reads}
use Rattle.bags.proofs.Exactly.{contents_at, sections_sound, sections_complete}
use Rattle.questions.specs.Distinct.{distinct}
use Rattle.questions.specs.Columns.{candidate_end, column_path, count_at, candidate_bytes, column_bytes, candidates_end, head_ok, column_end, columns_end}
use Rattle.questions.specs.Questions.{fourth_end, follows, is_question}
use Rattle.questions.specs.Forms.{Distinct, Choice, ChoiceBytes, nothing, something, Named, Column, ColumnBytes, column}
use Rattle.questions.specs.Forms.{ColumnsBytes, columns, Parts, parts, QuestionBytes, NoQuestion}
use Rattle.questions.proofs.ColumnLaws.{candidate_absent, candidate_value, candidate_starts, candidate_whole, column_whole, column_at, fourth_whole}
use Rattle.questions.proofs.DistinctLaws.{distinct_decides, distinct_mapped, distinct_before}

module _ (s : List ℕ) where
  -- ---- candidates

  -- the candidate from a place to its end
  abbrev pub choice_here : ℕ → ℕ → Choice
  choice_here at e = record { is = datum_at s at; bytes = part s at (e - at) }

  nothing_there : (k : ℕ) → byte s k ≡ 0 → datum_at s k ≡ absent
  unfolding datum_at
  nothing_there k j = rw j

  kind_some : {kind at e : ℕ} → Ended kind s at e → kind ≡ 0 → ⊥
  kind_some (values.string j w) z = omega arith
  kind_some (values.number j w) z = omega arith
  kind_some (values.flag j w) z = omega arith
  kind_some (values.list j w) z = omega arith

  choice_sound : (at e : ℕ) → candidate_end s at ≡ Some e → Told ChoiceBytes s at e (choice_here at e)
  choice_sound at e h = go (eqb (byte s at) 0) refl
    where
      within : at < length s
      within = candidate_starts s at e h

      go : (b : Bool) → eqb (byte s at) 0 ≡ b → Told ChoiceBytes s at e (choice_here at e)
      go true q =
          let k = eqb-true (byte s at) 0 q in
          let x : at + 1 ≡ e = same_end (sym (candidate_absent s at within k)) h in
          let l : Laid s at (0 ∷ []) e = laid_cons s at 0 [] e within k (rw x (laid_none s e (omega (arith, within)))) in
          let d = nothing_there at k in
          let y = laid_bytes l in
          record { bytes = 0 ∷ []; says = rw (d, y) nothing; laid = l }
      go false q =
          let t = (value_reads s).sound at e (candidate_whole s at e h (eqb-false (byte s at) 0 q)) in
          let y = laid_bytes t.laid in
          record { bytes = t.bytes; says = rw y (something t.says); laid = t.laid }

  choice_complete : {at e : ℕ} {b : List ℕ} {c : Choice} → ChoiceBytes b c → Laid s at b e → (candidate_end s at ≡ Some e) × (c ≡ choice_here at e)
  choice_complete {at} {e} nothing l =
      let h = laid_head l in
      let d = nothing_there at h.first in
      let y = laid_bytes l in
      let q : at + 1 ≡ e = omega (arith, h.others.stop) in
      (sym (candidate_absent s at h.within h.first) ∙ ap Some q, rw (d, y))
  choice_complete {at} {e} (something {b} {v} f) l =
      let o = (value_reads s).complete f l in
      let i = value_inside (byte s at) s (at + 1) e o.0 in
      let y = laid_bytes l in
      let w : at < length s = omega arith in (
        sym (candidate_value s at w (kind_some (value_at_lem (byte s at) s (at + 1) e o.0))) ∙ o.0,
        rw y (ap (λ (d : Datum). record { is = d; bytes = b }) o.1),
      )

  choice_reads : Reads ChoiceBytes s (candidate_end s) choice_here
  choice_reads = record { sound = choice_sound; complete = choice_complete }

  -- ---- columns

  -- n candidates from a place on
  unfoldable pub choices_here : ℕ → ℕ → List Choice
  choices_here n at = each n (candidate_end s) choice_here at

  -- the column at a place
  abbrev pub column_here : ℕ → Column
  column_here at = record { names = record { root = byte s at; path = column_path s at }; choices = choices_here (byte s (count_at s at)) (count_at s at + 1) }

  choices_named : (n at : ℕ) → map (λ (c : Choice). c.bytes) (choices_here n at) ≡ each n (candidate_end s) (candidate_bytes s) at
  unfolding candidate_bytes choices_here
  choices_named n at = map_each (λ (c : Choice). c.bytes) n (candidate_end s) choice_here at

  head_ok_lem : (root count : ℕ) → 1 ≤ root → root ≤ 3 → 1 ≤ count → count ≤ 8 → head_ok root count ≡ true
  unfolding head_ok
  head_ok_lem root count a b c d = rw (le-leb 1 root a, le-leb root 3 b, le-leb 1 count c, le-leb count 8 d)

  candidates_whole : (n at e : ℕ) → distinct (each n (candidate_end s) (candidate_bytes s) at) ≡ true
      → many n (candidate_end s) at ≡ Some e → candidates_end n s at ≡ Some e
  unfolding candidates_end
  candidates_whole n at e d h = rw d h

  column_sound : (at e : ℕ) → column_end s at ≡ Some e → Told ColumnBytes s at e (column_here at)
  unfolding choices_here
  column_sound at e h =
      let w = column_at s at e h in
      let n = byte s (count_at s at) in
      let within : count_at s at + 1 ≤ length s = omega (arith, w.counted) in
      let m = many_sound ChoiceBytes s (candidate_end s) choice_here choice_reads (byte s (count_at s at)) (count_at s at + 1) e within w.candidates in
      let c = m.1 in
      let p = laid_part s (at + 2) (byte s (at + 1)) (omega (arith, w.counted)) in
      let two : at + 1 + 1 ≡ at + 2 = omega arith in
      let some : 1 ≤ length (choices_here (byte s (count_at s at)) (count_at s at + 1)) = rw c w.some in
      let few : length (choices_here (byte s (count_at s at)) (count_at s at + 1)) ≤ 8 = rw c w.few in
      let differ : Distinct (map (λ (c : Choice). c.bytes) (choices_here (byte s (count_at s at)) (count_at s at + 1)))
      = rw (choices_named (byte s (count_at s at)) (count_at s at + 1)) ((distinct_decides _).sound w.differ) in
      record {
        bytes = byte s at ∷ length (column_path s at) ∷ (column_path s at ++ (length (choices_here (byte s (count_at s at)) (count_at s at + 1)) ∷ m.0.bytes));
        says = column w.rooted.0 w.rooted.1 w.path some few m.0.says differ;
        laid = laid_cons s at _ _ e (omega (arith, w.counted)) refl
            (laid_cons s (at + 1) _ _ e (omega (arith, w.counted)) (sym p.1)
            (rw two (laid_join p.0 (laid_cons s (count_at s at) _ _ e w.counted (sym c) m.0.laid))));
      }

  column_complete : {at e : ℕ} {b : List ℕ} {c : Column} → ColumnBytes b c → Laid s at b e → (column_end s at ≡ Some e) × (c ≡ column_here at)
  unfolding choices_here
  column_complete {at} {e} (column {root} {p} {b} {cs} low high ok some few f differ) l =
      let h = laid_head l in
      let g = laid_head h.others in
      let two : at + 1 + 1 ≡ at + 2 = omega arith in
      let r : byte s at ≡ root = h.first in
      let n : byte s (at + 1) ≡ length p = g.first in
      let y = laid_split p (length cs ∷ b) (rw two at g.others) in
      let k = laid_head y.1 in
      let c : byte s (at + 2 + length p) ≡ length cs = k.first in
      let m = many_complete ChoiceBytes s (candidate_end s) choice_here choice_reads f k.others in
      let q : column_path s at ≡ p = rw n (laid_is y.0) in
      let z : at + 2 + length p < length s = k.within in
      let named = ap (λ (l : List Choice). map (λ c. c.bytes) l) m.1 ∙ choices_named (length cs) (at + 2 + length p + 1) in
      let d : distinct (each (length cs) (candidate_end s) (candidate_bytes s) (at + 2 + length p + 1)) ≡ true =
      (distinct_decides _).complete (rw named at differ) in
      let o : candidates_end (length cs) s (at + 2 + length p + 1) ≡ Some e = candidates_whole (length cs) (at + 2 + length p + 1) e d m.0 in
      let hd : head_ok (byte s at) (byte s (count_at s at)) ≡ true = rw (n, c, r) (head_ok_lem root (length cs) low high some few) in (
        sym (column_whole s at (rw n z) hd (rw q ok)) ∙ rw (n, c) o,
        rw (q, n, c, r) (ap (λ (l : List Choice). record { names = record { root = root; path = p }; choices = l }) m.1),
      )

  pub column_reads : Reads ColumnBytes s (column_end s) (λ at e. column_here at)
  column_reads = record { sound = column_sound; complete = column_complete }

  -- ---- all columns

  -- n columns from a place on
  unfoldable pub columns_here : ℕ → ℕ → List Column
  columns_here n at = each n (column_end s) (λ at e. column_here at) at

  -- a column's root byte, path length and path tell what it names
  abbrev name_bytes : Named → List ℕ
  name_bytes x = x.root ∷ length x.path ∷ x.path

  names_apart : (x y : Named) → name_bytes x ≡ name_bytes y → x ≡ y
  names_apart x y e = let r : x.root ≡ y.root = cc in let p : x.path ≡ y.path = cc in same r p
    where
      same : {a b : ℕ} {p q : List ℕ} → a ≡ b → p ≡ q → ◌≡◌ {A = Named} (record { root = a; path = p }) (record { root = b; path = q })
      same h k = rw (h, k)

  name_there : (at e : ℕ) → column_end s at ≡ Some e → name_bytes (column_here at).names ≡ column_bytes s at e
  unfolding column_bytes
  name_there at e h =
      let w = column_at s at e h in
      let p = laid_part s (at + 2) (byte s (at + 1)) (omega (arith, w.counted)) in
      let l : Laid s at (byte s at ∷ length (column_path s at) ∷ column_path s at) (at + 2 + byte s (at + 1)) =
      laid_cons s at _ _ _ (omega (arith, w.counted)) refl (laid_cons s (at + 1) _ _ _ (omega (arith, w.counted)) (sym p.1) (rw (two at) p.0)) in
      let n : at + 2 + byte s (at + 1) - at ≡ 2 + byte s (at + 1) = omega arith in
      sym (rw n at (laid_bytes l))
    where
      two : (at : ℕ) → at + 1 + 1 ≡ at + 2
      two at = omega arith

  columns_named : (n at : ℕ) → map name_bytes (map (λ (c : Column). c.names) (columns_here n at)) ≡ each n (column_end s) (column_bytes s) at
  unfolding columns_here
  columns_named n at =
      ap (λ (l : List Named). map name_bytes l) (map_each (λ (c : Column). c.names) n (column_end s) (λ at e. column_here at) at)
      ∙ map_each name_bytes n (column_end s) (λ at e. (column_here at).names) at
      ∙ each_agree n (column_end s) (λ at e. name_bytes (column_here at).names) (column_bytes s) name_there at

  record Fourth (at e : ℕ) : Type 0 where
    counted : at < length s
    few : byte s at ≤ 6
    differ : distinct (each (byte s at) (column_end s) (column_bytes s) (at + 1)) ≡ true
    all : many (byte s at) (column_end s) (at + 1) ≡ Some e

  fourth_at : (at e : ℕ) → fourth_end s at ≡ Some e → Fourth at e
  unfolding fourth_end columns_end
  fourth_at at e h =
      let o = only_at (ltb at (length s) && leb (byte s at) 6) (columns_end (byte s at) s (at + 1)) e h in
      let m = only_at (distinct (each (byte s at) (column_end s) (column_bytes s) (at + 1))) (many (byte s at) (column_end s) (at + 1)) e o.1 in
      let c = (and-eq-true_iff (ltb at (length s)) _).0 o.0 in
      record { counted = ltb-true _ _ c.0; few = leb-true _ _ c.1; differ = m.0; all = m.1 }

  columns_whole : (n at e : ℕ) → distinct (each n (column_end s) (column_bytes s) at) ≡ true
      → many n (column_end s) at ≡ Some e → columns_end n s at ≡ Some e
  unfolding columns_end
  columns_whole n at e d h = rw d h

  -- the columns after the count byte at a place
  unfoldable pub columns_at : ℕ → List Column
  columns_at at = columns_here (byte s at) (at + 1)

  fourth_sound : (at e : ℕ) → fourth_end s at ≡ Some e → Told ColumnsBytes s at e (columns_at at)
  unfolding columns_at columns_here
  fourth_sound at e h =
      let w = fourth_at at e h in
      let m = many_sound ColumnBytes s (column_end s) (λ at e. column_here at) column_reads (byte s at) (at + 1) e (omega (arith, w.counted)) w.all in
      let n = m.1 in
      let few : length (columns_here (byte s at) (at + 1)) ≤ 6 = rw n w.few in
      let differ : Distinct (map name_bytes (map (λ (c : Column). c.names) (columns_here (byte s at) (at + 1)))) =
      rw (columns_named (byte s at) (at + 1)) ((distinct_decides _).sound w.differ) in
      record {
        bytes = length (columns_here (byte s at) (at + 1)) ∷ m.0.bytes;
        says = columns few m.0.says (distinct_before name_bytes (map (λ (c : Column). c.names) (columns_here (byte s at) (at + 1))) differ);
        laid = laid_cons s at _ _ e w.counted (sym n) m.0.laid;
      }

  fourth_complete : {at e : ℕ} {b : List ℕ} {cs : List Column} → ColumnsBytes b cs → Laid s at b e → (fourth_end s at ≡ Some e) × (cs ≡ columns_at at)
  unfolding columns_at columns_here
  fourth_complete {at} {e} (columns {b} {cs} few f differ) l =
      let h = laid_head l in
      let n : byte s at ≡ length cs = h.first in
      let m = many_complete ColumnBytes s (column_end s) (λ at e. column_here at) column_reads f h.others in
      let named = ap (λ (l : List Column). map name_bytes (map (λ c. c.names) l)) m.1 ∙ columns_named (length cs) (at + 1) in
      let d : distinct (each (length cs) (column_end s) (column_bytes s) (at + 1)) ≡ true =
      (distinct_decides _).complete (rw named at (distinct_mapped name_bytes names_apart differ)) in
      let o : columns_end (length cs) s (at + 1) ≡ Some e = columns_whole (length cs) (at + 1) e d m.0 in
      (sym (fourth_whole s at h.within (rw n few)) ∙ rw n o, rw n m.1)

  pub fourth_reads : Reads ColumnsBytes s (fourth_end s) (λ at e. columns_at at)
  fourth_reads = record { sound = fourth_sound; complete = fourth_complete }

-- ---- a question

followed : (s : List ℕ) (d : Option Sections) → follows s d ≡ true → (p : Sections) × ((d ≡ Some p) × (fourth_end s p.end ≡ Some (length s)))
followed s (Some p) h = (p, (refl, go (fourth_end s p.end) h))
  where
    go : (a : Option ℕ) → ends_at a (length s) ≡ true → a ≡ Some (length s)
    go (Some e) t = ap Some (eqb-true _ _ t)
    go None t = absurd (let z : ◌≡◌ {A = ℕ} 0 1 = cc in omega arith)
followed s None h = absurd (let z : ◌≡◌ {A = ℕ} 0 1 = cc in omega arith)

follow : (s : List ℕ) (d : Option Sections) (p : Sections) → d ≡ Some p → fourth_end s p.end ≡ Some (length s) → follows s d ≡ true
follow s d p q f = rw (q, f) (eq-eqb (length s) (length s) refl)

-- where the sections and the columns stand that the bytes say
pub record Stands (s : List ℕ) (base : Contents) (cs : List Column) : Type 0 where
  pub places : Sections
  pub read : sections_of s ≡ Some places
  pub ends : fourth_end s places.end ≡ Some (length s)
  pub base_is : base ≡ contents_at s places
  pub columns_are : cs ≡ columns_at s places.end

stands_of : {s t : List ℕ} {base : Contents} {cs : List Column} → Parts t base cs → Laid s 0 t (length s) → Stands s base cs
stands_of {s} (parts {a} {b} fa fb) l =
    let y = laid_split a b l in
    let d = sections_complete fa y.0 in
    let o = (fourth_reads s).complete fb y.1 in
    let q : 0 + length a ≡ d.places.end = sym d.stop in
    record { places = d.places; read = d.read; ends = rw q at o.0; base_is = d.are; columns_are = rw q at o.1 }

pub question_stands : {s : List ℕ} {base : Contents} {cs : List Column} → QuestionBytes s base cs → Stands s base cs
question_stands {s} w = stands_of w.all (laid_whole s)

module _ (s : List ℕ) where
  question_sound : is_question s ≡ true → (base : Contents) × ((cs : List Column) × QuestionBytes s base cs)
  unfolding is_question
  question_sound h =
      let t = (and-eq-true_iff (leb (length s) _) _).0 h in
      let f = followed s (sections_of s) t.1 in
      let a = sections_sound s f.0 (sections_at s f.0 f.1.0) in
      let b = (fourth_reads s).sound f.0.end (length s) f.1.1 in
      let q = whole_laid (laid_join a.laid b.laid) in
      (contents_at s f.0, (columns_at s f.0.end, record { most = omega (arith, leb-true _ _ t.0); all = rw (← q) at (parts a.says b.says) }))

  question_complete : (base : Contents) (cs : List Column) → QuestionBytes s base cs → is_question s ≡ true
  unfolding is_question
  question_complete base cs w =
      let d = question_stands w in
      (and-eq-true_iff (leb (length s) _) _).1 (le-leb _ _ (omega (arith, w.most)), follow s (sections_of s) d.places d.read d.ends)

  -- the reader takes the bytes of a question, and no others
  pub question_exactly : (is_question s ≡ true) ↔ ((base : Contents) × ((cs : List Column) × QuestionBytes s base cs))
  question_exactly = (question_sound, λ w. question_complete w.0 w.1.0 w.1.1)

  -- it refuses all others
  pub not_a_question : (is_question s ≡ false) ↔ NoQuestion s
  not_a_question = ((λ e base cs w. false≢true (sym e ∙ question_complete base cs w)), go (is_question s) refl)
    where
      go : (b : Bool) → is_question s ≡ b → NoQuestion s → is_question s ≡ false
      go true e n = let w = question_sound e in absurd (n w.0 w.1.0 w.1.1)
      go false e n = e

same_places : {x : Option Sections} {a c : Sections} → x ≡ Some a → x ≡ Some c → a ≡ c
same_places h k = cc

-- bytes are those of one question
pub one_question : {s : List ℕ} {base base' : Contents} {cs cs' : List Column} → QuestionBytes s base cs → QuestionBytes s base' cs'
    → (base ≡ base') × (cs ≡ cs')
one_question {s} v w =
    let a = question_stands v in
    let b = question_stands w in
    let q = same_places a.read b.read in
    (a.base_is ∙ ap (contents_at s) q ∙ sym b.base_is, a.columns_are ∙ ap (λ (p : Sections). columns_at s p.end) q ∙ sym b.columns_are)
