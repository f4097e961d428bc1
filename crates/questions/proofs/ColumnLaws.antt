-- The cases of candidates, columns and questions, as the code's tests tell them apart, and what they tell. Assumes nothing.
use Rattle.std.specs.Prelude.{None, Option, Some}
use Prim.Native.Nat.{ℕ, ◌+◌, ◌-◌, ◌<◌, ◌≤◌}
use mathlib.Core.List.{List}
use mathlib.Core.Bool.{Bool, true, false, ◌&&◌, cond, and-eq-true_iff, and-false}
use mathlib.Core.Path.{◌≡◌, refl, sym, ◌∙◌}
use borrow.Author.Tests.{lt-ltb, le-ltb, le-leb, lt-leb, eq-eqb, ne_eqb, eqb-true, eqb-false, ltb-true, leb-true}
use native.Mathlib.Omega.{arith}
use lib.Dec.{ltb, leb, eqb}
use lib.ListN.{length, take, drop}
use Rattle.slices.specs.Decides.{Decides}
use Rattle.slices.specs.Same.{same}
use Rattle.slices.proofs.Equal.{same_is}
use Rattle.slices.specs.Parts.{part}
use Rattle.bags.specs.Reading.{byte, ends_at, many, each}
use Rattle.bags.specs.Paths.{is_path}
use Rattle.bags.specs.Values.{value_end}
use Rattle.bags.specs.Sections.{sections_of, Sectioned}
use Rattle.bags.specs.declared.sections.Sections.{Sections}
use Rattle.bags.proofs.ReadLaws.{same_end, only_at}
use Rattle.bags.proofs.ValueLaws.{value_inside}
use Rattle.bags.proofs.SectionLaws.{only_in, only_broken, sections_at}
use Rattle.lookups.specs.Values.{Valued}
use Rattle.questions.specs.Distinct.{among, distinct}
use Rattle.questions.specs.Columns.{candidate_end, column_path, count_at, candidate_bytes, column_bytes, candidates_end, head_ok, column_end, columns_end, NameEnd}
use Rattle.questions.specs.Questions.{fourth_end, follows, is_question, Question}
use Rattle.questions.proofs.DifferLaws.{none_ends}

-- ---- a candidate

module _ (s : List ℕ) (at : ℕ) where
  pub candidate_none : length s ≤ at → None ≡ candidate_end s at
  unfolding candidate_end
  candidate_none h = simp (le-ltb _ _ h)

  pub candidate_absent : at < length s → byte s at ≡ 0 → Some (at + 1) ≡ candidate_end s at
  unfolding candidate_end
  candidate_absent h k = simp (lt-ltb _ _ h, eq-eqb _ _ k)

  pub candidate_value : at < length s → (byte s at ≡ 0 → ⊥) → value_end (byte s at) s (at + 1) ≡ candidate_end s at
  unfolding candidate_end
  candidate_value h k = simp (lt-ltb _ _ h, ne_eqb _ _ k)

  module _ (e : ℕ) (h : candidate_end s at ≡ Some e) where
    pub candidate_starts : at < length s
    unfolding candidate_end
    candidate_starts = ltb-true at (length s) (only_at (ltb at (length s)) (cond (eqb (byte s at) 0) (Some (at + 1)) (value_end (byte s at) s (at + 1))) e h).0

    pub candidate_whole : (byte s at ≡ 0 → ⊥) → value_end (byte s at) s (at + 1) ≡ Some e
    candidate_whole k = candidate_value candidate_starts k ∙ h

    pub candidate_valued : Valued s at
    candidate_valued = record { inside = candidate_starts; whole = λ k. (e, candidate_whole k) }

    pub candidate_inside : (at ≤ e) × (e ≤ length s)
    candidate_inside = go (eqb (byte s at) 0) refl
      where
        go : (b : Bool) → eqb (byte s at) 0 ≡ b → (at ≤ e) × (e ≤ length s)
        go true q = let x : at + 1 ≡ e = same_end (sym (candidate_absent candidate_starts (eqb-true _ 0 q))) h in let l = candidate_starts in (omega arith, omega arith)
        go false q = let i = value_inside (byte s at) s (at + 1) e (candidate_whole (eqb-false _ 0 q)) in (omega arith, i.1)

-- ---- a column

module _ (s : List ℕ) (at : ℕ) where
  pub column_cut : length s ≤ count_at s at → None ≡ column_end s at
  unfolding column_end
  column_cut h = simp (le-ltb _ _ h)

  module _ (h : count_at s at < length s) where
    pub column_head : head_ok (byte s at) (byte s (count_at s at)) ≡ false → None ≡ column_end s at
    unfolding column_end
    column_head k = simp (lt-ltb _ _ h, k)

    module _ (k : head_ok (byte s at) (byte s (count_at s at)) ≡ true) where
      pub column_path_lem : is_path (column_path s at) ≡ false → None ≡ column_end s at
      unfolding column_end
      column_path_lem p = simp (lt-ltb _ _ h, k, p)

      pub column_whole : is_path (column_path s at) ≡ true → candidates_end (byte s (count_at s at)) s (count_at s at + 1) ≡ column_end s at
      unfolding column_end
      column_whole p = simp (lt-ltb _ _ h, k, p)

-- what a column that ends tells
pub record Columned (s : List ℕ) (at e : ℕ) : Type 0 where
  pub counted : count_at s at < length s
  pub rooted : (1 ≤ byte s at) × (byte s at ≤ 3)
  pub some : 1 ≤ byte s (count_at s at)
  pub few : byte s (count_at s at) ≤ 8
  pub path : is_path (column_path s at) ≡ true
  pub differ : distinct (each (byte s (count_at s at)) (candidate_end s) (candidate_bytes s) (count_at s at + 1)) ≡ true
  pub candidates : many (byte s (count_at s at)) (candidate_end s) (count_at s at + 1) ≡ Some e

pub heads_told : (root count : ℕ) → head_ok root count ≡ true → (1 ≤ root) × (root ≤ 3) × (1 ≤ count) × (count ≤ 8)
unfolding head_ok
heads_told root count h =
    let a = (and-eq-true_iff (leb 1 root && leb root 3 && leb 1 count) (leb count 8)).0 h in
    let b = (and-eq-true_iff (leb 1 root && leb root 3) (leb 1 count)).0 a.0 in
    let c = (and-eq-true_iff (leb 1 root) (leb root 3)).0 b.0 in
    (leb-true 1 root c.0, leb-true root 3 c.1, leb-true 1 count b.1, leb-true count 8 a.1)

pub column_at : (s : List ℕ) (at e : ℕ) → column_end s at ≡ Some e → Columned s at e
unfolding column_end candidates_end
column_at s at e h =
    let n = byte s (count_at s at) in
    let from = count_at s at + 1 in
    let t = ltb (count_at s at) (length s) in
    let k = head_ok (byte s at) n in
    let o = only_at (t && k && is_path (column_path s at)) (candidates_end n s from) e h in
    let p = (and-eq-true_iff (t && k) (is_path (column_path s at))).0 o.0 in
    let q = (and-eq-true_iff t k).0 p.0 in
    let f = heads_told (byte s at) n q.1 in
    let d = only_at (distinct (each n (candidate_end s) (candidate_bytes s) from)) (many n (candidate_end s) from) e o.1 in
    record {
      counted = ltb-true (count_at s at) (length s) q.0;
      rooted = (f.0, f.1);
      some = f.2;
      few = f.3;
      path = p.1;
      differ = d.0;
      candidates = d.1;
    }

pub column_next_is : (s : List ℕ) (at e x : ℕ) → column_end s at ≡ Some e → many (byte s (count_at s at)) (candidate_end s) (count_at s at + 1) ≡ Some x → column_end s at ≡ Some x
column_next_is s at e x h q = rw (same_end (column_at s at e h).candidates q) at h

-- ---- several with different names

module _ (n : ℕ) (s : List ℕ) (at : ℕ) where
  pub candidates_bad : many n (candidate_end s) at ≡ None → None ≡ candidates_end n s at
  unfolding candidates_end
  candidates_bad h = none_ends (distinct (each n (candidate_end s) (candidate_bytes s) at)) (many n (candidate_end s) at) h

  pub columns_bad : many n (column_end s) at ≡ None → None ≡ columns_end n s at
  unfolding columns_end
  columns_bad h = none_ends (distinct (each n (column_end s) (column_bytes s) at)) (many n (column_end s) at) h

-- ---- what tells a thing from the others

pub candidate_name : (s : List ℕ) (at e : ℕ) → candidate_end s at ≡ Some e → NameEnd candidate_bytes s at e e
unfolding candidate_bytes
candidate_name s at e h = let i = candidate_inside s at e h in record { low = i.0; high = i.1; is = refl }

pub column_name : (s : List ℕ) (at e : ℕ) → column_end s at ≡ Some e → NameEnd column_bytes s at e (count_at s at)
unfolding column_bytes
column_name s at e h =
    let c = column_at s at e h in
    let size : count_at s at - at ≡ 2 + byte s (at + 1) = omega arith in
    record { low = omega arith; high = omega (arith, c.counted); is = rw size }

-- the same by its bytes, as code lends them
module _ (name : List ℕ → ℕ → ℕ → List ℕ) (s : List ℕ) (at e end : ℕ) (r : Bool) (w : NameEnd name s at e end) where
  pub name_same : (x : List ℕ) → Decides (x ≡ take (end - at) (drop at s)) r → same x (name s at e) ≡ r
  unfolding part
  name_same x d = rw w.is (sym (same_is x (take (end - at) (drop at s)) d))

  pub name_among : (ys : List (List ℕ)) → r ≡ among (take (end - at) (drop at s)) ys → among (name s at e) ys ≡ r
  unfolding part
  name_among ys q = rw w.is (sym q)

-- ---- the fourth section

module _ (s : List ℕ) (at : ℕ) where
  pub fourth_none : length s ≤ at → None ≡ fourth_end s at
  unfolding fourth_end
  fourth_none h = simp (le-ltb _ _ h)

  pub fourth_long : at < length s → 6 < byte s at → None ≡ fourth_end s at
  unfolding fourth_end
  fourth_long h n = simp (lt-ltb _ _ h, lt-leb _ _ n)

  pub fourth_whole : at < length s → byte s at ≤ 6 → columns_end (byte s at) s (at + 1) ≡ fourth_end s at
  unfolding fourth_end
  fourth_whole h n = simp (lt-ltb _ _ h, le-leb _ _ n)

-- ---- a question

abbrev pub question_only : List ℕ → Option Sections
question_only s = cond (is_question s) (sections_of s) None

module _ (s : List ℕ) where
  pub question_long : 4096 < length s → None ≡ question_only s
  unfolding is_question
  question_long h = simp (lt-leb _ _ h)

  module _ (h : length s ≤ 4096) where
    pub question_broken : sections_of s ≡ None → None ≡ question_only s
    unfolding is_question
    question_broken b = simp (le-leb _ _ h, b)

    module _ (p : Sections) (q : sections_of s ≡ Some p) where
      pub question_bad : fourth_end s p.end ≡ None → None ≡ question_only s
      unfolding is_question
      question_bad b = simp (le-leb _ _ h, q, b)

      module _ (e : ℕ) (f : fourth_end s p.end ≡ Some e) where
        pub question_followed : (e ≡ length s → ⊥) → None ≡ question_only s
        unfolding is_question
        question_followed n = simp (le-leb _ _ h, q, f, ne_eqb _ _ n)

        pub question_whole : e ≡ length s → Some p ≡ question_only s
        unfolding is_question
        question_whole k = simp (le-leb _ _ h, q, f, eq-eqb _ _ k)

  pub question_divided : (p : Sections) → question_only s ≡ Some p → (is_question s ≡ true) × (sections_of s ≡ Some p)
  question_divided = only_in (is_question s) (sections_of s)

  not_divided : sections_of s ≡ None → false ≡ is_question s
  unfolding is_question
  not_divided h = rw h (sym (and-false (leb (length s) 4096)))

  pub no_question : question_only s ≡ None → false ≡ is_question s
  no_question = only_broken (is_question s) (sections_of s) not_divided

-- what a question tells
pub question_is_lem : (s : List ℕ) (p : Sections) → question_only s ≡ Some p → Question s p
unfolding is_question fourth_end columns_end
question_is_lem s p h =
    let d = question_divided s p h in
    let f : follows s (sections_of s) ≡ true = ((and-eq-true_iff (leb (length s) 4096) (follows s (sections_of s))).0 d.0).1 in
    go (fourth_end s p.end) refl (rw d.1 at f) (sections_at s p d.1)
  where
    go : (a : Option ℕ) → fourth_end s p.end ≡ a → ends_at (fourth_end s p.end) (length s) ≡ true → Sectioned s p → Question s p
    go None q t w = absurd (let x : false ≡ true = simp q at t in let z : ◌≡◌ {A = ℕ} 0 1 = cc in omega arith)
    go (Some e) q t w =
        let n = byte s p.end in
        let o = only_at (ltb p.end (length s) && leb n 6) (columns_end n s (p.end + 1)) e q in
        let m = only_at (distinct (each n (column_end s) (column_bytes s) (p.end + 1))) (many n (column_end s) (p.end + 1)) e o.1 in
        let c = (and-eq-true_iff (ltb p.end (length s)) (leb n 6)).0 o.0 in
        record { sections = w; counted = ltb-true p.end (length s) c.0; few = leb-true n 6 c.1; last = e; columns = m.1 }
