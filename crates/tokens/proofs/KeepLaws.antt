-- A token that ends before the text's last byte stays the same token when bytes are added after the text. Assumes nothing.
use mathlib.Core.Path.{◌≡◌, refl, ap, ◌∙◌, sym}
use mathlib.Core.Bool.{Bool, true, false, cond}
use mathlib.Core.List.{List, [], ◌∷◌, ◌++◌}
use Prim.Native.Nat.{ℕ, suc, ◌+◌, ◌-◌, ◌≤◌, ◌<◌}
use native.Mathlib.Omega.{arith}
use lib.Dec.{leb, eqb}
use lib.ListN.{length, get_or, take, drop, length-append, length-drop, get_or-append}
use lib.Seq.{drop-append-le, take-append-le}
use borrow.Author.Tests.{lt-leb, leb-false}
use Rattle.tokens.specs.Bytes.{class_of, letter, digit, mark}
use Rattle.tokens.specs.Runs.{is_of, run, run_end}
use Rattle.tokens.specs.Words.{word_kind}
use Rattle.tokens.specs.Tokens.{sized, word_to, word_token, string_to, string_token, fraction, number_to, number_token, mark_from, mark_at, token_by, token_from, token_at}
use Rattle.tokens.proofs.ReadLaws.{either, mark_spans}
use Rattle.tokens.specs.declared.classes.Sort.{Sort}
use Rattle.tokens.specs.declared.classes.Sort.TheVariants.{Blanks, WordBytes, Digits, StringBytes}
use Rattle.tokens.specs.declared.reader.Token.{Token}

-- a run that ends inside a list is the run of a longer list
run_kept : (sort : Sort) (l more : List ℕ) → run sort l < length l → run sort (l ++ more) ≡ run sort l
unfolding run
run_kept sort [] more h = absurd (omega arith)
run_kept sort (b ∷ rest) more h = go (is_of sort b) (run_kept sort rest more) h
  where
    go : (t : Bool) → (run sort rest < length rest → run sort (rest ++ more) ≡ run sort rest) → cond t (suc (run sort rest)) 0 < suc (length rest)
        → cond t (suc (run sort (rest ++ more))) 0 ≡ cond t (suc (run sort rest)) 0
    go true f h' = ap suc (f (omega arith))
    go false f h' = refl

-- two choices by one test agree where their cases do
same_choice : (P : Token → Type 0) (test test' : Bool) (a b a' b' : Token) → test' ≡ test → (P a → a' ≡ a) → (P b → b' ≡ b) → P (cond test a b)
    → cond test' a' b' ≡ cond test a b
same_choice P true test' a b a' b' e f g p = rw e (f p)
same_choice P false test' a b a' b' e f g p = rw e (g p)

sized_end : (kind most size start end : ℕ) → (sized kind most size start end).end ≡ end
unfolding sized
sized_end kind most size start end = either (λ (t : Token). t.end ≡ end) (leb size most) _ _ (λ _. refl) (λ _. refl)

module _ (text more : List ℕ) where
  Inside : Token → Type 0
  Inside t = t.end + 1 < length text

  byte_kept : (i : ℕ) → i < length text → get_or (text ++ more) i 0 ≡ get_or text i 0
  byte_kept i h = get_or-append text more 0 i h

  run_end_kept : (sort : Sort) (at : ℕ) → at ≤ length text → run_end sort text at < length text → run_end sort (text ++ more) at ≡ run_end sort text at
  run_end_kept sort at l h =
      rw (drop-append-le at text more l) (ap (λ (n : ℕ). at + n) (run_kept sort (drop at text) more (omega (arith, length-drop at text))))

  word_kept : (start : ℕ) → start < length text → Inside (word_token text start) → word_token (text ++ more) start ≡ word_token text start
  unfolding word_token Inside
  word_kept start l h =
      let end = run_end WordBytes text start in
      let inside : end < length text = omega (arith, sized_end (word_kind (take (end - start) (drop start text))) 64 (end - start) start end) in
      let le : start ≤ length text = omega arith in
      let part : take (end - start) (drop start (text ++ more)) ≡ take (end - start) (drop start text) =
      rw (drop-append-le start text more le) (take-append-le (end - start) (drop start text) more (omega (arith, length-drop start text))) in
      ap (word_to (text ++ more) start) (run_end_kept WordBytes start le inside)
      ∙ ap (λ (p : List ℕ). sized (word_kind p) 64 (end - start) start end) part

  string_kept : (start : ℕ) → start < length text → Inside (string_token text start) → string_token (text ++ more) start ≡ string_token text start
  unfolding string_token Inside
  string_kept start l h =
      let end = run_end StringBytes text (start + 1) in
      let P : Token → Type 0 = λ (t : Token). t.end + 1 < length text → end < length text in
      let inside : end < length text =
      either P (leb (length text) end) _ _ (λ _ i. omega arith)
      (λ _. either P (eqb (get_or text end 0) 34) _ _ (λ _ i. omega (arith, sized_end 34 127 (end - (start + 1)) start (end + 1))) (λ _ i. omega arith)) h in
      let tests : leb (length (text ++ more)) end ≡ leb (length text) end =
      lt-leb (length (text ++ more)) end (omega (arith, length-append text more)) ∙ sym (lt-leb (length text) end inside) in
      ap (string_to (text ++ more) start) (run_end_kept StringBytes (start + 1) (omega arith) inside)
      ∙ same_choice Inside (leb (length text) end) (leb (length (text ++ more)) end) _ _ _ _ tests (λ _. refl)
      (same_choice Inside (eqb (get_or text end 0) 34) (eqb (get_or (text ++ more) end 0) 34) _ _ _ _ (ap (λ (b : ℕ). eqb b 34) (byte_kept end inside)) (λ _. refl) (λ _. refl))
      h

  number_kept : (start first : ℕ) → first < length text → Inside (number_token text start first) → number_token (text ++ more) start first ≡ number_token text start first
  unfolding number_token Inside
  number_kept start first l h =
      let whole = run_end Digits text first in
      let end = run_end Digits text (whole + 1) in
      let long = sized_end 48 15 (end - first - 1) start end in
      let short = sized_end 48 15 (whole - first) start whole in
      let inside : whole + 1 < length text =
      either (λ (t : Token). t.end + 1 < length text → whole + 1 < length text) (fraction text whole) _ _ (λ _ i. omega (arith, long)) (λ _ i. omega (arith, short)) h in
      let tests : fraction (text ++ more) whole ≡ fraction text whole = rw (byte_kept whole (omega arith), byte_kept (whole + 1) inside) in
      ap (number_to (text ++ more) start first) (run_end_kept Digits first (omega arith) (omega arith))
      ∙ same_choice Inside (fraction text whole) (fraction (text ++ more) whole) _ _ _ _ tests
      (λ i. ap (λ (e : ℕ). sized 48 15 (e - first - 1) start e) (run_end_kept Digits (whole + 1) (omega arith) (omega (arith, long, i))))
      (λ _. refl) h

  mark_kept : (start : ℕ) → start + 1 < length text → Inside (mark_at text start) → mark_at (text ++ more) start ≡ mark_at text start
  unfolding mark_at
  mark_kept start l h =
      let first = get_or text start 0 in
      let next = get_or text (start + 1) 0 in
      ap (λ (b : ℕ). mark_from (text ++ more) start b (get_or (text ++ more) (start + 1) 0)) (byte_kept start (omega arith))
      ∙ (ap (mark_from (text ++ more) start first) (byte_kept (start + 1) l)
      ∙ same_choice Inside (eqb first 34) (eqb first 34) _ _ _ _ refl (string_kept start (omega arith))
      (same_choice Inside (eqb first 45) (eqb first 45) _ _ _ _ refl
      (same_choice Inside (is_of Digits next) (is_of Digits next) _ _ _ _ refl (number_kept start (start + 1) l) (λ _. refl))
      (λ _. refl))
      h)

  by_kept : (start : ℕ) → start < length text → (class : ℕ) → Inside (token_by text start (get_or text start 0) class)
      → token_by (text ++ more) start (get_or text start 0) class ≡ token_by text start (get_or text start 0) class
  unfolding Inside
  by_kept start l class h =
      same_choice Inside (eqb class letter) (eqb class letter) _ _ _ _ refl (word_kept start l)
      (same_choice Inside (eqb class digit) (eqb class digit) _ _ _ _ refl (number_kept start start l)
      (same_choice Inside (eqb class mark) (eqb class mark) _ _ _ _ refl marked (λ _. refl)))
      h
    where
      marked : Inside (mark_at text start) → mark_at (text ++ more) start ≡ mark_at text start
      marked i = let s = mark_spans text start start (omega arith) l in mark_kept start (omega arith) i

  -- bytes after a token that ends before the text's last byte do not change it
  pub token_kept : (at : ℕ) → at ≤ length text → (token_at text at).end + 1 < length text → token_at (text ++ more) at ≡ token_at text at
  unfolding token_at Inside
  token_kept at l h =
      let start = run_end Blanks text at in
      let first = get_or text start 0 in
      let inside : start < length text =
      either (λ (t : Token). t.end + 1 < length text → start < length text) (leb (length text) start) _ _ (λ e i. omega arith) (λ e i. leb-false (length text) start e) h in
      let tests : leb (length (text ++ more)) start ≡ leb (length text) start =
      lt-leb (length (text ++ more)) start (omega (arith, length-append text more)) ∙ sym (lt-leb (length text) start inside) in
      ap (token_from (text ++ more)) (run_end_kept Blanks at l inside)
      ∙ same_choice Inside (leb (length text) start) (leb (length (text ++ more)) start) _ _ _ _ tests (λ _. refl)
      (λ i. ap (λ (b : ℕ). token_by (text ++ more) start b (class_of b)) (byte_kept start inside) ∙ by_kept start inside (class_of first) i)
      h
