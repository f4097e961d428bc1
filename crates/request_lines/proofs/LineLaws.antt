-- Laws of the lines of a request: where one ends and the next starts. Assumes nothing.
use mathlib.Core.Path.{◌≡◌, refl, sym, ap, ◌∙◌}
use mathlib.Core.Bool.{Bool, true, false, cond}
use mathlib.Core.List.{List, [], ◌∷◌}
use Prim.Native.Nat.{ℕ, suc, ◌+◌, ◌-◌, ◌≤◌}
use Prim.Native.Char.{code}
use native.Mathlib.Omega.{arith}
use borrow.Author.Tests.{ltb-false}
use lib.Dec.{eqb, ltb}
use lib.ListN.{length, take, drop, length-take, length-drop, drop_of_length-le}
use lib.Seq.{drop-drop, take_all}
use Rattle.std.specs.Prelude.{Option, Some, None}
use Rattle.std.specs.Option.{unwrap_or}
use Rattle.std.specs.List.{position_or_len}
use Rattle.std.proofs.lemmas.List.Recursion.{is_position_or_len}
use Rattle.targets.specs.Matching.{request}
use Rattle.request_lines.specs.Lines.{up_to_feed, past_feed, line_of, request_in, line_end, EndsAt, GoesOnAt}

-- a line is the first bytes of what it starts
first_bytes : (s : List ℕ) → take (length (up_to_feed s)) s ≡ up_to_feed s
unfolding up_to_feed
first_bytes [] = refl
first_bytes (b ∷ rest) = go (eqb b (code "\n")) (first_bytes rest)
  where
    go : (t : Bool) → take (length (up_to_feed rest)) rest ≡ up_to_feed rest
        → take (length (cond t [] (b ∷ up_to_feed rest))) (b ∷ rest) ≡ cond t [] (b ∷ up_to_feed rest)
    go true e = refl
    go false e = ap (λ (l : List ℕ). b ∷ l) e

-- what is behind it is behind one byte more
behind : (s : List ℕ) → drop (suc (length (up_to_feed s))) s ≡ past_feed s
unfolding up_to_feed past_feed
behind [] = refl
behind (b ∷ rest) = go (eqb b (code "\n")) (behind rest)
  where
    go : (t : Bool) → drop (suc (length (up_to_feed rest))) rest ≡ past_feed rest
        → drop (suc (length (cond t [] (b ∷ up_to_feed rest)))) (b ∷ rest) ≡ cond t rest (past_feed rest)
    go true e = refl
    go false e = e

-- and no more bytes than that has
few_before : (s : List ℕ) (n : ℕ) → length s ≡ n → length (up_to_feed s) ≤ n
few_before s n e = omega (arith, ap length (first_bytes s), length-take (length (up_to_feed s)) s)

-- a line has the bytes before its line feed
feed_at : (s : List ℕ) → length (up_to_feed s) ≡ position_or_len (λ b. eqb b (code "\n")) s
unfolding up_to_feed
feed_at = is_position_or_len (λ s. length (up_to_feed s)) (λ b. eqb b (code "\n")) refl (λ b rest. go b rest (eqb b (code "\n")))
  where
    go : (b : ℕ) (rest : List ℕ) (t : Bool) → length (cond t [] (b ∷ up_to_feed rest)) ≡ cond t 0 (1 + length (up_to_feed rest))
    go b rest true = refl
    go b rest false = omega arith

-- the first line feed's place among the bytes, or their number
abbrev pub feed_place : List ℕ → ℕ
feed_place = position_or_len (λ b. eqb b (code "\n"))

-- a line ends that many bytes from its start
ends_at : (s : List ℕ) (at n : ℕ) → at ≤ length s → n ≡ feed_place (drop at s) → EndsAt s at (at + n)
ends_at s at n h e =
    let is : n ≡ length (up_to_feed (drop at s)) = e ∙ sym (feed_at (drop at s)) in
    let few : length (up_to_feed (drop at s)) ≤ length s - at = few_before (drop at s) (length s - at) (length-drop at s) in
    record { place = ap (λ (k : ℕ). at + k) is; low = omega arith; high = omega arith }

-- as `position` tells it
pub ends_from : (s : List ℕ) (at : ℕ) (o : Option ℕ) → at ≤ length s
    → (let rest = take (length s - at) (drop at s) in o ≡ cond (ltb (feed_place rest) (length rest)) (Some (feed_place rest)) None)
    → EndsAt s at (at + unwrap_or o (length (take (length s - at) (drop at s))))
ends_from s at o h e =
    let all : take (length s - at) (drop at s) ≡ drop at s = take_all (length s - at) (drop at s) (omega (arith, length-drop at s)) in
    ends_at s at (unwrap_or o (length (take (length s - at) (drop at s)))) h
    (ap (λ (l : List ℕ). unwrap_or o (length l)) all ∙ go (drop at s) (ltb (feed_place (drop at s)) (length (drop at s))) refl (rw all at e))
  where
    go : (rest : List ℕ) (t : Bool) → ltb (feed_place rest) (length rest) ≡ t → o ≡ cond (ltb (feed_place rest) (length rest)) (Some (feed_place rest)) None
        → unwrap_or o (length rest) ≡ feed_place rest
    go rest true f g = rw (g, f) refl
    go rest false f g =
        let long : length rest ≤ feed_place rest = ltb-false (feed_place rest) (length rest) f in
        let few : feed_place rest ≤ length rest = rw (← feed_at rest) (few_before rest (length rest) refl) in
        rw (g, f) (omega arith)

-- where the bytes end, none are left
pub none_left : {s : List ℕ} {end : ℕ} → end ≤ length s → length s ≤ end → GoesOnAt s end end
none_left {s} {end} h g = record { bytes = drop_of_length-le s g ∙ sym (drop_of_length-le s {i = end + 1} (omega arith)); low = omega arith; high = h }

-- there is one place to go on at
pub one_next : {s : List ℕ} {end next next' : ℕ} → GoesOnAt s end next → GoesOnAt s end next' → next ≡ next'
one_next {s} {end} {next} {next'} g h = omega (arith, ap length (g.bytes ∙ sym h.bytes), length-drop next s, length-drop next' s)

module _ {s : List ℕ} {at end : ℕ} (e : EndsAt s at end) where
  -- the bytes from a line's start to its end
  pub cut : take (end - at) (drop at s) ≡ up_to_feed (drop at s)
  cut =
      let n : end - at ≡ length (up_to_feed (drop at s)) = omega (arith, e.place) in
      ap (λ (k : ℕ). take k (drop at s)) n ∙ first_bytes (drop at s)

  -- the bytes from the next line's start on
  pub left_behind : {next : ℕ} → GoesOnAt s end next → drop next s ≡ past_feed (drop at s)
  left_behind g =
      let n : end + 1 ≡ at + suc (length (up_to_feed (drop at s))) = omega (arith, e.place) in
      g.bytes ∙ ap (λ (k : ℕ). drop k s) n ∙ sym (drop-drop (suc (length (up_to_feed (drop at s)))) at s) ∙ behind (drop at s)

-- the three lines that are cut are the request
module _ {s : List ℕ} {a b c d e : ℕ} (first : EndsAt s 0 a) (on : GoesOnAt s a b) (second : EndsAt s b c) (on_again : GoesOnAt s c d) (third : EndsAt s d e) where
  line_0 : take a s ≡ line_of 0 s
  unfolding line_of
  line_0 = let n : a ≡ a - 0 = omega arith in ap (λ (k : ℕ). take k s) n ∙ cut first

  line_1 : take (c - b) (drop b s) ≡ line_of 1 s
  unfolding line_of
  line_1 = cut second ∙ ap up_to_feed (left_behind first on)

  line_2 : take (e - d) (drop d s) ≡ line_of 2 s
  unfolding line_of
  line_2 = cut third ∙ ap up_to_feed (left_behind second on_again ∙ ap past_feed (left_behind first on))

  pub lines_cut : request (take a s) (take (c - b) (drop b s)) (take (e - d) (drop d s)) ≡ request_in s
  lines_cut = λ i. request (line_0 i) (line_1 i) (line_2 i)
