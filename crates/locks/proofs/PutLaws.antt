-- Laws of bytes that are put over others, one behind the other. Assumes nothing.
use mathlib.Core.Path.{◌≡◌, refl, sym, ap, ◌∙◌}
use mathlib.Core.List.{List, ◌++◌, append_assoc}
use Prim.Native.Nat.{ℕ, ◌+◌, ◌≤◌, ◌<◌}
use native.Mathlib.Numerals.{add-one}
use native.Mathlib.Omega.{arith}
use lib.ListN.{length, get_or, take, drop, set, length-append, length-drop}
use lib.Seq.{length-take-le, take_all, take_at, drop_at, drop-drop, paste, paste-zero, paste-suc, length-paste}
use Rattle.locks.specs.Answers.{put_over, PutOver}

-- the room stays as long as it is
pub put_length : (room : List ℕ) (at : ℕ) (b : List ℕ) → at + length b ≤ length room → length (put_over room at b) ≡ length room
unfolding put_over
put_length room at b h =
    simp length-append (omega (arith, length-take-le at room (omega arith), length-drop (at + length b) room))

-- bytes, and others behind them
pub put_put : (room : List ℕ) (at : ℕ) (a b : List ℕ) → at + length a + length b ≤ length room
    → put_over (put_over room at a) (at + length a) b ≡ put_over room at (a ++ b)
unfolding put_over
put_put room at a b h =
    let x = take at room in
    let y = drop (at + length a) room in
    let s : length (x ++ a) ≡ at + length a = length-append x a ∙ ap (λ (k : ℕ). k + length a) (length-take-le at room (omega arith)) in
    let z : x ++ (a ++ y) ≡ (x ++ a) ++ y = sym (append_assoc x a y) in
    let t : take (at + length a) (x ++ (a ++ y)) ≡ x ++ a = ap (λ (l : List ℕ). take (at + length a) l) z ∙ take_at (x ++ a) y (at + length a) s in
    let d : drop (at + length a) (x ++ (a ++ y)) ≡ y = ap (λ (l : List ℕ). drop (at + length a) l) z ∙ drop_at (x ++ a) y (at + length a) s in
    let e : drop (at + length a + length b) (x ++ (a ++ y)) ≡ drop (length b) y =
    sym (drop-drop (length b) (at + length a) (x ++ (a ++ y))) ∙ ap (λ (l : List ℕ). drop (length b) l) d in
    let f : drop (length b) y ≡ drop (at + length a + length b) room = drop-drop (length b) (at + length a) room in
    let g : at + length a + length b ≡ at + length (a ++ b) = omega (arith, length-append a b) in
    rw (t, e ∙ f, g) (append_assoc x a (b ++ drop (at + length (a ++ b)) room) ∙ ap (λ (l : List ℕ). x ++ l) (sym (append_assoc a b (drop (at + length (a ++ b)) room))))

pub put_both : {old mid new a b : List ℕ} {at n m : ℕ} → PutOver old at a mid n → PutOver mid n b new m → at + length (a ++ b) ≤ length old → PutOver old at (a ++ b) new m
put_both {old} {mid} {new} {a} {b} {at} {n} {m} p q h =
    let s = length-append a b in
    record {
      is = q.is ∙ ap (λ (k : ℕ). put_over mid k b) p.end ∙ ap (λ (l : List ℕ). put_over l (at + length a) b) p.is ∙ put_put old at a b (omega arith);
      end = omega (arith, p.end, q.end);
    }

-- how long the room is after bytes are put into it
pub still : {old new b : List ℕ} {at n : ℕ} → PutOver old at b new n → at + length b ≤ length old → length new ≡ length old
still {old} {new} {b} {at} p h = ap length p.is ∙ put_length old at b h

-- the room that is left behind bytes is enough for what is to follow them
pub room_left : {old mid a : List ℕ} {at n : ℕ} (rest : List ℕ) → PutOver old at a mid n → at + length (a ++ rest) ≤ length old → n + length rest ≤ length mid
room_left {old} {mid} {a} {at} {n} rest p h =
    let s = length-append a rest in
    omega (arith, p.end, still p (omega arith))

-- over the start
pub over_start : {old new b : List ℕ} {n : ℕ} → PutOver old 0 b new n → new ≡ b ++ drop (length b) old
unfolding put_over
over_start {b = b} p = let z : 0 + length b ≡ length b = omega arith in p.is ∙ rw z

-- ---- byte for byte

pub paste_none : (room : List ℕ) (at : ℕ) (b : List ℕ) → room ≡ paste room at b 0
paste_none = paste-zero

pub paste_on : (room : List ℕ) (at : ℕ) (b : List ℕ) (i : ℕ) (now : List ℕ) → now ≡ paste room at b i → at + i < length room → i < length b
    → set now (at + i) (get_or b i 0) ≡ paste room at b (i + 1)
paste_on room at b i now e h g = rw (e, add-one i) (paste-suc room at b i 0 h g)

pub paste_long : (room : List ℕ) (at : ℕ) (b : List ℕ) (i : ℕ) (now : List ℕ) → now ≡ paste room at b i → at + length b ≤ length room → i ≤ length b
    → length now ≡ length room
paste_long room at b i now e h g = ap length e ∙ length-paste room at b i (omega arith) g

pub paste_all : (room : List ℕ) (at : ℕ) (b : List ℕ) (i : ℕ) (now : List ℕ) → now ≡ paste room at b i → length b ≤ i → i ≤ length b → PutOver room at b now (at + length b)
unfolding put_over
paste_all room at b i now e h g =
    let q : i ≡ length b = omega arith in
    record { is = e ∙ append_assoc (take at room) (take i b) (drop (at + i) room) ∙ rw (take_all i b h, q); end = refl }

-- ---- what is left to be put

-- bytes put behind others that are put already, with which all of them stand where they are to stand
pub record Rest (old : List ℕ) (at : ℕ) (all room : List ℕ) (end : ℕ) (rest : List ℕ) : Type 0 where
  pub same : put_over room end rest ≡ put_over old at all
  pub stop : end + length rest ≡ at + length all
  pub long : length room ≡ length old

pub rest_start : (old : List ℕ) (at : ℕ) (all : List ℕ) → Rest old at all old at all
rest_start old at all = record { same = refl; stop = refl; long = refl }

module _ {old : List ℕ} {at : ℕ} {all room : List ℕ} {end : ℕ} {rest : List ℕ} (r : Rest old at all room end rest) where
  pub rest_last : {x new : List ℕ} {n : ℕ} → rest ≡ x → PutOver room end x new n → PutOver old at all new n
  rest_last {x} {new} {n} e p =
      record {
        is = p.is ∙ ap (λ (l : List ℕ). put_over room end l) (sym e) ∙ r.same;
        end = p.end ∙ ap (λ (l : List ℕ). end + length l) (sym e) ∙ r.stop;
      }

  pub rest_on : {x mid sep new more : List ℕ} {n m : ℕ} → rest ≡ x ++ (sep ++ more) → PutOver room end x mid n → PutOver mid n sep new m
      → at + length all ≤ length old → Rest old at all new m more
  rest_on {x} {mid} {sep} {new} {more} {n} {m} e p q h =
      let s = length-append x (sep ++ more) in
      let t = length-append sep more in
      let u = ap length e in
      let l : length mid ≡ length room = still p (omega (arith, r.stop, r.long)) in
      let k : length new ≡ length mid = still q (omega (arith, r.stop, r.long, p.end)) in
      record {
        same =
            ap (λ (b : List ℕ). put_over b m more) q.is ∙ ap (λ (b : ℕ). put_over (put_over mid n sep) b more) q.end
            ∙ put_put mid n sep more (omega (arith, r.stop, r.long, p.end))
            ∙ ap (λ (b : List ℕ). put_over b n (sep ++ more)) p.is ∙ ap (λ (b : ℕ). put_over (put_over room end x) b (sep ++ more)) p.end
            ∙ put_put room end x (sep ++ more) (omega (arith, r.stop, r.long))
            ∙ ap (λ (b : List ℕ). put_over room end b) (sym e) ∙ r.same;
        stop = omega (arith, p.end, q.end, r.stop);
        long = k ∙ l ∙ r.long;
      }

  -- what stands between two things has room behind the first
  pub rest_room : {x mid : List ℕ} {n : ℕ} (sep more : List ℕ) → rest ≡ x ++ (sep ++ more) → PutOver room end x mid n → at + length all ≤ length old → n + length sep ≤ length mid
  rest_room {x} {mid} {n} sep more e p h =
      let s = length-append x (sep ++ more) in
      let t = length-append sep more in
      let u = ap length e in
      let l : length mid ≡ length room = still p (omega (arith, r.stop, r.long)) in
      omega (arith, r.stop, r.long, p.end)
