-- Laws of a run's end. Assumes nothing.
use mathlib.Core.Path.{◌≡◌}
use mathlib.Core.Bool.{Bool, true, false, cond}
use mathlib.Core.List.{List, [], ◌∷◌}
use Prim.Native.Nat.{ℕ, suc, ◌+◌, ◌≤◌, ◌<◌, zero-le, suc-le-suc}
use native.Mathlib.Numerals.{add-one}
use native.Mathlib.Omega.{arith}
use lib.ListN.{length, get_or, drop, length-drop, drop_of_length-le}
use lib.Seq.{drop-cons}
use Rattle.tokens.specs.Runs.{is_of, run, run_end}
use Rattle.tokens.specs.declared.classes.Sort.{Sort}

-- a run is no longer than the list
pub short : (sort : Sort) (l : List ℕ) → run sort l ≤ length l
unfolding run
short sort [] = zero-le
short sort (b ∷ rest) = go (is_of sort b) (short sort rest)
  where
    go : (t : Bool) → run sort rest ≤ length rest → cond t (suc (run sort rest)) 0 ≤ suc (length rest)
    go true h = suc-le-suc h
    go false h = zero-le

module _ (sort : Sort) (text : List ℕ) (i : ℕ) where
  -- a byte of the sort is passed
  pub goes_on : i < length text → is_of sort (get_or text i 0) ≡ true → run_end sort text (i + 1) ≡ run_end sort text i
  unfolding run
  goes_on h e = simp (drop-cons text i 0 h, e, add-one) (omega arith)

  -- the same, where the next place is told in other words
  pub goes_to : (k : ℕ) → k ≡ i + 1 → i < length text → is_of sort (get_or text i 0) ≡ true → run_end sort text k ≡ run_end sort text i
  goes_to k p h e = rw p (goes_on h e)

  -- a byte of another sort ends the run
  pub stops : i < length text → is_of sort (get_or text i 0) ≡ false → run_end sort text i ≡ i
  unfolding run
  stops h e = simp (drop-cons text i 0 h, e) (omega arith)

  -- so does the text's end
  pub ends : length text ≤ i → run_end sort text i ≡ i
  unfolding run
  ends h = simp (drop_of_length-le text h) (omega arith)

  pub high : i ≤ length text → run_end sort text i ≤ length text
  high h = omega (arith, short sort (drop i text), length-drop i text)

  -- a run that starts with a byte of its sort has a byte
  pub some : i < length text → is_of sort (get_or text i 0) ≡ true → i < run_end sort text i
  some h e = omega (arith, goes_on h e)
