-- `patterns::like_text` meets its contract. The invariant: the pattern matches the string exactly when what is left of it matches what is left of the string. Assumes nothing.
use Rattle.patterns.specs.Like.{Matches}
use Rattle.utf8.specs.Reading.{points}
use Rattle.utf8.specs.Characters.{Utf8}
use lib.ListN.{length, drop}
use Prim.Native.Nat.{ℕ, ◌-◌, ◌≤◌}
use mathlib.Core.List.{List}
use mathlib.Core.Logic.{◌↔◌}
use Rattle.patterns.proofs.like_text.Given as goal

-- what was matched one by one up to p and s
pub record Met (pattern string : List ℕ) (p s : ℕ) : Type 0 where
  pub p_in : p ≤ length pattern
  pub s_in : s ≤ length string
  pub p_good : Utf8 (drop p pattern)
  pub s_good : Utf8 (drop s string)
  pub left : Matches (points pattern) (points string) ↔ Matches (points (drop p pattern)) (points (drop s string))

abbrev pub invariant-loop-p : goal.invariant-loop-p
invariant-loop-p l = Met l.pattern l.string l.p l.s

abbrev pub decreases-loop-p : goal.decreases-loop-p
decreases-loop-p l = length l.pattern - l.p
