-- As many combinations pass a test as rows do, and as many rows are listed as get yes. Assumes nothing.
use mathlib.Core.Path.{◌≡◌, refl, sym, ap, ◌∙◌, subst}
use mathlib.Core.Logic.{◌↔◌}
use mathlib.Core.Bool.{Bool, true, false, cond}
use mathlib.Core.List.Memᴰ
use mathlib.Core.List.{List, [], ◌∷◌, map, Memᴰ}
use Prim.Native.Nat.{ℕ, zero, suc, ◌+◌}
use native.Mathlib.Omega.{arith}
use lib.ListN.{length, length-map}
use Rattle.questions.specs.Questions.{product}
use Rattle.meaning.specs.Decisions.{is_allowed}
use Rattle.meaning.specs.declared.Decision.{Decision}
use Rattle.meaning.specs.declared.Decision.TheVariants.{Nothing, System}
use Rattle.pages.specs.Rows.{Combination, choices_at}
use Rattle.pages.specs.Listing.{cons_if, yes_of, listed}
use Rattle.pages.specs.Lines as lines
use Rattle.pages.specs.Lines.{Line, InOrder}
use Rattle.pages.specs.Tally.{OneByOne, none, one, more, SoMany, how_many}
use Rattle.pages.proofs.Listed.{listed_at}
use Rattle.pages.proofs.LineLaws.{line_of, lines_of, line_at, decided_at, lines_yes, lines_ordered}
use Rattle.pages.proofs.Tallying.{how_many_same}

-- ---- as many as are listed

cons_long : (b : Bool) (row : ℕ) (rows : List ℕ) → length (cons_if b row rows) ≡ cond b 1 0 + length rows
cons_long true row rows = omega arith
cons_long false row rows = omega arith

yes_many : (d : ℕ → Decision) (n row : ℕ) → length (yes_of d row n) + how_many (λ r. is_allowed (d r)) row ≡ how_many (λ r. is_allowed (d r)) (row + n)
unfolding yes_of how_many
yes_many d zero row = let e : row + 0 ≡ row = omega arith in rw e (omega arith)
yes_many d (suc n) row =
    let e : row + suc n ≡ suc row + n = omega arith in
    rw e (omega (arith, cons_long (is_allowed (d row)) row (yes_of d (suc row) n), yes_many d n (suc row)))

pub listed_many : (d : ℕ → Decision) (rows : ℕ) → length (listed d rows 0) ≡ how_many (λ r. is_allowed (d r)) rows
unfolding how_many
listed_many d rows =
    let e : 0 + rows ≡ rows = omega arith in
    let k = rw e at (yes_many d rows 0) in
    rw (listed_at d rows rows 0 e) (omega (arith, k))

-- ---- combinations that pass a test

-- yes where the test passes
abbrev as_yes : Bool → Decision
as_yes b = cond b System Nothing

yes_is : (b : Bool) → is_allowed (as_yes b) ≡ b
unfolding is_allowed
yes_is true = refl
yes_is false = refl

in_turn : {ls : List Line} → InOrder ls → OneByOne (map (λ l. l.choices) ls)
in_turn lines.none = none
in_turn lines.one = one
in_turn (lines.more s o) = more s (in_turn o)

module _ (test : List ℕ → Bool) (ns : List ℕ) where
  abbrev chosen_by : List ℕ → Decision
  chosen_by choices = as_yes (test choices)

  -- their marks do not matter
  abbrev unmarked : List ℕ → ℕ
  unmarked choices = 0

  abbrev those : List (List ℕ)
  those = map (λ l. l.choices) (lines_of chosen_by unmarked ns)

  listed_there : (choices : List ℕ) → Memᴰ choices those ↔ (Combination ns choices × (test choices ≡ true))
  listed_there choices = (to, from)
    where
      to : Memᴰ choices those → Combination ns choices × (test choices ≡ true)
      to i =
          let r = Memᴰ.of_map (λ l. l.choices) (lines_of chosen_by unmarked ns) i in
          let y = (lines_yes chosen_by unmarked ns r.0).0 r.1 in
          rw (← r.2) (y.0, sym (yes_is (test r.0.choices)) ∙ y.2)

      from : Combination ns choices × (test choices ≡ true) → Memᴰ choices those
      from h = Memᴰ.map (λ l. l.choices) ((lines_yes chosen_by unmarked ns (line_of chosen_by unmarked ns choices)).1 (h.0, refl, yes_is (test choices) ∙ h.1))

  -- as many as rows whose choices pass it
  pub so_many : SoMany ns (λ choices. test choices ≡ true) (how_many (λ row. test (choices_at ns row)) (product ns))
  so_many = record {
    those = those;
    lists = listed_there;
    in_order = in_turn (lines_ordered chosen_by unmarked ns);
    many =
        length-map (lines_of chosen_by unmarked ns) (λ l. l.choices) ∙ length-map (listed (decided_at chosen_by ns) (product ns) 0) (line_at chosen_by unmarked ns)
        ∙ listed_many (decided_at chosen_by ns) (product ns)
        ∙ how_many_same (λ row. is_allowed (decided_at chosen_by ns row)) (λ row. test (choices_at ns row)) (product ns) (λ row h. yes_is (test (choices_at ns row)));
  }

-- what is such in other words is as many
pub such_alike : {ns : List ℕ} {Such Such' : List ℕ → Type 0} {n : ℕ}
    → ((choices : List ℕ) → Combination ns choices → Such choices ↔ Such' choices) → SoMany ns Such n → SoMany ns Such' n
such_alike same m = record {
  those = m.those;
  lists = λ choices. (
    (λ i. let h = (m.lists choices).0 i in (h.0, (same choices h.0).0 h.1)),
    λ h. (m.lists choices).1 (h.0, (same choices h.0).1 h.1),
  );
  in_order = m.in_order;
  many = m.many;
}
