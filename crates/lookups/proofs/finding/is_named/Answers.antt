-- `lookups::finding::is_named` meets its contract. Assumes nothing.
use Rattle.lookups.proofs.BagLaws.{path_clear}
use Rattle.lookups.proofs.FindLaws.{same_long, other_lead, part_sized}
use Rattle.bags.proofs.ReadLaws.{part_to}
use Rattle.bags.proofs.PathLaws.{path_sized}
use Rattle.bags.specs.Paths.{is_path}
use Rattle.slices.specs.Same.{same}
use Rattle.slices.specs.Parts.{part}
use native.Mathlib.Omega.{arith}
use mathlib.Core.Path.{◌≡◌, ◌∙◌, ap}
use mathlib.Core.List.{List}
use mathlib.Core.Bool.{true}
use lib.ListN.{length}
use Prim.Native.Nat.{ℕ, ◌+◌, ◌<◌, ◌≤◌}
use borrow.Author.Rules.{rules}
use Rattle.lookups.proofs.finding.is_named.Goals as goal

-- a path is not empty
sized : (s : List ℕ) (at n : ℕ) → at + n ≤ length s → is_path (part s at n) ≡ true → 0 < n
sized s at n f p = let l = (path_sized (part s at n) p).0 in let k = part_sized s at n f in omega arith

pub bounds-s-at : goal.bounds-s-at
bounds-s-at c = omega (arith, sized _ _ _ c.requires.n_in_bounds c.requires.n_value)

pub returns-then-s-at : goal.returns-then-s-at
returns-then-s-at c = other_lead _ _ _ _ _ (sized _ _ _ c.requires.n_in_bounds c.requires.n_value) c.requires.n_in_bounds c.requires.lead_value c.if-s-at.true

pub same_bytes-requires : goal.same_bytes-requires
same_bytes-requires c = ap length (part_to c.args.s.now c.args.at c.args.n) ∙ part_sized _ _ _ c.requires.n_in_bounds ∙ c.if-n-path.true

pub returns-then-n-path : goal.returns-then-n-path
returns-then-n-path c =
    let s = c.args.s.now in
    c.same_bytes.ensures
    ∙ ap (λ (l : List ℕ). same l c.args.path.now) (part_to s c.args.at c.args.n)
    ∙ same_long (part s c.args.at c.args.n) _ (path_clear _ c.requires.n_value) (part_sized s c.args.at c.args.n c.requires.n_in_bounds ∙ c.if-n-path.true)
