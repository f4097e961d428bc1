-- `targets::matching::part_matches` meets its contract: by the kind of the entry. Assumes nothing.
use Rattle.targets.proofs.MatchLaws.{any_part, typed_part, pinned_part, pinned_quoted}
use native.Mathlib.Omega.{arith}
use mathlib.Core.Path.{◌∙◌}
use Rattle.targets.proofs.matching.part_matches.Goals as goal

pub returns-in-29 : goal.returns-in-29
returns-in-29 c types d = any_part _ _ _ types c.in-29.is

pub returns-in-30 : goal.returns-in-30
returns-in-30 c types d = typed_part _ _ _ types d c.in-30.is

pub is_quoted-requires : goal.is_quoted-requires
is_quoted-requires c = pinned_quoted _ _ (λ e. omega arith) (λ e. omega arith) c.requires

pub returns-in_default : goal.returns-in_default
returns-in_default c types d = c.is_quoted.ensures ∙ pinned_part _ _ _ types (λ e. omega arith) (λ e. omega arith)
