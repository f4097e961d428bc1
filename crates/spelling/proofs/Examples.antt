-- A policy that has every kind of condition, and its text as it is printed in two ways. Assumes nothing.
use mathlib.Core.Path.{◌≡◌, refl}
use mathlib.Core.Bool.{true, false}
use mathlib.Core.List.{List, [], ◌∷◌, ◌++◌}
use mathlib.Core.Option.{some}
use Prim.Native.Nat.{ℕ}
use Rattle.slices.specs.Ascii.{bytes}
use Rattle.grammar.specs.Policies.{Root.Principal, Root.Resource, Root.Env, Root.Action, Comparator.AtLeast, Which.All, text, number, truth, attribute}
use Rattle.grammar.specs.Policies.{literal, TreeOf, constant, compare, like, among, within, contains, has, not, brackets, both, either, choice}
use Rattle.grammar.specs.Policies.{typed, one_of, PolicyOf}
use Rattle.placing.specs.Said.{Word}
use Rattle.spelling.specs.Printed.{printed_by, closely}
use Rattle.spelling.proofs.Plain.{printed_opened}

-- a presence and brackets negated; or a choice by a comparison, between a pattern and a call; or two memberships
pub condition : TreeOf Word
condition =
    either
    (either (both (has Env (bytes "door.state")) (not (brackets (constant true))))
    (choice (compare AtLeast (attribute Principal (bytes "level")) (literal (number (bytes "3")))) (like (attribute Action (bytes "name")) (bytes "s*"))
    (contains All Resource (bytes "tags") (text (bytes "a") ∷ truth false ∷ []))))
    (both (within (literal (text (bytes "a"))) Principal (bytes "teams")) (among (attribute Env (bytes "shift")) (number (bytes "1") ∷ number (bytes "2") ∷ [])))

pub policy : PolicyOf Word
policy = record {
  permits = false;
  principal = typed 2;
  action = one_of (text (bytes "set") ∷ text (bytes "read") ∷ []);
  resource = typed 2;
  condition = some condition;
}

-- its text, as a permit of docs/LOCKS.md is spelled, and with single blanks
pub rule : List ℕ
rule =
    bytes "forbid(principal is tool, action in [\"set\", \"read\"], resource is shaft) when { env has door.state && !(true)"
    ++ (bytes " || if principal.level >= 3 then action.name like \"s*\" else resource.tags.containsAll([\"a\", false])"
    ++ bytes " || \"a\" in principal.teams && env.shift in [1, 2] };")

pub wide_rule : List ℕ
wide_rule =
    bytes "forbid ( principal is tool , action in [ \"set\" , \"read\" ] , resource is shaft ) when { env has door . state && ! ( true )"
    ++ (bytes " || if principal . level >= 3 then action . name like \"s*\" else resource . tags . containsAll ( [ \"a\" , false ] )"
    ++ bytes " || \"a\" in principal . teams && env . shift in [ 1 , 2 ] } ;")

pub rule_printed : printed_by closely (policy ∷ []) ≡ rule
unfolding printed_opened policy condition rule
rule_printed = refl

pub rule_spaced : printed_by (λ t u. false) (policy ∷ []) ≡ wide_rule
unfolding printed_opened policy condition wide_rule
rule_spaced = refl
