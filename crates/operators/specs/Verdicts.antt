-- What a condition says over a row's attributes, by the values that its operands have there; and where its left operand stands. Definitions only.
use Rattle.std.specs.Prelude.{ℕ, ◌-◌, List, Bool, cond, eqb}
use Rattle.views.specs.Meaning.{Datum}
use Rattle.grammar.specs.Policies.{Literal, Tree}
use Rattle.placing.specs.Said.{tree_words}
use Rattle.table.specs.declared.Entry.{Entry}
use Rattle.table.specs.Kinds.{like_kind, in_list_kind}
use Rattle.meaning.specs.Values.{if_texts}
use Rattle.meaning.specs.Conditions.{given, verdict}
use Rattle.meaning.specs.declared.Verdict.{Verdict}
use Rattle.operands.specs.Operands.{seen, among_literals, literals_listed}

-- a condition's verdict over a row's attributes, under an action, where `settles` says whether an absent attribute makes an operator false
abbrev pub verdict_seen : Bool → List ℕ → List ℕ → List ℕ → List ℕ → List ℕ → Tree → Verdict
verdict_seen settles t s places values action c = verdict settles (seen s places values action) (tree_words t c)

-- what `in` a list of literals says, and contains, by the value that it met
abbrev pub given_among : List ℕ → Datum → List Literal → Verdict
given_among t d ls = given d (among_literals t d ls)

abbrev pub given_listed : List ℕ → Bool → Datum → List Literal → Verdict
given_listed t any d ls = given d (if_texts d (λ l. literals_listed t any l ls))

-- where the left operand stands of the condition whose last entry is x, number end - 1: before x (`like`), before a list, or before another operand
abbrev pub left_at : ℕ → Entry → ℕ
left_at end x = cond (eqb x.kind like_kind) (end - 2) (cond (eqb x.kind in_list_kind) (end - x.first - 2) (end - 3))
