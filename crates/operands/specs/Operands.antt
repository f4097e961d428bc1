-- What is read for an operand's entry: a value, and the bytes of its string, which lie in the rule text, in the bag or question, or are the action;
-- and what is meant. Definitions only.
use Rattle.std.specs.Prelude.{ℕ, List, Bool, ◌&&◌, cond, eqb, leb}
use Rattle.numbers.specs.Literals.{number_in}
use Rattle.lookups.specs.Values.{nought, unit}
use Rattle.lookups.specs.declared.values.Value.{Value}
use Rattle.views.specs.Meaning.{View, Datum}
use Rattle.views.specs.Values.{string_at}
use Rattle.views.specs.Places.{placed_value, placed_view}
use Rattle.grammar.specs.Policies.{Comparator.Equal, Literal, Which, Which.All, Which.Any}
use Rattle.placing.specs.Placed.{bytes_at, quoted_at, unblanked_at}
use Rattle.placing.specs.Said.{literal_words, operand_words}
use Rattle.table.specs.declared.Entry.{Entry}
use Rattle.table.specs.Kinds.{action_kind, string_kind, number_kind, true_kind}
use Rattle.stored.specs.ReadBack.{span_of_entry, root_of_kind, operand_of_entry}
use Rattle.meaning.specs.Values.{with_action, literal_value, attribute_value, operand_value, if_text, compares}
use Rattle.meaning.specs.Conditions.{some, asked, among_strings}

-- ---- values

-- a string that does not lie in the bag or question
abbrev pub a_string_value : Value
a_string_value = record { kind = 1; number = nought; place = 0 }

-- principal, resource and env are roots of the bag
abbrev pub of_bag : ℕ → Bool
of_bag root = leb 1 root && leb root 3

-- an attribute: of the row, or the action's name
unfoldable pub attribute_read : List ℕ → List ℕ → List ℕ → List ℕ → Entry → Value
attribute_read t s places values o = cond (of_bag o.kind) (placed_value s places values o.kind (unblanked_at t (span_of_entry o))) a_string_value

-- a literal: a string, a number, or `true` or `false`
unfoldable pub literal_read : List ℕ → Entry → Value
literal_read t o =
    cond (eqb o.kind string_kind) a_string_value
    (cond (eqb o.kind number_kind) (record { kind = 2; number = number_in (bytes_at t (span_of_entry o)); place = 0 })
    (record { kind = 3; number = cond (eqb o.kind true_kind) unit nought; place = 0 }))

-- an operand: an attribute or a literal, by its entry's kind
unfoldable pub operand_read : List ℕ → List ℕ → List ℕ → List ℕ → Entry → Value
operand_read t s places values o = cond (leb o.kind action_kind) (attribute_read t s places values o) (literal_read t o)

-- ---- the bytes of a value's string

-- those of the bag or question, those between a literal's quotes, else the action; nothing asks for them where the value is no string
unfoldable pub string_of : List ℕ → List ℕ → List ℕ → Entry → Value → List ℕ
string_of t s action o v =
    cond (eqb v.kind 1)
    (cond (of_bag o.kind) (string_at s v.place) (cond (eqb o.kind string_kind) (quoted_at t (span_of_entry o)) action))
    action

-- ---- what is meant

-- containsAny or containsAll
abbrev pub which_by : Bool → Which
which_by any = cond any Any All

-- a row's attributes, under an action
abbrev pub seen : List ℕ → List ℕ → List ℕ → List ℕ → View
seen s places values action = with_action action (placed_view s places values)

-- an operand's value there
abbrev pub meant : List ℕ → List ℕ → List ℕ → List ℕ → List ℕ → Entry → Datum
meant t s places values action o = operand_value (seen s places values action) (operand_words t (operand_of_entry o))

-- the value there of an attribute, by the entry of its path
abbrev pub meant_path : List ℕ → List ℕ → List ℕ → List ℕ → List ℕ → Entry → Datum
meant_path t s places values action o = attribute_value (seen s places values action) (root_of_kind o.kind) (unblanked_at t (span_of_entry o))

-- whether a value is the same as one of these literals
abbrev pub among_literals : List ℕ → Datum → List Literal → Bool
among_literals t d ls = some (λ l. compares Equal d (literal_value (literal_words t l))) ls

-- whether any, or all, of these literals are among the strings of a list
abbrev pub literals_listed : List ℕ → Bool → List (List ℕ) → List Literal → Bool
literals_listed t any l ls = asked (which_by any) (λ o. if_text (literal_value (literal_words t o)) (among_strings l)) ls
