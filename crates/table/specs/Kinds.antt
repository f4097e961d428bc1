-- The kinds of entries by their names, as src/entries.rt has them; docs/TABLE.md says what stands before each. Definitions only.
use Rattle.std.specs.Prelude.{ℕ, ◌+◌}
use Rattle.grammar.specs.Policies.{Root.Principal, Root.Resource, Root.Env, Root.Action, root_byte}

-- how many roots there are
abbrev pub roots : ℕ
roots = 4

-- attributes, by their roots; those of a bag have their root bytes
abbrev pub principal_kind : ℕ
principal_kind = root_byte Principal

abbrev pub resource_kind : ℕ
resource_kind = root_byte Resource

abbrev pub env_kind : ℕ
env_kind = root_byte Env

abbrev pub action_kind : ℕ
action_kind = root_byte Action

-- `has` after each of these roots: its kind and as many more as there are roots
abbrev pub has_principal_kind : ℕ
has_principal_kind = 5

abbrev pub has_resource_kind : ℕ
has_resource_kind = 6

abbrev pub has_env_kind : ℕ
has_env_kind = 7

abbrev pub has_action_kind : ℕ
has_action_kind = 8

-- literals; the last two are also conditions
abbrev pub string_kind : ℕ
string_kind = 9

abbrev pub number_kind : ℕ
number_kind = 10

abbrev pub true_kind : ℕ
true_kind = 11

abbrev pub false_kind : ℕ
false_kind = 12

-- comparators
abbrev pub equal_kind : ℕ
equal_kind = 13

abbrev pub not_equal_kind : ℕ
not_equal_kind = 14

abbrev pub more_kind : ℕ
more_kind = 15

abbrev pub at_least_kind : ℕ
at_least_kind = 16

abbrev pub less_kind : ℕ
less_kind = 17

abbrev pub at_most_kind : ℕ
at_most_kind = 18

-- the other operators; conditions up to here have no parts
abbrev pub like_kind : ℕ
like_kind = 19

abbrev pub in_list_kind : ℕ
in_list_kind = 20

abbrev pub in_attribute_kind : ℕ
in_attribute_kind = 21

abbrev pub contains_all_kind : ℕ
contains_all_kind = 22

abbrev pub contains_any_kind : ℕ
contains_any_kind = 23

-- conditions that hold others
abbrev pub not_kind : ℕ
not_kind = 24

abbrev pub brackets_kind : ℕ
brackets_kind = 25

abbrev pub and_kind : ℕ
and_kind = 26

abbrev pub or_kind : ℕ
or_kind = 27

abbrev pub if_kind : ℕ
if_kind = 28

-- the principal or the resource part: bare, with `is`, with `==`
abbrev pub bare_part_kind : ℕ
bare_part_kind = 29

abbrev pub typed_part_kind : ℕ
typed_part_kind = 30

abbrev pub pinned_part_kind : ℕ
pinned_part_kind = 31

-- the action part: bare, with a list
abbrev pub bare_action_kind : ℕ
bare_action_kind = 32

abbrev pub listed_action_kind : ℕ
listed_action_kind = 33

-- policies
abbrev pub permit_kind : ℕ
permit_kind = 34

abbrev pub forbid_kind : ℕ
forbid_kind = 35

-- under version 2 the kind of a principal part is so much higher, past all others
abbrev pub second_step : ℕ
second_step = 7

-- a bare principal part under version 2
abbrev pub bare_second_kind : ℕ
bare_second_kind = bare_part_kind + second_step
