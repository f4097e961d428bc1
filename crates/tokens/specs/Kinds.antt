-- The kinds of tokens. A mark is its first byte, with 128 added where `=` follows `!`, `<` or `>`; the reserved words count from 201 in document 01's order;
-- the end of the text is 0, and a refused token has the refusal's number, 3 to 6. Definitions only.
use Rattle.std.specs.Prelude.{ℕ, ◌+◌}
use Prim.Native.Char.{code}

-- the end of the text, where no token is left
abbrev pub end_of_text : ℕ
end_of_text = 0

-- the refusals of a token, by their numbers: a byte at which none starts or that may not stand in a string, a colon, a string without its end, a token too long
abbrev pub bad_byte : ℕ
bad_byte = 3

abbrev pub colon_outside : ℕ
colon_outside = 4

abbrev pub unended : ℕ
unended = 5

abbrev pub too_long : ℕ
too_long = 6

-- words that are not reserved, strings, numbers: each by a byte that begins no mark
abbrev pub name : ℕ
name = code "n"

abbrev pub string : ℕ
string = code "\""

abbrev pub number : ℕ
number = code "0"

-- marks, each by its first byte; `and`, `or` and `equal` are `&&`, `||` and `==`
abbrev pub left_round : ℕ
left_round = code "("

abbrev pub right_round : ℕ
right_round = code ")"

abbrev pub left_brace : ℕ
left_brace = code "{"

abbrev pub right_brace : ℕ
right_brace = code "}"

abbrev pub left_square : ℕ
left_square = code "["

abbrev pub right_square : ℕ
right_square = code "]"

abbrev pub comma : ℕ
comma = code ","

abbrev pub semicolon : ℕ
semicolon = code ";"

abbrev pub dot : ℕ
dot = code "."

abbrev pub bang : ℕ
bang = code "!"

abbrev pub and : ℕ
and = code "&"

abbrev pub or : ℕ
or = code "|"

abbrev pub equal : ℕ
equal = code "="

abbrev pub more : ℕ
more = code ">"

abbrev pub less : ℕ
less = code "<"

-- `!=`, `>=` and `<=`, by 128 more
abbrev pub not_equal : ℕ
not_equal = code "!" + 128

abbrev pub at_least : ℕ
at_least = code ">" + 128

abbrev pub at_most : ℕ
at_most = code "<" + 128

-- reserved words, in document 01's order
abbrev pub permit_word : ℕ
permit_word = 201

abbrev pub forbid_word : ℕ
forbid_word = 202

abbrev pub when_word : ℕ
when_word = 203

abbrev pub principal_word : ℕ
principal_word = 204

abbrev pub resource_word : ℕ
resource_word = 205

abbrev pub action_word : ℕ
action_word = 206

abbrev pub env_word : ℕ
env_word = 207

abbrev pub is_word : ℕ
is_word = 208

abbrev pub in_word : ℕ
in_word = 209

abbrev pub has_word : ℕ
has_word = 210

abbrev pub like_word : ℕ
like_word = 211

abbrev pub true_word : ℕ
true_word = 212

abbrev pub false_word : ℕ
false_word = 213

abbrev pub if_word : ℕ
if_word = 214

abbrev pub then_word : ℕ
then_word = 215

abbrev pub else_word : ℕ
else_word = 216

abbrev pub contains_all_word : ℕ
contains_all_word = 217

abbrev pub contains_any_word : ℕ
contains_any_word = 218
