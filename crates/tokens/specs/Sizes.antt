-- The sizes of a rule text, as document 01 lists them. Definitions only.
use Rattle.std.specs.Prelude.{ℕ, suc}

-- the most bytes of a text, the most policies
abbrev pub most_text_bytes : ℕ
most_text_bytes = 8192

abbrev pub most_policies : ℕ
most_policies = 64

-- the most bytes of a word, of a path with its dots, of a string inside its quotes
abbrev pub most_word_bytes : ℕ
most_word_bytes = 64

abbrev pub most_path_bytes : ℕ
most_path_bytes = 64

abbrev pub most_string_bytes : ℕ
most_string_bytes = 127

-- the most digits of a number, before and after its point
abbrev pub most_digits : ℕ
most_digits = 15

-- the most literals of a list
abbrev pub most_literals : ℕ
most_literals = 16

-- the most characters of a pattern, the most wildcards
abbrev pub most_pattern_characters : ℕ
most_pattern_characters = 100

abbrev pub most_wildcards : ℕ
most_wildcards = 5

-- the most levels that a condition has inside it, and the levels to which conditions nest: the braces after `when` are the first of these
abbrev pub most_inside : ℕ
most_inside = 31

abbrev pub most_levels : ℕ
most_levels = suc most_inside
