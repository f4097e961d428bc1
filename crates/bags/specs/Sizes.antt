-- The sizes of a bag, as document 01 has them. Its paths and strings have those of the rule text. Definitions only.
use Rattle.std.specs.Prelude.{ℕ}
use Rattle.tokens.specs.Sizes.{most_literals}

-- the most bytes of a bag, the most entries of a section
abbrev pub most_bag_bytes : ℕ
most_bag_bytes = 4096

abbrev pub most_entries : ℕ
most_entries = 32

-- the most strings of a list: as many as a list of the rule text has literals
abbrev pub most_strings : ℕ
most_strings = most_literals
