-- The sizes of a question, as document 01 has them. Definitions only.
use Rattle.std.specs.Prelude.{ℕ, ◌^◌}
use Rattle.bags.specs.Sizes.{most_bag_bytes}

-- the most bytes of a question: as many as of a bag
abbrev pub most_question_bytes : ℕ
most_question_bytes = most_bag_bytes

-- the most columns, the most candidates of a column
abbrev pub most_columns : ℕ
most_columns = 6

abbrev pub most_candidates : ℕ
most_candidates = 8

-- the most rows: a choice in each column
abbrev pub most_rows : ℕ
most_rows = most_candidates ^ most_columns
