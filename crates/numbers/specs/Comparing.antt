-- What a comparator says of two numbers: as IEEE 754 has it, so -0 equals 0. Definitions only.
use Rattle.std.specs.Prelude.{Bool, Float}
use Rattle.std.specs.Float.Ieee.{lt, le, eq, ne}
use Rattle.numbers.specs.declared.comparing.Comparator.{Comparator}
use Rattle.numbers.specs.declared.comparing.Comparator.TheVariants.{Less, AtMost, More, AtLeast, Same, Other}

-- whether x stands to y as the comparator says
abbrev pub holds : Comparator → Float → Float → Bool
holds Less x y = lt x y
holds AtMost x y = le x y
holds More x y = lt y x
holds AtLeast x y = le y x
holds Same x y = eq x y
holds Other x y = ne x y
