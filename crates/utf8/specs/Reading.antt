-- UTF-8 as tests that compute, by the syntax of RFC 3629's section 4, which has the bytes by their ranges. Definitions only.
use Rattle.std.specs.Prelude.{Bool, true, false, ◌&&◌, ◌||◌, cond, List, [], ◌∷◌, ◌++◌, ℕ, zero, suc, ◌+◌, ◌-◌, ◌*◌, eqb, ltb, leb, get_or, replicate}

-- how many bytes a character has, by its first byte; 0: no character begins so
unfoldable pub bytes_by_first : ℕ → ℕ
bytes_by_first x = cond (leb x 0x7F) 1 (cond (ltb x 0xC2) 0 (cond (leb x 0xDF) 2 (cond (leb x 0xEF) 3 (cond (leb x 0xF4) 4 0))))

-- the same as a table: 00-7F, 80-C1, C2-DF, E0-EF, F0-F4, F5-FF
unfoldable pub first_byte_table : List ℕ
first_byte_table = replicate 128 1 ++ (replicate 66 0 ++ (replicate 30 2 ++ (replicate 16 3 ++ (replicate 5 4 ++ replicate 11 0))))

-- the lowest and the highest byte that may stand second after a first byte of two or more
unfoldable pub lowest_second : ℕ → ℕ
lowest_second x = cond (eqb x 0xE0) 0xA0 (cond (eqb x 0xF0) 0x90 0x80)

unfoldable pub highest_second : ℕ → ℕ
highest_second x = cond (eqb x 0xED) 0x9F (cond (eqb x 0xF4) 0x8F 0xBF)

unfoldable pub may_stand_second : ℕ → ℕ → Bool
may_stand_second x y = leb (lowest_second x) y && leb y (highest_second x)

-- a byte that may stand third or fourth
unfoldable pub goes_on_character : ℕ → Bool
goes_on_character y = leb 0x80 y && leb y 0xBF

-- whether the first of k bytes, x, is followed by what may follow it; 0 stands for each byte past the end, and may not
unfoldable pub followed : ℕ → ℕ → List ℕ → Bool
followed k x s = leb k 1 || (may_stand_second x (get_or s 0 0) && (leb k 2 || (goes_on_character (get_or s 1 0) && (leb k 3 || goes_on_character (get_or s 2 0)))))

-- how many bytes the first character has; 0: the bytes do not begin with one
unfoldable pub width : List ℕ → ℕ
width [] = 0
width (x ∷ s) = cond (followed (bytes_by_first x) x s) (bytes_by_first x) 0

-- the number that k bytes say
unfoldable pub number_said : ℕ → ℕ → ℕ → ℕ → ℕ → ℕ
number_said k x y z w =
    cond (leb k 1) x
    (cond (leb k 2) ((x - 0xC0) * 64 + (y - 0x80))
    (cond (leb k 3) (((x - 0xE0) * 64 + (y - 0x80)) * 64 + (z - 0x80))
    ((((x - 0xF0) * 64 + (y - 0x80)) * 64 + (z - 0x80)) * 64 + (w - 0x80))))

-- the first character's number, if there is one
unfoldable pub point : List ℕ → ℕ
point [] = 0
point (x ∷ s) = number_said (bytes_by_first x) x (get_or s 0 0) (get_or s 1 0) (get_or s 2 0)

-- whether a number is not 0, and the number before it
abbrev pub is_some : ℕ → Bool
is_some zero = false
is_some (suc k) = true

abbrev pub less_one : ℕ → ℕ
less_one zero = zero
less_one (suc k) = k

-- whether bytes are UTF-8 after k more, which belong to a character read before
unfoldable pub utf8_after : ℕ → List ℕ → Bool
utf8_after zero [] = true
utf8_after (suc k) [] = false
utf8_after zero (x ∷ s) = is_some (width (x ∷ s)) && utf8_after (less_one (width (x ∷ s))) s
utf8_after (suc k) (x ∷ s) = utf8_after k s

-- the numbers of the characters after k more such bytes
unfoldable pub points_after : ℕ → List ℕ → List ℕ
points_after k [] = []
points_after zero (x ∷ s) = point (x ∷ s) ∷ points_after (less_one (width (x ∷ s))) s
points_after (suc k) (x ∷ s) = points_after k s

-- whether bytes are UTF-8, and the numbers of their characters
unfoldable pub utf8 : List ℕ → Bool
utf8 s = utf8_after 0 s

unfoldable pub points : List ℕ → List ℕ
points s = points_after 0 s

-- how many bytes do not go on a character: in UTF-8 so many characters begin
unfoldable pub beginning_count : List ℕ → ℕ
beginning_count [] = 0
beginning_count (x ∷ s) = cond (goes_on_character x) (beginning_count s) (suc (beginning_count s))
