-- Document 01's cases J and K, and request 5's: `S?d` matches `Süd`, and no pattern matches bytes that are no UTF-8. Assumes nothing.
use mathlib.Core.Path.{◌≡◌, refl}
use mathlib.Core.Bool.{true, false}
use mathlib.Core.List.{List, [], ◌∷◌}
use Prim.Native.Nat.{ℕ}
use Rattle.utf8.specs.Characters.{Utf8}
use Rattle.utf8.specs.Reading.{points}
use Rattle.slices.proofs.Decided.{refuted}
use Rattle.slices.specs.Ascii.{bytes}
use Rattle.patterns.specs.Like.{Matches}
use Rattle.patterns.specs.Likes.{stands, steps, runs, likes, likes_text}
use Rattle.patterns.proofs.Computed.{likes_decides, text_decides}
use Rattle.patterns.proofs.Opened.{likes_opened}

pub J_a_run : Matches (bytes "shaft:*") (bytes "shaft:A1")
unfolding stands steps runs likes
J_a_run = (likes_decides (bytes "shaft:*") (bytes "shaft:A1")).sound refl

pub J_an_empty_run : Matches (bytes "shaft:*") (bytes "shaft:")
unfolding stands steps runs likes
J_an_empty_run = (likes_decides (bytes "shaft:*") (bytes "shaft:")).sound refl

pub J_no_run_across_a_colon : Matches (bytes "shaft:*") (bytes "shaft:b:A1") → ⊥
unfolding stands steps runs likes
J_no_run_across_a_colon = refuted (likes_decides (bytes "shaft:*") (bytes "shaft:b:A1")) refl

pub K_a_longer_run : Matches (bytes "*A1") (bytes "A1A1")
unfolding stands steps runs likes
K_a_longer_run = (likes_decides (bytes "*A1") (bytes "A1A1")).sound refl

-- `Süd`, and what is left of it without the second byte of its `ü`
abbrev sued : List ℕ
sued = 0x53 ∷ 0xC3 ∷ 0xBC ∷ 0x64 ∷ []

abbrev broken_sued : List ℕ
broken_sued = 0x53 ∷ 0xC3 ∷ 0x64 ∷ []

pub a_mark_takes_a_character : Utf8 sued × Matches (points (bytes "S?d")) (points sued)
unfolding likes_opened
a_mark_takes_a_character = (text_decides (bytes "S?d") sued).sound refl

pub a_mark_takes_no_byte : Matches (bytes "S?d") sued → ⊥
unfolding likes_opened
a_mark_takes_no_byte = refuted (likes_decides (bytes "S?d") sued) refl

pub two_marks_take_two_characters : likes_text (bytes "S??d") sued ≡ false
unfolding likes_opened
two_marks_take_two_characters = refl

pub a_broken_string_matches_nothing : (likes_text (bytes "S?d") broken_sued ≡ false) × (likes_text (bytes "*") broken_sued ≡ false) × (likes_text broken_sued broken_sued ≡ false)
unfolding likes_opened
a_broken_string_matches_nothing = (refl, refl, refl)

-- not even `*`
pub no_run_of_no_text : Utf8 broken_sued × Matches (points (bytes "*")) (points broken_sued) → ⊥
unfolding likes_opened
no_run_of_no_text = refuted (text_decides (bytes "*") broken_sued) refl

pub a_run_takes_all_characters : (likes_text (bytes "*") sued ≡ true) × (likes_text (0x2A ∷ 0xC3 ∷ 0xBC ∷ 0x2A ∷ []) sued ≡ true)
unfolding likes_opened
a_run_takes_all_characters = (refl, refl)
