-- Lines and columns of short texts: antt computes each. Assumes nothing.
use mathlib.Core.Path.{◌≡◌, refl}
use mathlib.Core.List.{[], ◌∷◌}
use Rattle.slices.specs.Ascii.{bytes}
use Rattle.places.specs.Places.{place, place_of}
use Rattle.places.proofs.Opened.{places_opened}

pub places : (place_of (bytes "ab\n\nc") 0 ≡ place 1 1) × (place_of (bytes "ab\n\nc") 2 ≡ place 1 3) × (place_of (bytes "ab\n\nc") 4 ≡ place 3 1) × (place_of (bytes "ab\n\nc") 5 ≡ place 3 2)
unfolding places_opened
places = (refl, refl, refl, refl)

-- `"Sü` and then a byte that no string has: a string that is UTF-8 counts its characters, whatever else stands in it, another its bytes; a character of four bytes takes one column
pub columns :
    (place_of (0x22 ∷ 0x53 ∷ 0xC3 ∷ 0xBC ∷ 0x01 ∷ 0x22 ∷ []) 4 ≡ place 1 4)
    × (place_of (0x22 ∷ 0x53 ∷ 0xC3 ∷ 0xBC ∷ 0x01 ∷ 0xFF ∷ 0x22 ∷ []) 4 ≡ place 1 5)
    × (place_of (0x22 ∷ 0x53 ∷ 0xC3 ∷ 0xBC ∷ 0x01 ∷ 0xFF ∷ []) 4 ≡ place 1 5)
    × (place_of (0x22 ∷ 0xF0 ∷ 0x9F ∷ 0x9B ∷ 0x97 ∷ 0x22 ∷ 0x3B ∷ []) 6 ≡ place 1 4)
unfolding places_opened
columns = (refl, refl, refl, refl)
