-- Tokens of short texts, as document 01 has them: antt computes each. Assumes nothing.
use mathlib.Core.Path.{◌≡◌, refl}
use Rattle.slices.specs.Ascii.{bytes}
use Rattle.tokens.specs.Kinds as kinds
use Rattle.tokens.specs.Tokens.{token, token_at}
use Rattle.tokens.proofs.Opened.{tokens_opened}

pub tokens :
    (token_at (bytes "permit(principal") 0 ≡ token kinds.permit_word 0 6)
    × (token_at (bytes "permit(principal") 6 ≡ token kinds.left_round 6 7)
    × (token_at (bytes " \n permits;") 0 ≡ token kinds.name 3 10)
    × (token_at (bytes "a>=1") 1 ≡ token kinds.at_least 1 3)
    × (token_at (bytes "a>1") 1 ≡ token kinds.more 1 2)
    × (token_at (bytes "x == -12.50.a") 4 ≡ token kinds.number 5 11)
    × (token_at (bytes "1.a") 0 ≡ token kinds.number 0 1)
    × (token_at (bytes "\"\" x") 0 ≡ token kinds.string 0 2)
    × (token_at (bytes "- 1") 0 ≡ token kinds.bad_byte 0 1)
    × (token_at (bytes "a & b") 1 ≡ token kinds.bad_byte 2 3)
    × (token_at (bytes "a:b") 1 ≡ token kinds.colon_outside 1 2)
    × (token_at (bytes "x \"ab") 1 ≡ token kinds.unended 2 5)
    × (token_at (bytes "x \"a\tb") 1 ≡ token kinds.bad_byte 4 5)
    × (token_at (bytes "1234567890.123456") 0 ≡ token kinds.too_long 0 17)
    × (token_at (bytes "1234567890.12345") 0 ≡ token kinds.number 0 16)
    × (token_at (bytes "  ") 0 ≡ token kinds.end_of_text 2 2)
unfolding tokens_opened
tokens = (refl, refl, refl, refl, refl, refl, refl, refl, refl, refl, refl, refl, refl, refl, refl, refl)
