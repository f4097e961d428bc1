-- What the paper says of a token that is not refused: its bytes have the form of its kind, within its size, and before it stand only blanks. Assumes nothing.
use mathlib.Core.Path.{◌≡◌, sym, ◌∙◌}
use mathlib.Core.List.{List, ◌++◌}
use Prim.Native.Nat.{ℕ, ◌+◌, ◌-◌, ◌≤◌, ◌<◌}
use native.Mathlib.Omega.{arith}
use lib.ListN.{length, take, drop}
use lib.Seq.{drop-drop, drop-append_seam, take-append_seam}
use Rattle.tokens.specs.Kinds.{too_long}
use Rattle.tokens.specs.Tokens.{token_at}
use Rattle.tokens.specs.Forms.{All, Form, size_of, most_of, Stands, end_of_text, a_token, a_token_too_long, a_colon, bad_byte, unended, bad_inside}
use Rattle.tokens.specs.declared.classes.Sort.TheVariants.{Blanks}
use Rattle.tokens.specs.declared.reader.Token.{Token}
use Rattle.tokens.proofs.Longest.{longest_token}

-- the bytes of a text from one place up to another
abbrev pub between : List ℕ → ℕ → ℕ → List ℕ
between text start end = take (end - start) (drop start text)

pub record Told (text : List ℕ) (at : ℕ) (t : Token) : Type 0 where
  pub gap : All Blanks (between text at t.start)
  pub form : Form t.kind (between text t.start t.end)
  pub few : size_of t.kind (between text t.start t.end) ≤ most_of t.kind

told : (text blanks rest : List ℕ) (at : ℕ) {t : Token} → drop at text ≡ blanks ++ rest → All Blanks blanks → Stands (at + length blanks) rest t
    → too_long < t.kind → Told text at t
told text blanks rest at e a end_of_text h = absurd (omega arith)
told text blanks rest at e a (a_token {kind} {p} f s) h =
    let start = at + length blanks in
    let size : start - at ≡ length blanks = omega arith in
    let size' : start + length p - start ≡ length p = omega arith in
    let gap : between text at start ≡ blanks = rw (size, e) (take-append_seam blanks rest) in
    let behind : drop start text ≡ rest = sym (drop-drop (length blanks) at text) ∙ rw e (drop-append_seam blanks rest) in
    let bytes : between text start (start + length p) ≡ p = rw (size', behind, f.begins.is) (take-append_seam p f.begins.rest) in
    record { gap = rw gap a; form = rw bytes f.form; few = rw bytes s }
told text blanks rest at e a (a_token_too_long f s) h = absurd (omega arith)
told text blanks rest at e a (a_colon f) h = absurd (omega arith)
told text blanks rest at e a (bad_byte f c q) h = absurd (omega arith)
told text blanks rest at e a (unended f b) h = absurd (omega arith)
told text blanks rest at e a (bad_inside l f b o) h = absurd (omega arith)

pub token_told : (text : List ℕ) (at : ℕ) → at ≤ length text → too_long < (token_at text at).kind → Told text at (token_at text at)
token_told text at h = let s = longest_token text at h in told text s.blanks s.rest at s.parts s.passed s.stands
