-- What is refused is refused at the right place, and that is one place. Assumes nothing.
use mathlib.Core.Path.{◌≡◌, refl, ap, sym, ◌∙◌}
use mathlib.Core.List.{List, [], ◌∷◌, ◌++◌, append_assoc, append-nil}
use mathlib.Core.Logic.{inl, inr}
use Prim.Native.Nat.{ℕ, ◌≤◌}
use native.Mathlib.Omega.{arith}
use lib.ListN.{length, length-append}
use Rattle.reading.specs.Lexemes.{Lexeme}
use Rattle.reading.proofs.Readers.{goes_refused}
use Rattle.reading.proofs.Local.{same, ends}
use Rattle.grammar.specs.Policies.{Policy}
use Rattle.grammar.specs.Grammar.{Limits, sizes, lifting, Beyond, Policies, policy, RuleText}
use Rattle.grammar.specs.Grammar as grammar
use Rattle.grammar.specs.Promise.{Sofar, Refused, RefusedRightly, OnePlace}
use Rattle.grammar.proofs.Begun.{Swap, here, step, Eases, Exempt}
use Rattle.grammar.proofs.Framing.{framed_policy}
use Rattle.grammar.proofs.Viable.{viable_text}
use Rattle.grammar.proofs.Exactly.{strictly, before_on}
use Rattle.grammar.proofs.Refused.{near_text, refused_again}

-- ---- what comes of swapping

swap_length : {r s i j : List Lexeme} → Swap r s i j → length r ≤ length i
swap_length here = omega arith
swap_length (step w) = let x = swap_length w in omega arith

pub swap_is : (before : List Lexeme) {r s i j : List Lexeme} → Swap r s i j → i ≡ before ++ r → j ≡ before ++ s
swap_is [] here e = refl
swap_is (x ∷ b) {r = r} here e = absurd (let y = ap (λ (l : List Lexeme). length l) e in let z = length-append b r in omega arith)
swap_is [] {r = r} (step w) e = absurd (let y = ap (λ (l : List Lexeme). length l) e in let z = swap_length w in omega arith)
swap_is (x ∷ b) {r = r} {s = s} (step {x = y} {i = i} {j = j} w) e = let z = swap_is b w (cc) in cc

swap_same : {r i j : List Lexeme} → Swap r r i j → i ≡ j
swap_same here = refl
swap_same (step {x = x} w) = ap (λ (l : List Lexeme). x ∷ l) (swap_same w)

-- ---- where less is asked, a rule text is one still

weaker : {L M : Limits} → ((r : List Lexeme) → Eases L M r r) → {i : List Lexeme} {ps qs : List Policy} → Policies L ps i qs → Policies M ps i qs
weaker e grammar.Policies.end = grammar.Policies.end
weaker e (policy {i = i} {m = m} t c h k) = let q = (framed_policy _).at (e m) h here in policy t ((e i).asks here _ c) (rw (← swap_same q.1) at q.2) (weaker e k)

module _ (levels : ℕ) (Lifted Freed : ℕ → List Lexeme → Type 0) (f : (n : ℕ) (r : List Lexeme) → Lifted n r → Freed n r) where
  freed : (n : ℕ) {r m l : List Lexeme} → Swap r r m l → Lifted n m → Freed n l
  freed n w h = rw (← swap_same w) (f n _ h)

  pub less_asked : {i : List Lexeme} {ps qs : List Policy} → Policies (lifting levels Lifted) ps i qs → Policies (lifting levels Freed) ps i qs
  less_asked = weaker (λ r. record {
    asks = λ w l h. elim h [ inl t ↦ inl t | inr g ↦ inr (freed _ w g) ];
    levels = refl;
  })

-- ---- refused rightly

-- the first token of a rest, put to what stands before
pub cut : (b : List Lexeme) (x : Lexeme) (s : List Lexeme) → b ++ x ∷ s ≡ (b ++ x ∷ []) ++ s
cut b x s = sym (append_assoc b (x ∷ []) s)

pub refused_rightly : RefusedRightly
unfolding RefusedRightly
refused_rightly i r n e =
    let near = near_text i in let split = rw e at near.split in let o = goes_refused (rw e at (viable_text 0 i)) in
    record {
      before = near.before;
      split = split;
      alive = record { on = o.on; policies = o.policies; belongs = less_asked 31 (Exempt n o.on) (λ m s. Beyond o.on s) (λ m s h. h.behind) (rw (swap_is near.before o.swapped split) at o.belongs) };
      dead = λ x s q f.
          let l = refused_again (before_on f.on) i r n e (x ∷ f.on) f.policies (rw q same) (rw cut f.belongs) in omega arith;
      no_text = λ ps q c. refused_again strictly i r n e [] ps (rw q ends) (rw append-nil c);
    }

-- ---- one place

-- P holds of b, and not with r's first token behind it.
record Stuck (P : List Lexeme → Type 0) (b r : List Lexeme) : Type 0 where
  alive : P b
  dead : (x : Lexeme) (s : List Lexeme) → r ≡ x ∷ s → ¬ P (b ++ x ∷ [])

same_place : (P : List Lexeme → Type 0) → ((b c : List Lexeme) → P (b ++ c) → P b)
    → (b c r s : List Lexeme) → b ++ r ≡ c ++ s → Stuck P b r → Stuck P c s → r ≡ s
same_place P closed [] [] r s e h k = e
same_place P closed [] (y ∷ c) r s e h k = absurd (h.dead y (c ++ s) e (closed (y ∷ []) c k.alive))
same_place P closed (x ∷ b) [] r s e h k = absurd (k.dead x (b ++ r) (sym e) (closed (x ∷ []) b h.alive))
same_place P closed (x ∷ b) (y ∷ c) r s e h k =
    let f : x ≡ y = cc in let g : b ++ r ≡ c ++ s = cc in
    same_place (λ l. P (x ∷ l)) (λ u v. closed (x ∷ u) v) b c r s g
    (record { alive = h.alive; dead = h.dead })
    (record { alive = rw f k.alive; dead = λ z u q p. k.dead z u q (rw (← f) p) })

-- What breaks no rule breaks none in its beginning.
pub beginning : (b c : List Lexeme) → Sofar (b ++ c) → Sofar b
beginning b c h = record { on = c ++ h.on; policies = h.policies; belongs = less_asked 31 (λ n r. Beyond h.on r) (λ n r. Beyond (c ++ h.on) r) (λ n r l. let k = longer h.on in omega arith) (rw append_assoc at h.belongs) }
  where
    longer : (on : List Lexeme) → length on ≤ length (c ++ on)
    longer on = let l = length-append c on in omega arith

-- A rule text breaks no rule.
pub text_alive : (i : List Lexeme) (ps : List Policy) → RuleText sizes i ps → Sofar i
text_alive i ps h = record { on = []; policies = ps; belongs = rw append-nil (weaker (λ r. record { asks = λ v l t. inl t; levels = refl }) h) }

-- So what is refused is none.
pub no_text_refused : (i r : List Lexeme) (ps : List Policy) → Refused i r → ¬ RuleText sizes i ps
no_text_refused i [] ps w h = w.no_text ps refl (rw (w.split, append-nil) at h)
no_text_refused i (x ∷ s) ps w h = w.dead x s refl (beginning (w.before ++ x ∷ []) s (rw (w.split, cut) at (text_alive i ps h)))

pub one_place : OnePlace
unfolding OnePlace
one_place i r s h k =
    same_place Sofar beginning h.before k.before r s (sym h.split ∙ k.split)
    (record { alive = h.alive; dead = h.dead })
    (record { alive = k.alive; dead = k.dead })
