-- Texts at policy borders: one behind the other they say the policies of both, a text that begins with a rule text says its policies first,
-- and a text falls into two at each border. Assumes nothing.
use mathlib.Core.Path.{◌≡◌, refl, ap, subst}
use mathlib.Core.List.{List, [], ◌∷◌, ◌++◌, map, append_cancel_left}
use Prim.Native.Nat.{ℕ, ◌+◌, ◌-◌, ◌≤◌}
use native.Mathlib.Omega.{arith}
use lib.ListN.{length, length-map}
use Rattle.tokens.specs.Forms.{All}
use Rattle.tokens.specs.declared.classes.Sort.TheVariants.{Blanks}
use Rattle.tokens.specs.Sizes.{most_policies}
use Rattle.reading.specs.Lexemes.{Lexeme, tokens_of}
use Rattle.grammar.specs.Policies.{Policy}
use Rattle.grammar.specs.Grammar.{RuleText, sizes}
use Rattle.grammar.specs.Grammar as grammar
use Rattle.grammar.specs.Promise.{Unambiguous}
use Rattle.grammar.proofs.Exactly.{one_reading}
use Rattle.grammar.specs.Moves.{Move, further, moved_policy, further_on}
use Rattle.spelling.specs.Moves.{moved_lexeme, AllKeep, nothing, keeps}
use Rattle.spelling.specs.Texts.{TokensSay, FollowedBy, TwoTexts}
use Rattle.spelling.proofs.Laid.{Laid, Laid.blank, laid_tokens, tokens_laid}
use Rattle.spelling.proofs.Joins.{tokens_closed, laid_cut}
use Rattle.spelling.proofs.Pieced.{text_fine, text_closed, texts_join, BeginsWith, goes_on, text_prefix, text_split}
use Rattle.spelling.proofs.MoveLaws.{text_moved}

-- ---- further on, and back

back : ℕ → Move
back n = record { first = λ i. i - n; behind = λ i. i - n }

further_keeps : (n : ℕ) (ts : List Lexeme) → AllKeep (further n) ts
further_keeps n [] = nothing
further_keeps n (x ∷ ts) = let e : n + x.end - (n + x.start) ≡ x.end - x.start = omega arith in keeps e (further_keeps n ts)

back_keeps : (n : ℕ) (ts : List Lexeme) → AllKeep (back n) (map (moved_lexeme (further n)) ts)
unfolding back
back_keeps n [] = nothing
back_keeps n (x ∷ ts) = let e : n + x.end - n - (n + x.start - n) ≡ n + x.end - (n + x.start) = omega arith in keeps e (back_keeps n ts)

back_again : (n : ℕ) (ts : List Lexeme) → map (moved_lexeme (back n)) (map (moved_lexeme (further n)) ts) ≡ ts
unfolding back
back_again n [] = refl
back_again n (x ∷ ts) =
    let s : n + x.start - n ≡ x.start = omega arith in
    let e : n + x.end - n ≡ x.end = omega arith in
    rw (s, e) (ap (λ (l : List Lexeme). x ∷ l) (back_again n ts))

-- what moved tokens say, the tokens say by their own places
pub moved_back : (n : ℕ) (ts : List Lexeme) {qs : List Policy} → RuleText sizes (map (moved_lexeme (further n)) ts) qs
    → (ps : List Policy) × RuleText sizes ts ps × (qs ≡ further_on n ps)
unfolding Unambiguous
moved_back n ts {qs} h =
    let ps = map (moved_policy (back n)) qs in
    let own : RuleText sizes ts ps = subst (λ (l : List Lexeme). RuleText sizes l ps) (back_again n ts) (text_moved (back n) (back_keeps n ts) h) in
    let again : RuleText sizes (map (moved_lexeme (further n)) ts) (further_on n ps) = text_moved (further n) (further_keeps n ts) own in
    (ps, own, one_reading (map (moved_lexeme (further n)) ts) qs (further_on n ps) h again)

-- ---- one behind the other

-- two texts one behind the other say the policies of the first, and those of the second so much further on
pub texts_say : (t u : List ℕ) {ps qs : List Policy} → TokensSay t ps → TokensSay u qs → length ps + length qs ≤ most_policies
    → TokensSay (t ++ u) (ps ++ further_on (length t) qs)
texts_say t u {ps} {qs} a b h =
    let moved_u = text_moved (further (length t)) (further_keeps (length t) (tokens_of u)) b in
    let few : length ps + length (further_on (length t) qs) ≤ most_policies = rw (length-map qs (moved_policy (further (length t)))) h in
    rw (tokens_closed t u (text_fine a) (text_closed a)) (texts_join a moved_u few)

-- a text of blanks says nothing
pub blanks_say : {b : List ℕ} → All Blanks b → TokensSay b []
blanks_say a = rw (laid_tokens (Laid.blank a)) grammar.Policies.end

-- two texts with blanks between them
pub spaced_say : (t b u : List ℕ) {ps qs : List Policy} → TokensSay t ps → All Blanks b → TokensSay u qs → length ps + length qs ≤ most_policies
    → TokensSay (t ++ (b ++ u)) (ps ++ further_on (length t) (further_on (length b) qs))
spaced_say t b u {ps} {qs} a c d h =
    let few : length ps + length (further_on (length b) qs) ≤ most_policies = rw (length-map qs (moved_policy (further (length b)))) h in
    texts_say t (b ++ u) a (texts_say b u (blanks_say c) d (omega arith)) few

-- a text that begins with a rule text says its policies first, and the rest is a rule text too
pub text_begins : (t u : List ℕ) {ps rs : List Policy} → TokensSay t ps → TokensSay (t ++ u) rs → FollowedBy t u ps rs
text_begins t u {ps} {rs} a b =
    go (text_prefix (tokens_of t) (map (moved_lexeme (further (length t))) (tokens_of u)) a
    (subst (λ (l : List Lexeme). RuleText sizes l rs) (tokens_closed t u (text_fine a) (text_closed a)) b))
  where
    go : {os : List Policy} → BeginsWith (map (moved_lexeme (further (length t))) (tokens_of u)) ps os → FollowedBy t u ps os
    go (goes_on h) = let q = moved_back (length t) (tokens_of u) h in record { rest = q.0; says = q.1; whole = ap (λ (l : List Policy). ps ++ l) q.2 }

-- ---- a text falls into two

-- behind each of its policies: the first part ends with that policy's `;`
pub text_cut : (text : List ℕ) (ps qs : List Policy) → TokensSay text (ps ++ qs) → TwoTexts text ps qs
text_cut text ps qs h =
    let s = text_split ps qs h in
    let l : Laid 0 text (s.first ++ s.second) = subst (Laid 0 text) s.parts (tokens_laid text (text_fine h)) in
    let c = laid_cut s.first s.second l in
    let says : TokensSay c.first ps = rw (laid_tokens c.first_laid) s.first_says in
    let r = text_begins c.first c.second says (subst (λ (m : List ℕ). TokensSay m (ps ++ qs)) c.parts h) in
    record {
      first = c.first;
      second = c.second;
      parts = c.parts;
      first_says = says;
      rest = r.rest;
      second_says = r.says;
      moved = append_cancel_left ps qs (further_on (length c.first) r.rest) r.whole;
    }
