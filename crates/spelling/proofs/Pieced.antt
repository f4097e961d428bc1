-- In a rule text `;` ends policies and stands nowhere else: cut behind each, it falls into its policies, and rule texts one after the other are one.
-- Assumes nothing.
use mathlib.Core.Path.{◌≡◌, refl, ap, ◌∙◌, sym, subst}
use mathlib.Core.Bool.{Bool, true, false, cond, not}
use mathlib.Core.List.{List, [], ◌∷◌, ◌++◌, append_assoc, append-nil, append_cancel_right}
use Prim.Native.Nat.{ℕ, suc, ◌+◌, ◌≤◌, ◌<◌}
use native.Mathlib.Omega.{arith}
use lib.Dec.{eqb, leb}
use lib.ListN.{length, length-append}
use borrow.Author.Tests.{eq-eqb, leb-true, ltb-true, lt-ltb, not-true}
use Rattle.tokens.specs.Kinds as kinds
use Rattle.tokens.proofs.TokenLaws.{and_left, and_right}
use Rattle.tokens.specs.Sizes.{most_policies}
use Rattle.reading.specs.Lexemes.{Lexeme, is}
use Rattle.grammar.specs.Policies.{Policy}
use Rattle.grammar.specs.Grammar.{Policies, policy, PolicyRest, RuleText, sizes}
use Rattle.grammar.specs.Grammar as grammar
use Rattle.grammar.specs.Promise.{Unambiguous}
use Rattle.grammar.proofs.Begun.{Swap, here, step, Eases}
use Rattle.grammar.proofs.Framing.{framed_policy}
use Rattle.grammar.proofs.Exactly.{one_reading}
use Rattle.spelling.specs.Pieces.{on_first, pieces, semicolons, EachSays, none, one}
use Rattle.spelling.proofs.Laid.{Fine, fine}
use Rattle.spelling.proofs.Laid as laid
use Rattle.spelling.specs.Spelling.{closed}
use Rattle.spelling.proofs.Inner.{inner, Spends, effect_inner, policy_closes}
use Rattle.spelling.proofs.Inner as inside

-- ---- tokens up to the first `;`

inner_fine : (k : ℕ) → inner k ≡ true → 7 ≤ k
unfolding inner
inner_fine k e = leb-true 7 k (and_left _ _ e)

inner_other : (k : ℕ) → inner k ≡ true → eqb k kinds.semicolon ≡ false
unfolding inner
inner_other k e = not-true _ (and_right (leb 7 k) _ e)

-- the tokens that are spent
taken : {i r : List Lexeme} → Spends i r → List Lexeme
taken inside.Spends.none = []
taken (inside.Spends.one {x = x} e a) = x ∷ taken a

taken_split : {i r : List Lexeme} (a : Spends i r) → i ≡ taken a ++ r
unfolding taken
taken_split inside.Spends.none = refl
taken_split (inside.Spends.one {x = x} e a) = ap (λ (l : List Lexeme). x ∷ l) (taken_split a)

closed_first : (s : Lexeme) (m : List Lexeme) → s.kind ≡ kinds.semicolon → closed m ≡ true → closed (s ∷ m) ≡ true
unfolding closed
closed_first s [] h e = eq-eqb s.kind 59 h
closed_first s (y ∷ m) h e = e

module _ {s : Lexeme} {m : List Lexeme} (h : s.kind ≡ kinds.semicolon) where
  spent_pieces : {i : List Lexeme} (a : Spends i (s ∷ m)) → pieces i ≡ (taken a ++ s ∷ []) ∷ pieces m
  unfolding taken pieces on_first
  spent_pieces inside.Spends.none = rw (eq-eqb s.kind 59 h)
  spent_pieces (inside.Spends.one {x = x} e a) = rw (inner_other x.kind e, spent_pieces a)

  spent_count : {i : List Lexeme} → Spends i (s ∷ m) → semicolons i ≡ suc (semicolons m)
  unfolding semicolons
  spent_count inside.Spends.none = rw (eq-eqb s.kind 59 h)
  spent_count (inside.Spends.one {x = x} e a) = rw (inner_other x.kind e) (spent_count a)

  spent_fine : {i : List Lexeme} → Spends i (s ∷ m) → Fine m → Fine i
  spent_fine inside.Spends.none f = fine {x = s} (omega arith) f
  spent_fine (inside.Spends.one {x = x} e a) f = fine (inner_fine x.kind e) (spent_fine a f)

  spent_closed : {i : List Lexeme} → Spends i (s ∷ m) → closed m ≡ true → closed i ≡ true
  unfolding closed
  spent_closed inside.Spends.none e = closed_first s m h e
  spent_closed (inside.Spends.one {x = x} f inside.Spends.none) e = closed_first s m h e
  spent_closed (inside.Spends.one {x = x} f (inside.Spends.one {x = y} {i = i} g a)) e = spent_closed {i = y ∷ i} (inside.Spends.one {x = y} {i = i} g a) e

-- ---- policies before another rest

swap_parts : {r s i j : List Lexeme} → Swap r s i j → (b : List Lexeme) × (i ≡ b ++ r) × (j ≡ b ++ s)
swap_parts here = ([], refl, refl)
swap_parts (step {x = x} w) = let q = swap_parts w in (x ∷ q.0, ap (λ (l : List Lexeme). x ∷ l) q.1, ap (λ (l : List Lexeme). x ∷ l) q.2)

same_sizes : {r s : List Lexeme} → Eases sizes sizes r s
same_sizes = record { asks = λ w l h. h; levels = refl }

-- a policy's tokens b before another rest
policy_moved : {permits : Bool} {i m : List Lexeme} {p : Policy} (b s : List Lexeme) → PolicyRest sizes permits i m p → i ≡ b ++ m
    → PolicyRest sizes permits (b ++ s) s p
policy_moved {permits} {m = m} {p = p} b s h e =
    let q = (framed_policy permits).at (same_sizes {r = m} {s = s}) h here in
    let w = swap_parts q.1 in
    let same : w.0 ≡ b = append_cancel_right w.0 b m (sym w.1 ∙ e) in
    subst (λ (j : List Lexeme). PolicyRest sizes permits j s p) (w.2 ∙ ap (λ (l : List Lexeme). l ++ s) same) q.2

-- ---- a rule text by its pieces

-- Of what follows the policies ps: its policies, which its pieces say; as many `;`; no refused token; and nothing behind the last `;`.
pub record Pieced (ps : List Policy) (i : List Lexeme) (qs : List Policy) : Type 0 where
  pub said : List Policy
  pub whole : qs ≡ ps ++ said
  pub each : EachSays (pieces i) said
  pub count : semicolons i ≡ length said
  pub all_fine : Fine i
  pub at_end : closed i ≡ true

policies_pieced : {ps qs : List Policy} {i : List Lexeme} → Policies sizes ps i qs → Pieced ps i qs
unfolding pieces semicolons closed taken
policies_pieced {ps} grammar.Policies.end =
    record { said = []; whole = sym (append-nil ps); each = none; count = refl; all_fine = laid.Fine.none; at_end = refl }
policies_pieced {ps} (policy {x = x} {i = i} {m = m} {p = p} e l h k) =
    let r = policies_pieced k in
    let c = policy_closes sizes h in
    let s = c.semicolon in
    let a : Spends (x ∷ i) (s ∷ m) = inside.Spends.one (effect_inner x e) c.spends in
    let b = taken c.spends ++ s ∷ [] in
    let split : i ≡ b ++ m = taken_split c.spends ∙ sym (append_assoc (taken c.spends) (s ∷ []) m) in
    let alone : PolicyRest sizes (is kinds.permit_word x) b [] p =
    subst (λ (j : List Lexeme). PolicyRest sizes (is kinds.permit_word x) j [] p) (append-nil b) (policy_moved b [] h split) in
    record {
      said = p ∷ r.said;
      whole = r.whole ∙ append_assoc ps (p ∷ []) r.said;
      each =
          subst (λ (l : List (List Lexeme)). EachSays l (p ∷ r.said)) (sym (spent_pieces c.is_one a))
          (one (policy e (refl) alone grammar.Policies.end) r.each);
      count = spent_count c.is_one a ∙ ap suc r.count;
      all_fine = spent_fine c.is_one a r.all_fine;
      at_end = spent_closed c.is_one a r.at_end;
    }

-- in a rule text `;` ends policies and stands nowhere else: there are as many as policies
pub semicolons_end : {i : List Lexeme} {ps : List Policy} → RuleText sizes i ps → semicolons i ≡ length ps
semicolons_end h = let r = policies_pieced h in r.count ∙ ap (λ (l : List Policy). length l) (sym r.whole)

-- and the tokens behind one up to the next are those of one policy
pub pieces_say : {i : List Lexeme} {ps : List Policy} → RuleText sizes i ps → EachSays (pieces i) ps
pieces_say {i} h = let r = policies_pieced h in subst (EachSays (pieces i)) (sym r.whole) r.each

-- no token of a rule text is a refusal, and its last token is `;`
pub text_fine : {i : List Lexeme} {ps : List Policy} → RuleText sizes i ps → Fine i
text_fine h = (policies_pieced h).all_fine

pub text_closed : {i : List Lexeme} {ps : List Policy} → RuleText sizes i ps → closed i ≡ true
text_closed h = (policies_pieced h).at_end

-- a rule text says at most 64 policies
policies_most : {ps qs : List Policy} {i : List Lexeme} → Policies sizes ps i qs → length ps ≤ most_policies → length qs ≤ most_policies
policies_most grammar.Policies.end h = h
policies_most {ps} (policy {p = p} e l h k) g = policies_most k (let z = length-append ps (p ∷ []) in let y = ltb-true (length ps) most_policies l in omega arith)

pub text_most : {i : List Lexeme} {ps : List Policy} → RuleText sizes i ps → length ps ≤ most_policies
text_most h = policies_most h (omega arith)

policies_longer : {ps qs : List Policy} {i : List Lexeme} → Policies sizes ps i qs → length ps ≤ length qs
policies_longer {ps} h = let r = policies_pieced h in omega (arith, ap (λ (l : List Policy). length l) r.whole, length-append ps r.said)

-- ---- rule texts one after the other

policies_then : {ps qs rs : List Policy} {i j : List Lexeme} → Policies sizes ps i qs → Policies sizes qs j rs → Policies sizes ps (i ++ j) rs
policies_then grammar.Policies.end k = k
policies_then {j = j} (policy {i = i} {m = m} e l h g) k =
    let c = policy_closes sizes h in
    let b = taken c.spends ++ c.semicolon ∷ [] in
    let split : i ≡ b ++ m = taken_split c.spends ∙ sym (append_assoc (taken c.spends) (c.semicolon ∷ []) m) in
    let longer : b ++ (m ++ j) ≡ i ++ j = sym (append_assoc b m j) ∙ ap (λ (l : List Lexeme). l ++ j) (sym split) in
    policy e l (rw longer at (policy_moved b (m ++ j) h split)) (policies_then g k)

-- the policies behind some others
policies_behind : (pre : List Policy) {ps qs : List Policy} {i : List Lexeme} → Policies sizes ps i qs → length pre + length qs ≤ most_policies
    → Policies sizes (pre ++ ps) i (pre ++ qs)
policies_behind pre grammar.Policies.end h = grammar.Policies.end
policies_behind pre {ps} {qs} (policy {i = i} {m = m} {p = p} e l g k) h =
    let longer : length (ps ++ p ∷ []) ≤ length qs = policies_longer k in
    let room : length (pre ++ ps) < most_policies = omega (arith, length-append pre ps, length-append ps (p ∷ [])) in
    policy e (lt-ltb _ _ room) g (rw (← append_assoc) at (policies_behind pre k h))

-- two rule texts one after the other are a rule text, if they have no more than 64 policies together
pub texts_join : {i j : List Lexeme} {ps qs : List Policy} → RuleText sizes i ps → RuleText sizes j qs → length ps + length qs ≤ most_policies
    → RuleText sizes (i ++ j) (ps ++ qs)
texts_join {j = j} {ps = ps} {qs = qs} a b h =
    policies_then a (subst (λ (l : List Policy). Policies sizes l j (ps ++ qs)) (append-nil ps) (policies_behind ps b h))

-- ---- a rule text that begins with a rule text

pieces_some : (y : Lexeme) (ts : List Lexeme) → (p : List Lexeme) × (ps : List (List Lexeme)) × (pieces (y ∷ ts) ≡ p ∷ ps)
unfolding pieces on_first
pieces_some y ts = go (is kinds.semicolon y) (pieces ts)
  where
    go : (b : Bool) (l : List (List Lexeme)) → (p : List Lexeme) × (ps : List (List Lexeme)) × (cond b ((y ∷ []) ∷ l) (on_first y l) ≡ p ∷ ps)
    go true l = (y ∷ [], l, refl)
    go false [] = (y ∷ [], [], refl)
    go false (p ∷ ps) = (y ∷ p, ps, refl)

-- the pieces of both are those of the first and those of the second
pieces_append : (ts us : List Lexeme) → closed ts ≡ true → pieces (ts ++ us) ≡ pieces ts ++ pieces us
unfolding pieces on_first closed
pieces_append [] us e = refl
pieces_append (x ∷ []) us e = rw e
pieces_append (x ∷ y ∷ ts) us e = go (is kinds.semicolon x) (pieces_append (y ∷ ts) us e) (pieces_some y ts)
  where
    go : (b : Bool) → pieces (y ∷ (ts ++ us)) ≡ pieces (y ∷ ts) ++ pieces us → (p : List Lexeme) × (ps : List (List Lexeme)) × (pieces (y ∷ ts) ≡ p ∷ ps)
        → cond b ((x ∷ []) ∷ pieces (y ∷ (ts ++ us))) (on_first x (pieces (y ∷ (ts ++ us))))
        ≡ cond b ((x ∷ []) ∷ pieces (y ∷ ts)) (on_first x (pieces (y ∷ ts))) ++ pieces us
    go true h q = ap (λ (l : List (List Lexeme)). (x ∷ []) ∷ l) h
    go false h q =
        ap (on_first x) (h ∙ ap (λ (l : List (List Lexeme)). l ++ pieces us) q.2) ∙ ap (λ (l : List (List Lexeme)). on_first x l ++ pieces us) (sym q.2)

-- all tokens of some pieces
unfoldable pub all_of : List (List Lexeme) → List Lexeme
all_of [] = []
all_of (p ∷ ps) = p ++ all_of ps

-- the pieces of a list are the list
pub pieces_all : (ts : List Lexeme) → all_of (pieces ts) ≡ ts
unfolding pieces on_first all_of
pieces_all [] = refl
pieces_all (x ∷ ts) = go (is kinds.semicolon x) (pieces ts) (pieces_all ts)
  where
    go : (b : Bool) (l : List (List Lexeme)) → all_of l ≡ ts → all_of (cond b ((x ∷ []) ∷ l) (on_first x l)) ≡ x ∷ ts
    go true l h = ap (λ (m : List Lexeme). x ∷ m) h
    go false [] h = ap (λ (m : List Lexeme). x ∷ m) h
    go false (p ∷ ps) h = ap (λ (m : List Lexeme). x ∷ m) h

-- pieces that say policies are together a rule text that says these
each_text : {tss : List (List Lexeme)} {ps : List Policy} → EachSays tss ps → (pre : List Policy) → length pre + length ps ≤ most_policies
    → Policies sizes pre (all_of tss) (pre ++ ps)
unfolding all_of
each_text none pre h = rw (append-nil pre) grammar.Policies.end
each_text (one {ts = ts} {p = p} {tss = tss} {ps = ps} a k) pre h =
    let size = length-append pre (p ∷ []) in
    let first : Policies sizes pre ts (pre ++ p ∷ []) =
    subst (λ (l : List Policy). Policies sizes l ts (pre ++ p ∷ [])) (append-nil pre) (policies_behind pre a (omega arith)) in
    let rest : Policies sizes (pre ++ p ∷ []) (all_of tss) (pre ++ p ∷ ps) =
    subst (Policies sizes (pre ++ p ∷ []) (all_of tss)) (append_assoc pre (p ∷ []) ps) (each_text k (pre ++ p ∷ []) (omega arith)) in
    policies_then first rest

-- tokens whose pieces say one policy each are a rule text
pub pieces_text : (ts : List Lexeme) {ps : List Policy} → EachSays (pieces ts) ps → length ps ≤ most_policies → RuleText sizes ts ps
pieces_text ts {ps} e h = subst (λ (l : List Lexeme). RuleText sizes l ps) (pieces_all ts) (each_text e [] (omega arith))

-- what begins and what follows, in two lists of pieces
data Splits (a b : List (List Lexeme)) : List Policy → Type 0 where
  splits : {ps qs : List Policy} → EachSays a ps → EachSays b qs → Splits a b (ps ++ qs)

each_split : (a b : List (List Lexeme)) {rs : List Policy} → EachSays (a ++ b) rs → Splits a b rs
each_split [] b h = splits none h
each_split (ts ∷ a) b (one {p = p} h k) = go (each_split a b k)
  where
    go : {ps : List Policy} → Splits a b ps → Splits (ts ∷ a) b (p ∷ ps)
    go (splits x y) = splits (one h x) y

each_one : {a : List (List Lexeme)} {ps qs : List Policy} → EachSays a ps → EachSays a qs → ps ≡ qs
unfolding Unambiguous
each_one none none = refl
each_one (one {ts = ts} {p = p} h a) (one {p = q} g b) = let e = one_reading ts (p ∷ []) (q ∷ []) h g in let f = each_one a b in cc

-- What a text of tokens says that begins with a rule text: first what that one says, then what the rest does, which is a rule text too.
pub data BeginsWith (us : List Lexeme) (ps : List Policy) : List Policy → Type 0 where
  goes_on : {qs : List Policy} → RuleText sizes us qs → BeginsWith us ps (ps ++ qs)

pub text_prefix : (ts us : List Lexeme) {ps rs : List Policy} → RuleText sizes ts ps → RuleText sizes (ts ++ us) rs → BeginsWith us ps rs
text_prefix ts us {ps} {rs} a b =
    go
    (each_split (pieces ts) (pieces us) (subst (λ (l : List (List Lexeme)). EachSays l rs) (pieces_append ts us (text_closed a)) (pieces_say b)))
    (text_most b)
  where
    go : {qs : List Policy} → Splits (pieces ts) (pieces us) qs → length qs ≤ most_policies → BeginsWith us ps qs
    go (splits {ps = os} {qs = qs} x y) h =
        rw (each_one x (pieces_say a)) (goes_on (pieces_text us y (let z = length-append os qs in omega arith)))

-- ---- a rule text falls into two

pub record TwoTexts (i : List Lexeme) (ps qs : List Policy) : Type 0 where
  pub first : List Lexeme
  pub second : List Lexeme
  pub parts : i ≡ first ++ second
  pub first_says : RuleText sizes first ps
  pub second_says : RuleText sizes second qs

text_halved : (ps : List Policy) {qs : List Policy} {tss : List (List Lexeme)} → EachSays tss (ps ++ qs)
    → (a : List (List Lexeme)) × (b : List (List Lexeme)) × (tss ≡ a ++ b) × EachSays a ps × EachSays b qs
text_halved [] {tss = tss} h = ([], tss, refl, none, h)
text_halved (p ∷ ps) (one {ts = ts} h k) =
    let q = text_halved ps k in (ts ∷ q.0, q.1, ap (λ (l : List (List Lexeme)). ts ∷ l) q.2, one h q.3, q.4)

all_append : (a b : List (List Lexeme)) → all_of (a ++ b) ≡ all_of a ++ all_of b
unfolding all_of
all_append [] b = refl
all_append (ts ∷ a) b = ap (λ (l : List Lexeme). ts ++ l) (all_append a b) ∙ sym (append_assoc ts (all_of a) (all_of b))

-- behind each of its policies
pub text_split : (ps qs : List Policy) {i : List Lexeme} → RuleText sizes i (ps ++ qs) → TwoTexts i ps qs
text_split ps qs {i} h =
    let q = text_halved ps (pieces_say h) in
    let most = text_most h in
    let size = length-append ps qs in
    record {
      first = all_of q.0;
      second = all_of q.1;
      parts = sym (pieces_all i) ∙ (ap all_of q.2 ∙ all_append q.0 q.1);
      first_says = each_text q.3 [] (omega arith);
      second_says = each_text q.4 [] (omega arith);
    }
