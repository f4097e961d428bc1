-- What is admitted behind tokens that break no rule, and what the last of these tokens say of it. Assumes nothing.
use mathlib.Core.Path.{◌≡◌, refl, sym, ap, ◌∙◌}
use mathlib.Core.Logic.{◌⊎◌, inl, inr, ⊎_elim}
use mathlib.Core.Bool.{Bool, true, false, cond, ◌&&◌}
use mathlib.Core.List.{List, [], ◌∷◌, ◌++◌, reverse, reverse_aux, append-nil, reverse_aux-eq, reverse_aux-append, reverse-reverse}
use Prim.Native.Nat.{ℕ, ◌+◌, ◌≤◌, ◌<◌}
use native.Mathlib.Omega.{arith}
use lib.Dec.{eqb, ltb}
use lib.ListN.{length}
use borrow.Author.Tests.{eqb-true, eqb-false, ltb-true, ltb-false}
use Rattle.slices.specs.Same as strings
use Rattle.tokens.specs.Kinds as kinds
use Rattle.tokens.proofs.TokenLaws.{never, and_left, and_right, or_cases}
use Rattle.tokens.specs.Sizes.{most_literals}
use Rattle.reading.specs.Lexemes.{Lexeme, is}
use Rattle.reading.specs.Reads.{Chain.alone, Chain.more}
use Rattle.reading.specs.Reader.{Answer, took, refuse}
use Rattle.reading.proofs.Readers.{goes_took, goes_refused}
use Rattle.reading.proofs.Local.{Alike, same}
use Rattle.grammar.specs.Policies.{Root, Operand, Policy}
use Rattle.grammar.specs.Rules.{principal_types, resource_types, type_among, is_root, root_of}
use Rattle.grammar.specs.Grammar.{lifting, Beyond, sizes_before, unlimited, Path, first, next, APath, Attribute, rooted, RuleText}
use Rattle.grammar.specs.Parser.{read_text}
use Rattle.grammar.specs.Numbers.{last_passes, at_name, at_type, at_pattern, after_policy, at_condition, left_root, after_left, after_action, one_more, number_of_token, number_of_first, NumberedRightly}
use Rattle.grammar.specs.Promise.{Sofar, RefusedRightly, TokensAcceptedExactly}
use Rattle.grammar.specs.Lowest.{Under, Admitted, SomeAdmitted, NameMustStand, EndsInOperand, rank}
use Rattle.grammar.proofs.Begun.{made, Exempt}
use Rattle.grammar.proofs.Viable.{Opened, viable_text}
use Rattle.grammar.proofs.Theorems.{cut, swap_is, less_asked, beginning, text_alive, refused_rightly}
use Rattle.grammar.proofs.Telling.{Past, here, step, past_then}
use Rattle.grammar.proofs.Spots.{OnPath, dotted, longer, Named, named, named_place}
use Rattle.grammar.proofs.Numbered.{past_is, numbered_rightly}
use Rattle.grammar.proofs.Walked.{some_type, Walks, walk_policies, name_place, bang_place, NameFirst, name_first, type_next}

-- ---- where a limit refuses

-- less asked of the same tokens
pub less_under : {Asked Kept : ℕ → Type 0} {b : List Lexeme} → ((n : ℕ) → Kept n → Asked n) → Under Asked b → Under Kept b
less_under {Asked = Asked} {Kept = Kept} f u = record {
  on = u.on;
  levels = u.levels;
  policies = u.policies;
  shallow = λ a. u.shallow (f 12 a);
  belongs = less_asked u.levels (λ n r. (¬ Asked n) ⊎ Beyond u.on r) (λ n r. (¬ Kept n) ⊎ Beyond u.on r)
      (λ n r h. elim h [ inl g ↦ inl (λ a. g (f n a)) | inr l ↦ inr l ]) u.belongs;
}

-- the text that goes on with the refused token x keeps every limit that goes before n up to x
opened_under : (k n : ℕ) (b : List Lexeme) (x : Lexeme) (s : List Lexeme) → 11 ≤ n → (n ≡ 12 → 1 ≤ k) → (rank 12 < rank n → 31 + k ≤ 31) → Opened k (b ++ x ∷ s) n (x ∷ s)
    → Under (λ m. rank m < rank n) (b ++ x ∷ [])
opened_under k n b x s l d shallow o = go o.on (o.kept l d) (rw (swap_is b o.swapped refl) at o.belongs)
  where
    but : (on r : List Lexeme) (m : ℕ) → Exempt n (x ∷ on) m r → (b : Bool) → ltb (rank m) (rank n) ≡ b → (¬ (rank m < rank n)) ⊎ Beyond on r
    but on r m h true e = inr (let y = h.first (ltb-true (rank m) (rank n) e) l in omega arith)
    but on r m h false e = inl (λ f. let y = ltb-false (rank m) (rank n) e in omega (arith, y, f))

    go : (on : List Lexeme) → Alike (x ∷ s) on → RuleText (lifting (31 + k) (Exempt n on)) (b ++ on) o.policies → Under (λ m. rank m < rank n) (b ++ x ∷ [])
    go (y ∷ on) same h = record {
      on = on;
      levels = 31 + k;
      policies = o.policies;
      shallow = shallow;
      belongs = less_asked (31 + k) (Exempt n (x ∷ on)) (λ m r. (¬ (rank m < rank n)) ⊎ Beyond on r) (λ m r c. but on r m c (ltb (rank m) (rank n)) refl) (rw (← cut b x on) h);
    }
    go [] e h = elim e [ ]

-- Refused by the limit n at x: some rule text goes on with x where every limit is asked that goes before n.
pub goes_on_else : (b : List Lexeme) (x : Lexeme) (s : List Lexeme) (n : ℕ) → read_text (b ++ x ∷ s) ≡ refuse n (x ∷ s) → 11 ≤ n → Under (λ m. rank m < rank n) (b ++ x ∷ [])
goes_on_else b x s n e l = go (eqb n 12) refl
  where
    go : (o : Bool) → eqb n 12 ≡ o → Under (λ m. rank m < rank n) (b ++ x ∷ [])
    go true q = opened_under 1 n b x s l (λ d. omega arith) (λ f. absurd (let g : rank n ≡ 12 = ap rank (eqb-true n 12 q) in omega (arith, f, g))) (goes_refused (rw e at (viable_text 1 (b ++ x ∷ s))))
    go false q = opened_under 0 n b x s l (λ d. absurd (eqb-false n 12 q d)) (λ f. omega arith) (goes_refused (rw e at (viable_text 0 (b ++ x ∷ s))))

-- ---- what the reader would refuse by a limit, or take, is admitted

-- the token that follows b in a rule text
next_admitted : (b : List Lexeme) (y : Lexeme) (on : List Lexeme) (ps : List Policy) → RuleText (sizes_before (y ∷ on)) (b ++ y ∷ on) ps → Admitted b y
next_admitted b y on ps h = record {
  under = record {
    on = on;
    levels = 31;
    policies = ps;
    shallow = λ a. omega arith;
    belongs = less_asked 31 (λ n r. Beyond (y ∷ on) r) (λ n r. (¬ ⊥) ⊎ Beyond on r) (λ n r l. inl (λ a. a)) (rw cut at h);
  };
}

alive_admitted : (b : List Lexeme) (y : Lexeme) → Sofar (b ++ y ∷ []) → Admitted b y
alive_admitted b y h = record {
  under = record {
    on = h.on;
    levels = 31;
    policies = h.policies;
    shallow = λ a. omega arith;
    belongs = less_asked 31 (λ n r. Beyond h.on r) (λ n r. (¬ ⊥) ⊎ Beyond h.on r) (λ n r l. inr l) h.belongs;
  };
}

-- where b and then y is cut into p and r: at the end, before y, or sooner
data Cut (b : List Lexeme) (y : Lexeme) (p r : List Lexeme) : Type 0 where
  at_end : p ≡ b ++ y ∷ [] → Cut b y p r
  before_last : p ≡ b → r ≡ y ∷ [] → Cut b y p r
  sooner : (z : Lexeme) (t u : List Lexeme) → r ≡ z ∷ t → b ≡ p ++ z ∷ u → Cut b y p r

where_cut : (b : List Lexeme) (y : Lexeme) (p r : List Lexeme) → b ++ y ∷ [] ≡ p ++ r → Cut b y p r
where_cut [] y [] r e = before_last refl (sym e)
where_cut [] y (q ∷ []) r e = at_end (let f : y ≡ q = cc in rw f)
where_cut [] y (q ∷ p ∷ ps) r e = absurd (let f : ◌≡◌ {A = List Lexeme} [] (p ∷ ps ++ r) = cc in let g = ap (λ (l : List Lexeme). length l) f in omega arith)
where_cut (x ∷ b) y [] r e = sooner x (b ++ y ∷ []) b (sym e) refl
where_cut (x ∷ b) y (q ∷ p) r e = go (where_cut b y p r (cc))
  where
    f : x ≡ q
    f = cc

    go : Cut b y p r → Cut (x ∷ b) y (q ∷ p) r
    go (at_end h) = at_end (rw (f, h))
    go (before_last h k) = before_last (rw (f, h)) k
    go (sooner z t u h k) = sooner z t u h (rw (f, k))

pub by_number : (b : List Lexeme) (y : Lexeme) → Sofar b → 11 ≤ number_of_token (reverse b) y → Admitted b y
unfolding TokensAcceptedExactly RefusedRightly NumberedRightly number_of_first
by_number b y alive l = go (read_text (b ++ y ∷ [])) refl
  where
    go : (a : Answer (List Policy)) → read_text (b ++ y ∷ []) ≡ a → Admitted b y
    go (took ps r) e = alive_admitted b y (text_alive (b ++ y ∷ []) ps (goes_took (rw e at (viable_text 0 (b ++ y ∷ [])))).1)
    go (refuse m r) e = let w = refused_rightly (b ++ y ∷ []) r m e in cases (where_cut b y w.before r w.split)
      where
        cases : Cut b y (refused_rightly (b ++ y ∷ []) r m e).before r → Admitted b y
        cases (at_end h) = alive_admitted b y (rw h at (refused_rightly (b ++ y ∷ []) r m e).alive)
        cases (before_last h k) =
            let f : read_text (b ++ y ∷ []) ≡ refuse m (y ∷ []) = e ∙ rw k in
            let q = numbered_rightly b (y ∷ []) m f in
            record { under = less_under (λ n a. absurd a) (goes_on_else b y [] m f (omega arith)) }
        cases (sooner z t u h k) = absurd ((refused_rightly (b ++ y ∷ []) r m e).dead z t h (beginning _ u (rw (k, cut (refused_rightly (b ++ y ∷ []) r m e).before z u) at alive)))

-- ---- numbers of names and of `!`

no_row : (a : Bool) (l m : ℕ) → 11 ≤ m → 11 ≤ cond (a && false) l m
no_row true l m h = h
no_row false l m h = h

some_row : (a : Bool) (l m : ℕ) → 11 ≤ l → 11 ≤ m → 11 ≤ cond a l m
some_row true l m h k = h
some_row false l m h k = k

name_no_type : (c : List Lexeme) → at_name c ≡ true → at_type c ≡ false
unfolding last_passes
name_no_type [] e = absurd (never e)
name_no_type (y ∷ c) e = ⊎_elim (λ (f : is kinds.dot y ≡ true). rw (eqb-true y.kind kinds.dot f)) (λ (f : is kinds.has_word y ≡ true). rw (eqb-true y.kind kinds.has_word f)) (or_cases (is kinds.dot y) (is kinds.has_word y) e)

name_limited : (c : List Lexeme) (y : Lexeme) → at_name c ≡ true → y.kind ≡ kinds.name → 11 ≤ number_of_token c y
unfolding number_of_token
name_limited c y a e =
    rw (e, a, name_no_type c a)
    (no_row (after_left c) 8 _ (some_row (after_action c) 11 _ (omega arith) (some_row (at_condition c && false) 12 _ (omega arith) (some_row (one_more most_literals c (record { kind = kinds.name; start = y.start; end = y.end; bytes = y.bytes })) 14 _ (omega arith) (some_row (after_policy c && false) 15 16 (omega arith) (omega arith))))))

bang_limited : (c : List Lexeme) → at_condition c ≡ true → 11 ≤ number_of_token c (made kinds.bang)
unfolding number_of_token
bang_limited c a =
    rw a (no_row (at_name c) 7 _ (no_row (after_left c) 8 _ (no_row (at_type c) 9 _ (some_row (at_name c && is kinds.name (made kinds.bang) && after_action c) 11 12 (omega arith) (omega arith)))))

-- ---- where a path name must stand, and where a type must

walk_admitted : (b : List Lexeme) (y : Lexeme) (a : Admitted b y) → Walks [] (b ++ y ∷ a.under.on)
walk_admitted b y a = rw (cut b y a.under.on) (walk_policies _ a.under.belongs [])

pub name_stands : (b : List Lexeme) → Sofar b → at_name (reverse b) ≡ true → NameMustStand b
name_stands b alive a = record { any_name = λ y e. by_number b y alive (name_limited (reverse b) y a e) }

-- a name of no bytes is no type
no_bytes : some_type (made kinds.name) ≡ false
unfolding principal_types resource_types type_among strings.same
no_bytes = refl

pub stands_name : (b : List Lexeme) → NameMustStand b → at_name (reverse b) ≡ true
stands_name b h =
    let y = made kinds.name in let a = h.any_name y refl in
    ⊎_elim (λ e. e) (λ e. absurd (never (sym no_bytes ∙ e.1))) (name_place y a.under.on b (walk_admitted b y a) refl)

pub type_stands : (b : List Lexeme) → Sofar b → at_type (reverse b) ≡ true → SomeAdmitted kinds.name b
unfolding last_passes
type_stands b alive t = go alive.on alive.belongs (type_next alive.on b refl (walk_policies _ alive.belongs []) t)
  where
    go : (on : List Lexeme) → RuleText (sizes_before on) (b ++ on) alive.policies → NameFirst on → SomeAdmitted kinds.name b
    go (y ∷ on) h (name_first e) = record { token = y; is_one = e; admitted = next_admitted b y on alive.policies h }
    go [] h e = elim e [ ]

pub stands_type : (b : List Lexeme) → SomeAdmitted kinds.name b → (at_name (reverse b) ≡ true) ⊎ (at_type (reverse b) ≡ true)
stands_type b h = ⊎_elim (λ e. inl e) (λ e. inr e.0) (name_place h.token h.admitted.under.on b (walk_admitted b h.token h.admitted) h.is_one)

-- ---- behind an attribute as left operand

-- an attribute behind c, by the tokens before a place, the last first, and those behind it
record Some (i r : List Lexeme) : Type 0 where
  value : Operand
  is : Attribute unlimited i r value

record Before (c r : List Lexeme) : Type 0 where
  start : List Lexeme
  tokens : List Lexeme
  attribute : Some tokens r
  split : reverse_aux c r ≡ reverse start ++ tokens
  begins : at_condition start ≡ true

found : (c r : List Lexeme) → after_left c ≡ true → Before c r
unfolding after_left left_root
found [] r e = absurd (never e)
found (n ∷ []) r e = absurd (never e)
found (n ∷ d ∷ []) r e = absurd (never (and_right (is kinds.name n && is kinds.dot d) _ e))
found (n ∷ d ∷ x ∷ c) r e =
    let t = and_left (is kinds.name n && is kinds.dot d) _ e in
    go (eqb-true _ _ (and_left _ _ t)) (eqb-true _ _ (and_right (is kinds.name n) (is kinds.dot d) t))
    (λ t. found (x ∷ c) (d ∷ n ∷ r) t) (or_cases (is_root x && at_condition c) (after_left (x ∷ c)) (and_right (is kinds.name n && is kinds.dot d) _ e))
  where
    longer_by : n.kind ≡ kinds.name → d.kind ≡ kinds.dot → Before (x ∷ c) (d ∷ n ∷ r) → Before (n ∷ d ∷ x ∷ c) r
    longer_by k q h = record { start = h.start; tokens = h.tokens; attribute = more_of h.attribute.is; split = h.split; begins = h.begins }
      where
        more_of : {i : List Lexeme} {a : Operand} → Attribute unlimited i (d ∷ n ∷ r) a → Some i r
        more_of (rooted t f j) = record { value = _; is = rooted t f (more j (rw q) (next k tt)) }

    go : n.kind ≡ kinds.name → d.kind ≡ kinds.dot → (after_left (x ∷ c) ≡ true → Before (x ∷ c) (d ∷ n ∷ r)) → ((is_root x && at_condition c) ≡ true) ⊎ (after_left (x ∷ c) ≡ true) → Before (n ∷ d ∷ x ∷ c) r
    go k q f (inl t) = record {
      start = c;
      tokens = x ∷ d ∷ n ∷ r;
      attribute = record { value = _; is = rooted (and_left _ _ t) q (alone (first k tt)) };
      split = reverse_aux-eq c (x ∷ d ∷ n ∷ r);
      begins = and_right (is_root x) _ t;
    }
    go k q f (inr t) = longer_by k q (f t)

pub left_stands : (b : List Lexeme) → Sofar b → after_left (reverse b) ≡ true → EndsInOperand b
left_stands b alive e =
    let h = found (reverse b) [] e in
    let split : b ≡ reverse h.start ++ h.tokens = sym (reverse-reverse b) ∙ h.split in
    record {
      before = reverse h.start;
      tokens = h.tokens;
      value = h.attribute.value;
      split = split;
      attribute = h.attribute.is;
      begins = record {
        token = made kinds.bang;
        is_one = refl;
        admitted = by_number (reverse h.start) (made kinds.bang) (beginning _ h.tokens (rw split at alive)) (rw (reverse-reverse h.start) (bang_limited h.start h.begins));
      };
    }

-- where a path's names end
record Ending (root : Root) (c i r : List Lexeme) : Type 0 where
  end : List Lexeme
  past : Past end r c i
  last : Named true root end

names_end : {root : Root} {c i r : List Lexeme} {p : Path} → APath unlimited root i r p → OnPath true root c → Ending root c i r
names_end (alone (first e l)) o = record { end = _; past = step here; last = named o e }
names_end {root = root} {c = c} {i = i} (more j e (next k l)) o = go (eqb-true _ _ e) k (names_end j o)
  where
    further : {d n : Lexeme} {r end : List Lexeme} → d.kind ≡ kinds.dot → n.kind ≡ kinds.name → Past end (d ∷ n ∷ r) c i → Named true root end → Ending root c i r
    further q k w (named o h) = record { end = _; past = past_then (step (step here)) w; last = named (longer o h q) k }

    go : {d n : Lexeme} {r : List Lexeme} → d.kind ≡ kinds.dot → n.kind ≡ kinds.name → Ending root c i (d ∷ n ∷ r) → Ending root c i r
    go q k h = further q k h.past h.last

attribute_end : (c : List Lexeme) {i : List Lexeme} {a : Operand} → Attribute unlimited i [] a → at_condition c ≡ true → after_left (reverse_aux i c) ≡ true
attribute_end c (rooted {x = x} {d = d} {i = i} t e j) a = go (names_end j (dotted t e a))
  where
    go : Ending (root_of x) (d ∷ x ∷ c) i [] → after_left (reverse_aux i (d ∷ x ∷ c)) ≡ true
    go h = rw (past_is i h.past (sym (append-nil i))) at (named_place h.last).left

pub stands_left : (b : List Lexeme) → EndsInOperand b → after_left (reverse b) ≡ true
stands_left b h =
    let k = h.begins in let a = k.admitted in
    let c = bang_place k.token a.under.on h.before (walk_admitted h.before k.token a) k.is_one in
    rw (h.split, reverse_aux-append h.before h.tokens []) (attribute_end _ h.attribute c)
