-- Places in a rule text, by the last tokens before them, and the numbers that the table has there. Assumes nothing.
use mathlib.Core.Path.{◌≡◌, refl, sym, ap, ◌∙◌}
use mathlib.Core.Bool.{Bool, true, false, cond, not, ◌&&◌, ◌||◌, or-false}
use mathlib.Core.List.{List, [], ◌∷◌}
use Prim.Native.Nat.{ℕ, zero, suc, ◌≤◌, ◌<◌}
use native.Mathlib.Omega.{arith}
use lib.Dec.{eqb, ltb}
use lib.ListN.{length}
use borrow.Author.Tests.{eqb-true, eq-eqb, ne_eqb, ltb-true, ltb-false, not-true}
use Rattle.tokens.specs.Bytes.{one_of}
use Rattle.tokens.specs.Kinds as kinds
use Rattle.tokens.proofs.TokenLaws.{never, every, one_passes}
use Rattle.tokens.specs.Sizes.{most_literals}
use Rattle.reading.specs.Lexemes.{Lexeme, is}
use Rattle.reading.specs.Reader.{numbered, ten}
use Rattle.grammar.specs.Policies.{Root, Root.Principal, Root.Resource, Root.Env, Root.Action, Literal}
use Rattle.grammar.specs.Rules.{is_effect, is_reserved, is_root, root_of, is_literal, is_comparator, is_contains, ends_bare, deepens, is_text}
use Rattle.grammar.specs.Parser.{no_name, no_operator, no_type, no_text, no_level, no_pattern, no_element, no_policy}
use Rattle.grammar.specs.Numbers.{last_passes, at_name, at_type, at_pattern, after_policy, at_condition, left_root, after_left, after_action, action_in, one_more, at_literal, at_text, number_of_token}
use Rattle.grammar.proofs.Begun.{made}
use Rattle.grammar.proofs.Completeness.{other_kind, not_text_string}

-- what the tests say of a place that is none of a literal in a list
pub record TestsAt (n l t b p s g : Bool) (c : List Lexeme) : Type 0 where
  pub name : at_name c ≡ n
  pub left : after_left c ≡ l
  pub type : at_type c ≡ t
  pub begins : at_condition c ≡ b
  pub pattern : at_pattern c ≡ p
  pub policy : after_policy c ≡ s
  pub text : at_text c ≡ g
  pub list : (x : Lexeme) → one_more most_literals c x ≡ false

-- where no test holds, where a condition must begin, behind an attribute as left operand, where another operand must stand
abbrev pub Quiet : List Lexeme → Type 0
Quiet = TestsAt false false false false false false false

abbrev pub AtCondition : List Lexeme → Type 0
AtCondition = TestsAt false false false true false false false

abbrev pub Left : List Lexeme → Type 0
Left = TestsAt false true false false false false false

abbrev pub AtText : List Lexeme → Type 0
AtText = TestsAt false false false false false false true

-- ---- numbers

number_is : {n l t b p s g : Bool} {c : List Lexeme} → TestsAt n l t b p s g c → (x : Lexeme) → number_of_token c x
    ≡ cond (ltb x.kind 7) x.kind (cond (n && is_reserved x) 7 (cond (l && ends_bare x) 8 (cond (t && is kinds.name x) 9 (cond (n && is kinds.name x && after_action c) 11
    (cond (b && deepens x) 12 (cond (s && is_effect x) 15 (cond (n && is kinds.name x) 16 (cond (p && is kinds.string x && is_text x) 13 (cond ((b || p || g) && is kinds.string x) 17 10)))))))))
unfolding number_of_token
number_is h x = rw (h.name, h.left, h.type, h.begins, h.pattern, h.policy, h.text, h.list x)

pub quiet_ten : {c : List Lexeme} → Quiet c → (x : Lexeme) → numbered ten x ≡ number_of_token c x
unfolding numbered
quiet_ten h x = sym (number_is h x)

pub begins_deepest : {c : List Lexeme} → AtCondition c → (x : Lexeme) → numbered no_level x ≡ number_of_token c x
unfolding numbered no_level no_text
begins_deepest h x = sym (number_is h x)

pub begins_text : {c : List Lexeme} → AtCondition c → (x : Lexeme) → deepens x ≡ false → numbered no_text x ≡ number_of_token c x
unfolding numbered no_text
begins_text h x e = rw (number_is h x, e)

pub text_at : {c : List Lexeme} → AtText c → (x : Lexeme) → numbered no_text x ≡ number_of_token c x
unfolding numbered no_text
text_at h x = sym (number_is h x)

pub left_bare : {c : List Lexeme} → Left c → (x : Lexeme) → numbered no_operator x ≡ number_of_token c x
unfolding numbered no_operator
left_bare h x = sym (number_is h x)

pub type_number : {c : List Lexeme} → TestsAt false false true false false false false c → (x : Lexeme) → numbered no_type x ≡ number_of_token c x
unfolding numbered no_type
type_number h x = sym (number_is h x)

pub pattern_number : {c : List Lexeme} → TestsAt false false false false true false false c → (x : Lexeme) → numbered no_pattern x ≡ number_of_token c x
unfolding numbered no_pattern
pattern_number h x = rw (number_is h x) (ap (λ (n : ℕ). cond (ltb x.kind 7) x.kind n) (go (is kinds.string x) (is_text x)))
  where
    go : (s u : Bool) → ◌≡◌ {A = ℕ} (cond s (cond u 13 17) 10) (cond (s && u) 13 (cond s 17 10))
    go true true = refl
    go true false = refl
    go false u = refl

pub policy_number : {c : List Lexeme} → TestsAt false false false false false true false c → (x : Lexeme) → numbered no_policy x ≡ number_of_token c x
unfolding numbered no_policy
policy_number h x = sym (number_is h x)

abbrev is_action : Root → Bool
is_action Principal = false
is_action Resource = false
is_action Env = false
is_action Action = true

on_path_number : {c : List Lexeme} → TestsAt true false false false false false false c → (root : Root) → after_action c ≡ is_action root → (x : Lexeme) → numbered (no_name root) x ≡ number_of_token c x
unfolding numbered no_name
on_path_number {c = c} h root e x = go (is kinds.name x) root refl ∙ sym (rw e at (number_is h x))
  where
    go : (o : Bool) (root : Root) → is kinds.name x ≡ o → numbered (no_name root) x
        ≡ cond (ltb x.kind 7) x.kind (cond (is_reserved x) 7 (cond (is kinds.name x && is_action root) 11 (cond (is kinds.name x) 16 10)))
    go true Principal q = rw (eqb-true x.kind kinds.name q)
    go true Resource q = rw (eqb-true x.kind kinds.name q)
    go true Env q = rw (eqb-true x.kind kinds.name q)
    go true Action q = rw (eqb-true x.kind kinds.name q)
    go false root q = rw q

-- ---- the place behind a token

-- neither behind an attribute nor in a list, by the last token
no_left : (y : Lexeme) (c : List Lexeme) → is kinds.name y ≡ false → after_left (y ∷ c) ≡ false
unfolding after_left
no_left y [] e = refl
no_left y (d ∷ c) e = rw e

no_list : (y : Lexeme) (c : List Lexeme) → is kinds.comma y ≡ false → (x : Lexeme) → one_more most_literals (y ∷ c) x ≡ false
unfolding one_more
no_list y [] e x = refl
no_list y (l ∷ c) e x = rw e

-- a token behind which a condition begins, but for `(`
abbrev pub opens : ℕ → Bool
opens k = eqb k kinds.left_brace || eqb k kinds.bang || eqb k kinds.if_word || eqb k kinds.then_word || eqb k kinds.else_word || eqb k kinds.and || eqb k kinds.or

-- a token behind which a string may stand that begins no condition, but for a comma
abbrev pub admits : ℕ → Bool
admits k = is_comparator (made k) || (eqb k kinds.left_square || false)

-- behind a token of the kind k, which is no name, no comma and no `(`
pub at_kind : (k : ℕ) → (eqb k kinds.name ≡ false) × (eqb k kinds.comma ≡ false) × (eqb k kinds.left_round ≡ false) → (y : Lexeme) (c : List Lexeme) → y.kind ≡ k
    → TestsAt (eqb k kinds.dot || eqb k kinds.has_word) false (eqb k kinds.is_word) (opens k) (eqb k kinds.like_word) (eqb k kinds.semicolon) (admits k) (y ∷ c)
unfolding last_passes at_condition at_literal
at_kind k h y c e = record {
  name = rw e;
  left = no_left y c (rw e h.0);
  type = rw e;
  begins = rw (e, h.2);
  pattern = rw e;
  policy = rw e;
  text = rw (e, h.1);
  list = no_list y c (rw e h.1);
}

-- the kinds behind which something is to be told
abbrev telling : List ℕ
telling =
    kinds.dot ∷ kinds.has_word ∷ kinds.name ∷ kinds.is_word ∷ kinds.left_round ∷ kinds.left_brace ∷ kinds.bang ∷ kinds.if_word ∷ kinds.then_word ∷ kinds.else_word ∷ kinds.and ∷ kinds.or
    ∷ kinds.like_word ∷ kinds.semicolon ∷ kinds.comma ∷ []

-- behind a token that passes a test which they all fail
tests_by : (g : Bool) (test : ℕ → Bool) → every (λ k. not (test k)) telling ≡ true → (y : Lexeme) (c : List Lexeme) → test y.kind ≡ true → at_text (y ∷ c) ≡ g
    → TestsAt false false false false false false g (y ∷ c)
unfolding last_passes at_condition
tests_by g test f y c t e = record {
  name = rw (no kinds.dot refl, no kinds.has_word refl);
  left = no_left y c (no kinds.name refl);
  type = no kinds.is_word refl;
  begins = rw (no kinds.left_round refl, no kinds.left_brace refl, no kinds.bang refl, no kinds.if_word refl, no kinds.then_word refl, no kinds.else_word refl, no kinds.and refl, no kinds.or refl);
  pattern = no kinds.like_word refl;
  policy = no kinds.semicolon refl;
  text = e;
  list = no_list y c (no kinds.comma refl);
}
  where
    no : (k : ℕ) → one_of telling k ≡ true → eqb y.kind k ≡ false
    no k m = other_kind test y.kind k t (not-true _ (one_passes (λ k. not (test k)) telling k f m))

-- the kinds behind which a string may stand that begins no condition
abbrev admitting : List ℕ
admitting =
    kinds.equal ∷ kinds.not_equal ∷ kinds.more ∷ kinds.at_least ∷ kinds.less ∷ kinds.at_most ∷ kinds.left_square ∷ kinds.comma ∷ []

quiet_by : (test : ℕ → Bool) → (every (λ k. not (test k)) telling ≡ true) × (every (λ k. not (test k)) admitting ≡ true) → (y : Lexeme) (c : List Lexeme) → test y.kind ≡ true → Quiet (y ∷ c)
unfolding last_passes at_literal
quiet_by test f y c t =
    tests_by false test f.0 y c t (rw (no kinds.equal refl, no kinds.not_equal refl, no kinds.more refl, no kinds.at_least refl, no kinds.less refl, no kinds.at_most refl, no kinds.left_square refl, no kinds.comma refl))
  where
    no : (k : ℕ) → one_of admitting k ≡ true → eqb y.kind k ≡ false
    no k m = other_kind test y.kind k t (not-true _ (one_passes (λ k. not (test k)) admitting k f.1 m))

pub quiet_root : (y : Lexeme) (c : List Lexeme) → is_root y ≡ true → Quiet (y ∷ c)
unfolding every
quiet_root y c t = quiet_by (λ k. is_root (made k)) (refl, refl) y c t

pub quiet_literal : (y : Lexeme) (c : List Lexeme) → is_literal y ≡ true → Quiet (y ∷ c)
unfolding every
quiet_literal y c t = quiet_by (λ k. is_literal (made k)) (refl, refl) y c t

pub text_comparator : (y : Lexeme) (c : List Lexeme) → is_comparator y ≡ true → AtText (y ∷ c)
unfolding every last_passes
text_comparator y c t = tests_by true (λ k. is_comparator (made k)) refl y c t (rw t)

pub quiet_contains : (y : Lexeme) (c : List Lexeme) → is_contains y ≡ true → Quiet (y ∷ c)
unfolding every
quiet_contains y c t = quiet_by (λ k. is_contains (made k)) (refl, refl) y c t

pub quiet_effect : (y : Lexeme) (c : List Lexeme) → is_effect y ≡ true → Quiet (y ∷ c)
unfolding every
quiet_effect y c t = quiet_by (λ k. is_effect (made k)) (refl, refl) y c t

-- what a bracket stands behind that is a target's or a call's
abbrev pub other : List Lexeme → Bool
other = last_passes (λ z. is_effect z || is_contains z)

pub quiet_round : (y : Lexeme) (c : List Lexeme) → y.kind ≡ kinds.left_round → other c ≡ true → Quiet (y ∷ c)
unfolding last_passes at_condition at_literal
quiet_round y c e f = record { name = rw e; left = no_left y c (rw e); type = rw e; begins = rw (e, f); pattern = rw e; policy = rw e; text = rw e; list = no_list y c (rw e) }

pub quiet_comma : (y : Lexeme) (c : List Lexeme) → y.kind ≡ kinds.comma → last_passes is_literal c ≡ false → Quiet (y ∷ c)
unfolding last_passes at_condition at_literal one_more
quiet_comma y c e f = record { name = rw e; left = no_left y c (rw e); type = rw e; begins = rw e; pattern = rw e; policy = rw e; text = rw (e, f); list = go c f }
  where
    go : (c : List Lexeme) → last_passes is_literal c ≡ false → (x : Lexeme) → one_more most_literals (y ∷ c) x ≡ false
    go [] f x = refl
    go (l ∷ c) f x = rw (e, f)

-- behind a name: it goes by what the name is of
pub at_left : (l : Bool) (y : Lexeme) (c : List Lexeme) → y.kind ≡ kinds.name → after_left (y ∷ c) ≡ l → TestsAt false l false false false false false (y ∷ c)
unfolding last_passes at_condition at_literal
at_left l y c e f = record { name = rw e; left = f; type = rw e; begins = rw e; pattern = rw e; policy = rw e; text = rw e; list = no_list y c (rw e) }

-- where a condition begins no target's or call's bracket can stand
pub no_other : (c : List Lexeme) → at_condition c ≡ true → other c ≡ false
unfolding last_passes at_condition
no_other [] f = refl
no_other (z ∷ c) f =
    rw (
      ne_eqb z.kind 201 (λ (q : z.kind ≡ 201). never (rw q at f)),
      ne_eqb z.kind 202 (λ (q : z.kind ≡ 202). never (rw q at f)),
      ne_eqb z.kind 217 (λ (q : z.kind ≡ 217). never (rw q at f)),
      ne_eqb z.kind 218 (λ (q : z.kind ≡ 218). never (rw q at f)),
    )

-- a bracket where a condition begins
pub begins_round : (y : Lexeme) {c : List Lexeme} → y.kind ≡ kinds.left_round → AtCondition c → AtCondition (y ∷ c)
unfolding last_passes at_condition at_literal
begins_round y {c = c} e h = record { name = rw e; left = no_left y c (rw e); type = rw e; begins = rw (e, no_other c h.begins); pattern = rw e; policy = rw e; text = rw e; list = no_list y c (rw e) }

-- ---- paths

-- where a name must stand on a path after the root; whether the path is a left operand's
pub data OnPath (left : Bool) : Root → List Lexeme → Type 0 where
  dotted : {x d : Lexeme} {c : List Lexeme} → is_root x ≡ true → d.kind ≡ kinds.dot → at_condition c ≡ left → OnPath left (root_of x) (d ∷ x ∷ c)
  had : {x h : Lexeme} {c : List Lexeme} → is_root x ≡ true → h.kind ≡ kinds.has_word → left ≡ false → OnPath left (root_of x) (h ∷ x ∷ c)
  longer : {root : Root} {n d : Lexeme} {c : List Lexeme} → OnPath left root c → n.kind ≡ kinds.name → d.kind ≡ kinds.dot → OnPath left root (d ∷ n ∷ c)

path_place : {left : Bool} {root : Root} {c : List Lexeme} → OnPath left root c → TestsAt true false false false false false false c
path_place (dotted {d = d} t e k) = at_kind kinds.dot (refl, refl, refl) d _ e
path_place (had {h = h} t e k) = at_kind kinds.has_word (refl, refl, refl) h _ e
path_place (longer {d = d} h k e) = at_kind kinds.dot (refl, refl, refl) d _ e

root_kind : (x : Lexeme) → is_root x ≡ true → is_action (root_of x) ≡ is kinds.action_word x
unfolding root_of
root_kind x t = go (is kinds.principal_word x) (is kinds.resource_word x) (is kinds.action_word x) refl refl
  where
    go : (p r a : Bool) → is kinds.principal_word x ≡ p → is kinds.resource_word x ≡ r → is_action (root_of x) ≡ is kinds.action_word x
    go true r a e f = rw (eqb-true x.kind 204 e)
    go false true a e f = rw (eqb-true x.kind 205 f)
    go false false a e f = rw (e, f) (last (is kinds.action_word x))
      where
        last : (a : Bool) → is_action (cond a Action Env) ≡ a
        last true = refl
        last false = refl

path_action : {left : Bool} {root : Root} {c : List Lexeme} → OnPath left root c → after_action c ≡ is_action root
unfolding after_action
path_action (dotted {x = x} t e k) = rw (e, t) (sym (root_kind x t))
path_action (had {x = x} t e k) = rw (e, t) (sym (root_kind x t))
path_action (longer h k e) = rw (e, k) (path_action h)

pub path_number : {left : Bool} {root : Root} {c : List Lexeme} → OnPath left root c → (x : Lexeme) → numbered (no_name root) x ≡ number_of_token c x
path_number {root = root} h x = on_path_number (path_place h) root (path_action h) x

after_name : {left : Bool} {root : Root} {c : List Lexeme} → OnPath left root c → (n : Lexeme) → n.kind ≡ kinds.name → after_left (n ∷ c) ≡ left
unfolding after_left left_root
after_name (dotted {x = x} {c = c} t e k) n f = rw (f, e, t, k) (go _ (no_left x c (other_kind (λ k. is_root (made k)) x.kind kinds.name t refl)))
  where
    go : (l : Bool) {b : Bool} → b ≡ false → (l || b) ≡ l
    go l e = rw e (or-false l)
after_name (had t e k) n f = rw (f, e, k)
after_name (longer {n = m} {d = d} {c = c} h k e) n f = rw (eq-eqb n.kind kinds.name f, eq-eqb d.kind kinds.dot e, no_root m k) (after_name h m k)
  where
    no_root : (m : Lexeme) → m.kind ≡ kinds.name → is_root m ≡ false
    no_root m k = rw k

-- behind a name of the path
pub data Named (left : Bool) (root : Root) : List Lexeme → Type 0 where
  named : {n : Lexeme} {c : List Lexeme} → OnPath left root c → n.kind ≡ kinds.name → Named left root (n ∷ c)

pub named_place : {left : Bool} {root : Root} {c : List Lexeme} → Named left root c → TestsAt false left false false false false false c
named_place (named {n = n} h e) = at_left _ n _ e (after_name h n e)

-- ---- lists

-- where a literal must stand in a list, with k literals before it
pub data InList (sort : Lexeme → Bool) : ℕ → List Lexeme → Type 0 where
  opened : {s : Lexeme} {c : List Lexeme} → s.kind ≡ kinds.left_square → ((x : Lexeme) → cond (action_in c) (is kinds.string x) (is_literal x) ≡ sort x) → InList sort 0 (s ∷ c)
  further : {k : ℕ} {y l : Lexeme} {c : List Lexeme} → InList sort k c → is_literal l ≡ true → y.kind ≡ kinds.comma → InList sort (suc k) (y ∷ l ∷ c)

one_more_lem : {sort : Lexeme → Bool} {k : ℕ} {c : List Lexeme} → InList sort k c → (x : Lexeme) → one_more k c x ≡ sort x
unfolding one_more
one_more_lem (opened e f) x = rw e (f x)
one_more_lem (further h t e) x = rw (e, t) (one_more_lem h x)

no_more : {sort : Lexeme → Bool} {k : ℕ} {c : List Lexeme} → InList sort k c → (n : ℕ) (x : Lexeme) → sort x ≡ false → one_more n c x ≡ false
unfolding one_more
no_more (opened e f) zero x g = rw e (f x ∙ g)
no_more (opened {c = []} e f) (suc n) x g = refl
no_more (opened {c = l ∷ c} e f) (suc n) x g = rw e
no_more (further h t e) zero x g = rw e
no_more (further h t e) (suc n) x g = rw (e, t) (no_more h n x g)

-- more literals than there are
past_all : {sort : Lexeme → Bool} {k : ℕ} {c : List Lexeme} → InList sort k c → (n : ℕ) (x : Lexeme) → k < n → one_more n c x ≡ false
unfolding one_more
past_all (opened e f) zero x l = absurd (omega arith)
past_all (opened {c = []} e f) (suc n) x l = refl
past_all (opened {c = z ∷ c} e f) (suc n) x l = rw e
past_all (further h t e) zero x l = absurd (omega arith)
past_all (further h t e) (suc n) x l = rw (e, t) (past_all h n x (omega arith))

in_list_number : (c : List Lexeme) → at_name c ≡ false → after_left c ≡ false → at_type c ≡ false → at_condition c ≡ false → at_pattern c ≡ false → after_policy c ≡ false → at_text c ≡ true
    → (x : Lexeme) → number_of_token c x ≡ cond (ltb x.kind 7) x.kind (cond (one_more most_literals c x) 14 (cond (is kinds.string x) 17 10))
unfolding number_of_token
in_list_number c n l t b p s g x = rw (n, l, t, b, p, s, g)

list_number : {sort : Lexeme → Bool} {k : ℕ} {c : List Lexeme} → InList sort k c → (x : Lexeme)
    → number_of_token c x ≡ cond (ltb x.kind 7) x.kind (cond (one_more most_literals c x) 14 (cond (is kinds.string x) 17 10))
unfolding last_passes at_condition at_literal
list_number (opened {s = s} {c = c} e f) x = in_list_number (s ∷ c) (rw e) (no_left s c (rw e)) (rw e) (rw e) (rw e) (rw e) (rw e) x
list_number (further {y = y} {l = l} {c = c} h t e) x = in_list_number (y ∷ l ∷ c) (rw e) (no_left y (l ∷ c) (rw e)) (rw e) (rw e) (rw e) (rw e) (rw (e, t)) x

pub element_number : {sort : Lexeme → Bool} (ls : List Literal) {c : List Lexeme} → ((x : Lexeme) → is kinds.string x ≡ true → sort x ≡ true) → InList sort (length ls) c → length ls ≤ most_literals → (x : Lexeme)
    → (ltb (length ls) most_literals && (sort x && is_text x)) ≡ false → numbered (no_element sort ls) x ≡ number_of_token c x
unfolding numbered no_element
element_number {sort = sort} ls {c = c} strings h l x f = rw (list_number h x) (go (sort x) (ltb (length ls) most_literals) refl refl)
  where
    no_string : sort x ≡ false → is kinds.string x ≡ false
    no_string e = other (is kinds.string x) refl
      where
        other : (b : Bool) → is kinds.string x ≡ b → is kinds.string x ≡ false
        other true q = absurd (never (sym e ∙ strings x q))
        other false q = q

    go : (o b : Bool) → sort x ≡ o → ltb (length ls) most_literals ≡ b → cond (ltb x.kind 7) x.kind (cond (sort x) (cond (ltb (length ls) most_literals) 17 14) 10)
        ≡ cond (ltb x.kind 7) x.kind (cond (one_more most_literals c x) 14 (cond (is kinds.string x) 17 10))
    go false b e q = rw (e, no_more h most_literals x e, no_string e)
    go true true e q = rw (e, q, past_all h most_literals x (ltb-true _ _ q), not_text_string x (rw (e, q) at f))
    go true false e q = let k : length ls ≡ most_literals = (let m = ltb-false (length ls) most_literals q in omega arith) in rw (e, q, (rw k at (one_more_lem h x)) ∙ e)
