-- Policies that keep document 01's limits are printed as their tokens, and the text of these says them. Assumes nothing.
use mathlib.Core.Path.{◌≡◌, refl, ap, subst}
use mathlib.Core.Bool.{Bool, true, false, cond, ◌&&◌}
use mathlib.Core.List.{List, [], ◌∷◌, ◌++◌, append-nil, map}
use Prim.Native.Nat.{ℕ, zero, suc, ◌≤◌, ◌<◌}
use Prim.Native.Char.{code}
use native.Mathlib.Omega.{arith}
use lib.Dec.{eqb}
use lib.ListN.{length, get_or, get_or-append}
use Rattle.slices.specs.Ascii.{bytes}
use Rattle.utf8.proofs.Readings.{utf8_decides}
use Rattle.tokens.specs.Bytes.{class_of}
use Rattle.tokens.specs.Kinds as kinds
use Rattle.tokens.specs.Forms.{All, empty, next, a_string}
use Rattle.tokens.specs.declared.classes.Sort.TheVariants.{Blanks}
use Rattle.grammar.specs.Policies.{PartOf, any, typed, pinned, ActionsOf, every, PolicyOf}
use Rattle.grammar.specs.Rules.{principal_types, resource_types, type_among}
use Rattle.grammar.specs.Grammar.{sizes, Typed, ResourceRest, ActionRest, PolicyRest}
use Rattle.placing.specs.Placed.{Each, none_left, and_each}
use Rattle.placing.specs.Said.{Word, part_words, action_words, policy_words}
use Rattle.placing.proofs.EachLaws.{each_append}
use Rattle.spelling.specs.Spelling.{apart, calm}
use Rattle.spelling.specs.Layout.{WrittenToken, written, laid_out, standing, WellWritten, none, one}
use Rattle.spelling.specs.Marks.{quoted}
use Rattle.spelling.specs.Printing.{Prints}
use Rattle.spelling.specs.Printed.{PlainToken, plainly, effect_token, type_name, part_tokens}
use Rattle.spelling.specs.Printed.{action_tokens, rest_tokens, policies_tokens, blank_between, laid_behind, laid_by}
use Rattle.spelling.specs.Printed.{printed_by}
use Rattle.spelling.specs.Printable.{PrintableTyped, of_any, of_type, PrintableResource, of_sort, of_pin, PrintableActions, of_every, of_some}
use Rattle.spelling.specs.Printable.{PrintablePolicy}
use Rattle.spelling.specs.Promise.{PrintedIsSaid, PrintedByIsSaid}
use Rattle.tokens.proofs.TokenLaws.{and_right}
use Rattle.spelling.proofs.Apart.{calm_apart}
use Rattle.spelling.proofs.Joins.{form_some}
use Rattle.spelling.proofs.Fixed.{written_opened, FormedToken, FixedToken, fixed}
use Rattle.spelling.proofs.Spelled.{laid_out_stand}
use Rattle.spelling.proofs.Productions.{prints_bare, prints_pinned, prints_actions, prints_parts}
use Rattle.spelling.proofs.Policies.{prints_typed, prints_sort, prints_every, PrintsPolicies, prints_none, prints_next, prints_policies}
use Rattle.spelling.proofs.Plain.{LaidAs, none_laid, and_laid, well_laid, Parts, parts, laid_parts, PrintedAs, printed_as, printed_led}
use Rattle.spelling.proofs.Plain.{printed_then, printed_before, printed_after, kind_of}
use Rattle.spelling.proofs.Whole.{effect_token_lem, printed_action, printed_list, printed_when}

-- ---- parts

-- the n-th of some types has a name, which is a token and has that number among them
record TypeNamed (types : List (List ℕ)) (n : ℕ) : Type 0 where
  number : type_among types 1 (type_name types n) ≡ n
  some : eqb n 0 ≡ false
  token : FixedToken kinds.name (kinds.name, type_name types n)

principal_named : (n : ℕ) → 0 < n → n ≤ length principal_types → TypeNamed principal_types n
unfolding written_opened principal_types type_among
principal_named zero s f = absurd (omega arith)
principal_named (suc zero) s f = record { number = refl; some = refl; token = fixed refl }
principal_named (suc (suc zero)) s f = record { number = refl; some = refl; token = fixed refl }
principal_named (suc (suc (suc n))) s f = absurd (omega arith)

resource_named : (n : ℕ) → 0 < n → n ≤ length resource_types → TypeNamed resource_types n
unfolding written_opened resource_types type_among
resource_named zero s f = absurd (omega arith)
resource_named (suc zero) s f = record { number = refl; some = refl; token = fixed refl }
resource_named (suc (suc zero)) s f = record { number = refl; some = refl; token = fixed refl }
resource_named (suc (suc (suc zero))) s f = record { number = refl; some = refl; token = fixed refl }
resource_named (suc (suc (suc (suc zero)))) s f = record { number = refl; some = refl; token = fixed refl }
resource_named (suc (suc (suc (suc (suc n))))) s f = absurd (omega arith)

-- a part that is bare, or `is` one of its types
printed_typed : {types : List (List ℕ)} → ((n : ℕ) → 0 < n → n ≤ length types → TypeNamed types n) → {p : PartOf Word} → PrintableTyped types p
    → PrintedAs (Typed types) part_words (part_tokens types p) p
unfolding written_opened part_tokens
printed_typed {types} named of_any = record { laid = go; formed = none_left }
  where
    go : {xs : List WrittenToken} → LaidAs [] xs → Prints (Typed types) part_words xs any
    go none_laid = prints_bare
printed_typed {types} named (of_type {n} s f) = record { laid = go; formed = and_each word.formed (and_each a.token.formed none_left) }
  where
    a : TypeNamed types n
    a = named n s f

    word : FixedToken kinds.is_word (kinds.is_word, bytes "is")
    word = fixed refl

    go : {xs : List WrittenToken} → LaidAs ((kinds.is_word, bytes "is") ∷ (kinds.name, type_name types n) ∷ []) xs → Prints (Typed types) part_words xs (typed n)
    go (and_laid {b = b} d (and_laid {b = c} e none_laid)) = prints_typed (kind_of b word) (kind_of c a.token) a.number a.some

-- a resource part
printed_resource : {p : PartOf Word} → PrintableResource p → PrintedAs (ResourceRest sizes) part_words (part_tokens resource_types p) p
unfolding written_opened part_tokens
printed_resource (of_sort h) = printed_as (λ xs k. prints_sort k) (printed_typed resource_named h)
printed_resource (of_pin {s} h) = record { laid = go; formed = and_each mark.formed (and_each (record { form = a_string h.all }) none_left) }
  where
    mark : FixedToken kinds.equal (kinds.equal, bytes "==")
    mark = fixed refl

    go : {xs : List WrittenToken} → LaidAs ((kinds.equal, bytes "==") ∷ (kinds.string, quoted s) ∷ []) xs → Prints (ResourceRest sizes) part_words xs (pinned s)
    go (and_laid {b = b} d (and_laid e none_laid)) = prints_pinned s (kind_of b mark) h.size ((utf8_decides s).complete h.characters)

-- an action part
printed_actions : {a : ActionsOf Word} → PrintableActions a → PrintedAs (ActionRest sizes) action_words (action_tokens a) a
unfolding written_opened action_tokens
printed_actions of_every = record { laid = go; formed = none_left }
  where
    go : {xs : List WrittenToken} → LaidAs [] xs → Prints (ActionRest sizes) action_words xs every
    go none_laid = prints_every
printed_actions (of_some h) = printed_led (fixed refl) (λ x xs e k. prints_actions e k) (printed_list (λ l k. printed_action k) h)

-- ---- policies

-- a policy behind its effect
printed_rest : {p : PolicyOf Word} → PrintablePolicy p → PrintedAs (PolicyRest sizes p.permits) policy_words (rest_tokens p) p
unfolding written_opened rest_tokens
printed_rest h =
    printed_as (λ xs k. prints_parts k)
    (printed_then (printed_after (fixed refl) (printed_after (fixed refl) (printed_before (fixed refl) (printed_typed principal_named h.principal))))
    (printed_then (printed_after (fixed refl) (printed_before (fixed refl) (printed_actions h.action)))
    (printed_then (printed_after (fixed refl) (printed_before (fixed refl) (printed_resource h.resource)))
    (printed_before (fixed refl) (printed_when h.condition)))))

-- policies one behind the other
printed_policies : {ws : List (PolicyOf Word)} → Each PrintablePolicy ws → {xs : List WrittenToken} → LaidAs (policies_tokens ws) xs → PrintsPolicies xs ws
unfolding policies_tokens
printed_policies none_left none_laid = prints_none
printed_policies (and_each {a = p} {l = ws} h hs) (and_laid {b = b} a k) = go (λ xs l. printed_policies hs l) (laid_parts (rest_tokens p) k)
  where
    go : ((xs : List WrittenToken) → LaidAs (policies_tokens ws) xs → PrintsPolicies xs ws) → {ys : List WrittenToken} → Parts (rest_tokens p) (policies_tokens ws) ys
        → PrintsPolicies (written b (effect_token p.permits).0 (effect_token p.permits).1 ∷ ys) (p ∷ ws)
    go rest (parts {ys = zs} f g) = prints_next (kind_of b (effect_token_lem p.permits)) ((printed_rest h).laid f) (rest zs g)

policies_formed : {ws : List (PolicyOf Word)} → Each PrintablePolicy ws → Each FormedToken (policies_tokens ws)
unfolding policies_tokens
policies_formed none_left = none_left
policies_formed (and_each {a = p} {l = ws} h hs) =
    and_each (effect_token_lem p.permits).formed (each_append (rest_tokens p) (policies_tokens ws) (printed_rest h).formed (policies_formed hs))

-- ---- what is promised

-- with any blanks
pub printed_is_said : PrintedIsSaid
unfolding PrintedIsSaid
printed_is_said xs ws h e w =
    let printed = prints_policies (printed_policies h.each (subst (λ (ts : List PlainToken). LaidAs ts xs) e (well_laid w))) h.few in
    record {
      policies = printed.policies;
      says = record { tokens = standing 0 xs; listed = laid_out_stand w; belongs = printed.belongs };
      words = printed.says;
    }

-- tokens with blanks between them by a test
module _ (hugs : PlainToken → PlainToken → Bool) where
  -- blanks, and the first byte behind the token t
  between_blanks : (t u : PlainToken) → All Blanks (blank_between hugs t u)
  unfolding blank_between class_of
  between_blanks t u = go (hugs t u && apart t.1 (get_or u.1 0 0))
    where
      go : (b : Bool) → All Blanks (cond b [] (code " " ∷ []))
      go true = empty
      go false = next refl empty

  between_apart : (t u : PlainToken) (q : List ℕ) → FormedToken u → apart t.1 (get_or (blank_between hugs t u ++ (u.1 ++ q)) 0 0) ≡ true
  unfolding blank_between calm class_of
  between_apart t u q f = go (hugs t u && apart t.1 (get_or u.1 0 0)) (λ e. and_right (hugs t u) _ e)
    where
      go : (b : Bool) → (b ≡ true → apart t.1 (get_or u.1 0 0) ≡ true) → apart t.1 (get_or (cond b [] (code " " ∷ []) ++ (u.1 ++ q)) 0 0) ≡ true
      go true h = rw (get_or-append u.1 q 0 0 (form_some f.form)) (h refl)
      go false h = calm_apart t.1 (code " ") refl

  -- any token with others behind it
  token_well : {b : List ℕ} {t : PlainToken} {ts : List PlainToken} → All Blanks b → Each FormedToken (t ∷ ts)
      → WellWritten (written b t.0 t.1 ∷ laid_behind hugs t ts) []
  unfolding laid_behind laid_out calm class_of
  token_well {t = t} a (and_each f none_left) = one a f.form (calm_apart t.1 0 refl) none
  token_well {b = b} {t = t} a (and_each f (and_each {a = u} {l = us} g h)) =
      let behind = laid_behind hugs t (u ∷ us) in
      let clear : apart t.1 (get_or (laid_out behind ++ []) 0 0) ≡ true =
      rw (append-nil (laid_out behind)) (between_apart t u (laid_out (laid_behind hugs u us)) g) in
      one a f.form clear (token_well {b = blank_between hugs t u} {t = u} {ts = us} (between_blanks t u) (and_each g h))

  laid_by_well : {ts : List PlainToken} → Each FormedToken ts → WellWritten (laid_by hugs ts) []
  unfolding laid_by
  laid_by_well none_left = none
  laid_by_well (and_each f h) = token_well empty (and_each f h)

  -- they are these tokens
  behind_plainly : (t : PlainToken) (ts : List PlainToken) → map plainly (laid_behind hugs t ts) ≡ ts
  unfolding laid_behind
  behind_plainly t [] = refl
  behind_plainly t (u ∷ us) = ap (λ (ts : List PlainToken). u ∷ ts) (behind_plainly u us)

  laid_by_plainly : (ts : List PlainToken) → map plainly (laid_by hugs ts) ≡ ts
  unfolding laid_by
  laid_by_plainly [] = refl
  laid_by_plainly (t ∷ ts) = ap (λ (us : List PlainToken). t ∷ us) (behind_plainly t ts)

-- so with any test
pub printed_by_is_said : PrintedByIsSaid
unfolding PrintedIsSaid PrintedByIsSaid printed_by
printed_by_is_said hugs ws h =
    let ts = policies_tokens ws in
    printed_is_said (laid_by hugs ts) ws h (laid_by_plainly hugs ts) (laid_by_well hugs (policies_formed h.each))
