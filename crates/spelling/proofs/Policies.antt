-- How further parts of a policy are printed: types, every action, no condition; and several policies as one text. Assumes nothing.
use mathlib.Core.Path.{◌≡◌, refl, ap, sym, subst}
use mathlib.Core.Bool.{Bool, true, false}
use mathlib.Core.List.{List, [], ◌∷◌, ◌++◌, append_assoc, append-nil}
use mathlib.Core.Option.{none}
use Prim.Native.Nat.{ℕ, suc, ◌+◌, ◌≤◌, ◌<◌}
use native.Mathlib.Omega.{arith}
use lib.ListN.{length, length-append}
use lib.Dec.{eqb}
use borrow.Author.Tests.{lt-ltb}
use Rattle.tokens.specs.Kinds as kinds
use Rattle.tokens.specs.Sizes.{most_policies}
use Rattle.reading.specs.Lexemes.{Lexeme, is}
use Rattle.grammar.specs.Policies.{PartOf, typed, every, PolicyOf, Policy}
use Rattle.grammar.specs.Rules.{is_type, type_of, type_among, resource_types}
use Rattle.grammar.specs.Grammar.{sizes, Typed, ResourceRest, ActionRest, When, PolicyRest, Policies}
use Rattle.grammar.specs.Grammar as grammar
use Rattle.placing.specs.Said.{Word, part_words, action_words, condition_words, policy_words, words_of}
use Rattle.spelling.specs.Layout.{WrittenToken, laid_out, lexeme_of, standing}
use Rattle.spelling.specs.Printing.{HasAt, OfKind, PrintsAt, Prints, effect_word, PrintsText}
use Rattle.spelling.proofs.Printing.{past, standing_append, has_first, has_then, has_behind, prints_as}
use Rattle.spelling.proofs.Productions.{effect_is}

-- ---- parts

-- `is` and the name of a type
pub prints_typed : {types : List (List ℕ)} {x y : WrittenToken} {n : ℕ} → OfKind kinds.is_word x → OfKind kinds.name y → type_among types 1 y.bytes ≡ n
    → eqb n 0 ≡ false → Prints (Typed types) part_words (x ∷ y ∷ []) (typed n)
unfolding standing part_words
prints_typed {types} {x} {y} {n} e f k o = record { anywhere = go }
  where
    go : (at : ℕ) (r : List Lexeme) → PrintsAt (Typed types) part_words (x ∷ y ∷ []) (typed n) at r
    go at r =
        let z = lexeme_of (at + length x.blanks + length x.bytes) y in
        let one : is_type types z ≡ true = rw (f.read_as, k, o) in
        record { what = typed (type_of types z); reads = grammar.Typed.one e.read_as one; says = λ t q. ap typed k }

-- a resource part that is bare, or `is` one of its types
pub prints_sort : {xs : List WrittenToken} {p : PartOf Word} → Prints (Typed resource_types) part_words xs p → Prints (ResourceRest sizes) part_words xs p
prints_sort p = prints_as p (λ i r a. grammar.ResourceRest.sort)

-- every action
pub prints_every : Prints (ActionRest sizes) action_words [] every
unfolding standing action_words
prints_every = record { anywhere = λ at r. record { what = every; reads = grammar.ActionRest.bare; says = λ t h. refl } }

-- no condition
pub prints_without : Prints (When sizes) condition_words [] none
unfolding standing condition_words
prints_without = record { anywhere = λ at r. record { what = none; reads = grammar.When.bare; says = λ t h. refl } }

-- ---- several policies

-- Policies that are printed from a place on, to the end of a text of which others were read: they are read behind those, and have their words.
record MorePrinted (done : List Policy) (xs : List WrittenToken) (ws : List (PolicyOf Word)) (at : ℕ) : Type 0 where
  new : List Policy
  belongs : Policies sizes done (standing at xs) (done ++ new)
  says : (t : List ℕ) → HasAt t at (laid_out xs) → words_of t new ≡ ws

-- so from every place on, behind any policies, as long as there are not too many
pub record PrintsPolicies (xs : List WrittenToken) (ws : List (PolicyOf Word)) : Type 0 where
  behind : (done : List Policy) → length done + length ws ≤ most_policies → (at : ℕ) → MorePrinted done xs ws at

-- none
pub prints_none : PrintsPolicies [] []
unfolding standing words_of
prints_none = record { behind = λ done h at. record { new = []; belongs = rw (append-nil done) grammar.Policies.end; says = λ t k. refl } }

-- one, and the others behind it
pub prints_next : {permits : Bool} {x : WrittenToken} {xs ys : List WrittenToken} {p : PolicyOf Word} {ws : List (PolicyOf Word)} → OfKind (effect_word permits) x
    → Prints (PolicyRest sizes permits) policy_words xs p → PrintsPolicies ys ws → PrintsPolicies (x ∷ (xs ++ ys)) (p ∷ ws)
unfolding standing words_of
prints_next {permits} {x} {xs} {ys} {p} {ws} e k q = record { behind = go }
  where
    go : (done : List Policy) → length done + suc (length ws) ≤ most_policies → (at : ℕ) → MorePrinted done (x ∷ (xs ++ ys)) (p ∷ ws) at
    go done h at =
        let lead = lexeme_of at x in
        let is_effect = effect_is permits lead e.read_as in
        let start = at + length x.blanks + length x.bytes in
        let next = past start xs in
        let here = k.anywhere start (standing next ys) in
        let more = q.behind (done ++ here.what ∷ []) (omega (arith, length-append done (here.what ∷ []))) next in
        let few : length done < most_policies = omega arith in
        let rest : PolicyRest sizes (is kinds.permit_word lead) (standing start (xs ++ ys)) (standing next ys) here.what =
        rw (standing_append start xs ys)
        (subst (λ (b : Bool). PolicyRest sizes b (standing start xs ++ standing next ys) (standing next ys) here.what) (sym is_effect.1) here.reads) in
        let others : Policies sizes (done ++ here.what ∷ []) (standing next ys) (done ++ here.what ∷ more.new) =
        rw (append_assoc done (here.what ∷ []) more.new) at more.belongs in
        record {
          new = here.what ∷ more.new;
          belongs = grammar.Policies.policy is_effect.0 (lt-ltb (length done) most_policies few) rest others;
          says = λ t b.
              let c = has_behind x (xs ++ ys) b in rw (here.says t (has_first xs ys c), more.says t (has_then xs ys c));
        }

-- a whole text
pub prints_policies : {xs : List WrittenToken} {ws : List (PolicyOf Word)} → PrintsPolicies xs ws → length ws ≤ most_policies → PrintsText xs ws
prints_policies {xs} {ws} p h =
    let all = p.behind [] (omega arith) 0 in
    record { policies = all.new; belongs = all.belongs; says = all.says (laid_out xs) (record { rest = []; is = sym (append-nil (laid_out xs)) }) }
