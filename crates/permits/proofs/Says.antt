-- What is written of a lock is laid out of a permit's tokens, so it says this permit, unless a value or a number is beyond its size. Assumes nothing.
use mathlib.Core.Path.{◌≡◌, refl, ap, ◌∙◌, sym, subst}
use mathlib.Core.Bool.{true}
use mathlib.Core.List.{List, [], ◌∷◌, ◌++◌, append_assoc, append-nil, map}
use mathlib.Core.Option.{some}
use Prim.Native.Nat.{ℕ, ◌+◌, ◌*◌, ◌≤◌}
use native.Mathlib.Nat.{suc-mul}
use native.Mathlib.Omega.{arith}
use lib.ListN.{length, get_or, length-append, length-map}
use Rattle.slices.specs.Ascii.{bytes}
use Rattle.utf8.proofs.Readings.{utf8_decides}
use Rattle.tokens.specs.Kinds as kinds
use Rattle.tokens.specs.Forms.{empty, next, quote, a_string}
use Rattle.reading.specs.Lexemes.{is}
use Rattle.reading.specs.Reads.{Before, After}
use Rattle.grammar.specs.Policies.{Comparator, Comparator.Equal, Comparator.NotEqual, Comparator.More, Comparator.AtLeast, Comparator.Less, Comparator.AtMost}
use Rattle.grammar.specs.Policies.{LiteralOf, text, TreeOf, one_of, pinned}
use Rattle.grammar.specs.Grammar.{sizes, ActionRest, ResourceRest, When, SaysPolicies}
use Rattle.placing.specs.Placed.{Each, none_left, and_each}
use Rattle.placing.specs.Said.{Word, part_words, action_words, condition_words}
use Rattle.placing.proofs.EachLaws.{each_rest, each_left, each_right, each_as, each_in, each_of, each_both}
use Rattle.bags.specs.Paths.{is_path}
use Rattle.meaning.specs.Paths.{PathsAlike}
use Rattle.meaning.proofs.Paths.{paths_alike}
use Rattle.spelling.specs.Spelling.{calm}
use Rattle.spelling.specs.Layout.{WrittenToken, written, laid_out, standing, WellWritten, none, one, Sized}
use Rattle.spelling.specs.Printing.{Prints, PrintsList, PrintsText, effect_word}
use Rattle.spelling.specs.Printing as printing
use Rattle.spelling.proofs.Spelled.{laid_out_stand, text_sized}
use Rattle.spelling.proofs.Fixed.{well_fixed, well_calm, written_opened}
use Rattle.spelling.proofs.Printing.{laid_append, well_append, prints_before, prints_after}
use Rattle.spelling.proofs.Productions.{prints_string, prints_list, prints_alone, prints_bare, prints_pinned, prints_actions, prints_when, prints_policy}
use Rattle.spelling.proofs.Productions.{prints_text}
use Rattle.permits.specs.Permits.{Test, quoted, sign_of, between, test_text, permit_text, permit_policy}
use Rattle.permits.specs.Meaning.{AString, Formed, equality, membership, comparison, Fits, equal_fits, member_fits, order_fits, Made}
use Rattle.permits.specs.Promise.{PermitSays, OnlySizes}
use Rattle.permits.proofs.Values.{number_long}
use Rattle.permits.proofs.Tests.{space, after_each, between_is, JoinedLaid, condition_laid}

-- ---- the actions

-- strings with commas between them: their tokens, before a byte that makes none longer
record ListLaid (l : List ℕ) (ls : List (LiteralOf Word)) : Type 0 where
  tokens : List WrittenToken
  laid : laid_out tokens ≡ l
  well : (q : List ℕ) → calm (get_or q 0 0) ≡ true → WellWritten tokens q
  prints : PrintsList (is kinds.string) tokens ls

-- the first of them, and one more
first_action : {a : Word} → AString a → ListLaid (quoted a) (text a ∷ [])
unfolding written_opened
first_action {a} s = record {
  tokens = written [] kinds.string (quoted a) ∷ [];
  laid = append-nil (quoted a);
  well = λ q h. well_calm none empty (a_string s.all) h;
  prints = printing.PrintsList.first (prints_string a s.size ((utf8_decides a).complete s.text));
}

next_action : {l : List ℕ} {ls : List (LiteralOf Word)} {a : Word} → ListLaid l ls → AString a
    → ListLaid (l ++ (bytes ", " ++ quoted a)) (ls ++ text a ∷ [])
unfolding written_opened
next_action {a = a} j s =
    let ys = written [] kinds.comma (bytes ",") ∷ written (bytes " ") kinds.string (quoted a) ∷ [] in
    record {
      tokens = j.tokens ++ ys;
      laid = laid_append j.tokens ys ∙ rw (j.laid, append-nil (a ++ quote ∷ []));
      well = λ q h. well_append (j.well (laid_out ys ++ q) refl) (well_fixed (well_calm none (next refl empty) (a_string s.all) h) refl);
      prints = printing.PrintsList.more j.prints (record { read_as = refl }) (prints_string a s.size ((utf8_decides a).complete s.text));
    }

-- the same text and the same strings
list_as : {l k : List ℕ} {ls ks : List (LiteralOf Word)} → l ≡ k → ls ≡ ks → ListLaid l ls → ListLaid k ks
list_as e f j = record { tokens = j.tokens; laid = j.laid ∙ e; well = j.well; prints = rw f at j.prints }

-- all of them
more_actions : {l : List ℕ} {ls : List (LiteralOf Word)} → ListLaid l ls → {os : List Word} → Each AString os
    → ListLaid (l ++ after_each (bytes ", ") quoted os) (ls ++ map text os)
unfolding after_each
more_actions {l} {ls} j none_left = list_as (sym (append-nil l)) (sym (append-nil ls)) j
more_actions {l} {ls} j (and_each {a = a} {l = os} s h) =
    list_as (append_assoc l (bytes ", " ++ quoted a) (after_each (bytes ", ") quoted os)) (append_assoc ls (text a ∷ []) (map text os))
    (more_actions (next_action j s) h)

-- a lock's actions
actions_laid : {actions : List Word} → 1 ≤ length actions → Each AString actions → ListLaid (between (bytes ", ") (map quoted actions)) (map text actions)
actions_laid h none_left = absurd (omega arith)
actions_laid h (and_each {a = a} {l = os} s k) = list_as (sym (between_is (bytes ", ") quoted a os)) refl (more_actions (first_action s) k)

-- ---- the parts of the permit

-- ` action in [..],`
module _ {l : List ℕ} {ls : List (LiteralOf Word)} (list : ListLaid l ls) where
  action_tokens : List WrittenToken
  action_tokens =
      written space kinds.action_word (bytes "action")
      ∷ ((written space kinds.in_word (bytes "in") ∷ written space kinds.left_square (bytes "[") ∷ (list.tokens ++ written [] kinds.right_square (bytes "]") ∷ []))
      ++ written [] kinds.comma (bytes ",") ∷ [])

  action_laid : laid_out action_tokens ≡ bytes " action in [" ++ (l ++ bytes "],")
  unfolding action_tokens written_opened
  action_laid =
      rw (
        laid_append (list.tokens ++ written [] kinds.right_square (bytes "]") ∷ []) (written [] kinds.comma (bytes ",") ∷ []),
        laid_append list.tokens (written [] kinds.right_square (bytes "]") ∷ []),
        list.laid,
      )
      (ap (λ (m : List ℕ). bytes " action in [" ++ m) (append_assoc l (bytes "]") (bytes ",")))

  action_well : (q : List ℕ) → WellWritten action_tokens q
  unfolding action_tokens written_opened
  action_well q =
      well_fixed (well_fixed (well_fixed
      (well_append (well_append (list.well (bytes "]," ++ q) refl) (well_fixed none refl)) (well_fixed none refl)) refl) refl) refl

  action_prints : length ls ≤ 16 → Prints (After kinds.action_word (Before kinds.comma (ActionRest sizes))) action_words action_tokens (one_of ls)
  unfolding action_tokens written_opened
  action_prints h =
      prints_after (prints_before (prints_actions (record { read_as = refl })
      (prints_list (record { read_as = refl }) list.prints h (record { read_as = refl }))) (record { read_as = refl })) (record { read_as = refl })

-- ` resource == "..")`
module _ (resource : Word) (s : AString resource) where
  resource_tokens : List WrittenToken
  resource_tokens =
      written space kinds.resource_word (bytes "resource")
      ∷ ((written space kinds.equal (bytes "==") ∷ written space kinds.string (quoted resource) ∷ []) ++ written [] kinds.right_round (bytes ")") ∷ [])

  resource_laid : laid_out resource_tokens ≡ bytes " resource == " ++ (quoted resource ++ bytes ")")
  unfolding resource_tokens written_opened
  resource_laid = refl

  resource_well : (q : List ℕ) → WellWritten resource_tokens q
  unfolding resource_tokens written_opened
  resource_well q = well_fixed (well_fixed (well_calm (well_fixed none refl) (next refl empty) (a_string s.all) refl) refl) refl

  resource_prints : Prints (After kinds.resource_word (Before kinds.right_round (ResourceRest sizes))) part_words resource_tokens (pinned resource)
  unfolding resource_tokens written_opened
  resource_prints =
      prints_after (prints_before (prints_pinned resource (record { read_as = refl }) s.size ((utf8_decides resource).complete s.text)) (record { read_as = refl })) (record { read_as = refl })

-- ` when {.. };`
module _ {l : List ℕ} {c : TreeOf Word} {F : Type 0} (j : JoinedLaid l c F) where
  when_tokens : List WrittenToken
  when_tokens =
      (written space kinds.when_word (bytes "when") ∷ written space kinds.left_brace (bytes "{") ∷ (j.tokens ++ written space kinds.right_brace (bytes "}") ∷ []))
      ++ written [] kinds.semicolon (bytes ";") ∷ []

  when_laid : laid_out when_tokens ≡ bytes " when {" ++ (l ++ bytes " };")
  unfolding when_tokens written_opened
  when_laid =
      rw (
        laid_append (j.tokens ++ written space kinds.right_brace (bytes "}") ∷ []) (written [] kinds.semicolon (bytes ";") ∷ []),
        laid_append j.tokens (written space kinds.right_brace (bytes "}") ∷ []),
        j.text,
      )
      (ap (λ (m : List ℕ). bytes " when {" ++ m) (append_assoc l (bytes " }") (bytes ";")))

  when_well : (q : List ℕ) → WellWritten when_tokens q
  unfolding when_tokens written_opened
  when_well q =
      well_fixed (well_fixed (well_append (well_append (j.well (bytes " };" ++ q) refl) (well_fixed none refl)) (well_fixed none refl)) refl) refl

  when_prints : F → Prints (Before kinds.semicolon (When sizes)) condition_words when_tokens (some c)
  unfolding when_tokens written_opened
  when_prints f =
      prints_before (prints_when (record { read_as = refl })
      (prints_after (prints_before (prints_alone (j.prints f)) (record { read_as = refl })) (record { read_as = refl }))) (record { read_as = refl })

  when_fits : Each Sized when_tokens → F
  unfolding when_tokens
  when_fits e = j.fits (each_left j.tokens _ (each_left (j.tokens ++ written space kinds.right_brace (bytes "}") ∷ []) _ (each_rest (each_rest e))))

-- ---- the permit

-- its tokens are its text, and say it unless one is beyond its size
record PermitLaid (actions : List Word) (resource : Word) (t : Test) (ts : List Test) : Type 0 where
  tokens : List WrittenToken
  laid : laid_out tokens ≡ permit_text actions resource (t ∷ ts)
  well : WellWritten tokens []
  prints : Each Fits (t ∷ ts) → PrintsText tokens (permit_policy actions resource t ts ∷ [])
  fits : Each Sized tokens → Each Fits (t ∷ ts)

-- `permit(principal,`
abbrev head_tokens : List WrittenToken
head_tokens = (written [] kinds.left_round (bytes "(") ∷ written [] kinds.principal_word (bytes "principal") ∷ []) ++ written [] kinds.comma (bytes ",") ∷ []

abbrev permit_token : WrittenToken
permit_token = written [] kinds.permit_word (bytes "permit")

-- the text of all parts
parts_text : (os rs cs : List WrittenToken) (l r k : List ℕ) → laid_out os ≡ bytes " action in [" ++ (l ++ bytes "],")
    → laid_out rs ≡ bytes " resource == " ++ (r ++ bytes ")") → laid_out cs ≡ bytes " when {" ++ ((space ++ k) ++ bytes " };")
    → laid_out (permit_token ∷ (head_tokens ++ (os ++ (rs ++ cs))))
    ≡ bytes "permit(principal, action in [" ++ (l ++ (bytes "], resource == " ++ (r ++ (bytes ") when { " ++ (k ++ bytes " };")))))
unfolding written_opened
parts_text os rs cs l r k e f g =
    let tail = bytes " when { " ++ (k ++ bytes " };") in
    let resource = bytes " resource == " ++ (r ++ (bytes ")" ++ tail)) in
    rw (laid_append os (rs ++ cs), laid_append rs cs, e, f, g, append_assoc r (bytes ")") tail, append_assoc l (bytes "],") resource)

-- a lock's permit
permit_laid : {actions : List Word} {resource : Word} {t : Test} {ts : List Test} → Made actions resource (t ∷ ts) → PermitLaid actions resource t ts
unfolding written_opened permit_text permit_policy effect_word action_tokens resource_tokens when_tokens
permit_laid {actions} {resource} {t} {ts} m =
    let strings = actions_laid m.some_actions (each_in actions m.actions_are) in
    let tests = condition_laid (each_in (t ∷ ts) m.tests_are) in
    let os = action_tokens strings in
    let rs = resource_tokens resource m.resource_is in
    let cs = when_tokens tests in
    let rest = os ++ (rs ++ cs) in
    let few : length (map text actions) ≤ 16 = rw (length-map actions (λ (w : Word). text w)) m.few_actions in
    record {
      tokens = permit_token ∷ (head_tokens ++ rest);
      laid =
          parts_text os rs cs (between (bytes ", ") (map quoted actions)) (quoted resource) (between (bytes " && ") (map test_text (t ∷ ts)))
          (action_laid strings) (resource_laid resource m.resource_is) (when_laid tests);
      well = well_fixed (well_append (well_fixed (well_fixed (well_fixed none refl) refl) refl)
          (well_append (action_well strings (laid_out (rs ++ cs) ++ []))
          (well_append (resource_well resource m.resource_is (laid_out cs ++ [])) (when_well tests [])))) refl;
      prints = λ f.
          prints_text (record { read_as = refl })
          (prints_policy
          (prints_after (prints_after (prints_before prints_bare (record { read_as = refl })) (record { read_as = refl })) (record { read_as = refl }))
          (action_prints strings few) (resource_prints resource m.resource_is) (when_prints tests f));
      fits = λ e. when_fits tests (each_right rs cs (each_right os (rs ++ cs) (each_right head_tokens rest (each_rest e))));
    }

-- ---- its length

-- a path, a comparator's mark, a string with its quotes
path_few : (p : Word) → is_path p ≡ true → length p ≤ 64
unfolding PathsAlike
path_few p i = ((paths_alike p).0 i).1

mark_few : (c : Comparator) → length (sign_of c) ≤ 2
unfolding sign_of
mark_few Equal = omega arith
mark_few NotEqual = omega arith
mark_few More = omega arith
mark_few AtLeast = omega arith
mark_few Less = omega arith
mark_few AtMost = omega arith

quoted_few : (s : Word) → length s ≤ 127 → length (quoted s) ≤ 129
quoted_few s h = omega (arith, length-append s (quote ∷ []))

-- f makes at most n bytes of it
abbrev Short : {A : Type 0} → ℕ → (A → List ℕ) → A → Type 0
Short n f x = length (f x) ≤ n

-- a test
test_few : {t : Test} → Formed t → Fits t → length (test_text t) ≤ 207
unfolding test_text
test_few (equality {path} {value} i v) (equal_fits h) =
    omega (arith, path_few path i, quoted_few value h, length-append path (bytes " == " ++ quoted value))
test_few (membership {path} {value} i v) (member_fits h) =
    omega (arith, path_few path i, quoted_few value h, length-append (quoted value) (bytes " in " ++ (bytes "principal." ++ path)))
test_few (comparison {path} {n} {c} i o m) (order_fits h) =
    omega (arith, path_few path i, mark_few c, number_long m, length-append path (space ++ (sign_of c ++ (space ++ n))), length-append (sign_of c) (space ++ n))

-- things of at most m bytes with others between them
module _ {A : Type 0} (sep : List ℕ) (f : A → List ℕ) (m n : ℕ) (fits : m + length sep ≤ n) where
  -- each with one before it, and then all
  after_few : {xs : List A} → Each (Short m f) xs → length (after_each sep f xs) ≤ length xs * n
  unfolding after_each
  after_few none_left = omega arith
  after_few (and_each {a = x} {l = xs} h hs) =
      let rest = after_few hs in
      omega (arith, length-append sep (f x ++ after_each sep f xs), length-append (f x) (after_each sep f xs), suc-mul (length xs) n)

  between_few : {xs : List A} → Each (Short m f) xs → length (between sep (map f xs)) ≤ length xs * n
  unfolding between
  between_few none_left = omega arith
  between_few (and_each {a = x} {l = xs} h hs) =
      let rest = after_few hs in
      omega (arith, ap length (between_is sep f x xs), length-append (f x) (after_each sep f xs), suc-mul (length xs) n)

-- 1 to 16 strings of at most 131 bytes with what stands between, 1 to 16 tests of at most 211, and the rest: never above 8,192
permit_few : {actions : List Word} {resource : Word} {tests : List Test} → Made actions resource tests → Each Fits tests
    → length (permit_text actions resource tests) ≤ 8192
unfolding permit_text
permit_few {actions} {resource} {tests} m h =
    let strings = between_few (bytes ", ") quoted 129 131 (omega arith) (each_as (λ a s. quoted_few a s.size) (each_in actions m.actions_are)) in
    let conditions = between_few (bytes " && ") test_text 207 211 (omega arith) (each_both (λ t f g. test_few f g) (each_in tests m.tests_are) h) in
    let one = quoted_few resource m.resource_is.size in
    let many_actions = m.few_actions in
    let many_tests = m.few_tests in
    let last = between (bytes " && ") (map test_text tests) ++ bytes " };" in
    let behind = bytes "], resource == " ++ (quoted resource ++ (bytes ") when { " ++ last)) in
    omega (
      arith,
      length-append (between (bytes ", ") (map quoted actions)) behind,
      length-append (quoted resource) (bytes ") when { " ++ last),
      length-append (between (bytes " && ") (map test_text tests)) (bytes " };"),
    )

-- ---- what is promised

-- it says its permit where all fits
pub permit_says : PermitSays
unfolding PermitSays
permit_says actions resource t ts m f =
    let fit = each_in (t ∷ ts) f in
    let permit = permit_laid m in
    let printed = permit.prints fit in
    record {
      policies = printed.policies;
      says = record {
        tokens = standing 0 permit.tokens;
        listed = rw permit.laid at (laid_out_stand permit.well);
        belongs = printed.belongs;
      };
      words = rw permit.laid at printed.says;
      short = permit_few m fit;
    }

-- and where it says anything, all fits
pub only_sizes : OnlySizes
unfolding OnlySizes
only_sizes actions resource t ts ps m s =
    let permit = permit_laid m in
    each_of (permit.fits (text_sized permit.well (subst (λ (l : List ℕ). SaysPolicies l ps) (sym permit.laid) s)))
