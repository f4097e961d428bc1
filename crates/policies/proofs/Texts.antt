-- A whole text: its policies one after the other, and its end. Assumes nothing.
use mathlib.Core.Path.{◌≡◌, refl, ◌∙◌, sym, ap}
use mathlib.Core.Bool.{Bool, true, false, ◌&&◌}
use mathlib.Core.List.{List, [], ◌∷◌, ◌++◌}
use Prim.Native.Nat.{ℕ, ◌+◌, ◌-◌, ◌^◌, ◌≤◌, ◌<◌}
use native.Mathlib.Omega.{arith}
use lib.Dec.{ltb}
use lib.ListN.{length, length-append}
use borrow.Author.Tests.{ltb-true}
use Rattle.std.specs.Prelude.{Result, Ok, Err}
use Rattle.tokens.proofs.TokenLaws.{and_right}
use Rattle.tokens.specs.Kinds as kinds
use Rattle.tokens.specs.declared.reader.Token.{Token}
use Rattle.tokens.specs.Tokens.{token_at, Reads}
use Rattle.tokens.specs.Sizes.{most_policies}
use Rattle.reading.specs.Lexemes.{Lexeme, lexeme, is, stream, tokens_of}
use Rattle.reading.specs.Reader as reading
use Rattle.reading.specs.Reader.{took, refuse, refuse_by, bind, onwards, mapped}
use Rattle.reading.proofs.Stream.{tokens_from_lem, stream_end, stream_token, next_on, next_off}
use Rattle.grammar.specs.Policies.{Policy}
use Rattle.grammar.specs.Rules.{is_effect}
use Rattle.grammar.specs.Parser.{no_policy, may_begin, read_policy, read_next_policy, at_end, read_text}
use Rattle.grammar.specs.declared.Version.{Version}
use Rattle.grammar.proofs.Steps.{policies_step}
use Rattle.table.proofs.Counting.{policies_append}
use Rattle.table.specs.Entries.{policy_entries, policies_entries}
use Rattle.parts.specs.Answers.{turned_away, DoneFrom, passed}
use Rattle.parts.specs.declared.answers.Reader.{Reader}
use Rattle.parts.specs.declared.answers.Refusal.{Refusal}
use Rattle.parts.proofs.Standing.{turned, turned_as, ahead}
use Rattle.parts.proofs.SoFar.{SoFar, so_begins, so_to, so_put_as, so_read, so_lost, so_free, as_refused, as_read}
use Rattle.policies.specs.Whole.{Told, complete, lost, whole}

abbrev on_and_on : List Policy → reading.Reader (List Policy)
on_and_on = onwards may_begin read_next_policy

-- all policies after these, and the text's end
abbrev pub rest_of : List Policy → reading.Reader (List Policy)
rest_of ps i = bind (on_and_on ps i) at_end

-- one more policy, and then all after it
abbrev pub after_one : List Policy → Policy → reading.Reader (List Policy)
after_one ps p = rest_of (ps ++ p ∷ [])

bind_twice : {A B C D : Type 0} (p : reading.Answer A) (h : A → B) (k : B → reading.Reader C) (e : C → reading.Reader D)
    → bind (bind (bind p (λ a. took (h a))) k) e ≡ bind p (λ a j. bind (k (h a) j) e)
unfolding bind
bind_twice (took a r) h k e = refl
bind_twice (refuse n r) h k e = refl

-- where a policy may begin: `total` is the policies so far and all from there on
pub record Underway (version : Version) (old now : Reader) (total : reading.Answer (List Policy)) (policies : ℕ) : Type 0 where
  pub value : List Policy
  pub many : policies ≡ length value
  pub few : policies ≤ most_policies
  pub so : SoFar old now 0 total (rest_of value) (policies_entries version old.free value)

pub at_start : {version : Version} (old : Reader) → old.next ≡ token_at old.text.now 0 → Reads old.text.now 0 old.next → old.free ≡ 0
    → Underway version old old (read_text (tokens_of old.text.now)) 0
unfolding read_text policies_entries
at_start old q r z =
    let so = so_begins old (rest_of []) r in record {
      value = [];
      many = refl;
      few = omega arith;
      so = record {
        keeps = so.keeps;
        is = ap (rest_of []) (tokens_from_lem old.text.now 0 (omega arith) ∙ ap (stream old.text.now) (sym q));
        lies = so.lies;
        room = omega arith;
        kept = so.kept;
      };
    }

module _ {version : Version} {old now : Reader} {total : reading.Answer (List Policy)} {policies : ℕ} (b : Underway version old now total policies) where
  at_end_lem : is_effect (lexeme now.text.now now.next) && ltb policies most_policies ≡ false → total ≡ at_end b.value (stream old.text.now now.next)
  unfolding bind may_begin
  at_end_lem e =
      b.so.is ∙ ap (λ (p : reading.Answer (List Policy)). bind p at_end)
      (policies_step b.value (stream old.text.now now.next) ∙ next_off old.text.now now.next (may_begin b.value) _ _ (rw (← b.many) e))

  -- no policy begins, and the text ends
  pub ended : {T : List ℕ} → old.free ≡ 0 → old.same ≡ true → T ≡ now.table.now → is_effect (lexeme now.text.now now.next) && ltb policies most_policies ≡ false → now.next.kind ≡ 0
      → Told version old.text.now old.seen.now old.table.now T total (whole policies now.free now.same)
  unfolding at_end
  ended {T} f s t e z =
      let room = b.so.room in let order = b.so.lies.order in let high = b.so.lies.high in
      complete {policies = policies} {free = now.free} {ok = now.same} (record {
        value = b.value;
        is = at_end_lem e ∙ rw (stream_end old.text.now now.next z);
        many = b.many;
        few = b.few;
        room = omega arith;
        counted = rw f at (rw s at b.so.kept.counted);
        stored = t ∙ (rw f at b.so.kept.stored);
      })

  -- none may begin, and another token stands there
  pub stopped : {f : Refusal} {T : List ℕ} → is_effect (lexeme now.text.now now.next) && ltb policies most_policies ≡ false → (now.next.kind ≡ 0 → ⊥)
      → f ≡ turned_away (length old.text.now) (no_policy (lexeme now.text.now now.next)) now.next → Told version old.text.now old.seen.now old.table.now T total (Err f)
  unfolding at_end
  stopped e z q =
      lost (turned_as {p = refuse_by no_policy (stream old.text.now now.next)} (at_end_lem e ∙ rw (stream_token old.text.now now.next z)) (turned old.text.now now.next no_policy (rw b.so.keeps.text at q)))

  module _ (e : is_effect (lexeme now.text.now now.next) && ltb policies most_policies ≡ true) where
    pub effect_some : now.next.kind ≡ 0 → ⊥
    effect_some z = let y : false ≡ true = rw z at e in let x : ◌≡◌ {A = ℕ} 0 1 = cc in omega arith

    module _ {at : Reader} (q : at ≡ passed now) where
      -- an effect is passed: its policy comes next, and then all others
      pub begun : SoFar old at 1 total (λ i. bind (read_policy (is kinds.permit_word (lexeme now.text.now now.next)) i) (after_one b.value)) (policies_entries version old.free b.value)
      unfolding read_next_policy mapped may_begin
      begun =
          let fits : may_begin b.value (lexeme old.text.now now.next) ≡ true = rw (← b.many) e in
          so_to (λ i. bind (read_policy (is kinds.permit_word (lexeme now.text.now now.next)) i) (after_one b.value)) b.so q effect_some
          (ap (λ (p : reading.Answer (List Policy)). bind p at_end)
          (policies_step b.value (stream old.text.now now.next)
          ∙ next_on old.text.now now.next (may_begin b.value) _ _ (token_at old.text.now now.next.end) effect_some b.so.lies.high refl fits)
          ∙ bind_twice (read_policy (is kinds.permit_word (lexeme old.text.now now.next)) (stream old.text.now (token_at old.text.now now.next.end))) (λ p. b.value ++ p ∷ []) on_and_on at_end)

      module _ {after : Reader} {r : Result (Unit {0}) ℕ}
          (d : DoneFrom (policy_entries version) (at.next.start - 1) (read_policy (is kinds.permit_word (lexeme now.text.now now.next)) (stream at.text.now at.next)) at after r) where
        -- that policy is refused
        pub broken : {n : ℕ} {f : Refusal} {T : List ℕ} → r ≡ Err n → f ≡ turned_away (length old.text.now) n after.next → Told version old.text.now old.seen.now old.table.now T total (Err f)
        broken e' g =
            let x : DoneFrom (λ e ps. []) 0 total old after (Err _) = so_lost (read_policy (is kinds.permit_word (lexeme now.text.now now.next))) (after_one b.value) begun d e' in
            lost (rw g (as_refused refl x.says))

        -- it is read
        pub further : {u : Unit {0}} → r ≡ Ok u → Underway version old after total (policies + 1)
        further e' =
            let x = so_read (read_policy (is kinds.permit_word (lexeme now.text.now now.next))) (after_one b.value) begun d {base' = 0} e' (omega arith) in
            let many = b.many in
            let free : at.free ≡ old.free + length (policies_entries version old.free b.value) = so_free begun in
            record {
              value = b.value ++ x.value ∷ [];
              many = let y = length-append b.value (x.value ∷ []) in omega arith;
              few = let y = ltb-true policies most_policies (and_right (is_effect (lexeme now.text.now now.next)) (ltb policies most_policies) e) in omega arith;
              so = so_put_as (sym (policies_append version old.free b.value x.value ∙ rw (← free))) x.so;
            }

        -- the text goes on past the effect
        pub smaller : {u : Unit {0}} → r ≡ Ok u → length old.text.now - after.next.start < length old.text.now - now.next.start
        smaller e' =
            let k = as_read e' d.says in
            let l = k.lies.low in let o = k.lies.order in let h = k.lies.high in
            let n : at.next ≡ token_at old.text.now now.next.end = rw q (rw b.so.keeps.text refl) in
            let m = ahead now.next b.so.lies effect_some n in
            let z : length at.text.now ≡ length old.text.now = rw q (rw b.so.keeps.text refl) in
            omega (arith, m.0, m.1)
