-- A path's names, step by step, and the attribute that a path is. Assumes nothing.
use mathlib.Core.Path.{◌≡◌, refl, ◌∙◌, sym, ap, subst}
use mathlib.Core.Bool.{Bool, true, false, ◌&&◌}
use mathlib.Core.List.{List, [], ◌∷◌}
use Prim.Native.Nat.{ℕ, ◌+◌, ◌-◌, ◌≤◌}
use native.Mathlib.Omega.{arith}
use native.Mathlib.Nat.{zero-add}
use lib.ListN.{length}
use lib.Dec.{eqb}
use borrow.Author.Tests.{eq-eqb, ne_eqb}
use Rattle.tokens.specs.Kinds as kinds
use Rattle.tokens.specs.declared.reader.Token.{Token}
use Rattle.tokens.specs.Tokens.{token_at, Reads}
use Rattle.tokens.proofs.ReadLaws.{reads}
use Rattle.tokens.proofs.TokenLaws.{never}
use Rattle.reading.specs.Lexemes.{Lexeme, lexeme, is, choose, stream}
use Rattle.reading.specs.Reader as reader
use Rattle.reading.specs.Reader.{Reader, took, refuse, refuse_by, ten, bind, on, need, chain, onwards}
use Rattle.reading.proofs.Stream.{next_on, next_off}
use Rattle.grammar.specs.Policies.{Span, span, Root}
use Rattle.grammar.specs.Rules.{which_of, admitted}
use Rattle.grammar.specs.Grammar.{Path, first_path, longer_path}
use Rattle.grammar.specs.Parser.{Way, uncalled, calling, no_name, name_fits, goes_on, read_first_name, read_next_name, read_way, spanned_by, read_path, read_attribute}
use Rattle.grammar.proofs.Steps.{way_step}
use Rattle.parts.specs.Names.{exit_of, call_of}
use Rattle.parts.specs.Answers.{turned_away, TurnedAway, call_after, PathWalked, PathIs, PathWalks, found, lost, StillLent, DoneFrom, at_token, passed}
use Rattle.parts.specs.declared.paths.Path.{Path as Found-path}
use Rattle.parts.specs.declared.answers.Reader.{Reader as Text-reader}
use Rattle.std.specs.Prelude.{Option, Some, None, Result, Ok, Err}
use Rattle.parts.proofs.Standing.{standing, lowered, past, turned_as, turned_bind, turned_for}
use Rattle.parts.proofs.SoFar.{SoFar, lent, keeps_on, done_turned}
use Rattle.table.specs.declared.Entry.{Entry}
use Rattle.parts.proofs.Sorts.{exit_some, no_call, calls, call_is}

abbrev pub path : ℕ → ℕ → ℕ → Path
path start end used = record { start = start; end = end; used = used }

abbrev pub found_path : ℕ → ℕ → Option ℕ → Found-path
found_path start end call = record { start = start; end = end; call = call }

module _ (left : Bool) (root : Root) where
  abbrev pub next_name : Way → Lexeme → Reader Way
  next_name w x = read_next_name (exit_of left) root w

  -- a name must stand next, on a path of which `used` bytes are read
  abbrev pub name_of : ℕ → (Lexeme → Path) → Reader Way
  name_of used make = on (name_fits root used) (λ x. took (uncalled (make x))) (refuse_by (no_name root))

  -- what is known of a path so far: the name that must stand next makes it the path from `start` to its own end
  pub record Walking (text : List ℕ) (total : reader.Answer Way) (from start used : ℕ) (name : Token) : Type 0 where
    pub make : Lexeme → Path
    pub rest : total ≡ bind (name_of used make (stream text name)) (onwards goes_on next_name)
    pub made : make (lexeme text name) ≡ path start name.end (used + (name.end - name.start))
    pub lies : Reads text from name
    pub few : used ≤ name.start

  pub walking_first : (text : List ℕ) (t : Token) {low : ℕ} → Reads text low t → Walking text (read_way (exit_of left) root (stream text t)) t.start t.start 0 t
  unfolding read_way chain read_first_name
  walking_first text t r = record {
    make = first_path;
    rest = refl;
    made = ap (path t.start t.end) (sym (zero-add _));
    lies = standing t (omega arith) r;
    few = omega arith;
  }

  module _ {text : List ℕ} {total : reader.Answer Way} {from start used : ℕ} {name : Token} (w : Walking text total from start used name) where
    pub walking_lost : name_fits root used (lexeme text name) ≡ false → {n : ℕ} → n ≡ no_name root (lexeme text name) → TurnedAway text total (turned_away (length text) n name)
    walking_lost e q = turned_as w.rest (turned_bind (onwards goes_on next_name)
        (turned_as (next_off text name (name_fits root used) (λ x. took (uncalled (w.make x))) (refuse_by (no_name root)) e) (turned_for text name (no_name root) q refl)))

    module _ (e : name_fits root used (lexeme text name) ≡ true) (dot : Token) (q : dot ≡ token_at text name.end) (s : Reads text name.end dot) where
      pub name_some : name.kind ≡ 0 → ⊥
      unfolding name_fits
      name_some z = never (rw z at e)

      -- the path so far
      abbrev pub here : Path
      here = path start name.end (used + (name.end - name.start))

      named : total ≡ onwards goes_on next_name (uncalled here) (stream text dot)
      unfolding bind
      named = w.rest ∙ rw (next_on text name (name_fits root used) (λ x. took (uncalled (w.make x))) (refuse_by (no_name root)) dot name_some w.lies.high q e, w.made)

      dot_lies : Reads text (from + 1) dot
      dot_lies = let l = w.lies.low in lowered (omega arith) (past name w.lies name_some s)

      pub walking_ends : (dot.kind ≡ kinds.dot → ⊥) → PathWalked text from total dot (found_path start name.end None)
      unfolding goes_on spanned_by call_after
      walking_ends n = record {
        way = uncalled here;
        span_is = refl;
        call_is = refl;
        lies = dot_lies;
        is = named ∙ way_step (exit_of left) root (uncalled here) (stream text dot) ∙ next_off text dot (goes_on (uncalled here)) _ _ (ne_eqb _ _ n);
      }

      module _ (d : dot.kind ≡ kinds.dot) (word : Token) (q' : word ≡ token_at text dot.end) (s' : Reads text dot.end word) where
        after_dot : total ≡ bind (read_next_name (exit_of left) root (uncalled here) (stream text word)) (onwards goes_on next_name)
        unfolding goes_on
        after_dot = named ∙ way_step (exit_of left) root (uncalled here) (stream text dot)
            ∙ next_on text dot (goes_on (uncalled here)) _ _ word (λ (z : dot.kind ≡ 0). omega arith) s.high q' (eq-eqb _ _ d)

        word_lies : Reads text (from + 1) word
        word_lies = let l = dot_lies.low in lowered (omega arith) (past dot dot_lies (λ (z : dot.kind ≡ 0). omega arith) s')

        pub walking_calls : {call : ℕ} → call_of left word.kind ≡ Some call → (next : Token) → next ≡ token_at text word.end → Reads text word.end next
            → PathWalked text from total next (found_path start name.end (call_of left word.kind))
        unfolding read_next_name bind goes_on spanned_by call_after
        walking_calls n next q'' s'' =
            let x = lexeme text word in
            let out = calls left x n in
            record {
              way = calling here (which_of x);
              span_is = refl;
              call_is = call_is left x n;
              lies = let l = word_lies.low in lowered (omega arith) (past word word_lies (exit_some left x out) s'');
              is = after_dot ∙ rw (next_on text word (exit_of left) _ _ next (exit_some left x out) s'.high q'' out)
                  (way_step (exit_of left) root (calling here (which_of x)) (stream text next) ∙ next_off text next (goes_on (calling here (which_of x))) _ _ refl);
            }

        pub walking_on : call_of left word.kind ≡ None → Walking text total from start (used + (name.end - name.start + 1)) word
        unfolding read_next_name
        walking_on n =
            let e : used + (name.end - name.start + 1) ≡ used + (name.end - name.start) + 1 = omega arith in
            rw e (record {
              make = longer_path here;
              rest = after_dot ∙ rw (next_off text word (exit_of left) (λ x. took (calling here (which_of x))) (name_of (here.used + 1) (longer_path here)) (no_call left (lexeme text word) n));
              made = refl;
              lies = lowered (omega arith) word_lies;
              few = let a = w.few in let b = w.lies.order in let c = s.low in let o = s'.low in let y = s.some (λ (z : dot.kind ≡ 0). omega arith) in omega arith;
            })

-- ---- a reader that only goes on

-- to the token after the one that stands next
pub record Moved (old now new : Text-reader) : Type 0 where
  pub next : new.next ≡ token_at old.text.now now.next.end
  pub stays : new ≡ at_token old new.next
  pub lies : Reads old.text.now now.next.end new.next

pub moved : {new : Text-reader} (old now : Text-reader) → now ≡ at_token old now.next → now.next.end ≤ length old.text.now → new ≡ passed now → Moved old now new
moved {new} old now s h e =
    let there : new ≡ at_token old (token_at old.text.now now.next.end) = e ∙ ap passed s in
    let next : new.next ≡ token_at old.text.now now.next.end = ap (λ (r : Text-reader). r.next) there in
    record { next = next; stays = there ∙ ap (at_token old) (sym next); lies = rw next (reads old.text.now now.next.end h) }

pub same_text : {now : Text-reader} {t : Token} (old : Text-reader) → now ≡ at_token old t → now.text ≡ old.text
same_text old s = ap (λ (r : Text-reader). r.text) s

-- ---- what a path's answer tells

pub as_found : {text : List ℕ} {from : ℕ} {p : reader.Answer Way} {next : Token} {r : Result Found-path ℕ} {x : Found-path} → r ≡ Ok x → PathIs text from p next r → PathWalked text from p next x
as_found {text} {from} {p} {next} e n = go (subst (PathIs text from p next) e n)
  where
    go : {x : Found-path} → PathIs text from p next (Ok x) → PathWalked text from p next x
    go (found k) = k

pub as_lost : {text : List ℕ} {from : ℕ} {p : reader.Answer Way} {next : Token} {r : Result Found-path ℕ} {n : ℕ} → r ≡ Err n → PathIs text from p next r → TurnedAway text p (turned_away (length text) n next)
as_lost {text} {from} {p} {next} e n = go (subst (PathIs text from p next) e n)
  where
    go : {n : ℕ} → PathIs text from p next (Err n) → TurnedAway text p (turned_away (length text) n next)
    go (lost k) = k

-- what is done once a path is read
pub record AfterWay {B : Type 0} (old new : Text-reader) (base : ℕ) (total : reader.Answer B) (g : Way → Reader B) (a : List Entry) (w : Found-path) : Type 0 where
  pub way : Way
  pub span_is : spanned_by way ≡ span w.start w.end
  pub call_is : call_after way ≡ w.call
  pub so : SoFar old new base total (g way) a

module _ {B : Type 0} {old now : Text-reader} {base : ℕ} {total : reader.Answer B} {a : List Entry} {new : Text-reader} {r : Result Found-path ℕ} (p : Reader Way) (g : Way → Reader B)
    (so : SoFar old now base total (λ i. bind (p i) g) a) (d : PathWalks p now new r) where
  pub so_way : {w : Found-path} → r ≡ Ok w → AfterWay old new (base + 1) total g a w
  unfolding bind
  so_way e =
      let k = as_found e d.says in
      let said = lent (λ text seen. p (stream text now.next) ≡ took k.way (stream text new.next)) so.keeps k.is in
      let stands = lent (λ text seen. Reads text (now.next.start + 1) new.next) so.keeps k.lies in
      record {
        way = k.way;
        span_is = k.span_is;
        call_is = k.call_is;
        so = subst (λ (x : Text-reader). SoFar old x (base + 1) total (g k.way) a) (sym d.stays) (record {
          keeps = record { text = so.keeps.text; seen = so.keeps.seen; table = so.keeps.table; room = so.keeps.room };
          is = so.is ∙ rw said;
          lies = lowered (omega arith) stands;
          room = let x = so.room in let y = stands.low in omega arith;
          kept = so.kept;
        });
      }

  pub so_way_lost : {es : ℕ → B → List Entry} {from n : ℕ} → r ≡ Err n → DoneFrom es from total old new (Err n)
  so_way_lost {n = n} e =
      let told = lent (λ text seen. TurnedAway text (p (stream text now.next)) (turned_away (length text) n new.next)) so.keeps (as_lost e d.says) in
      let keeps : StillLent now new = rw d.stays (record { text = refl; seen = refl; table = refl; room = refl }) in
      done_turned (keeps_on so.keeps keeps) (turned_as so.is (turned_bind g told))

-- whether a name fits there
module _ (root : Root) (used : ℕ) (old now : Text-reader) (stays : now ≡ at_token old now.next) where
  pub fits : now.next.kind ≡ kinds.name → admitted root used (lexeme now.text.now now.next) ≡ true → name_fits root used (lexeme old.text.now now.next) ≡ true
  unfolding name_fits
  fits k e = let there : admitted root used (lexeme old.text.now now.next) ≡ true = rw (same_text old stays) at e in rw (eq-eqb _ _ k) there

  pub unfit_kind : (now.next.kind ≡ kinds.name → ⊥) → name_fits root used (lexeme old.text.now now.next) ≡ false
  unfolding name_fits
  unfit_kind n = rw (ne_eqb now.next.kind kinds.name n)

  pub unfit : now.next.kind ≡ kinds.name → admitted root used (lexeme now.text.now now.next) ≡ false → name_fits root used (lexeme old.text.now now.next) ≡ false
  unfolding name_fits
  unfit k e = let there : admitted root used (lexeme old.text.now now.next) ≡ false = rw (same_text old stays) at e in rw (eq-eqb _ _ k) there

-- ---- attributes

bind_took : {A B : Type 0} (p : reader.Answer A) (f : A → B) → bind p (λ a. took (f a)) ≡ bind (bind p took) (λ a. took (f a))
unfolding bind
bind_took (took a r) f = refl
bind_took (refuse n r) f = refl

-- an attribute is its place, with its root
pub attribute_is : {A : Type 0} (root : Root) (f : Root → Span → A) (i : List Lexeme) → read_attribute root f i ≡ bind (read_attribute root (λ root s. s) i) (λ s. took (f root s))
unfolding read_attribute need on choose refuse_by bind
attribute_is root f [] = refl
attribute_is root f (x ∷ i) = go (is kinds.dot x)
  where
    go : (b : Bool) → choose b (λ _. bind (read_path root i) (λ s. took (f root s))) (λ _. refuse_by ten (x ∷ i))
        ≡ bind (choose b (λ _. bind (read_path root i) (λ s. took s)) (λ _. refuse_by ten (x ∷ i))) (λ s. took (f root s))
    go true = bind_took (read_path root i) (f root)
    go false = refl
