-- What another reader reads after the token that stands next: it is what is read from that token on. Assumes nothing.
use mathlib.Core.Path.{◌≡◌, refl, sym, subst, ◌∙◌}
use mathlib.Core.Bool.{Bool, true, false}
use mathlib.Core.List.{List, [], ◌∷◌}
use Prim.Native.Nat.{ℕ, ◌+◌, ◌^◌, ◌≤◌, ◌<◌}
use native.Mathlib.Omega.{arith}
use lib.ListN.{length}
use Rattle.std.specs.Prelude.{Result, Ok, Err}
use Rattle.tokens.specs.declared.reader.Token.{Token}
use Rattle.tokens.specs.Tokens.{token_at, Reads}
use Rattle.tokens.proofs.ReadLaws.{reads}
use Rattle.reading.specs.Lexemes.{Lexeme, lexeme, is, choose, stream}
use Rattle.reading.specs.Reader as reading
use Rattle.reading.specs.Reader.{took, refuse, refuse_by, ten, bind, on, need, before, mapped}
use Rattle.table.specs.declared.Entry.{Entry}
use Rattle.parts.specs.Answers.{turned_away, TurnedAway, Taken, AnswerIs, read, refused, StillLent, DoneFrom, passed, ReadyToRead, PutBy, PathWalks}
use Rattle.parts.specs.declared.paths.Path.{Path}
use Rattle.grammar.specs.Parser.{Way}
use Rattle.parts.specs.declared.answers.Reader.{Reader}
use Rattle.parts.proofs.Standing.{lowered, ready_past}
use Rattle.parts.proofs.Writing.{Kept}
use Rattle.parts.proofs.Ways.{as_found}
use Rattle.parts.proofs.SoFar.{SoFar, done_read, done_turned, as_read, as_refused}

module _ {A : Type 0} {es : ℕ → A → List Entry} where
  -- where bytes count from an earlier place on
  said_from : {text seen : List ℕ} {from from' first : ℕ} {same : Bool} {p : reading.Answer A} {next : Token} {free : ℕ} {ok : Bool} {r : Result (Unit {0}) ℕ} → from ≤ from'
      → AnswerIs es text seen from' first same p next free ok r → AnswerIs es text seen from first same p next free ok r
  said_from l (read k) = read (record { value = k.value; is = k.is; lies = lowered (omega arith) k.lies; room = let x = k.room in omega arith; counted = k.counted })
  said_from l (refused h) = refused h

  pub handed_on : {from from' : ℕ} {p q : reading.Answer A} {old new : Reader} {r : Result (Unit {0}) ℕ} → q ≡ p → from ≤ from' → DoneFrom es from' p old new r → DoneFrom es from q old new r
  handed_on {from} {p = p} {old = old} {new} {r} e l d = subst (λ (x : reading.Answer A). DoneFrom es from x old new r) (sym e) (record { keeps = d.keeps; says = said_from l d.says; wrote = d.wrote })

  -- after one token
  pub handed : {from from' : ℕ} {q : reading.Answer A} {old at new : Reader} {r : Result (Unit {0}) ℕ} (f : reading.Reader A) → at ≡ passed old
      → q ≡ f (stream old.text.now (token_at old.text.now old.next.end)) → from ≤ from' → DoneFrom es from' (f (stream at.text.now at.next)) at new r → DoneFrom es from q old new r
  handed {from} {from'} {q} {old} {at} {new} {r} f e s l d = handed_on s l (go (subst (λ (x : Reader). DoneFrom es from' (f (stream x.text.now x.next)) x new r) e d))
    where
      go : DoneFrom es from' (f (stream old.text.now (token_at old.text.now old.next.end))) (passed old) new r → DoneFrom es from' (f (stream old.text.now (token_at old.text.now old.next.end))) old new r
      go d = record { keeps = record { text = d.keeps.text; seen = d.keeps.seen; table = d.keeps.table; room = d.keeps.room }; says = d.says; wrote = d.wrote }

-- ---- what a call asks after one token, after one entry, and after what was read

module _ {old at : Reader} (e : at ≡ passed old) {from : ℕ} (l : Reads old.text.now from old.next) (some : old.next.kind ≡ 0 → ⊥) where
  pub next_later : old.next.start + 1 ≤ at.next.start
  next_later = let one = l.some some in rw e (let low = (reads old.text.now old.next.end l.high).low in omega arith)

pub ready_on : {old at : Reader} {from low : ℕ} → at ≡ passed old → ReadyToRead old.text.now from old.next → (old.next.kind ≡ 0 → ⊥) → low ≤ old.next.start + 1 → ReadyToRead at.text.now low at.next
ready_on {old} e r some l = rw e (ready_past old.next r some (reads old.text.now old.next.end r.lies.high) l)

pub ready_put : {now new : Reader} {x : Entry} {from low : ℕ} → PutBy x now new → ReadyToRead now.text.now from now.next → low ≤ from → ReadyToRead new.text.now low new.next
ready_put p r l = rw (p.keeps.text, p.next) (record { lies = lowered l r.lies; small = r.small })

pub free_small : {A : Type 0} {es : ℕ → A → List Entry} {from : ℕ} {p : reading.Answer A} {old new : Reader} {r : Result (Unit {0}) ℕ} {u : Unit {0}} → DoneFrom es from p old new r → r ≡ Ok u → old.free ≤ from
    → length old.text.now < 2 ^ 60 → new.free < 2 ^ 60
free_small d e l small = let k = as_read e d.says in let a = k.room in let b = k.lies.order in let h = k.lies.high in omega arith

pub next_lies : {A : Type 0} {es : ℕ → A → List Entry} {from : ℕ} {p : reading.Answer A} {old new : Reader} {r : Result (Unit {0}) ℕ} {u : Unit {0}} → DoneFrom es from p old new r → r ≡ Ok u → Reads new.text.now 0 new.next
next_lies d e = rw d.keeps.text (lowered (omega arith) (as_read e d.says).lies)

pub ready_way : {p : List Lexeme → reading.Answer Way} {old new : Reader} {r : Result Path ℕ} {w : Path} {low : ℕ} → PathWalks p old new r → r ≡ Ok w → length old.text.now < 2 ^ 60 → low ≤ old.next.start + 1
    → ReadyToRead new.text.now low new.next
ready_way {low = low} d e small l = subst (λ (x : Reader). ReadyToRead x.text.now low x.next) (sym d.stays) (record { lies = lowered l (as_found e d.says).lies; small = small })

-- what was read, of which the tokens are known to go on
pub so_end : {A : Type 0} {es : ℕ → A → List Entry} {old now : Reader} {base from : ℕ} {total : reading.Answer A} {a : List Entry} {u : Unit {0}} (v : A) → SoFar old now base total (took v) a → es old.free v ≡ a
    → from ≤ base → from + 1 ≤ now.next.start → DoneFrom es from total old now (Ok u)
so_end {old = old} {now} v so shape l low =
    let x = so.room in
    done_read v so.keeps so.is (record { low = low; order = so.lies.order; high = so.lies.high; some = so.lies.some }) (omega arith)
    (subst (λ (l : List Entry). Kept old.seen.now old.table.now old.free old.same l now.free now.same now.table.now) (sym shape) so.kept)

-- a refusal is told on
pub lost_as : {A B : Type 0} {es : ℕ → A → List Entry} {es' : ℕ → B → List Entry} {from from' n : ℕ} {p : reading.Answer A} {q : reading.Answer B} {old new : Reader} {r : Result (Unit {0}) ℕ} → r ≡ Err n
    → (TurnedAway old.text.now p (turned_away (length old.text.now) n new.next) → TurnedAway old.text.now q (turned_away (length old.text.now) n new.next)) → DoneFrom es from p old new r → DoneFrom es' from' q old new (Err n)
lost_as e f d = done_turned d.keeps (f (as_refused e d.says))

-- ---- what is read of a thing that goes on

pub then_took : {A : Type 0} (p : reading.Reader A) (i : List Lexeme) → p i ≡ bind (p i) took
unfolding bind
then_took {A} p i = go (p i)
  where
    go : (x : reading.Answer A) → x ≡ bind x took
    go (took a r) = refl
    go (refuse n r) = refl

-- of one that becomes another
pub mapped_bind : {A B C : Type 0} (f : A → B) (p : reading.Reader A) (g : B → reading.Reader C) (i : List Lexeme) → bind (mapped f p i) g ≡ bind (p i) (λ a. g (f a))
unfolding mapped bind
mapped_bind f p g i = go (p i)
  where
    go : (x : reading.Answer _) → bind (bind x (λ a. took (f a))) g ≡ bind x (λ a. g (f a))
    go (took a r) = refl
    go (refuse n r) = refl

-- of one that a token must follow
need_bind : {A B : Type 0} (k : ℕ) (a : A) (g : A → reading.Reader B) (i : List Lexeme) → bind (need k (took a) i) g ≡ need k (g a) i
unfolding need on refuse_by choose bind
need_bind k a g [] = refl
need_bind {A} {B} k a g (x ∷ r) = go (is k x)
  where
    go : (b : Bool) → bind (choose b (λ _. took a r) (λ _. refuse_by {A = A} ten (x ∷ r))) g ≡ choose b (λ _. g a r) (λ _. refuse_by {A = B} ten (x ∷ r))
    go true = refl
    go false = refl

pub before_bind : {A B : Type 0} (k : ℕ) (p : reading.Reader A) (g : A → reading.Reader B) (i : List Lexeme) → bind (before k p i) g ≡ bind (p i) (λ a. need k (g a))
unfolding before bind
before_bind {A} {B} k p g i = go (p i)
  where
    go : (x : reading.Answer A) → bind (bind x (λ a. need k (took a))) g ≡ bind x (λ a. need k (g a))
    go (took a r) = need_bind k a g r
    go (refuse n r) = refl
