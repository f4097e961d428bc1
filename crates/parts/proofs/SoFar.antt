-- What a reader of a text has done so far, step by step: what is still to be read, and which entries are put. Assumes nothing.
use mathlib.Core.Path.{◌≡◌, refl, ◌∙◌, sym, subst, ap, fun_ext}
use mathlib.Core.Bool.{Bool, true, false, ◌&&◌}
use mathlib.Core.List.{List, [], ◌∷◌, ◌++◌}
use Prim.Native.Nat.{ℕ, ◌+◌, ◌^◌, ◌≤◌, ◌<◌}
use native.Mathlib.Omega.{arith}
use lib.ListN.{length, length-append}
use borrow.Author.Tests.{eq-eqb}
use Rattle.std.specs.Prelude.{Result, Ok, Err}
use Rattle.std.proofs.Common.{IsErrAnd}
use Rattle.std.proofs.lemmas.Result.{err_from_is_err_and}
use Rattle.tokens.specs.declared.reader.Token.{Token}
use Rattle.tokens.specs.Tokens.{token_at, Reads}
use Rattle.tokens.proofs.ReadLaws.{reads}
use Rattle.reading.specs.Lexemes.{Lexeme, lexeme, is, stream}
use Rattle.reading.specs.Reader as reading
use Rattle.reading.specs.Reader.{took, refuse, refuse_by, ten, bind, on, need, before, mapped}
use Rattle.reading.proofs.Stream.{next_on, next_off}
use Rattle.table.specs.declared.Entry.{Entry}
use Rattle.table.specs.Layout.{puts}
use Rattle.parts.specs.Answers.{ReadyToRead, turned_away, TurnedAway, Taken, AnswerIs, read, refused, Put, put, no_put, StillLent, DoneFrom, passed, PutBy, Expected, stood, other}
use Rattle.parts.specs.declared.answers.Reader.{Reader}
use Rattle.parts.proofs.Standing.{lowered, past, turned_as, turned_bind, turned_for, need_on, need_off}
use Rattle.parts.proofs.Writing.{Kept, kept_none, kept_append, kept_one}

-- ---- what a reader is lent

pub keeps_same : (r : Reader) → StillLent r r
keeps_same r = record { text = refl; seen = refl; table = refl; room = refl }

pub keeps_on : {a b c : Reader} → StillLent a b → StillLent b c → StillLent a c
keeps_on h k = record { text = k.text ∙ h.text; seen = k.seen ∙ h.seen; table = k.table ∙ h.table; room = k.room ∙ h.room }

-- ---- what an answer tells, and what tells it

module _ {A : Type 0} {es : ℕ → A → List Entry} {from : ℕ} {old new : Reader} where
  -- what was put are a value's entries, and the tokens say that value
  pub done_read : {p : reading.Answer A} {u : Unit {0}} (v : A) → StillLent old new → p ≡ took v (stream old.text.now new.next) → Reads old.text.now (from + 1) new.next
      → new.free + from ≤ new.next.start + old.free → Kept old.seen.now old.table.now old.free old.same (es old.free v) new.free new.same new.table.now → DoneFrom es from p old new (Ok u)
  done_read {p} v keeps e lies room k = record {
    keeps = keeps;
    says = read (record { value = v; is = e; lies = lies; room = room; counted = k.counted });
    wrote = subst (Put es old.free old.table.now new.table.now) (sym e) (put k.stored);
  }

  pub done_turned : {p : reading.Answer A} {n : ℕ} → StillLent old new → TurnedAway old.text.now p (turned_away (length old.text.now) n new.next) → DoneFrom es from p old new (Err n)
  done_turned {p} keeps h = record { keeps = keeps; says = refused h; wrote = subst (Put es old.free old.table.now new.table.now) (sym h.is) no_put }

  -- of an equal answer
  pub done_as : {p q : reading.Answer A} {r : Result (Unit {0}) ℕ} → q ≡ p → DoneFrom es from p old new r → DoneFrom es from q old new r
  done_as {r = r} e d = subst (λ (x : reading.Answer A). DoneFrom es from x old new r) (sym e) d

  -- of entries said otherwise
  pub done_alike : {fs : ℕ → A → List Entry} {p : reading.Answer A} {r : Result (Unit {0}) ℕ} → ((e : ℕ) (a : A) → es e a ≡ fs e a) → DoneFrom es from p old new r → DoneFrom fs from p old new r
  done_alike {p = p} {r} h d = subst (λ (es : ℕ → A → List Entry). DoneFrom es from p old new r) (fun_ext (λ e. fun_ext (h e))) d

module _ {A : Type 0} {es : ℕ → A → List Entry} {text seen : List ℕ} {from first : ℕ} {same : Bool} {next : Token} {free : ℕ} {ok : Bool} where
  pub as_read : {p : reading.Answer A} {r : Result (Unit {0}) ℕ} {u : Unit {0}} → r ≡ Ok u → AnswerIs es text seen from first same p next free ok r → Taken es text seen from first same p next free ok
  as_read {p} {r} e s = go (subst (AnswerIs es text seen from first same p next free ok) e s)
    where
      go : {u : Unit {0}} → AnswerIs es text seen from first same p next free ok (Ok u) → Taken es text seen from first same p next free ok
      go (read k) = k

  pub as_refused : {p : reading.Answer A} {r : Result (Unit {0}) ℕ} {n : ℕ} → r ≡ Err n → AnswerIs es text seen from first same p next free ok r → TurnedAway text p (turned_away (length text) n next)
  as_refused {p} {r} e s = go (subst (AnswerIs es text seen from first same p next free ok) e s)
    where
      go : {n : ℕ} → AnswerIs es text seen from first same p next free ok (Err n) → TurnedAway text p (turned_away (length text) n next)
      go (refused h) = h

pub un_put : {A : Type 0} {es : ℕ → A → List Entry} {first : ℕ} {T T₁ : List ℕ} {a : A} {r : List Lexeme} → Put es first T T₁ (took a r) → T₁ ≡ puts T first (es first a)
un_put (put e) = e

pub as_kept : {A : Type 0} {es : ℕ → A → List Entry} {text seen : List ℕ} {from first : ℕ} {same : Bool} {T T₁ : List ℕ} {p : reading.Answer A} {next : Token} {free : ℕ} {ok : Bool}
    (k : Taken es text seen from first same p next free ok) → Put es first T T₁ p → Kept seen T first same (es first k.value) free ok T₁
as_kept {es = es} {first = first} {T = T} {T₁} k w = record { counted = k.counted; stored = un_put (subst (Put es first T T₁) k.is w) }

-- a token of a kind stood there, or did not
pub as_stood : {kind : ℕ} {old new : Reader} {r : Result (Unit {0}) ℕ} {u : Unit {0}} → r ≡ Ok u → Expected kind old new r → (old.next.kind ≡ kind) × (new ≡ passed old)
as_stood {kind} {old} {new} e s = go (subst (Expected kind old new) e s)
  where
    go : {new : Reader} {u : Unit {0}} → Expected kind old new (Ok u) → (old.next.kind ≡ kind) × (new ≡ passed old)
    go (stood k) = (k, refl)

-- what is told of a token that did not
pub record Stopped (kind : ℕ) (old new : Reader) (n : ℕ) : Type 0 where
  pub differs : old.next.kind ≡ kind → ⊥
  pub stays : new ≡ old
  pub number : n ≡ 10

pub as_stopped : {kind : ℕ} {old new : Reader} {r : Result (Unit {0}) ℕ} {n : ℕ} → r ≡ Err n → Expected kind old new r → Stopped kind old new n
as_stopped {kind} {old} {new} e s = go (subst (Expected kind old new) e s)
  where
    go : {new : Reader} {n : ℕ} → Expected kind old new (Err n) → Stopped kind old new n
    go (other k) = record { differs = k; stays = refl; number = refl }

-- what is said of a text and a table that were lent is said of those that are kept
pub lent : {old now : Reader} (P : List ℕ → List ℕ → Type 0) → StillLent old now → P now.text.now now.seen.now → P old.text.now old.seen.now
lent {old} {now} P k h = subst (λ t. P t.now old.seen.now) k.text (subst (λ s. P now.text.now s.now) k.seen h)

-- what `?` gives back of a refusal
pub gives_back : {T : Type 0} {e : ℕ} (r : Result T ℕ) → IsErrAnd r (λ y. y ≡ e) → r ≡ Err e
gives_back r k = let p = err_from_is_err_and r k in p.1 ∙ ap Err p.2

-- ---- what is done so far

-- `total` is what `f` reads from the token that stands next, and `es` are the entries that are put. Of the bytes so many are read that at most one entry stands for each from the place `base` on
pub record SoFar {A : Type 0} (old now : Reader) (base : ℕ) (total : reading.Answer A) (f : reading.Reader A) (es : List Entry) : Type 0 where
  pub keeps : StillLent old now
  pub is : total ≡ f (stream old.text.now now.next)
  pub lies : Reads old.text.now 0 now.next
  pub room : now.free + base ≤ now.next.start + old.free
  pub kept : Kept old.seen.now old.table.now old.free old.same es now.free now.same now.table.now

-- nothing yet
pub so_begins : {A : Type 0} {from : ℕ} (old : Reader) (f : reading.Reader A) → Reads old.text.now from old.next → SoFar old old old.next.start (f (stream old.text.now old.next)) f []
so_begins old f l = record { keeps = keeps_same old; is = refl; lies = lowered (omega arith) l; room = omega arith; kept = kept_none _ _ _ _ }

module _ {A : Type 0} {old now : Reader} {base : ℕ} {total : reading.Answer A} {a : List Entry} where
  -- fewer bytes count
  pub so_from : {f : reading.Reader A} (base' : ℕ) → base' ≤ base → SoFar old now base total f a → SoFar old now base' total f a
  so_from base' l so = record { keeps = so.keeps; is = so.is; lies = so.lies; room = let x = so.room in omega arith; kept = so.kept }

  -- the same read otherwise
  pub so_as : {f : reading.Reader A} (g : reading.Reader A) → ((i : List Lexeme) → f i ≡ g i) → SoFar old now base total f a → SoFar old now base total g a
  so_as g e so = record { keeps = so.keeps; is = so.is ∙ e (stream old.text.now now.next); lies = so.lies; room = so.room; kept = so.kept }

  -- the same of the tokens that are left
  pub so_at : {f : reading.Reader A} (g : reading.Reader A) → SoFar old now base total f a → f (stream old.text.now now.next) ≡ g (stream old.text.now now.next) → SoFar old now base total g a
  so_at g so e = record { keeps = so.keeps; is = so.is ∙ e; lies = so.lies; room = so.room; kept = so.kept }

  -- the same entries, said otherwise
  pub so_put_as : {f : reading.Reader A} {b : List Entry} → a ≡ b → SoFar old now base total f a → SoFar old now base total f b
  so_put_as {f} e so = subst (SoFar old now base total f) e so

  -- the same of an equal answer
  pub so_of : {f : reading.Reader A} {whole : reading.Answer A} → whole ≡ total → SoFar old now base total f a → SoFar old now base whole f a
  so_of e so = record { keeps = so.keeps; is = e ∙ so.is; lies = so.lies; room = so.room; kept = so.kept }

  module _ {f : reading.Reader A} (so : SoFar old now base total f a) where
    -- ---- what a call asks

    pub so_lies : {low : ℕ} → low ≤ now.next.start → Reads now.text.now low now.next
    so_lies l = rw so.keeps.text (record { low = l; order = so.lies.order; high = so.lies.high; some = so.lies.some })

    pub so_high : now.next.end ≤ length now.text.now
    so_high = rw so.keeps.text so.lies.high

    pub so_short : {n : ℕ} → length old.text.now ≤ n → length now.text.now ≤ n
    so_short h = rw so.keeps.text h

    pub so_free : now.free ≡ old.free + length a
    so_free = so.kept.counted.free_is

    pub so_ready : {n : ℕ} → length old.text.now < 2 ^ 60 → n + old.free ≤ now.free + base → ReadyToRead now.text.now n now.next
    so_ready small l = record { lies = so_lies (let x = so.room in omega arith); small = rw so.keeps.text small }

    pub so_ready_any : length old.text.now < 2 ^ 60 → ReadyToRead now.text.now 0 now.next
    so_ready_any small = record { lies = so_lies (omega arith); small = rw so.keeps.text small }

    pub so_small : length old.text.now < 2 ^ 60 → old.free ≤ base → now.free < 2 ^ 60
    so_small small l = let x = so.room in let y = so.lies.order in let z = so.lies.high in omega arith
    -- ---- one entry more

  pub so_put : {f : reading.Reader A} {new : Reader} {x : Entry} → SoFar old now (base + 1) total f a → PutBy x now new → SoFar old new base total f (a ++ x ∷ [])
  so_put {f} {new} {x} so p = record {
    keeps = keeps_on so.keeps p.keeps;
    is = so.is ∙ rw p.next;
    lies = rw p.next so.lies;
    room = let r = so.room in let s : new.next.start ≡ now.next.start = rw p.next in let g = p.free in omega arith;
    kept = rw p.free (kept_append so.kept (kept_one x (rw so.keeps.seen at p.same, p.put)));
  }

  -- ---- one token more

  pub so_to : {f : reading.Reader A} {new : Reader} (g : reading.Reader A) → SoFar old now base total f a → new ≡ passed now → (now.next.kind ≡ 0 → ⊥)
      → f (stream old.text.now now.next) ≡ g (stream old.text.now (token_at old.text.now now.next.end)) → SoFar old new (base + 1) total g a
  so_to g so e some step =
      let l = reads old.text.now now.next.end so.lies.high in
      let one = so.lies.some some in
      let low = l.low in
      rw e (rw so.keeps.text (record {
        keeps = record { text = refl; seen = so.keeps.seen; table = so.keeps.table; room = so.keeps.room };
        is = so.is ∙ step;
        lies = lowered (omega arith) l;
        room = let r = so.room in omega arith;
        kept = so.kept;
      }))

  pub so_passed : {new : Reader} (k : Lexeme → Bool) (f : Lexeme → reading.Reader A) (g : reading.Reader A) → SoFar old now base total (on k f g) a → new ≡ passed now
      → (now.next.kind ≡ 0 → ⊥) → k (lexeme now.text.now now.next) ≡ true → SoFar old new (base + 1) total (f (lexeme old.text.now now.next)) a
  so_passed k f g so e some fits =
      so_to (f (lexeme old.text.now now.next)) so e some
      (next_on old.text.now now.next k f g (token_at old.text.now now.next.end) some so.lies.high refl (rw so.keeps.text at fits))

  pub so_other : (k : Lexeme → Bool) (f : Lexeme → reading.Reader A) (g : reading.Reader A) → SoFar old now base total (on k f g) a → k (lexeme now.text.now now.next) ≡ false
      → SoFar old now base total g a
  so_other k f g so off = record {
    keeps = so.keeps;
    is = so.is ∙ next_off old.text.now now.next k f g (rw so.keeps.text at off);
    lies = so.lies;
    room = so.room;
    kept = so.kept;
  }

  -- ---- the end

  module _ {es : ℕ → A → List Entry} {from : ℕ} where
    pub so_refused : {n : ℕ} (number : Lexeme → ℕ) → SoFar old now base total (refuse_by number) a → n ≡ number (lexeme now.text.now now.next) → DoneFrom es from total old now (Err n)
    so_refused number so e = done_turned so.keeps (turned_as so.is (turned_for old.text.now now.next number (rw so.keeps.text at e) refl))

    -- a value is read, and its entries are put
    pub so_done : {u : Unit {0}} (v : A) → SoFar old now base total (took v) a → es old.free v ≡ a → from + 1 ≤ base → DoneFrom es from total old now (Ok u)
    so_done v so shape l =
        let x = so.room in let c = so.kept.counted.free_is in
        done_read v so.keeps so.is (record { low = omega arith; order = so.lies.order; high = so.lies.high; some = so.lies.some }) (omega arith)
        (subst (λ (l : List Entry). Kept old.seen.now old.table.now old.free old.same l now.free now.same now.table.now) (sym shape) so.kept)

    -- a token of a kind must stand next, and none does
    pub so_stopped : {n : ℕ} {new : Reader} {r : Result (Unit {0}) ℕ} (kind : ℕ) (f : reading.Reader A) → SoFar old now base total (need kind f) a → Expected kind now new r → r ≡ Err n
        → DoneFrom es from total old new (Err n)
    so_stopped {n} {new} kind f so x e =
        let s : Stopped kind now new n = as_stopped e x in
        rw s.stays (rw s.number (done_turned so.keeps (turned_as so.is (need_off old.text.now now.next kind f s.differs refl))))

  -- one does
  pub so_stood : {new : Reader} {r : Result (Unit {0}) ℕ} {u : Unit {0}} (kind : ℕ) (f : reading.Reader A) → 0 < kind → SoFar old now base total (need kind f) a → Expected kind now new r → r ≡ Ok u
      → SoFar old new (base + 1) total f a
  unfolding need
  so_stood {new} kind f pos so x e =
      let s : (now.next.kind ≡ kind) × (new ≡ passed now) = as_stood e x in
      so_passed (is kind) (λ _. f) (refuse_by ten) so s.1 (λ (z : now.next.kind ≡ 0). omega (arith, s.0)) (eq-eqb _ _ s.0)

-- it is the last
pub so_closed : {A : Type 0} {old now : Reader} {base : ℕ} {total : reading.Answer A} {a : List Entry} {es : ℕ → A → List Entry} {from : ℕ} {new : Reader} {r : Result (Unit {0}) ℕ} (kind : ℕ) (v : A)
    → 0 < kind → SoFar old now base total (need kind (took v)) a → Expected kind now new r → es old.free v ≡ a → from ≤ base → DoneFrom es from total old new r
so_closed {r = Ok u} kind v pos so x shape l = so_done v (so_stood kind (took v) pos so x refl) shape (omega arith)
so_closed {r = Err n} kind v pos so x shape l = so_stopped kind (took v) so x refl

-- the last entry of a value
pub so_done_put : {A : Type 0} {old now : Reader} {base : ℕ} {total : reading.Answer A} {es : ℕ → A → List Entry} {from : ℕ} {u : Unit {0}} (a : List Entry) (x : Entry) (v : A)
    → SoFar old now base total (took v) (a ++ x ∷ []) → es old.free v ≡ a ++ x ∷ [] → from ≤ base → DoneFrom es from total old now (Ok u)
so_done_put {old = old} {now} a x v so shape l =
    let y = so.room in let c = so.kept.counted.free_is in let n = length-append a (x ∷ []) in
    done_read v so.keeps so.is (record { low = omega arith; order = so.lies.order; high = so.lies.high; some = so.lies.some }) (omega arith)
    (subst (λ (l : List Entry). Kept old.seen.now old.table.now old.free old.same l now.free now.same now.table.now) (sym shape) so.kept)

-- ---- what another reader reads

-- after it: its value, and what is done then
pub record AfterRead {A B : Type 0} (old new : Reader) (base : ℕ) (total : reading.Answer B) (g : A → reading.Reader B) (a : List Entry) (es : A → List Entry) : Type 0 where
  pub value : A
  pub so : SoFar old new base total (g value) (a ++ es value)

module _ {A B : Type 0} {old now : Reader} {base : ℕ} {total : reading.Answer B} {a : List Entry} {es : ℕ → A → List Entry} {from₁ : ℕ} {new : Reader} {r : Result (Unit {0}) ℕ}
    (p : reading.Reader A) where
  module _ (g : A → reading.Reader B) (so : SoFar old now base total (λ i. bind (p i) g) a) (d : DoneFrom es from₁ (p (stream now.text.now now.next)) now new r) where
    pub so_read : {u : Unit {0}} {base' : ℕ} → r ≡ Ok u → base' + now.next.start ≤ base + from₁ → AfterRead old new base' total g a (es now.free)
    unfolding bind
    so_read {base' = base'} e l =
        let k : Taken es now.text.now now.seen.now from₁ now.free now.same (p (stream now.text.now now.next)) new.next new.free new.same = as_read e d.says in
        let said = lent (λ text seen. p (stream text now.next) ≡ took k.value (stream text new.next)) so.keeps k.is in
        let stands = lent (λ text seen. Reads text (from₁ + 1) new.next) so.keeps k.lies in
        let more = lent (λ text seen. Kept seen now.table.now now.free now.same (es now.free k.value) new.free new.same new.table.now) so.keeps (as_kept k d.wrote) in
        record {
          value = k.value;
          so = record {
            keeps = keeps_on so.keeps d.keeps;
            is = so.is ∙ rw said;
            lies = lowered (omega arith) stands;
            room = let x = so.room in let y = k.room in omega arith;
            kept = kept_append so.kept more;
          };
        }

    pub so_lost : {es' : ℕ → B → List Entry} {from n : ℕ} → r ≡ Err n → DoneFrom es' from total old new (Err n)
    so_lost {n = n} e =
        let k : TurnedAway now.text.now (p (stream now.text.now now.next)) (turned_away (length now.text.now) n new.next) = as_refused e d.says in
        let told = lent (λ text seen. TurnedAway text (p (stream text now.next)) (turned_away (length text) n new.next)) so.keeps k in
        done_turned (keeps_on so.keeps d.keeps) (turned_as so.is (turned_bind g told))

-- what is read last, and made into another value
pub so_last : {A B : Type 0} {old now : Reader} {base : ℕ} {total : reading.Answer B} {a : List Entry} {es : ℕ → A → List Entry} {es' : ℕ → B → List Entry} {from from₁ : ℕ} {new : Reader} {r : Result (Unit {0}) ℕ}
    (p : reading.Reader A) (f : A → B) → SoFar old now base total (λ i. bind (p i) (λ v. took (f v))) a → DoneFrom es from₁ (p (stream now.text.now now.next)) now new r
    → ((v : A) → es' old.free (f v) ≡ a ++ es now.free v) → from + now.next.start ≤ base + from₁ → DoneFrom es' from total old new r
so_last {old = old} {now} {base} {a = a} {es = es} {es'} {from} {from₁} {new} {r = Ok u} p f so d shape l =
    let k : Taken es now.text.now now.seen.now from₁ now.free now.same (p (stream now.text.now now.next)) new.next new.free new.same = as_read refl d.says in
    let w = so_read p (λ v. took (f v)) so d {base' = from} refl l in
    let x = so.room in let y = so.kept.counted.free_is in let z = k.lies.low in let room = w.so.room in
    done_read (f w.value) w.so.keeps w.so.is (record { low = omega arith; order = w.so.lies.order; high = w.so.lies.high; some = w.so.lies.some }) room
    (subst (λ (l : List Entry). Kept old.seen.now old.table.now old.free old.same l new.free new.same new.table.now) (sym (shape w.value)) w.so.kept)
so_last {r = Err n} p f so d shape l = so_lost p (λ v. took (f v)) so d refl

bind_none : {A : Type 0} (p : reading.Answer A) → p ≡ bind p took
unfolding bind
bind_none (took a r) = refl
bind_none (refuse n r) = refl

-- what is read last, and all of the value
pub so_same : {A : Type 0} {old now : Reader} {base : ℕ} {total : reading.Answer A} {a : List Entry} {es es' : ℕ → A → List Entry} {from from₁ : ℕ} {new : Reader} {r : Result (Unit {0}) ℕ}
    (p : reading.Reader A) → SoFar old now base total p a → DoneFrom es from₁ (p (stream now.text.now now.next)) now new r
    → ((v : A) → es' old.free v ≡ a ++ es now.free v) → from + now.next.start ≤ base + from₁ → DoneFrom es' from total old new r
so_same p so d shape l = so_last p (λ v. v) (so_as (λ i. bind (p i) took) (λ i. bind_none (p i)) so) d shape l

-- ---- the same where `f` of what is read is meant, or what is read and a token after it

pub so_mapped : {A B : Type 0} {old now : Reader} {base : ℕ} {total : reading.Answer B} {a : List Entry} (f : A → B) (p : reading.Reader A) → SoFar old now base total (mapped f p) a
    → SoFar old now base total (λ i. bind (p i) (λ v. took (f v))) a
unfolding mapped
so_mapped f p so = so

pub so_before : {A : Type 0} {old now : Reader} {base : ℕ} {total : reading.Answer A} {a : List Entry} (k : ℕ) (p : reading.Reader A) → SoFar old now base total (before k p) a
    → SoFar old now base total (λ i. bind (p i) (λ v. need k (took v))) a
unfolding before
so_before k p so = so
