-- A reader's refusals have the numbers of the table: laws of the readers that others are built of. Assumes nothing.
use mathlib.Core.Path.{◌≡◌, refl}
use mathlib.Core.Bool.{Bool, true, false}
use mathlib.Core.List.{List, [], ◌∷◌}
use Prim.Native.Nat.{ℕ, zero, suc}
use lib.ListN.{length}
use borrow.Author.Tests.{eqb-true}
use Rattle.reading.specs.Lexemes.{Lexeme, is, choose}
use Rattle.reading.specs.Reader.{Answer, took, refuse, Reader, numbered, refuse_by, ten, bind, on, need, before, mapped, up_to, onwards, chain}
use Rattle.reading.proofs.Readers.{Without}
use Rattle.grammar.specs.Numbers.{number_of_token, number_of_first}

-- Of two lists, the tokens before a place, the last first, and those behind it: the place d, r is reached from the place c, i.
pub data Past (d r : List Lexeme) : List Lexeme → List Lexeme → Type 0 where
  here : Past d r d r
  step : {x : Lexeme} {c i : List Lexeme} → Past d r (x ∷ c) i → Past d r c (x ∷ i)

pub past_then : {d r e m c i : List Lexeme} → Past d r e m → Past e m c i → Past d r c i
past_then v here = v
past_then v (step w) = step (past_then v w)

abbrev pub Places : Type 1
Places = List Lexeme → List Lexeme → Type 0

-- An answer at the place c, i: what was taken ends at a place of which Post holds, and a refusal has the table's number at its place.
pub data Told {A : Type 0} (Post : A → Places) (c i : List Lexeme) : Answer A → Type 0 where
  good : {a : A} {d r : List Lexeme} → Past d r c i → Post a d r → Told Post c i (took a r)
  stops : {n : ℕ} {d r : List Lexeme} → Past d r c i → n ≡ number_of_first d r → Told Post c i (refuse n r)

-- p so answers at each place of which Pre holds.
pub record Tells {A : Type 0} (Pre : Places) (p : Reader A) (Post : A → Places) : Type 0 where
  pub at : (c i : List Lexeme) → Pre c i → Told Post c i (p i)

further : {A : Type 0} {Post : A → Places} {d r c i : List Lexeme} {x : Answer A} → Past d r c i → Told Post d r x → Told Post c i x
further w (good v h) = good (past_then v w) h
further w (stops v e) = stops (past_then v w) e

module _ {A : Type 0} {Pre : Places} where
  pub tells_weaker : {Pre' : Places} {p : Reader A} {Post Post' : A → Places} → Tells Pre p Post → ((c i : List Lexeme) → Pre' c i → Pre c i)
      → ((a : A) (c i : List Lexeme) → Post a c i → Post' a c i) → Tells Pre' p Post'
  tells_weaker {Pre' = Pre'} {p = p} {Post = Post} {Post' = Post'} t f g = record { at = λ c i h. go (t.at c i (f c i h)) }
    where
      go : {c i : List Lexeme} {x : Answer A} → Told Post c i x → Told Post' c i x
      go (good w h) = good w (g _ _ _ h)
      go (stops w e) = stops w e

  pub tells_took : (a : A) {Post : A → Places} → ((c i : List Lexeme) → Pre c i → Post a c i) → Tells Pre (took a) Post
  tells_took a f = record { at = λ c i h. good here (f c i h) }

  pub tells_refuse_by : (number : Lexeme → ℕ) {Post : A → Places} → ((c r : List Lexeme) (x : Lexeme) → Pre c (x ∷ r) → numbered number x ≡ number_of_token c x) → Tells Pre (refuse_by number) Post
  unfolding refuse_by number_of_first
  tells_refuse_by number {Post = Post} f = record { at = go }
    where
      go : (c i : List Lexeme) → Pre c i → Told Post c i (refuse_by number i)
      go c [] h = stops here refl
      go c (x ∷ r) h = stops here (f c r x h)

  pub tells_bind : {B : Type 0} {p : Reader A} (f : A → Reader B) {Mid : A → Places} {Post : B → Places} → Tells Pre p Mid → ((a : A) → Tells (Mid a) (f a) Post) → Tells Pre (λ i. bind (p i) f) Post
  unfolding bind
  tells_bind f {Mid = Mid} {Post = Post} t u = record { at = λ c i h. go (t.at c i h) }
    where
      go : {c i : List Lexeme} {x : Answer A} → Told Mid c i x → Told Post c i (bind x f)
      go (good w h) = further w ((u _).at _ _ h)
      go (stops w e) = stops w e

-- a place behind the token x, where Pre held before it
pub data Stepped (x : Lexeme) (Pre : Places) : List Lexeme → List Lexeme → Type 0 where
  stepped : {c r : List Lexeme} → Pre c (x ∷ r) → Stepped x Pre (x ∷ c) r

pub tells_on : {A : Type 0} {Pre : Places} (k : Lexeme → Bool) (f : Lexeme → Reader A) (g : Reader A) {Post : A → Places}
    → ((x : Lexeme) → k x ≡ true → Tells (Stepped x Pre) (f x) Post) → Tells (λ c i. Pre c i × Without k i) g Post → Tells Pre (on k f g) Post
unfolding on choose Without
tells_on {A = A} {Pre = Pre} k f g {Post = Post} t u = record { at = go }
  where
    go : (c i : List Lexeme) → Pre c i → Told Post c i (on k f g i)
    go c [] h = u.at c [] (h, tt)
    go c (x ∷ r) h = both (k x) refl
      where
        both : (o : Bool) → k x ≡ o → Told Post c (x ∷ r) (choose o (λ _. f x r) (λ _. g (x ∷ r)))
        both true e = further (step here) ((t x e).at (x ∷ c) r (stepped h))
        both false e = u.at c (x ∷ r) (h, e)

-- a refusal by 10, for no other reason
pub record Plain (Pre : Places) : Type 0 where
  pub at : (c i : List Lexeme) → Pre c i → (x : Lexeme) → numbered ten x ≡ number_of_token c x

pub tells_ten : {A : Type 0} {Pre : Places} {Post : A → Places} → Plain Pre → Tells Pre (refuse_by ten) Post
tells_ten p = tells_refuse_by ten (λ c r x h. p.at c (x ∷ r) h x)

module _ {A : Type 0} {Pre : Places} (k : ℕ) where
  pub tells_need : (f : Reader A) {Post : A → Places} → Plain Pre → ((x : Lexeme) → x.kind ≡ k → Tells (Stepped x Pre) f Post) → Tells Pre (need k f) Post
  unfolding need
  tells_need f p t = tells_on (is k) (λ _. f) (refuse_by ten) (λ x e. t x (eqb-true _ _ e)) (tells_ten (record { at = λ c i h. p.at c i h.0 }))

  pub tells_before : (p : Reader A) {Mid Post : A → Places} → Tells Pre p Mid → ((a : A) → Plain (Mid a))
      → ((a : A) (x : Lexeme) (c r : List Lexeme) → x.kind ≡ k → Mid a c (x ∷ r) → Post a (x ∷ c) r) → Tells Pre (before k p) Post
  unfolding before need
  tells_before p {Mid = Mid} {Post = Post} t q f =
      tells_bind _ t (λ a. tells_on (is k) (λ _. took a) (refuse_by ten) (λ x e. tells_took a (λ c i h. go (eqb-true _ _ e) h)) (tells_ten (record { at = λ c i h. (q a).at c i h.0 })))
    where
      go : {a : A} {x : Lexeme} {c r : List Lexeme} → x.kind ≡ k → Stepped x (Mid a) c r → Post a c r
      go e (stepped h) = f _ _ _ _ e h

pub tells_mapped : {A B : Type 0} {Pre : Places} (f : A → B) (p : Reader A) {Post : B → Places} → Tells Pre p (λ a. Post (f a)) → Tells Pre (mapped f p) Post
unfolding mapped
tells_mapped f p t = tells_bind _ t (λ a. tells_took (f a) (λ c i h. h))

module _ {A : Type 0} (sep : A → Lexeme → Bool) (q : A → Lexeme → Reader A) {Inv : A → Places} (t : (a : A) (x : Lexeme) → sep a x ≡ true → Tells (Stepped x (Inv a)) (q a x) Inv) where
  tells_up_to : (n : ℕ) (a : A) → Tells (Inv a) (up_to n sep q a) Inv
  unfolding up_to
  tells_up_to zero a = tells_took a (λ c i h. h)
  tells_up_to (suc n) a = tells_on (sep a) _ _ (λ x e. tells_bind _ (t a x e) (tells_up_to n)) (tells_took a (λ c i h. h.0))

  pub tells_onwards : (a : A) → Tells (Inv a) (onwards sep q a) Inv
  unfolding onwards
  tells_onwards a = record { at = λ c i h. (tells_up_to (length i) a).at c i h }

  pub tells_chain : {Pre : Places} (p : Reader A) → Tells Pre p Inv → Tells Pre (chain sep p q) Inv
  unfolding chain
  tells_chain p u = tells_bind _ u tells_onwards
