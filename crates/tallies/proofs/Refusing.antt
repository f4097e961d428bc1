-- The first request that is refused: by itself, and with the text and its table. Assumes nothing.
use mathlib.Core.Path.{◌≡◌, refl, sym, ap, ◌∙◌}
use mathlib.Core.Bool.{Bool, true, false, cond, ◌&&◌, ◌||◌}
use mathlib.Core.List.{List, [], ◌∷◌}
use Prim.Native.Nat.{ℕ, zero, suc}
use native.Mathlib.Omega.{arith}
use Rattle.compiling.specs.Outcome.{begins_of}
use Rattle.meaning.specs.Targets.{Request, is_system, is_subject, is_action, is_resource}
use Rattle.sheets.specs.Sheets.{request_refusal, unless}
use Rattle.tallies.specs.Tallies.{form_refusal, asks_table, form_of, first_wrong, some_asks, first_refusal, groups_of}
use Rattle.tallies.specs.declared.lent.RequestForm.{RequestForm}

-- ---- a request's form

module _ (q : Request) where
  pub form_system : is_system q.subject ≡ true → ◌≡◌ {A = RequestForm} (record { asks = false; refusal = 0 }) (form_of q)
  unfolding form_refusal asks_table
  form_system s = rw s

  module _ (other : is_system q.subject ≡ false) where
    pub form_21 : is_subject q.subject ≡ false → ◌≡◌ {A = RequestForm} (record { asks = false; refusal = 21 }) (form_of q)
    unfolding form_refusal asks_table
    form_21 e = rw (other, e)

    module _ (subject : is_subject q.subject ≡ true) where
      pub form_22 : is_action q.action ≡ false → ◌≡◌ {A = RequestForm} (record { asks = false; refusal = 22 }) (form_of q)
      unfolding form_refusal asks_table
      form_22 e = rw (other, subject, e)

      module _ (action : is_action q.action ≡ true) where
        pub form_23 : is_resource q.resource ≡ false → ◌≡◌ {A = RequestForm} (record { asks = false; refusal = 23 }) (form_of q)
        unfolding form_refusal asks_table
        form_23 e = rw (other, subject, action, e)

        pub form_right : is_resource q.resource ≡ true → ◌≡◌ {A = RequestForm} (record { asks = true; refusal = 0 }) (form_of q)
        unfolding form_refusal asks_table
        form_right e = rw (other, subject, action, e)

-- ---- the first that is refused by itself

or_assoc : (a b c : Bool) → a || (b || c) ≡ (a || b) || c
or_assoc true b c = refl
or_assoc false b c = refl

or_false : (a : Bool) → a || false ≡ a
or_false true = refl
or_false false = refl

-- one more request, with nothing to refuse
pub wrong_on : (q : Request) (qs : List Request) → form_refusal q ≡ 0 → first_wrong (q ∷ qs) ≡ first_wrong qs
unfolding first_wrong unless
wrong_on q qs e = rw e

pub asks_on : (b : Bool) (q : Request) (qs : List Request) → form_refusal q ≡ 0 → b || some_asks (q ∷ qs) ≡ (b || asks_table q) || some_asks qs
unfolding some_asks unless
asks_on b q qs e = rw e (or_assoc b (asks_table q) (some_asks qs))

-- the first that is refused
unless_some : {A : Type 0} (n : ℕ) (a : A) (f : ℕ → A) → (n ≡ 0 → ⊥) → unless n a f ≡ f n
unfolding unless
unless_some zero a f h = absurd (h refl)
unless_some (suc n) a f h = refl

pub wrong_here : (q : Request) (qs : List Request) → (form_refusal q ≡ 0 → ⊥) → first_wrong (q ∷ qs) ≡ form_refusal q
unfolding first_wrong
wrong_here q qs h = unless_some (form_refusal q) (first_wrong qs) (λ n. n) h

pub asks_here : (b : Bool) (q : Request) (qs : List Request) → (form_refusal q ≡ 0 → ⊥) → b || some_asks (q ∷ qs) ≡ b || asks_table q
unfolding some_asks
asks_here b q qs h = rw (unless_some (form_refusal q) (some_asks qs) (λ _. false) h, or_false (asks_table q))

none_by : (n w : ℕ) → unless n w (λ n. n) ≡ 0 → (n ≡ 0) × (w ≡ 0)
unfolding unless
none_by zero w e = (refl, e)
none_by (suc n) w e = absurd (omega arith)

-- where nothing is refused, nothing is of the first, nor of the others
pub none_wrong : (q : Request) (qs : List Request) → first_wrong (q ∷ qs) ≡ 0 → (form_refusal q ≡ 0) × (first_wrong qs ≡ 0)
unfolding first_wrong
none_wrong q qs e = none_by (form_refusal q) (first_wrong qs) e

none_asks_by : (a s : Bool) → a || s ≡ false → (a ≡ false) × (s ≡ false)
none_asks_by true s e = absurd (let z : ◌≡◌ {A = ℕ} 0 1 = cc in omega arith)
none_asks_by false s e = (refl, e)

none_asks : (q : Request) (qs : List Request) → form_refusal q ≡ 0 → some_asks (q ∷ qs) ≡ false → (asks_table q ≡ false) × (some_asks qs ≡ false)
unfolding some_asks unless
none_asks q qs z e = none_asks_by (asks_table q) (some_asks qs) (rw z at e)

-- ---- with the text and its table

-- the tests of a request: is it the system's, are subject, action and resource right; and is the table
by_tests : (s u a r b : Bool) → cond s 0 (cond u (cond a (cond r (cond b 0 20) 23) 22) 21)
    ≡ unless (cond s 0 (cond u (cond a (cond r 0 23) 22) 21)) (cond (cond s false (u && a && r)) (cond b 0 20) 0) (λ n. n)
unfolding unless
by_tests true u a r b = refl
by_tests false false a r b = refl
by_tests false true false r b = refl
by_tests false true true false b = refl
by_tests false true true true b = refl

refusal_is : (text table : List ℕ) (q : Request)
    → request_refusal text table q ≡ unless (form_refusal q) (cond (asks_table q) (cond (begins_of text table) 0 20) 0) (λ n. n)
unfolding request_refusal form_refusal asks_table
refusal_is text table q = by_tests (is_system q.subject) (is_subject q.subject) (is_action q.action) (is_resource q.resource) (begins_of text table)

-- the table is not looked at for a request that is refused by itself
not_for_wrong : (s u a r : Bool) (n : ℕ) → cond s 0 (cond u (cond a (cond r 0 23) 22) 21) ≡ suc n → cond s false (u && a && r) ≡ false
not_for_wrong true u a r n e = refl
not_for_wrong false false a r n e = refl
not_for_wrong false true false r n e = refl
not_for_wrong false true true false n e = refl
not_for_wrong false true true true n e = absurd (omega arith)

no_table : (q : Request) (n : ℕ) → form_refusal q ≡ suc n → asks_table q ≡ false
unfolding form_refusal asks_table
no_table q n e = not_for_wrong (is_system q.subject) (is_subject q.subject) (is_action q.action) (is_resource q.resource) n e

first_by : (n w : ℕ) (a b s : Bool) → ((m : ℕ) → n ≡ suc m → a ≡ false)
    → unless (unless n (cond a (cond b 0 20) 0) (λ n. n)) (cond s (cond b w 20) w) (λ n. n)
    ≡ cond (a || unless n s (λ _. false)) (cond b (unless n w (λ n. n)) 20) (unless n w (λ n. n))
unfolding unless
first_by (suc n) w true b s h = absurd (let z : true ≡ false = h n refl in let y : ◌≡◌ {A = ℕ} 0 1 = cc in omega arith)
first_by (suc n) w false b s h = refl
first_by zero w true true true h = refl
first_by zero w true true false h = refl
first_by zero w true false s h = refl
first_by zero w false true true h = refl
first_by zero w false true false h = refl
first_by zero w false false true h = refl
first_by zero w false false false h = refl

-- the first refusal: 20 where the table is looked at for a request before it and is wrong
pub first_refusal_is : (text table : List ℕ) (qs : List Request)
    → first_refusal text table qs ≡ cond (some_asks qs) (cond (begins_of text table) (first_wrong qs) 20) (first_wrong qs)
unfolding first_refusal some_asks first_wrong
first_refusal_is text table [] = refl
first_refusal_is text table (q ∷ qs) =
    rw (refusal_is text table q, first_refusal_is text table qs)
    (first_by (form_refusal q) (first_wrong qs) (asks_table q) (begins_of text table) (some_asks qs) (no_table q))

-- ---- requests for which the table is not looked at are the system's

system_by : (s u a r : Bool) → ◌≡◌ {A = ℕ} (cond s 0 (cond u (cond a (cond r 0 23) 22) 21)) 0 → cond s false (u && a && r) ≡ false → s ≡ true
system_by true u a r e f = refl
system_by false false a r e f = absurd (omega arith)
system_by false true false r e f = absurd (omega arith)
system_by false true true false e f = absurd (omega arith)
system_by false true true true e f = absurd (let z : ◌≡◌ {A = ℕ} 0 1 = cc in omega arith)

pub system_only : (q : Request) → form_refusal q ≡ 0 → asks_table q ≡ false → is_system q.subject ≡ true
unfolding form_refusal asks_table
system_only q e f = system_by (is_system q.subject) (is_subject q.subject) (is_action q.action) (is_resource q.resource) e f

-- a request of which nothing is refused is the system's, or its parts are right
right_by : (s u a r : Bool) → ◌≡◌ {A = ℕ} (cond s 0 (cond u (cond a (cond r 0 23) 22) 21)) 0 → s ≡ false → (u ≡ true) × (a ≡ true) × (r ≡ true)
right_by true u a r e f = absurd (let z : ◌≡◌ {A = ℕ} 0 1 = cc in omega arith)
right_by false false a r e f = absurd (omega arith)
right_by false true false r e f = absurd (omega arith)
right_by false true true false e f = absurd (omega arith)
right_by false true true true e f = (refl, refl, refl)

pub parts_right : (q : Request) → form_refusal q ≡ 0 → is_system q.subject ≡ false
    → (is_subject q.subject ≡ true) × (is_action q.action ≡ true) × (is_resource q.resource ≡ true)
unfolding form_refusal
parts_right q e f = right_by (is_system q.subject) (is_subject q.subject) (is_action q.action) (is_resource q.resource) e f

-- their groups are the same whatever the policies are
pub groups_alike : (group group' : Request → List ℕ) → ((q : Request) → is_system q.subject ≡ true → group q ≡ group' q)
    → (n : ℕ) (qs : List Request) → first_wrong qs ≡ 0 → some_asks qs ≡ false → groups_of n group qs ≡ groups_of n group' qs
unfolding groups_of
groups_alike group group' same zero qs w s = refl
groups_alike group group' same (suc n) [] w s = rw (groups_alike group group' same n [] w s)
groups_alike group group' same (suc n) (q ∷ qs) w s =
    let k = none_wrong q qs w in
    let l = none_asks q qs k.0 s in
    rw (same q (system_only q k.0 l.0), groups_alike group group' same n qs k.1 l.1)

-- ---- the loop over the requests: what was found so far, and what is found in the requests that are left

module _ (all : List Request) (b : Bool) (q : Request) (qs : List Request) (asks : some_asks all ≡ b || some_asks (q ∷ qs)) (wrong : first_wrong all ≡ first_wrong (q ∷ qs))
    {form : RequestForm} (is : form ≡ form_of q) where
  -- a request that is refused by itself
  pub found_here : (form.refusal ≡ 0 → ⊥) → ◌≡◌ {A = RequestForm} (record { asks = b || form.asks; refusal = form.refusal }) (record { asks = some_asks all; refusal = first_wrong all })
  found_here h =
      let r : form.refusal ≡ form_refusal q = ap (λ (f : RequestForm). f.refusal) is in
      let a : form.asks ≡ asks_table q = ap (λ (f : RequestForm). f.asks) is in
      let no : form_refusal q ≡ 0 → ⊥ = λ z. h (r ∙ z) in
      let x : b || form.asks ≡ some_asks all = ap (λ (t : Bool). b || t) a ∙ sym (asks_here b q qs no) ∙ sym asks in
      let y : form.refusal ≡ first_wrong all = r ∙ sym (wrong_here q qs no) ∙ sym wrong in
      λ i. record { asks = x i; refusal = y i }

  -- one that is not
  pub found_on : form.refusal ≡ 0 → (some_asks all ≡ (b || form.asks) || some_asks qs) × (first_wrong all ≡ first_wrong qs)
  found_on h =
      let r : form_refusal q ≡ 0 = sym (ap (λ (f : RequestForm). f.refusal) is) ∙ h in
      let a : asks_table q ≡ form.asks = sym (ap (λ (f : RequestForm). f.asks) is) in
      (asks ∙ asks_on b q qs r ∙ ap (λ (t : Bool). (b || t) || some_asks qs) a, wrong ∙ wrong_on q qs r)

-- no request is left
pub found_none : (all : List Request) (b : Bool) → some_asks all ≡ b || some_asks [] → first_wrong all ≡ first_wrong []
    → ◌≡◌ {A = RequestForm} (record { asks = b; refusal = 0 }) (record { asks = some_asks all; refusal = first_wrong all })
unfolding some_asks first_wrong
found_none all b asks wrong = let a = sym (asks ∙ or_false b) in λ i. record { asks = a i; refusal = sym wrong i }
