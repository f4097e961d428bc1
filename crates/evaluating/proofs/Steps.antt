-- From a condition's last entry to the part that is met next, and what is kept on the way, for any meaning that joins the verdicts of parts. Assumes nothing.
use mathlib.Core.Path.{◌≡◌, refl, sym, ◌∙◌, ap, subst}
use mathlib.Core.Logic.{◌≢◌}
use mathlib.Core.Bool.{Bool, true, false, cond}
use mathlib.Core.List.{List}
use Prim.Native.Nat.{ℕ, ◌+◌, ◌*◌, ◌-◌, ◌≤◌, ◌<◌}
use native.Mathlib.Omega.{arith}
use lib.Dec.{eqb, ltb}
use borrow.Author.Tests.{eqb-true, eqb-false, ltb-true, ltb-false, ne_eqb}
use Rattle.grammar.specs.Policies.{Tree}
use Rattle.table.specs.declared.Entry.{Entry}
use Rattle.table.specs.Layout.{entry_at}
use Rattle.stored.specs.ReadBack.{tree_in, tree_by, tree_of, tree_at}
use Rattle.stored.specs.Ready.{NodeBy, Ready, ReadyPart, Node}
use Rattle.stored.proofs.Nodes.{as_not, as_brackets, as_both, as_either, as_choice}
use Rattle.stored.proofs.Evaluating.{node_of}
use Rattle.meaning.specs.Conditions.{settled, settled_if, choice_of}
use Rattle.meaning.specs.declared.Verdict.{Verdict}
use Rattle.meaning.specs.declared.Verdict.TheVariants.{Yes, No, Missing}
use Rattle.ways.specs.declared.Way.{Way}
use Rattle.ways.specs.Ways.{part_met, ended_by, gone_on, entered_at, come_back, after_yes, after_no, after_missing, after_part, inside_part}
use Rattle.evaluating.proofs.Verdicts.{unchanged, by_negation, by_both, by_either, by_none, Joining, counts_itself}

-- ---- the way falls: there are fewer entries than 65536

unfoldable pub length_of : ℕ → ℕ → ℕ
length_of rest at = cond (eqb rest 0) (65537 * at) (65537 * (rest - 1) + 1 + at)

pub less_on : (r a b : ℕ) → a < b → length_of r a < length_of r b
unfolding length_of
less_on r a b h = go (eqb r 0)
  where
    go : (z : Bool) → cond z (65537 * a) (65537 * (r - 1) + 1 + a) < cond z (65537 * b) (65537 * (r - 1) + 1 + b)
    go true = omega arith
    go false = omega arith

less_in : (a b : ℕ) → a < b → b < 65536 → length_of b a < length_of 0 b
unfolding length_of
less_in a b h k = rw (ne_eqb b 0 (λ z. omega arith)) (omega arith)

less_back : (r a : ℕ) → a < r → length_of 0 a < length_of r 0
unfolding length_of
less_back r a h = rw (ne_eqb r 0 (λ z. omega arith)) (omega arith)

-- ---- what is left

module _ (text table : List ℕ) (m : Tree → Verdict) (end : ℕ) where
  -- What v is: the verdict of the whole; or that of the part that is met first of what ends before `rest`, which gives the verdict of the whole.
  pub data Aim (rest : ℕ) (held kept v : Verdict) : Type 0 where
    the_whole : rest ≡ 0 → v ≡ m (tree_at table end) → Aim rest held kept v
    a_part : Ready text table rest → rest ≤ end → choice_of (m (tree_at table rest)) held kept ≡ m (tree_at table end)
        → v ≡ m (tree_at table (part_met rest (entry_at table (rest - 1)))) → Aim rest held kept v

  -- What is left to be met. Where `at` is 0 there is nothing; by itself its verdict would be No.
  pub record Going (w : Way) : Type 0 where
    pub here : 0 < w.at → Ready text table w.at
    pub low : w.at ≤ end
    pub is : Aim w.rest w.held w.kept (choice_of (m (tree_at table w.at)) w.yes w.no)

  -- a turn of the loop, with the same rest
  pub record Turn (w u : Way) : Type 0 where
    pub going : Going u
    pub falls : u.at < w.at
    pub same : u.rest ≡ w.rest

-- the entry's kind, and where its part ends that is met first
data Met (at : ℕ) (x : Entry) (part : ℕ) : Type 0 where
  whole : x.kind < 26 → part ≡ at → Met at x part
  by_and : x.kind ≡ 26 → part ≡ at - 1 → Met at x part
  by_or : x.kind ≡ 27 → part ≡ at - 1 → Met at x part
  by_if : x.kind ≡ 28 → part ≡ x.first → Met at x part

met_by : (at : ℕ) (x : Entry) (part : ℕ) → x.kind ≤ 28 → part ≡ part_met at x → Met at x part
met_by at x part h q = go (ltb x.kind 26) (eqb x.kind 28) refl refl q
  where
    two : (b : Bool) → eqb x.kind 26 ≡ b → 26 ≤ x.kind → (x.kind ≡ 28 → ⊥) → part ≡ at - 1 → Met at x part
    two true e l n q = by_and (eqb-true x.kind 26 e) q
    two false e l n q = let d = eqb-false x.kind 26 e in by_or (omega arith) q

    go : (b c : Bool) → ltb x.kind 26 ≡ b → eqb x.kind 28 ≡ c → part ≡ cond b at (cond c x.first (at - 1)) → Met at x part
    go true c e d q = whole (ltb-true x.kind 26 e) q
    go false true e d q = by_if (eqb-true x.kind 28 d) q
    go false false e d q = two (eqb x.kind 26) refl (ltb-false x.kind 26 e) (eqb-false x.kind 28 d) q

-- ---- what stands where

module _ {text : List ℕ} {table : ℕ → Entry} {many : ℕ} {settles : Bool} {m : Tree → Verdict} (j : Joining settles m) {at : ℕ} {x : Entry} (n : NodeBy text table many at x) where
  -- the verdict of the condition that ends before number e
  abbrev ended : ℕ → Verdict
  ended e = m (tree_by table e)

  -- what the verdict of all that is left becomes
  abbrev becomes : Verdict → Verdict → Verdict
  becomes a b = choice_of (ended at) a b

  not_becomes : (a b : Verdict) → x.kind ≡ 24 → becomes a b ≡ choice_of (ended (at - 1)) b a
  not_becomes a b e = ap (λ (v : Verdict). choice_of v a b) (ap m (n.is ∙ as_not (tree_by table) table at x e) ∙ j.negation _) ∙ by_negation _ a b

  brackets_becomes : (a b : Verdict) → x.kind ≡ 25 → becomes a b ≡ choice_of (ended (at - 1)) a b
  brackets_becomes a b e = ap (λ (v : Verdict). choice_of v a b) (ap m (n.is ∙ as_brackets (tree_by table) table at x e) ∙ j.bracketed _)

  both_becomes : (a b v : Verdict) → x.kind ≡ 26 → v ≡ ended (at - 1) → becomes a b ≡ choice_of (ended x.first) (choice_of v a b) b
  both_becomes a b v e r =
      ap (λ (u : Verdict). choice_of u a b) (ap m (n.is ∙ as_both (tree_by table) table at x e) ∙ j.conjunction _ _)
      ∙ by_both (ended x.first) (ended (at - 1)) a b
      ∙ ap (λ (u : Verdict). choice_of (ended x.first) (choice_of u a b) b) (sym r)

  either_becomes : (a b v : Verdict) → x.kind ≡ 27 → v ≡ ended (at - 1) → becomes a b ≡ choice_of (ended x.first) a (choice_of v a b)
  either_becomes a b v e r =
      ap (λ (u : Verdict). choice_of u a b) (ap m (n.is ∙ as_either (tree_by table) table at x e) ∙ j.disjunction _ _)
      ∙ by_either (ended x.first) (ended (at - 1)) a b
      ∙ ap (λ (u : Verdict). choice_of (ended x.first) a (choice_of u a b)) (sym r)

  choice_becomes : (a b v : Verdict) → x.kind ≡ 28 → v ≡ ended x.first → becomes a b ≡ choice_of (choice_of v (ended x.second) (ended (at - 1))) a b
  choice_becomes a b v e r =
      ap (λ (u : Verdict). choice_of u a b) (ap m (n.is ∙ as_choice (tree_by table) table at x e) ∙ j.chosen _ _ _)
      ∙ ap (λ (u : Verdict). choice_of (choice_of u (ended x.second) (ended (at - 1))) a b) (sym r)

-- ---- a turn

pub set_out : {text table : List ℕ} {m : Tree → Verdict} {end : ℕ} → Ready text table end
    → Going text table m end (record { at = end; yes = Yes; no = No; rest = 0; held = Yes; kept = Yes })
set_out r = record { here = λ h. r; low = omega arith; is = the_whole refl (unchanged _) }

module _ {text table : List ℕ} {settles : Bool} {m : Tree → Verdict} (j : Joining settles m) {end : ℕ} {w : Way} (g : Going text table m end w) (some : 0 < w.at) where
  -- the entry that is read there
  pub met : {x : Entry} → x ≡ entry_at table (w.at - 1) → Node text table w.at x
  met e = subst (Node text table w.at) (sym e) (node_of (g.here some))

  abbrev left : Verdict
  left = choice_of (m (tree_at table w.at)) w.yes w.no

  go_on : (part : ℕ) (a b : Verdict) → ReadyPart text table w.at part → left ≡ choice_of (m (tree_at table part)) a b → Turn text table m end w (gone_on w part a b)
  unfolding gone_on
  go_on part a b r e =
      record {
        going = record {
          here = λ h. r.ready;
          low = let l = r.falls in let h = g.low in omega arith;
          is = subst (Aim text table m end w.rest w.held w.kept) e g.is;
        };
        falls = r.falls;
        same = refl;
      }

  go_end : (k : Verdict) → left ≡ k → Turn text table m end w (ended_by w k)
  unfolding ended_by tree_in choice_of
  go_end k e =
      record {
        going = record {
          here = λ h. absurd (omega arith);
          low = omega arith;
          is = subst (Aim text table m end w.rest w.held w.kept) (e ∙ sym (ap (λ (v : Verdict). choice_of v w.yes k) j.nothing)) g.is;
        };
        falls = some;
        same = refl;
      }

  module _ {x : Entry} (n : Node text table w.at x) where
    last_part : 24 ≤ x.kind → ReadyPart text table w.at (w.at - 1)
    last_part l = n.parts.last l

    left_part : 26 ≤ x.kind → ReadyPart text table w.at x.first
    left_part l = n.parts.left l

    -- the part is all that is left
    all_becomes : {part : ℕ} (v : Verdict) → v ≡ m (tree_at table part) → part ≡ w.at → left ≡ choice_of v w.yes w.no
    all_becomes v r q = ap (λ (u : Verdict). choice_of u w.yes w.no) (sym (r ∙ ap (λ (e : ℕ). m (tree_at table e)) q))

    part_is : {part e : ℕ} {v : Verdict} → v ≡ m (tree_at table part) → part ≡ e → v ≡ m (tree_at table e)
    part_is r q = r ∙ ap (λ (e : ℕ). m (tree_at table e)) q

    yes_turn : (s : Bool) {part : ℕ} → (s ≡ true → (c : Tree) → m c ≢ Missing) → Yes ≡ m (tree_at table part) → Met w.at x part → Turn text table m end w (after_yes s w x)
    unfolding after_yes choice_of
    yes_turn s c r (whole l q) =
        rw (ne_eqb x.kind 26 (λ e. omega arith), ne_eqb x.kind 28 (λ e. omega arith), ne_eqb x.kind 27 (λ e. omega arith)) (go_end w.yes (all_becomes Yes r q))
    yes_turn s c r (by_and e q) = rw e (go_on x.first w.yes w.no (left_part (omega arith)) (both_becomes j n w.yes w.no Yes e (part_is r q)))
    yes_turn true c r (by_or e q) =
        rw e (go_end w.yes (either_becomes j n w.yes w.no Yes e (part_is r q) ∙ by_none (m (tree_at table x.first)) w.yes (c refl (tree_at table x.first))))
    yes_turn false c r (by_or e q) = rw e (go_on x.first w.yes w.yes (left_part (omega arith)) (either_becomes j n w.yes w.no Yes e (part_is r q)))
    yes_turn s c r (by_if e q) = rw e (go_on x.second w.yes w.no (n.parts.middle e) (choice_becomes j n w.yes w.no Yes e (part_is r q)))

    no_turn : (s : Bool) {part : ℕ} → (s ≡ true → (c : Tree) → m c ≢ Missing) → No ≡ m (tree_at table part) → Met w.at x part → Turn text table m end w (after_no s w x)
    unfolding after_no choice_of
    no_turn s c r (whole l q) =
        rw (ne_eqb x.kind 26 (λ e. omega arith), ne_eqb x.kind 28 (λ e. omega arith), ne_eqb x.kind 27 (λ e. omega arith)) (go_end w.no (all_becomes No r q))
    no_turn s c r (by_or e q) = rw e (go_on x.first w.yes w.no (left_part (omega arith)) (either_becomes j n w.yes w.no No e (part_is r q)))
    no_turn true c r (by_and e q) =
        rw e (go_end w.no (both_becomes j n w.yes w.no No e (part_is r q) ∙ by_none (m (tree_at table x.first)) w.no (c refl (tree_at table x.first))))
    no_turn false c r (by_and e q) = rw e (go_on x.first w.no w.no (left_part (omega arith)) (both_becomes j n w.yes w.no No e (part_is r q)))
    no_turn s c r (by_if e q) = rw e (go_on (w.at - 1) w.yes w.no (last_part (omega arith)) (choice_becomes j n w.yes w.no No e (part_is r q)))

    missing_turn : {part : ℕ} → Missing ≡ m (tree_at table part) → Met w.at x part → Turn text table m end w (after_missing false w x)
    unfolding after_missing choice_of
    missing_turn r (whole l q) =
        rw (ne_eqb x.kind 26 (λ e. omega arith), ne_eqb x.kind 27 (λ e. omega arith)) (go_end Missing (all_becomes Missing r q))
    missing_turn r (by_or e q) = rw e (go_on x.first w.yes Missing (left_part (omega arith)) (either_becomes j n w.yes w.no Missing e (part_is r q)))
    missing_turn r (by_and e q) = rw e (go_on x.first Missing w.no (left_part (omega arith)) (both_becomes j n w.yes w.no Missing e (part_is r q)))
    missing_turn r (by_if e q) = rw e (go_end Missing (choice_becomes j n w.yes w.no Missing e (part_is r q)))

    inside_not : x.kind ≡ 24 → Turn text table m end w (inside_part w x)
    unfolding inside_part
    inside_not e = rw e (go_on (w.at - 1) w.no w.yes (last_part (omega arith)) (not_becomes j n w.yes w.no e))

    inside_brackets : x.kind ≡ 25 → Turn text table m end w (inside_part w x)
    unfolding inside_part
    inside_brackets e = rw e (go_on (w.at - 1) w.yes w.no (last_part (omega arith)) (brackets_becomes j n w.yes w.no e))

    module _ {part : ℕ} (q : part ≡ part_met w.at x) where
      how : Met w.at x part
      how = met_by w.at x part n.high q

      -- after what was found of the part that is met first: where `settles`, a Missing counts as a No
      pub after_turn : (v : Verdict) {u : Way} → settled_if settles v ≡ m (tree_at table part) → u ≡ after_part settles w x v → Turn text table m end w u
      unfolding settled_if settled after_missing
      after_turn v r d = subst (Turn text table m end w) (sym d) (go settles v j.clear r)
        where
          go : (s : Bool) (v : Verdict) → (s ≡ true → (c : Tree) → m c ≢ Missing) → settled_if s v ≡ m (tree_at table part) → Turn text table m end w (after_part s w x v)
          go true Yes c r = yes_turn true c r how
          go true No c r = no_turn true c r how
          go true Missing c r = no_turn true c r how
          go false Yes c r = yes_turn false c r how
          go false No c r = no_turn false c r how
          go false Missing c r = missing_turn r how

      -- after its verdict
      pub verdict_turn : {v : Verdict} {u : Way} → v ≡ m (tree_at table part) → u ≡ after_part settles w x v → Turn text table m end w u
      verdict_turn {v} r d = after_turn v (counts_itself settles v (λ e z. j.clear e (tree_at table part) (sym r ∙ z)) ∙ r) d

      pub part_ready : Ready text table part
      part_ready = go how
        where
          go : Met w.at x part → Ready text table part
          go (whole l e) = subst (Ready text table) (sym e) (g.here some)
          go (by_and k e) = subst (Ready text table) (sym e) (last_part (omega arith)).ready
          go (by_or k e) = subst (Ready text table) (sym e) (last_part (omega arith)).ready
          go (by_if k e) = subst (Ready text table) (sym e) (left_part (omega arith)).ready

      part_before : 26 ≤ x.kind → part < w.at
      part_before h = go how
        where
          go : Met w.at x part → part < w.at
          go (whole l e) = absurd (omega arith)
          go (by_and k e) = let f = (last_part (omega arith)).falls in omega arith
          go (by_or k e) = let f = (last_part (omega arith)).falls in omega arith
          go (by_if k e) = let f = (left_part (omega arith)).falls in omega arith

      pub part_falls : 26 ≤ x.kind → part < end
      part_falls h = let f = part_before h in let l = g.low in omega arith

      -- in the part that is met first, with the rest kept
      entered_is : w.rest ≡ 0 → left ≡ m (tree_at table end)
      entered_is z = go g.is
        where
          go : Aim text table m end w.rest w.held w.kept left → left ≡ m (tree_at table end)
          go (the_whole y e) = e
          go (a_part r l c e) = let k = (node_of r).some in absurd (omega arith)

      pub entering : {u : Way} → x ≡ entry_at table (w.at - 1) → w.rest < 1 → u ≡ entered_at w part → Going text table m end u
      unfolding entered_at
      entering i z d =
          subst (Going text table m end) (sym d)
          (record {
            here = λ h. part_ready;
            low = part_low how;
            is = a_part (g.here some) g.low (entered_is (omega arith)) (unchanged _ ∙ ap (λ (e : ℕ). m (tree_at table e)) (q ∙ ap (part_met w.at) i));
          })
        where
          part_low : Met w.at x part → part ≤ end
          part_low (whole l e) = let l = g.low in omega arith
          part_low (by_and k e) = let f = (last_part (omega arith)).falls in let l = g.low in omega arith
          part_low (by_or k e) = let f = (last_part (omega arith)).falls in let l = g.low in omega arith
          part_low (by_if k e) = let f = (left_part (omega arith)).falls in let l = g.low in omega arith

      pub entering_less : {u : Way} → 26 ≤ x.kind → w.rest < 1 → u ≡ entered_at w part → length_of u.rest u.at < length_of w.rest w.at
      unfolding entered_at
      entering_less h z d =
          let e : w.rest ≡ 0 = omega arith in
          subst (λ (u : Way). length_of u.rest u.at < length_of w.rest w.at) (sym d)
          (subst (λ (r : ℕ). length_of w.at part < length_of r w.at) (sym e) (less_in part w.at (part_before h) n.few))

      -- the entry that is read there
      pub part_node : {z : Entry} → z ≡ entry_at table (part - 1) → Node text table part z
      part_node e = subst (Node text table part) (sym e) (node_of part_ready)

      -- the verdict of a part without parts
      pub flat_part : {z : Entry} {v : Verdict} → z ≡ entry_at table (part - 1) → v ≡ m (tree_of table part z) → v ≡ m (tree_at table part)
      flat_part e d = d ∙ ap m (sym (part_node e).is)

      same_kind : {z : Entry} → x ≡ entry_at table (w.at - 1) → z ≡ entry_at table (part - 1) → 23 < z.kind → x.kind < 26 → 23 < x.kind
      same_kind {z} i k h l = go how
        where
          go : Met w.at x part → 23 < x.kind
          go (whole b e) = let s : z ≡ x = k ∙ ap (λ (e : ℕ). entry_at table (e - 1)) e ∙ sym i in subst (λ (u : Entry). 23 < u.kind) s h
          go (by_and b e) = omega arith
          go (by_or b e) = omega arith
          go (by_if b e) = omega arith

      -- inside `!` or brackets
      pub inside_turn : {z : Entry} {u : Way} → x ≡ entry_at table (w.at - 1) → z ≡ entry_at table (part - 1) → 23 < z.kind → x.kind < 26 → u ≡ inside_part w x → Turn text table m end w u
      inside_turn i k h l d = subst (Turn text table m end w) (sym d) (one (eqb x.kind 24) refl (same_kind i k h l))
        where
          one : (b : Bool) → eqb x.kind 24 ≡ b → 23 < x.kind → Turn text table m end w (inside_part w x)
          one true e h = inside_not (eqb-true x.kind 24 e)
          one false e h = let f = eqb-false x.kind 24 e in inside_brackets (omega arith)

pub turn_less : {text table : List ℕ} {m : Tree → Verdict} {end : ℕ} {w u : Way} → Turn text table m end w u → length_of u.rest u.at < length_of w.rest w.at
turn_less {w = w} {u = u} t = subst (λ (r : ℕ). length_of r u.at < length_of w.rest w.at) (sym t.same) (less_on w.rest u.at w.at t.falls)

-- ---- nothing is left

module _ {text table : List ℕ} {settles : Bool} {m : Tree → Verdict} (j : Joining settles m) {end : ℕ} {w : Way} (g : Going text table m end w) (none : w.at < 1) where
  became : choice_of (m (tree_at table w.at)) w.yes w.no ≡ w.no
  unfolding tree_in choice_of
  became =
      let a : w.at ≡ 0 = omega arith in
      ap (λ (v : Verdict). choice_of v w.yes w.no) (ap (λ (e : ℕ). m (tree_at table e)) a ∙ j.nothing)

  pub arrived : w.rest < 1 → w.no ≡ m (tree_at table end)
  arrived z = go g.is
    where
      go : Aim text table m end w.rest w.held w.kept (choice_of (m (tree_at table w.at)) w.yes w.no) → w.no ≡ m (tree_at table end)
      go (the_whole y e) = sym became ∙ e
      go (a_part r l c e) = let k = (node_of r).some in absurd (omega arith)

  pub rest_ready : 1 ≤ w.rest → Ready text table w.rest
  rest_ready z = go g.is
    where
      go : Aim text table m end w.rest w.held w.kept (choice_of (m (tree_at table w.at)) w.yes w.no) → Ready text table w.rest
      go (the_whole y e) = absurd (omega arith)
      go (a_part r l c e) = r

  -- the way that was kept
  pub back : {u : Way} → 1 ≤ w.rest → u ≡ come_back w → Going text table m end u
  unfolding come_back
  back z d = subst (Going text table m end) (sym d) (go g.is)
    where
      go : Aim text table m end w.rest w.held w.kept (choice_of (m (tree_at table w.at)) w.yes w.no) → Going text table m end (come_back w)
      go (the_whole y e) = absurd (omega arith)
      go (a_part r l c e) = record { here = λ h. r; low = l; is = the_whole refl c }

  pub back_at : {u : Way} → u ≡ come_back w → u.at ≡ w.rest
  unfolding come_back
  back_at d = ap (λ (u : Way). u.at) d

  pub back_rest : {u : Way} → u ≡ come_back w → u.rest ≡ 0
  unfolding come_back
  back_rest d = ap (λ (u : Way). u.rest) d

  -- its part's verdict was found
  pub found : {u : Way} {x : Entry} → 1 ≤ w.rest → u ≡ come_back w → x ≡ entry_at table (w.rest - 1) → w.no ≡ m (tree_at table (part_met u.at x))
  found {u} {x} z d i = go g.is
    where
      go : Aim text table m end w.rest w.held w.kept (choice_of (m (tree_at table w.at)) w.yes w.no) → w.no ≡ m (tree_at table (part_met u.at x))
      go (the_whole y e) = absurd (omega arith)
      go (a_part r l c e) = sym became ∙ e ∙ rw (back_at d, i)

  pub back_less : {u t : Way} → 1 ≤ w.rest → u ≡ come_back w → Turn text table m end u t → length_of t.rest t.at < length_of w.rest w.at
  back_less {u} {t} z d k =
      let a : w.at ≡ 0 = omega arith in
      let f : t.at < w.rest = subst (λ (e : ℕ). t.at < e) (back_at d) k.falls in
      let same : t.rest ≡ 0 = k.same ∙ back_rest d in
      rw (a, same) (less_back w.rest t.at f)

  -- and it goes on after that
  pub back_turn : {u t : Way} {x : Entry} → 1 ≤ w.rest → x ≡ entry_at table (w.rest - 1) → u ≡ come_back w → t ≡ after_part settles u x w.no
      → Turn text table m end u t
  back_turn {u} {t} {x} z i d a =
      let h = back z d in
      let some : 0 < u.at = subst (λ (e : ℕ). 0 < e) (sym (back_at d)) (omega arith) in
      let k : x ≡ entry_at table (u.at - 1) = i ∙ ap (λ (e : ℕ). entry_at table (e - 1)) (sym (back_at d)) in
      verdict_turn j h some (met j h some k) refl (found z d i) a
