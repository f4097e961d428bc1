-- What a condition's Yes and No become, through what joins its parts: for any verdicts, Missing among them; and what an operator's verdict counts as. Assumes nothing.
use mathlib.Core.Path.{◌≡◌, refl, sym, ◌∙◌, ap}
use mathlib.Core.Logic.{◌≢◌}
use mathlib.Core.Bool.{Bool, true, false, false≢true}
use mathlib.Core.List.{List}
use Prim.Native.Nat.{ℕ, ◌≤◌}
use Rattle.grammar.specs.Policies.{Tree, TreeOf, constant, brackets, both, either, choice}
use Rattle.grammar.specs.Policies as tree
use Rattle.views.specs.Meaning.{View}
use Rattle.placing.specs.Said.{Word, tree_words}
use Rattle.table.specs.declared.Entry.{Entry}
use Rattle.table.specs.Layout.{entry_at}
use Rattle.stored.specs.ReadBack.{tree_of}
use Rattle.meaning.specs.Conditions.{told, settled, settles as settles_under, settled_if, negated, both_of, either_of, choice_of, verdict}
use Rattle.meaning.specs.Versions.{NeverMissing}
use Rattle.meaning.specs.declared.Verdict.{Verdict}
use Rattle.meaning.specs.declared.Verdict.TheVariants.{Yes, No, Missing}
use Rattle.meaning.proofs.Versions.{never_missing}
use Rattle.operators.proofs.FlatLaws.{flat_counts}

-- ---- what a verdict becomes: `choice_of v yes no`

pub unchanged : (v : Verdict) → choice_of v Yes No ≡ v
unfolding choice_of
unchanged Yes = refl
unchanged No = refl
unchanged Missing = refl

pub by_negation : (v a b : Verdict) → choice_of (negated v) a b ≡ choice_of v b a
unfolding choice_of negated
by_negation Yes a b = refl
by_negation No a b = refl
by_negation Missing a b = refl

pub by_both : (l v a b : Verdict) → choice_of (both_of l v) a b ≡ choice_of l (choice_of v a b) b
unfolding choice_of both_of
by_both Yes v a b = refl
by_both No v a b = refl
by_both Missing v a b = refl

pub by_either : (l v a b : Verdict) → choice_of (either_of l v) a b ≡ choice_of l a (choice_of v a b)
unfolding choice_of either_of
by_either Yes v a b = refl
by_either No v a b = refl
by_either Missing v a b = refl

-- both become the same, and it cannot be Missing
pub by_none : (l a : Verdict) → l ≢ Missing → choice_of l a a ≡ a
unfolding choice_of
by_none Yes a n = refl
by_none No a n = refl
by_none Missing a n = absurd (n refl)

-- ---- a meaning of conditions that joins the verdicts of their parts so; where `settles`, no verdict is Missing

pub record Joining (settles : Bool) (m : Tree → Verdict) : Type 0 where
  pub nothing : m (constant false) ≡ No
  pub negation : (a : Tree) → m (tree.not a) ≡ negated (m a)
  pub bracketed : (a : Tree) → m (brackets a) ≡ m a
  pub conjunction : (a b : Tree) → m (both a b) ≡ both_of (m a) (m b)
  pub disjunction : (a b : Tree) → m (either a b) ≡ either_of (m a) (m b)
  pub chosen : (c a b : Tree) → m (choice c a b) ≡ choice_of (m c) (m a) (m b)
  pub clear : settles ≡ true → (c : Tree) → m c ≢ Missing

clear_where : (settles : Bool) (view : View) (c : TreeOf Word) → settles ≡ true → verdict settles view c ≢ Missing
unfolding NeverMissing settles_under
clear_where true view c e = never_missing view c
clear_where false view c e = absurd (false≢true e)

pub joins : (settles : Bool) (t : List ℕ) (view : View) → Joining settles (λ (c : Tree). verdict settles view (tree_words t c))
unfolding verdict tree_words told
joins settles t view = record {
  nothing = refl;
  negation = λ a. refl;
  bracketed = λ a. refl;
  conjunction = λ a b. refl;
  disjunction = λ a b. refl;
  chosen = λ c a b. refl;
  clear = λ e c. clear_where settles view (tree_words t c) e;
}

-- ---- what a verdict counts as

-- it is settled already where it cannot be Missing
pub counts_itself : (settles : Bool) (v : Verdict) → (settles ≡ true → v ≢ Missing) → settled_if settles v ≡ v
unfolding settled_if settled
counts_itself true Yes n = refl
counts_itself true No n = refl
counts_itself true Missing n = absurd (n refl refl)
counts_itself false v n = refl

-- what a condition without parts counts as
pub flat_counted : (settles : Bool) (t table : List ℕ) (view : View) (end : ℕ) (x : Entry) {v : Verdict} → x.kind ≤ 23
    → v ≡ verdict false view (tree_words t (tree_of table end x)) → settled_if settles v ≡ verdict settles view (tree_words t (tree_of table end x))
flat_counted settles t table view end x h e = ap (settled_if settles) e ∙ sym (flat_counts settles t view (entry_at table) end x h)
