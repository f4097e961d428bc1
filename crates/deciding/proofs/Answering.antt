-- The answer, test by test in document 01's order. Assumes nothing.
use Rattle.std.specs.Prelude.{Option, Some, None, Err, Ok}
use Rattle.std.specs.Option.{ok_or}
use mathlib.Core.Path.{◌≡◌, refl, sym, ◌∙◌}
use mathlib.Core.Bool.{Bool, true, false, cond, and-false}
use mathlib.Core.List.{List}
use Prim.Native.Nat.{ℕ}
use lib.Dec.{leb}
use lib.ListN.{length}
use Rattle.table.specs.Recorded.{recorded}
use Rattle.compiling.specs.Outcome.{begins_of}
use Rattle.bags.specs.Sections.{sections_of, is_bag}
use Rattle.bags.specs.declared.sections.Sections.{Sections}
use Rattle.views.specs.Meaning.{look}
use Rattle.views.specs.Values.{base_bag}
use Rattle.meaning.specs.Targets.{Request, type_in, is_typed, is_system, is_subject, is_action, is_resource}
use Rattle.meaning.specs.Decisions.{under, decision_of, decided_mark, policies_marked, system_marked}
use Rattle.deciding.specs.Answers.{words_in, view_in, view_of, held_decide, decide_answer}

-- ---- the type's number of a subject or a resource

no_type : (types : List (List ℕ)) (s : List ℕ) → type_in types s ≡ 0 → is_typed types s ≡ false
unfolding is_typed
no_type types s z = rw (z, and-false (leb (length s) 100))

module _ (types : List (List ℕ)) (s : List ℕ) (n : ℕ) (e : n ≡ cond (is_typed types s) (type_in types s) 0) where
  pub untyped : n ≡ 0 → is_typed types s ≡ false
  untyped z = go (is_typed types s) refl e
    where
      go : (b : Bool) → is_typed types s ≡ b → n ≡ cond b (type_in types s) 0 → is_typed types s ≡ false
      go true q k = no_type types s (sym k ∙ z)
      go false q k = q

  pub typed_form : (n ≡ 0 → ⊥) → is_typed types s ≡ true
  typed_form z = go (is_typed types s) e
    where
      go : (b : Bool) → n ≡ cond b (type_in types s) 0 → b ≡ true
      go true k = refl
      go false k = absurd (z k)

  pub typed_number : (n ≡ 0 → ⊥) → n ≡ type_in types s
  typed_number z = e ∙ rw (typed_form z)

-- ---- where there is none

-- a refusal by `ok_or` is the one that was given
pub none_given : {T E : Type 0} (o : Option T) (e x : E) → ok_or o e ≡ Err x → (o ≡ None) × (e ≡ x)
none_given None e x h = (refl, cc)
none_given (Some y) e x h = absurd cc

-- ---- the answer

module _ (text table bag : List ℕ) (q : Request) where
  pub the_system : is_system q.subject ≡ true → Ok system_marked ≡ decide_answer text table bag q
  unfolding decide_answer
  the_system e = rw e

  module _ (other : is_system q.subject ≡ false) where
    pub refused_21 : is_subject q.subject ≡ false → Err 21 ≡ decide_answer text table bag q
    unfolding decide_answer
    refused_21 e = rw (other, e)

    module _ (subject : is_subject q.subject ≡ true) where
      pub refused_22 : is_action q.action ≡ false → Err 22 ≡ decide_answer text table bag q
      unfolding decide_answer
      refused_22 e = rw (other, subject, e)

      module _ (action : is_action q.action ≡ true) where
        pub refused_23 : is_resource q.resource ≡ false → Err 23 ≡ decide_answer text table bag q
        unfolding decide_answer
        refused_23 e = rw (other, subject, action, e)

        module _ (resource : is_resource q.resource ≡ true) where
          pub refused_24 : is_bag bag ≡ false → Err 24 ≡ decide_answer text table bag q
          unfolding decide_answer
          refused_24 e = rw (other, subject, action, resource, e)

          module _ (form : is_bag bag ≡ true) where
            pub refused_20 : begins_of text table ≡ false → Err 20 ≡ decide_answer text table bag q
            unfolding decide_answer
            refused_20 e = rw (other, subject, action, resource, form, e)

            pub decided_then : begins_of text table ≡ true → Ok (policies_marked (under (recorded table) (view_of bag)) q (words_in text)) ≡ decide_answer text table bag q
            unfolding decide_answer decision_of decided_mark
            decided_then e = rw (other, subject, action, resource, form, e)

            pub as_held : (p : Sections) → sections_of bag ≡ Some p → held_decide text table (look (base_bag bag p)) q ≡ decide_answer text table bag q
            unfolding held_decide view_in
            as_held p d = go (begins_of text table) refl
              where
                view_is : view_of bag ≡ look (base_bag bag p)
                view_is = rw d

                go : (b : Bool) → begins_of text table ≡ b → cond b (Ok (policies_marked (under (recorded table) (look (base_bag bag p))) q (words_in text))) (Err 20) ≡ decide_answer text table bag q
                go true e = rw (← view_is) (decided_then e)
                go false e = refused_20 e
