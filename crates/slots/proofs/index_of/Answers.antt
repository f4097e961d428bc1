-- `slots::index_of` meets its contract: each section fills the slots of its root, and leaves all others as they are. Assumes nothing.
use Rattle.slots.proofs.SlotLaws.{all_empty, section_inside, index_sections, index_sized, index_free, indexed}
use lib.ListN.{replicate}
use native.Mathlib.Omega.{arith}
use mathlib.Core.Path.{refl, ◌∙◌}
use borrow.Author.Rules.{rules}
use Rattle.slots.proofs.index_of.Goals as goal

pub put_section-requires : goal.put_section-requires
put_section-requires c = record {
  places_len = refl;
  slot_count_bound = omega arith;
  by_index = (λ k l h. all_empty 202 k);
  s_len_bound = c.requires.s_len_bound;
  by_index_2 = (_, c.requires.sectioned.principal);
}

pub put_section-requires-2 : goal.put_section-requires-2
put_section-requires-2 c = record {
  places_len = c.put_section.ensures.sized;
  slot_count_bound = omega arith;
  by_index = (λ k l h. c.put_section.ensures.above k l ∙ all_empty 202 k);
  s_len_bound = c.requires.s_len_bound;
  by_index_2 = (_, c.requires.sectioned.resource);
}

pub put_section-requires-3 : goal.put_section-requires-3
put_section-requires-3 c = record {
  places_len = c.put_section-2.ensures.sized;
  slot_count_bound = omega arith;
  by_index = (λ k l h. c.put_section-2.ensures.above k l ∙ c.put_section.ensures.above k (omega arith) ∙ all_empty 202 k);
  s_len_bound = c.requires.s_len_bound;
  by_index_2 = (_, c.requires.sectioned.env);
}

pub overflow_cast-places : goal.overflow_cast-places
overflow_cast-places c = omega (arith, section_inside _ _ _ c.requires.sectioned.resource)

pub overflow_cast-places-2 : goal.overflow_cast-places-2
overflow_cast-places-2 c = omega (arith, section_inside _ _ _ c.requires.sectioned.env)

pub overflow_cast-places-3 : goal.overflow_cast-places-3
overflow_cast-places-3 c = omega (arith, section_inside _ _ _ c.requires.sectioned.env)

pub returns : goal.returns
returns c =
    let s = c.args.s.now in
    let p = c.args.p in
    let one = c.put_section.ensures in
    let two = c.put_section-2.ensures in
    let three = c.put_section-3.ensures in
    record {
      sections = index_sections s (replicate 202 0) _ _ _ p (all_empty 202) one two three;
      indexed = indexed s (replicate 202 0) _ _ _ p (all_empty 202) one two three;
      free = index_free s (replicate 202 0) _ _ _ p (all_empty 202) one two three;
      sized = index_sized s (replicate 202 0) _ _ _ p (all_empty 202) one two three;
    }
