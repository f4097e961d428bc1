-- `sheets::writing::write_page` meets its contract: what is found of the columns and policies is what the rows are walked with. Assumes nothing.
use Rattle.pages.proofs.SixColumns.{heads_counted}
use Rattle.views.proofs.PlacedLaws.{places_of, heads_same, heads_low}
use mathlib.Core.Path.{refl}
use native.Mathlib.Omega.{arith}
use borrow.Author.Rules.{rules}
use Rattle.targets.specs.Matching.{request}
use Rattle.sheets.proofs.writing.write_page.Goals as goal

pub bounds-s-at : goal.bounds-s-at
bounds-s-at c = c.requires.asked.question.counted

pub overflow_cast-n : goal.overflow_cast-n
overflow_cast-n c = omega (arith, c.requires.asked.question.few)

pub overflow_add-first : goal.overflow_add-first
overflow_add-first c = omega (arith, c.requires.asked.question.counted)

pub heads-starts-requires : goal.heads-starts-requires
heads-starts-requires c =
    let question = c.requires.asked.question in
    record {
      n_le_most_columns = question.few;
      by_index = (question.last, question.columns);
    }

pub places-grid-requires : goal.places-grid-requires
places-grid-requires c =
    let question = c.requires.asked.question in
    record {
      n_le_most_columns = question.few;
      by_index = (question.last, question.columns);
    }

pub lasts-ends-requires : goal.lasts-ends-requires
lasts-ends-requires c =
    let question = c.requires.asked.question in
    heads_counted _ _ _ _ question.few question.columns _ c.heads-starts.ensures

pub looks-looks-requires : goal.looks-looks-requires
looks-looks-requires c =
    let question = c.requires.asked.question in
    let rules = c.requires.rules_for in
    record {
      ready_policies = rules.ready;
      policies_value = rules.many;
      policies_le_most_policies = rules.few;
      counted = heads_counted _ _ _ _ question.few question.columns _ c.heads-starts.ensures;
      types_of = rules.typed;
    }

pub effects-permits-requires : goal.effects-permits-requires
effects-permits-requires c =
    let rules = c.requires.rules_for in
    record {
      ready_of_some = record { text = _; ready = rules.ready };
      entries_len_bound = rw (← rules.many) rules.few;
    }

pub index_of-base-requires : goal.index_of-base-requires
index_of-base-requires c =
    let asked = c.requires.asked in
    record {
      sectioned = asked.question.sections;
      s_len_bound = asked.short;
    }

pub with_columns-found-requires : goal.with_columns-found-requires
with_columns-found-requires c =
    let asked = c.requires.asked in
    record {
      n_le_most_columns = asked.question.few;
      by_index = heads_low _ _ _ _ _ c.heads-starts.result asked.question.columns asked.short c.heads-starts.ensures;
    }

pub write_rows-requires : goal.write_rows-requires
write_rows-requires c =
    let looks = c.looks-looks in
    let base = c.index_of-base in
    let columns = c.with_columns-found.ensures in
    let pre = c.requires in
    record {
      rows_asked = rw (heads_same columns (omega (arith, c.heads-starts.type_inv)))
          (record {
            asked = pre.asked;
            walked = record {
              question = pre.asked.question;
              laid = record {
                many = refl;
                starts_are = c.heads-starts.ensures;
                grid_is = c.places-grid.ensures;
                six = omega (arith, c.lasts-ends.type_inv);
                ends_are = c.lasts-ends.ensures;
              };
              ready = pre.rules_for.ready;
              many = pre.rules_for.many;
              few = pre.rules_for.few;
              depths = looks.ensures.depths;
              ended = looks.ensures.ends;
              permits = c.effects-permits.ensures;
            };
          });
      walk_for_some = record { q = request _ _ _; walk_for = record { acts = refl; whose = pre.rules_for.whose; aims = looks.ensures.aims } };
      places_of = places_of _ _ _ _ _ _ columns base.ensures.sections base.ensures.indexed;
    }

pub returns : goal.returns
returns c = c.write_rows.ensures _ (record { acts = refl; whose = c.requires.rules_for.whose; aims = c.looks-looks.ensures.aims })
