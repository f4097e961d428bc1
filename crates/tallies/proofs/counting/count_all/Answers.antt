-- `tallies::counting::count_all` meets its contract: places and rows are found once, and the sums put behind the groups. Assumes nothing.
use Rattle.tallies.proofs.Groups.{groups_long, groups_small, sums_behind}
use Rattle.tallies.specs.Tallies.{group_count, groups_of, sums_of, with_sums}
use Rattle.tallies.specs.Lent.{requests_of}
use Rattle.table.specs.Recorded.{recorded}
use Rattle.sheets.specs.Sheets.{decision_at}
use Rattle.pages.proofs.Tallying.{group_long, group_few}
use Rattle.pages.specs.Tally.{tally_of}
use Rattle.placing.specs.Said.{words_of}
use Rattle.stored.specs.ReadBack.{policies_at}
use lib.ListN.{take, replicate}
use native.Mathlib.Omega.{arith}
use Prim.Native.Nat.{ℕ, zero-le}
use mathlib.Core.List.{List, ◌++◌}
use mathlib.Core.Path.{refl, ap, ◌∙◌}
use Rattle.pages.proofs.SixColumns.{heads_counted}
use Rattle.views.proofs.PlacedLaws.{places_of, heads_same, heads_low}
use borrow.Author.Rules.{rules}
use Rattle.tallies.proofs.counting.count_all.Goals as goal

pub lasts-ends-requires : goal.lasts-ends-requires
lasts-ends-requires c = heads_counted _ _ _ _ c.requires.question.0.few c.requires.question.0.columns _ c.heads-starts.ensures

pub index_of-base-requires : goal.index_of-base-requires
index_of-base-requires c = record {
  sectioned = c.requires.question.0.sections;
  s_len_bound = c.requires.question.1;
}

pub with_columns-placed-requires : goal.with_columns-placed-requires
with_columns-placed-requires c =
    let heads = c.heads-starts in
    record {
      n_le_most_columns = c.requires.question.0.few;
      by_index = heads_low _ _ _ _ _ heads.result c.requires.question.0.columns c.requires.question.1 heads.ensures;
    }

pub count_requests-requires : goal.count_requests-requires
count_requests-requires c =
    let rows = c.rows-all in
    let lasts = c.lasts-ends in
    let heads = c.heads-starts in
    let base = c.index_of-base in
    let columns = c.with_columns-placed.ensures in
    record {
      surveyed = record {
        asked = record { question = c.requires.question.0; short = c.requires.question.1; all_rows = rows.ensures.is; few = rows.ensures.few; within = zero-le };
        laid = record {
          many = refl;
          starts_are = heads.ensures;
          grid_is = c.places-grid.ensures;
          six = omega (arith, lasts.type_inv);
          ends_are = lasts.ensures;
        };
        rules = c.requires.rules_held;
      };
      many_le_group_count = c.requires.many_le_group_count;
      requests_value = c.requires.requests_value;
      counts_value = c.clear.ensures;
      places_of = (places_of _ _ _ _ _ _ columns base.ensures.sections base.ensures.indexed, heads_same columns (omega (arith, heads.type_inv)));
    }

pub add_up-requires : goal.add_up-requires
add_up-requires c =
    let small = groups_small _ (λ q. group_long _ _) _ (λ q k. group_few _ _ k) c.rows-all.ensures.few _ c.count_requests.ensures in
    record { counts_len = small.0; counts_few = small.1 }

pub returns : goal.returns
returns c =
    let text = c.args.text.now in
    let table = c.args.table.now in
    let s = c.args.s.now in
    let p = c.args.p in
    let entries = c.args.rules.entries in
    let qs = requests_of c.args.many c.args.requests.now in
    c.add_up.ensures ∙ ap (λ (l : List ℕ). take 544 l ++ sums_of l) c.count_requests.ensures ∙ sums_behind _ (groups_long _ (λ q. group_long _ _) group_count _)
    ∙ ap (λ (n : ℕ). with_sums (groups_of group_count (λ q. tally_of (decision_at (recorded table) s p q (words_of text (policies_at table entries))) n) qs)) c.rows-all.ensures.is
