-- The desk's page of promises holds: specs/Promises.antt, record by record. Assumes nothing.
use mathlib.Core.Path.{sym, ◌∙◌, ap, subst}
use Rattle.slices.proofs.Parts.{one_part}
use Rattle.compiling_promise.specs.Promise.{NoPoliciesNoVersion, BeginsExactly}
use Rattle.compiling_promise.proofs.Promised.{no_policies_no_version, begins_exactly}
use Rattle.meaning.proofs.Versions.{missing_exactly, second_exactly, satisfied_second}
use Rattle.bags.proofs.Exactly.{not_a_bag}
use Rattle.views.specs.Meaning.{View}
use Rattle.pages.specs.Rows.{choices_at}
use Rattle.pages.proofs.Combinations.{row_below, choices_of_row, choices_combine, row_of_choices}
use Rattle.pages.proofs.LineLaws.{sooner_row, row_sooner, row_read, mark_read}
use Rattle.desk.specs.Answers.{lookup_says}
use Rattle.desk.specs.Promises.{DemandOne, DemandTwo, Versions, DemandThree, TheTallies, Means, LookUps, Refusals, Locks, OneResult}
use Rattle.desk.proofs.RefusalNumbers.{lengths}
use Rattle.desk.proofs.TextsPromised as texts
use Rattle.desk.proofs.RequestsPromised as requests
use Rattle.desk.proofs.LookUpsPromised as look_ups_desk
use Rattle.desk.proofs.SheetsPromised as sheets_desk
use Rattle.desk.proofs.TalliesPromised as tallies_desk
use Rattle.desk.proofs.LocksPromised as locks_desk

pub demand_one : DemandOne
demand_one = record {
  compile_refusals = texts.compile_refusals;
  decide_refusals = requests.decide_refusals;
  lookup_refusals = requests.lookup_refusals;
  sheet_refusals = sheets_desk.sheet_refusals;
  tally_refusals = tallies_desk.tally_refusals;
  placed = texts.placed;
  lengths = λ text number at r. lengths r;
  no_place = texts.no_place;
  table_stays = texts.table_stays;
  sheet_stays = sheets_desk.sheet_stays;
  tally_stays = tallies_desk.tally_stays;
  lock_refusals = locks_desk.lock_refusals;
  lock_stays = locks_desk.lock_stays;
}

pub demand_two : DemandTwo
demand_two = record {
  accepted_exactly = texts.accepted_exactly;
  compiled = texts.compiled;
  compiled_begins = texts.compiled_begins;
  used_begins = texts.used_begins;
  enough_room = texts.enough_room;
  no_policies_no_bytes = texts.no_policies_no_bytes;
  policies_few = texts.policies_few;
  one_reading = texts.one_reading;
  yes_exactly = requests.yes_exactly;
  outcome_rightly = requests.outcome_rightly;
  one_outcome = requests.one_outcome;
  system_names_none = requests.system_names_none;
  policy_few = requests.policy_few;
  mark_exactly = requests.mark_exactly;
  one_mark = requests.one_mark;
  mark_few = requests.mark_few;
  mark_decides = requests.mark_decides;
  words_decide = requests.words_decide;
}

pub versions : Versions
unfolding NoPoliciesNoVersion
versions = record {
  records = texts.records;
  one_version = λ version text table ps s some b. texts.one_version version table ps some b;
  no_policies_no_version = no_policies_no_version;
  any_table = λ text table none. requests.any_table text none table;
  outcomes_alike = requests.outcomes_alike;
  marks_alike = requests.marks_alike;
  missing_exactly = missing_exactly;
  second_exactly = second_exactly;
  satisfied_second = satisfied_second;
}

pub demand_three : DemandThree
demand_three = record {
  the_sheet = sheets_desk.the_sheet;
  decided_alike = sheets_desk.decided_alike;
  rows_counted = sheets_desk.rows_counted;
  rows_few = sheets_desk.rows_few;
  row_within = λ ns choices ok. row_below ok;
  row_there = λ ns row h. (choices_combine ns row h, row_of_choices ns row h);
  one_row = λ ns choices choices' a b e. sym (choices_of_row a) ∙ ap (choices_at ns) e ∙ choices_of_row b;
  first_slowest = λ ns choices choices' a b. (sooner_row a b, row_sooner a b);
  row_read = row_read;
  mark_read = mark_read;
  goes_on = sheets_desk.goes_on;
  none_refused = sheets_desk.none_refused;
  to_the_last = sheets_desk.to_the_last;
  words_list = sheets_desk.words_list;
}

pub the_tallies : TheTallies
the_tallies = record { the_tally = tallies_desk.the_tally; one_lent = tallies_desk.lent_one; one_tally = tallies_desk.one_tally }

pub look_ups : LookUps
look_ups = record {
  looked_rightly = λ bag contents root path w.
      subst (λ (view : View). Means bag (lookup_says bag root path) (view root path)) (requests.seen w) (look_ups_desk.looked_rightly bag root path (requests.a_bag w));
  found_rightly = look_ups_desk.found_rightly;
  found_where_it_stands = λ bag contents root path kind place w. look_ups_desk.found_where_it_stands bag root path kind place (requests.a_bag w);
  stands_once = λ bag contents root path kind kind' place place' w. look_ups_desk.stands_once bag root path kind kind' place place' (requests.a_bag w);
  string_rightly = λ bag contents root path w k.
      let r = look_ups_desk.string_rightly bag root path k in (sym (ap (λ (view : View). view root path) (requests.seen w)) ∙ r.0, r.1);
  string_placed = look_ups_desk.string_placed;
  part_rightly = look_ups_desk.part_rightly;
  string_empty = look_ups_desk.string_empty;
  string_none = λ bag root path n. look_ups_desk.string_none bag root path ((not_a_bag bag).1 n);
}

pub refusals : Refusals
unfolding BeginsExactly
refusals = record {
  other_version = texts.other_versions;
  too_long = texts.too_long;
  no_room = texts.no_room;
  token_exactly = texts.token_exactly;
  decide_exactly = requests.decide_exactly;
  lookup_exactly = requests.lookup_exactly;
  sheet_exactly = sheets_desk.sheet_exactly;
  tally_exactly = tallies_desk.tally_exactly;
  rows_exactly = sheets_desk.rows_exactly;
  begins_exactly = begins_exactly;
  compile_zeros = texts.compile_zeros;
  decide_zeros = requests.decide_zeros;
  lookup_zeros = requests.lookup_zeros;
  sheet_zeros = sheets_desk.sheet_zeros;
}

pub one_result : OneResult
one_result = record {
  of_compile = λ version text before after after' r r' a b. (a.answered ∙ sym b.answered, a.table ∙ sym b.table);
  of_begins = λ text table r r' a b. a ∙ sym b;
  of_decide = λ c r r' a b. a ∙ sym b;
  of_lookup = λ bag root path r r' a b. a ∙ sym b;
  of_string = λ bag root path r r' a b. let p = one_part a b in (p.0, λ i. (p.1 i, p.2 i));
  of_string_place = λ bag root path r r' a b. a ∙ sym b;
  of_sheet = λ c after after' r r' a b. (a.answered ∙ sym b.answered, a.sheet ∙ sym b.sheet);
  of_tally = λ c after after' r r' a b. (a.answered ∙ sym b.answered, a.counts ∙ sym b.counts);
  of_rows = λ question r r' a b. a ∙ sym b;
  of_lock = λ vocabulary lock actions resource before after after' r r' a b. (a.answered ∙ sym b.answered, a.room ∙ sym b.room);
}

pub locks : Locks
locks = record {
  the_lock = locks_desk.the_lock;
  one_lock = locks_desk.one_lock;
  lock_exactly = locks_desk.lock_exactly;
  lock_zeros = locks_desk.lock_zeros;
}
