-- What the desk's promises rest on: each ground with its proof in the crate that has it. Assumes nothing.
use mathlib.Core.Path.{◌≡◌, ap}
use mathlib.Core.Bool.{true}
use mathlib.Core.List.{List}
use Prim.Native.Nat.{ℕ}
use Rattle.tokens.proofs.Longest.{longest_token, one_token}
use Rattle.reading.proofs.Listed.{tokens_stand, one_list}
use Rattle.numbers.proofs.Rounded.{rounded_once}
use Rattle.numbers.proofs.Spelled.{written_value}
use Rattle.utf8.proofs.Readings.{says_exactly}
use Rattle.places.proofs.PlaceLaws.{one_column}
use Rattle.patterns.proofs.Computed.{likes_decides, text_decides}
use Rattle.placing.specs.Words.{AllSaidAlike}
use Rattle.placing.proofs.Theorems.{policies_placed}
use Rattle.placing.proofs.Words.{all_said_alike}
use Rattle.stored.proofs.Theorems.{compiled_says}
use Rattle.compiling.specs.Outcome.{compiled_bytes}
use Rattle.bags.specs.Sections.{is_bag}
use Rattle.bags.proofs.SectionLaws.{sections_at}
use Rattle.bags.proofs.Exactly.{bag_exactly, one_bag}
use Rattle.lookups.specs.Values.{absent}
use Rattle.lookups.specs.Lookups.{look_in, bag_of}
use Rattle.lookups.proofs.Answers.{found}
use Rattle.lookups.proofs.BagLaws.{impossible_path, impossible_root}
use Rattle.questions.proofs.Exactly.{question_exactly, one_question}
use Rattle.views.specs.Meaning.{View}
use Rattle.views.proofs.RowForms.{row_holds}
use Rattle.views.proofs.RowBag.{row_view_is}
use Rattle.views.proofs.RowLaws.{row_shows, has_is_presence}
use Rattle.desk.specs.Answers.{lookup_says}
use Rattle.desk.specs.Grounds.{not_there, Grounds}
use Rattle.desk.proofs.TextsPromised.{read_as}
use Rattle.desk.proofs.RequestsPromised.{seen}

not_there_lem : (bag : List ℕ) (root : ℕ) (path : List ℕ) → is_bag bag ≡ true → look_in absent (bag_of bag root) path ≡ absent → lookup_says bag root path ≡ not_there
unfolding lookup_says
not_there_lem bag root path b e = rw (← found bag root path b, e)

pub grounds : Grounds
unfolding compiled_bytes AllSaidAlike
grounds = record {
  longest_token = longest_token;
  one_token = one_token;
  tokens_stand = tokens_stand;
  one_list = λ text ts us a b. one_list text a b;
  written_value = written_value;
  rounded_once = rounded_once;
  characters_exactly = says_exactly;
  one_column = one_column;
  likes_decides = likes_decides;
  text_decides = text_decides;
  policies_placed = λ text ps s. policies_placed text ps (read_as text ps s);
  compiled_says = λ version text table ps s b. compiled_says version (record { short = s.short; read = read_as text ps s }) b;
  said_alike = all_said_alike;
  bag_exactly = bag_exactly;
  one_bag = λ s b c v w. one_bag v w;
  bag_shows = λ s b w root path. ap (λ (view : View). view root path) (seen w);
  question_exactly = question_exactly;
  one_question = λ s base base' cs cs' v w. one_question v w;
  row_holds = λ s base cs p choices w d ch root path. row_holds p d w choices ch root path;
  impossible_path = λ bag root path b n. not_there_lem bag root path ((bag_exactly bag).1 b) (impossible_path bag path n root);
  impossible_root = λ bag root path b n1 n2 n3. not_there_lem bag root path ((bag_exactly bag).1 b) (impossible_root bag path root n1 n2 n3);
  row_view_is = row_view_is;
  row_shows = λ question p choices heads grid values root path h.
      row_shows question p _ _ _ h.question_is.few h.question_is.columns choices h.chooses heads values grid h.heads_are h.grid_is h.values_are root path;
  has_is_presence = λ s p n at choices root path d. has_is_presence s p n at choices root path (sections_at s p d);
}
