-- Where the strings, numbers and paths of two texts lie, computed from the definitions. Assumes nothing.
use mathlib.Core.Path.{◌≡◌, refl}
use mathlib.Core.Bool.{true}
use mathlib.Core.List.{List, [], ◌∷◌}
use mathlib.Core.Option.{some}
use Prim.Native.Nat.{ℕ}
use Rattle.slices.specs.Ascii.{bytes}
use Rattle.tokens.specs.Bytes.{class_of}
use Rattle.reading.specs.Lexemes.{tokens_of}
use Rattle.reading.specs.Reader.{took}
use Rattle.grammar.specs.Policies.{span, Root.Principal, Root.Env, Comparator.AtLeast, text, number, attribute, literal, Tree, compare, has, not, brackets, both, typed, one_of, Policy}
use Rattle.grammar.specs.Parser.{read_text}
use Rattle.tokens.specs.Blanks.{unblanked}
use Rattle.placing.specs.Placed.{bytes_at, quoted_at, unblanked_at, depth}
use Rattle.placing.specs.Said.{literal_words, list_words, operand_words, tree_words, part_words, action_words, condition_words, words_of}
use Rattle.grammar.proofs.Opened.{grammar_opened}

-- the worked example of docs/TABLE.md
abbrev pub rule : List ℕ
rule = bytes "permit(principal is person, action in [\"teach\"], resource is shaft)\n  when { principal.grade >= 3 && !(principal has loan) };"

abbrev pub condition : Tree
condition = both (compare AtLeast (attribute Principal (span 87 92)) (literal (number (span 96 97)))) (not (brackets (has Principal (span 117 121))))

abbrev pub policy : Policy
policy = record { permits = true; principal = typed 1; action = one_of (text (span 39 46) ∷ []); resource = typed 2; condition = some condition }

pub rule_read : read_text (tokens_of rule) ≡ took (policy ∷ []) []
unfolding grammar_opened
rule_read = refl

pub rule_spans :
    (quoted_at rule (span 39 46) ≡ bytes "teach")
    × (unblanked_at rule (span 87 92) ≡ bytes "grade")
    × (bytes_at rule (span 96 97) ≡ bytes "3")
    × (unblanked_at rule (span 117 121) ≡ bytes "loan")
    × (depth condition ≡ 3)
unfolding unblanked class_of depth
rule_spans = (refl, refl, refl, refl, refl)

-- blanks about a path's dots
pub path_with_blanks : unblanked_at (bytes "env.door .\n\tstate == 1") (span 4 17) ≡ bytes "door.state"
unfolding unblanked class_of
path_with_blanks = refl

-- the same policy at other places says the same words
abbrev pub closer : List ℕ
closer = bytes "permit(principal is person,action in[\"teach\"],resource is shaft)when{principal.grade>=3&&!(principal has loan)};"

abbrev pub closer_policy : Policy
closer_policy = record {
  permits = true;
  principal = typed 1;
  action = one_of (text (span 37 44) ∷ []);
  resource = typed 2;
  condition = some (both (compare AtLeast (attribute Principal (span 79 84)) (literal (number (span 86 87)))) (not (brackets (has Principal (span 105 109)))));
}

pub closer_read : read_text (tokens_of closer) ≡ took (closer_policy ∷ []) []
unfolding grammar_opened
closer_read = refl

pub said_twice : words_of rule (policy ∷ []) ≡ words_of closer (closer_policy ∷ [])
unfolding unblanked class_of words_of tree_words operand_words literal_words list_words part_words action_words condition_words
said_twice = refl

pub rule_words : words_of rule (policy ∷ []) ≡ record {
  permits = true;
  principal = typed 1;
  action = one_of (text (bytes "teach") ∷ []);
  resource = typed 2;
  condition = some (both (compare AtLeast (attribute Principal (bytes "grade")) (literal (number (bytes "3")))) (not (brackets (has Principal (bytes "loan")))));
} ∷ []
unfolding unblanked class_of words_of tree_words operand_words literal_words list_words part_words action_words condition_words
rule_words = refl

-- a path is said without its blanks
pub path_said : operand_words (bytes "env.door .\n\tstate == 1") (attribute Env (span 4 17)) ≡ attribute Env (bytes "door.state")
unfolding unblanked class_of operand_words
path_said = refl
