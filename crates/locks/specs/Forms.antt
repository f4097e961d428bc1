-- Locks as document 02 words them, request 2: which bytes say which vocabulary, lock and action list, and what they say together.
-- That the readers take these bytes and no others, and that bytes say one lock only, is proved in proofs/Exactly.antt. Definitions only.
use Rattle.std.specs.Prelude.{◌≡◌, true, ℕ, ◌≤◌, length}
use mathlib.Core.List.{List, [], ◌∷◌, ◌++◌, map, Memᴰ}
use Prim.Native.Char.{code}
use Rattle.tokens.specs.Forms.{All, Number}
use Rattle.tokens.specs.Runs.{is_of}
use Rattle.tokens.specs.declared.classes.Sort.TheVariants.{Blanks, Letters, WordBytes}
use Rattle.bags.specs.Forms.{InTurn}
use Rattle.bags.specs.Paths.{is_path}
use Rattle.questions.specs.Forms.{Distinct}
use Rattle.grammar.specs.Grammar.{SaysPolicies}
use Rattle.grammar.specs.Policies.{Policy, Comparator}
use Rattle.placing.specs.Said.{Word}
use Rattle.permits.specs.Permits.{Test, equal, member, order, sign_of, permit_text}
use Rattle.permits.specs.Meaning.{Orders, AValue, AString}

-- ---- the vocabulary

-- what a word's tests ask: that the attribute is the value, that it is a list that has it, how it compares with a number
pub data WordSort : Type 0 where
  equality : WordSort
  membership : WordSort
  numbers : WordSort

-- the byte of a sort
unfoldable pub sort_byte : WordSort → ℕ
sort_byte equality = 1
sort_byte membership = 2
sort_byte numbers = 3

-- a word with its path and its sort
pub record VocabularyEntry : Type 0 where
  pub word : Word
  pub path : Word
  pub sort : WordSort

-- a word of document 01: a letter, then letters, digits, `_`, `-`, 64 bytes at most; reserved words are words
pub data AWord : Word → Type 0 where
  a_word : {b : ℕ} {rest : Word} → is_of Letters b ≡ true → All WordBytes rest → length (b ∷ rest) ≤ 64 → AWord (b ∷ rest)

-- an entry: a length byte and the word, a length byte and the path, a byte for the sort
pub data VocabularyEntryBytes : List ℕ → VocabularyEntry → Type 0 where
  entry : {w p : Word} {s : WordSort} → AWord w → is_path p ≡ true
      → VocabularyEntryBytes (length w ∷ (w ++ (length p ∷ (p ++ sort_byte s ∷ [])))) (record { word = w; path = p; sort = s })

-- the words of a vocabulary
abbrev pub vocabulary_words : List VocabularyEntry → List Word
vocabulary_words = map (λ e. e.word)

-- a vocabulary: entries one after the other, 16 at most, no word twice
pub record VocabularyBytes (v : List ℕ) (entries : List VocabularyEntry) : Type 0 where
  pub in_turn : InTurn VocabularyEntryBytes v entries
  pub few : length entries ≤ 16
  pub no_word_twice : Distinct (vocabulary_words entries)

-- ---- the lock

-- a test as it is written: a word and a value, or a word, a comparator and a number
pub data WrittenTest : Type 0 where
  valued : Word → Word → WrittenTest
  compared : Word → Comparator → Word → WrittenTest

-- its bytes: the word, `:` and the value; or the word, one of `>`, `>=`, `<`, `<=`, and the number; with any blanks between them
pub data TestBytes : List ℕ → WrittenTest → Type 0 where
  value_test : {w a b x : List ℕ} → AWord w → All Blanks a → All Blanks b → AValue x → TestBytes (w ++ (a ++ code ":" ∷ (b ++ x))) (valued w x)
  number_test : {w a b n : List ℕ} {c : Comparator} → AWord w → All Blanks a → All Blanks b → Orders c → Number n
      → TestBytes (w ++ (a ++ (sign_of c ++ (b ++ n)))) (compared w c n)

-- a lock's bytes: tests joined by `&`, at least one, with any blanks before and behind each
pub data LockBytes : List ℕ → List WrittenTest → Type 0 where
  one : {a t b : List ℕ} {w : WrittenTest} → All Blanks a → TestBytes t w → All Blanks b → LockBytes (a ++ (t ++ b)) (w ∷ [])
  more : {a t b l : List ℕ} {w : WrittenTest} {ws : List WrittenTest} → All Blanks a → TestBytes t w → All Blanks b → LockBytes l ws
      → LockBytes (a ++ (t ++ (b ++ code "&" ∷ l))) (w ∷ ws)

-- what a written test means: its word's entry gives the path, and is of the sort that it is used as
pub data Meant (entries : List VocabularyEntry) : WrittenTest → Test → Type 0 where
  an_equality : {w p x : Word} → Memᴰ (record { word = w; path = p; sort = equality }) entries → Meant entries (valued w x) (equal p x)
  a_membership : {w p x : Word} → Memᴰ (record { word = w; path = p; sort = membership }) entries → Meant entries (valued w x) (member p x)
  a_comparison : {w p n : Word} {c : Comparator} → Memᴰ (record { word = w; path = p; sort = numbers }) entries
      → Meant entries (compared w c n) (order p c n)

-- the same of each
pub data AllMeant (entries : List VocabularyEntry) : List WrittenTest → List Test → Type 0 where
  none : AllMeant entries [] []
  next : {w : WrittenTest} {t : Test} {ws : List WrittenTest} {ts : List Test} → Meant entries w t → AllMeant entries ws ts → AllMeant entries (w ∷ ws) (t ∷ ts)

-- ---- the action list

-- a string of document 01 behind its length byte
pub data ActionBytes : List ℕ → Word → Type 0 where
  action : {s : Word} → AString s → ActionBytes (length s ∷ s) s

-- ---- all together

-- a text that compiles: a rule text, no longer than a text may be
pub record Compiles (text : List ℕ) : Type 0 where
  pub policies : List Policy
  pub says : SaysPolicies text policies
  pub short : length text ≤ 8192

-- What vocabulary v, lock l, action list a and resource r say: these actions and tests. Each field is a thing that document 02 names; without one it is 28.
pub record LockSays (v l a r : List ℕ) (actions : List Word) (tests : List Test) : Type 0 where
  -- the vocabulary's words, each with a path and a sort: not over 16, none repeated, words and paths as in 01
  pub entries : List VocabularyEntry
  pub vocabulary_says : VocabularyBytes v entries
  -- the lock's form: 1 to 16 tests joined by `&`
  pub written : List WrittenTest
  pub lock_says : LockBytes l written
  pub few_tests : length written ≤ 16
  -- each of its words is in the vocabulary and is used by its sort
  pub meant : AllMeant entries written tests
  -- actions and resource are strings of 01, which are UTF-8; the list has 1 to 16
  pub actions_say : InTurn ActionBytes a actions
  pub some_actions : 1 ≤ length actions
  pub few_actions : length actions ≤ 16
  pub resource_is : AString r

-- they say it, and the permit would compile
pub record Lockable (v l a r : List ℕ) (actions : List Word) (tests : List Test) : Type 0 where
  pub says : LockSays v l a r actions tests
  pub compiles : Compiles (permit_text actions r tests)

-- they say nothing that would compile
abbrev pub NoLock : List ℕ → List ℕ → List ℕ → List ℕ → Type 0
NoLock v l a r = (actions : List Word) (tests : List Test) → Lockable v l a r actions tests → ⊥
