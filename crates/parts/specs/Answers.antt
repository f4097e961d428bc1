-- What the code answers of what the reader of tokens says. `es e a` are the entries of a value a of which the first is number e. Definitions only.
use Rattle.std.specs.Prelude.{List, [], ◌∷◌, Bool, ◌&&◌, cond, ◌≡◌, ℕ, ◌+◌, ◌-◌, ◌^◌, ◌≤◌, ◌<◌, length, eqb, ltb, Option, Some, None, Result, Ok, Err}
use Rattle.tokens.specs.declared.reader.Token.{Token}
use Rattle.tokens.specs.Kinds as kinds
use Rattle.tokens.specs.Tokens.{token_at, Reads}
use Rattle.reading.specs.Lexemes.{Lexeme, size, stream}
use Rattle.reading.specs.Reader as reader
use Rattle.reading.specs.Reader.{took, refuse}
use Rattle.grammar.specs.Policies.{span}
use Rattle.grammar.specs.Parser as parser
use Rattle.grammar.specs.Parser.{uncalled, calling, spanned_by}
use Rattle.table.specs.declared.Entry.{Entry}
use Rattle.table.specs.Entries.{which_kind}
use Rattle.table.specs.Layout.{put_at, puts, entry_is, held}
use Rattle.parts.specs.declared.answers.Refusal.{Refusal}
use Rattle.parts.specs.declared.answers.Reader.{Reader}
use Rattle.parts.specs.declared.paths.Path.{Path}

-- a refusal by its number, and the start and the size of the refused token
abbrev pub refusal : ℕ → ℕ → ℕ → Refusal
refusal number start size = record { number = number; start = start; size = size }

-- what every reader may count on: the token that stands next lies in the text at or after the place `from`, and the text is no
-- longer than any can be
pub record ReadyToRead (text : List ℕ) (from : ℕ) (t : Token) : Type 0 where
  pub lies : Reads text from t
  pub small : length text < 2 ^ 60

-- the refusal by n of the first of the tokens r; [] is the end of the text
unfoldable pub refusal_at : List ℕ → ℕ → List Lexeme → Refusal
refusal_at text n [] = refusal n (length text) 0
refusal_at text n (x ∷ r) = refusal n x.start (size x)

-- the same by a token that was just read
unfoldable pub turned_away : ℕ → ℕ → Token → Refusal
turned_away end number t =
    cond (eqb t.kind kinds.end_of_text) (refusal 10 end 0) (refusal (cond (ltb t.kind 7) t.kind number) t.start (t.end - t.start))

-- what was refused: the reader's refusal is the one that is told
pub record TurnedAway (text : List ℕ) {A : Type 0} (p : reader.Answer A) (f : Refusal) : Type 0 where
  pub number : ℕ
  pub rest : List Lexeme
  pub is : p ≡ refuse number rest
  pub told : f ≡ refusal_at text number rest

-- entries from number `first` on, counted and compared: the next free number, and whether all before and these are held
pub record EntriesCounted (seen : List ℕ) (es : List Entry) (first : ℕ) (same : Bool) (free : ℕ) (ok : Bool) : Type 0 where
  pub free_is : free ≡ first + length es
  pub ok_is : ok ≡ same && held seen first es

-- what was read: the value, the token after it, which starts after the place `from`, and the entries, counted and compared. No more entries than bytes
-- from there on
pub record Taken {A : Type 0} (es : ℕ → A → List Entry) (text seen : List ℕ) (from first : ℕ) (same : Bool) (p : reader.Answer A)
    (next : Token) (free : ℕ) (ok : Bool) : Type 0 where
  pub value : A
  pub is : p ≡ took value (stream text next)
  pub lies : Reads text (from + 1) next
  pub room : free + from ≤ next.start + first
  pub counted : EntriesCounted seen (es first value) first same free ok

-- an answer, by the token that stands next, the next free number and whether all is the same then: what was read; or what was refused, that token by its number
pub data AnswerIs {A : Type 0} (es : ℕ → A → List Entry) (text seen : List ℕ) (from first : ℕ) (same : Bool) (p : reader.Answer A) (next : Token) (free : ℕ) (ok : Bool)
    : Result (Unit {0}) ℕ → Type 0 where
  read : {u : Unit {0}} → Taken es text seen from first same p next free ok → AnswerIs es text seen from first same p next free ok (Ok u)
  refused : {number : ℕ} → TurnedAway text p (turned_away (length text) number next) → AnswerIs es text seen from first same p next free ok (Err number)

-- what was read is in the table, as far as the table goes, and no other byte has changed; of a refusal nothing is said
pub data Put {A : Type 0} (es : ℕ → A → List Entry) (first : ℕ) (old new : List ℕ) : reader.Answer A → Type 0 where
  put : {a : A} {r : List Lexeme} → new ≡ puts old first (es first a) → Put es first old new (took a r)
  no_put : {n : ℕ} {r : List Lexeme} → Put es first old new (refuse n r)

-- a reader is lent what it was lent, and the table keeps its length, also where something is refused
pub record StillLent (old new : Reader) : Type 0 where
  pub text : new.text ≡ old.text
  pub seen : new.seen ≡ old.seen
  pub table : new.table.ghost_name ≡ old.table.ghost_name
  pub room : length new.table.now ≡ length old.table.now

-- the promise of what reads on from the place `from`
pub record DoneFrom {A : Type 0} (es : ℕ → A → List Entry) (from : ℕ) (p : reader.Answer A) (old new : Reader) (r : Result (Unit {0}) ℕ) : Type 0 where
  pub keeps : StillLent old new
  pub says : AnswerIs es old.text.now old.seen.now from old.free old.same p new.next new.free new.same r
  pub wrote : Put es old.free old.table.now new.table.now p

-- the same from the token that stands next
abbrev pub Done : {A : Type 0} → (ℕ → A → List Entry) → (List Lexeme → reader.Answer A) → Reader → Reader → Result (Unit {0}) ℕ → Type 0
Done es reads old new r = DoneFrom es old.next.start (reads (stream old.text.now old.next)) old new r

-- and where k tokens at least are read before that one, of what it reads
abbrev pub DoneAt : {A : Type 0} → (ℕ → A → List Entry) → ℕ → (List Lexeme → reader.Answer A) → Reader → Reader → Result (Unit {0}) ℕ → Type 0
DoneAt es k reads old new r = DoneFrom es (old.next.start - k) (reads (stream old.text.now old.next)) old new r

-- a reader at another token
abbrev pub at_token : Reader → Token → Reader
at_token r t = record { text = r.text; table = r.table; seen = r.seen; next = t; free = r.free; same = r.same }

-- ---- paths

-- the kind of the entry of the call that begins after a path, if one does
unfoldable pub call_after : parser.Way → Option ℕ
call_after (uncalled p) = None
call_after (calling p w) = Some (which_kind w)

-- where a path was found, and the token that stands after it
pub record PathWalked (text : List ℕ) (from : ℕ) (p : reader.Answer parser.Way) (next : Token) (w : Path) : Type 0 where
  pub way : parser.Way
  pub is : p ≡ took way (stream text next)
  pub span_is : spanned_by way ≡ span w.start w.end
  pub call_is : call_after way ≡ w.call
  pub lies : Reads text (from + 1) next

-- an answer: a path, or what was refused
pub data PathIs (text : List ℕ) (from : ℕ) (p : reader.Answer parser.Way) (next : Token) : Result Path ℕ → Type 0 where
  found : {w : Path} → PathWalked text from p next w → PathIs text from p next (Ok w)
  lost : {number : ℕ} → TurnedAway text p (turned_away (length text) number next) → PathIs text from p next (Err number)

-- the promise of a path's reader: it goes on to the token that stands after the path, and nothing else changes
pub record PathWalks (reads : List Lexeme → reader.Answer parser.Way) (old new : Reader) (r : Result Path ℕ) : Type 0 where
  pub stays : new ≡ at_token old new.next
  pub says : PathIs old.text.now old.next.start (reads (stream old.text.now old.next)) new.next r

-- ---- parts of the code that read nothing of their own

-- on to the token after the one that stands next
abbrev pub passed : Reader → Reader
passed r = at_token r (token_at r.text.now r.next.end)

-- one entry more is put and compared
pub record PutBy (x : Entry) (old new : Reader) : Type 0 where
  pub keeps : StillLent old new
  pub next : new.next ≡ old.next
  pub free : new.free ≡ old.free + 1
  pub same : new.same ≡ (old.same && entry_is old.seen.now old.free x)
  pub put : new.table.now ≡ put_at old.table.now old.free x

-- a token of a kind must stand next, and is passed; any other is refused, and all stays
pub data Expected (kind : ℕ) (old : Reader) : Reader → Result (Unit {0}) ℕ → Type 0 where
  stood : {u : Unit {0}} → old.next.kind ≡ kind → Expected kind old (passed old) (Ok u)
  other : (old.next.kind ≡ kind → ⊥) → Expected kind old old (Err 10)
