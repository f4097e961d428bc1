-- The promises of specs/Promise. Assumes nothing.
use Rattle.std.specs.Prelude.{Some, None, Result, Ok, Err}
use mathlib.Core.Path.{◌≡◌, refl, ◌∙◌, sym, ap, ap₂, subst}
use mathlib.Core.Logic.{◌⊎◌, inl, inr, ⊎_elim}
use mathlib.Core.Bool.{Bool, true, false, cond}
use mathlib.Core.List.{List, [], ◌∷◌, ◌++◌}
use Prim.Native.Nat.{ℕ, zero, suc, ◌+◌, ◌*◌, ◌≤◌, ◌<◌}
use native.Mathlib.Omega.{arith}
use lib.Dec.{ltb, eqb}
use lib.ListN.{length, take, drop}
use lib.Seq.{take_at, drop_at}
use borrow.Author.Tests.{le-ltb, ltb-true, ltb-false, eqb-true, eqb-false, ne_eqb}
use Rattle.places.specs.declared.Counting.{Counting}
use Rattle.places.specs.declared.Counting.TheVariants.{Outside}
use Rattle.places.specs.declared.Place.{Place}
use Rattle.places.specs.Places.{place, behind_byte, columns_taken, past, past_all, place_of}
use Rattle.tokens.specs.Sizes.{most_text_bytes}
use Rattle.reading.specs.Lexemes.{Lexeme, choose, tokens_of}
use Rattle.reading.specs.Reader as reader
use Rattle.reading.specs.Reader.{took, refuse, refuse_by, bind}
use Rattle.grammar.specs.Policies.{Policy}
use Rattle.grammar.specs.Parser.{at_end, read_text}
use Rattle.grammar.specs.Versions.{version_number, if_version}
use Rattle.grammar.specs.declared.Version.{Version}
use Rattle.grammar.specs.declared.Version.TheVariants.{First, Second}
use Rattle.grammar.specs.Lowest as lowest
use Rattle.reading.proofs.Listed.{tokens_stand, tokens_are}
use Rattle.grammar.proofs.Exactly.{says_exactly}
use Rattle.grammar.proofs.Rows.{tokens_refused_exactly}
use Rattle.table.specs.Entries.{policies_entries}
use Rattle.table.specs.Layout.{entry_size, bytes_of, held, starts_with}
use Rattle.table.specs.Recorded.{recorded}
use Rattle.table.proofs.Versions.{held_records, as_many}
use Rattle.slices.specs.Parts.{Begins}
use Rattle.table.proofs.Holding.{length_bytes_of, starts_decides, held_starts}
use Rattle.parts.specs.Answers.{refusal_at}
use Rattle.parts.specs.declared.answers.Refusal.{Refusal}
use Rattle.compiling.specs.Outcome.{table_size, compiled_to, refused, compile_said, room_for, said, compiled_bytes, nowhere, spot_of, found_by, found_of, told_of, compiled_under, compiled_of, table_by, table_under, table_after, begins_by, begins_of, held_by, held_of}
use Rattle.compiling_promise.specs.Promise.{UnderItsNumber, NoVersion, OtherVersion, ZerosElsewhere, AcceptedExactly, UnfitExactly, token_start, first_length, RefusedThere, RefusedExactly, bytes_said, bytes_for, BytesOfPolicies, TextAndVersionAlone, NothingChanged, NoPoliciesNoBytes, AsManyBytes, VersionRecorded, CompiledRecords, NoPoliciesNoVersion, OneCompiled, Begun, BeginsExactly, CompiledBegins, EnoughRoom, TableHolds, HeldRightly}
use Rattle.compiling.specs.declared.TableSize.{TableSize}
use Rattle.compiling.specs.declared.Unaccepted.{Unaccepted}
use Rattle.compiling.specs.declared.Unaccepted.TheVariants.{Unfit, Turned}
use Rattle.compiling.specs.declared.Spot.{Spot}
use Rattle.compiling.specs.declared.Compiled.{Compiled}
use Rattle.compiling.specs.declared.Refused.{Refused}
use Rattle.compiling.proofs.Outcomes.{fitting, too_long, no_room, accepts, same_table}
use Rattle.table.proofs.Counting.{entries_few as entries_below}

-- ---- what a number names

-- a number names a version, or none
data Named : ℕ → Type 0 where
  a_version : (version : Version) → Named (version_number version)
  no_version : {number : ℕ} → NoVersion number → Named number

named : (number : ℕ) → Named number
unfolding version_number
named number = go (eqb number 1) (eqb number 2) refl refl
  where
    none : (number ≡ 1 → ⊥) → (number ≡ 2 → ⊥) → NoVersion number
    none a b First e = a (sym e)
    none a b Second e = b (sym e)

    go : (a b : Bool) → eqb number 1 ≡ a → eqb number 2 ≡ b → Named number
    go true b x y = subst Named (sym (eqb-true number 1 x)) (a_version First)
    go false true x y = subst Named (sym (eqb-true number 2 y)) (a_version Second)
    go false false x y = no_version (none (eqb-false number 1 x) (eqb-false number 2 y))

by_number : {A : Type 0} (version : Version) (f : Version → A) (other : A) → if_version (version_number version) f other ≡ f version
unfolding if_version version_number
by_number First f other = refl
by_number Second f other = refl

by_none : {A : Type 0} (number : ℕ) (f : Version → A) (other : A) → NoVersion number → if_version number f other ≡ other
unfolding if_version version_number
by_none number f other n = rw (ne_eqb number 1 (λ e. n First (sym e)), ne_eqb number 2 (λ e. n Second (sym e)))

pub under_its_number : UnderItsNumber
unfolding UnderItsNumber compiled_of table_after
under_its_number version text old room = (by_number version _ _, by_number version _ _)

-- ---- what an answer says of what is found

abbrev record_of : ℕ → ℕ → Compiled
record_of policies bytes = record { policies = policies; bytes = bytes }

abbrev refusal_of : ℕ → Spot → Refused
refusal_of number at = record { number = number; spot = at }

-- how many entries were found for the bytes that are told
record FoundAs (version : Version) (text : List ℕ) (room policies bytes : ℕ) : Type 0 where
  entries : ℕ
  is : Ok (table_size policies entries) ≡ found_of version text room
  used : bytes ≡ entry_size * entries

found_as : (version : Version) (text : List ℕ) (room policies bytes : ℕ) → compiled_under version text room ≡ compiled_to policies bytes → FoundAs version text room policies bytes
unfolding compiled_under told_of
found_as version text room policies bytes e = go (found_of version text room) refl e
  where
    go : (x : Result TableSize Unaccepted) → found_of version text room ≡ x → told_of text x ≡ compiled_to policies bytes → FoundAs version text room policies bytes
    go (Ok s) q e =
        let same : record_of s.policies (entry_size * s.entries) ≡ record_of policies bytes = cc in
        record { entries = s.entries; is = rw (← ap (λ (c : Compiled). c.policies) same) (sym q); used = sym (ap (λ (c : Compiled). c.bytes) same) }
    go (Err (Unfit n)) q e = absurd (let z : ◌≡◌ {A = ℕ} 0 1 = cc in omega arith)
    go (Err (Turned f)) q e = absurd (let z : ◌≡◌ {A = ℕ} 0 1 = cc in omega arith)

-- what is taken of a whole text leaves no token
end_is : (q : reader.Answer (List Policy)) (ps : List Policy) (r : List Lexeme) → bind q at_end ≡ took ps r → r ≡ []
unfolding bind at_end refuse_by
end_is (took qs []) ps r e = cc
end_is (took qs (x ∷ s)) ps r e = absurd (let z : ◌≡◌ {A = ℕ} 0 1 = cc in omega arith)
end_is (refuse n s) ps r e = absurd (let z : ◌≡◌ {A = ℕ} 0 1 = cc in omega arith)

nothing_left : (text : List ℕ) (ps : List Policy) (r : List Lexeme) → said text ≡ took ps r → r ≡ []
unfolding said read_text
nothing_left text ps r e = end_is _ ps r e

length_compiled : (version : Version) (ps : List Policy) → length (compiled_bytes version ps) ≡ entry_size * length (policies_entries version 0 ps)
unfolding compiled_bytes
length_compiled version ps = length_bytes_of (policies_entries version 0 ps)

-- what an accepted text has
record Compiles (version : Version) (text : List ℕ) (room policies bytes : ℕ) : Type 0 where
  short : length text ≤ most_text_bytes
  roomy : room_for text ≤ room
  value : List Policy
  is : said text ≡ took value []
  many : policies ≡ length value
  used : bytes ≡ length (compiled_bytes version value)

compiles : (version : Version) (text : List ℕ) (room policies bytes : ℕ) → compiled_under version text room ≡ compiled_to policies bytes → Compiles version text room policies bytes
compiles version text room policies bytes e =
    let f = found_as version text room policies bytes e in
    let h = accepts version text room policies f.entries f.is in
    let n = nothing_left text h.value h.rest h.is in
    record {
      short = h.short;
      roomy = h.roomy;
      value = h.value;
      is = h.is ∙ rw n;
      many = h.many;
      used = let l = length_compiled version h.value in let u = f.used in let c = h.count in omega arith;
    }

-- ---- acceptance

took_answer : (version : Version) (text : List ℕ) (room : ℕ) (ps : List Policy) (r : List Lexeme) → length text ≤ most_text_bytes → room_for text ≤ room → said text ≡ took ps r
    → compiled_under version text room ≡ compiled_to (length ps) (length (compiled_bytes version ps))
unfolding compiled_under told_of found_by
took_answer version text room ps r l h e = rw (fitting version text room l h, e, length_compiled version ps)

pub accepted : AcceptedExactly
unfolding AcceptedExactly said
accepted version text room policies bytes l h = (
  λ e. let k = compiles version text room policies bytes e in
      record { value = k.value; belongs = (says_exactly text k.value).0 k.is; many = k.many; used = k.used },
  λ b. took_answer version text room b.value [] l h ((says_exactly text b.value).1 b.belongs) ∙ rw (b.many, b.used),
)

-- ---- refusal

-- every line has a number from 1 on
past_line : (k : Counting) (b : ℕ) (p : Place) → 1 ≤ p.line → 1 ≤ (past k b p).line
unfolding past
past_line k b p h = go (eqb b 10)
  where
    go : (o : Bool) → 1 ≤ (cond o (place (p.line + 1) 1) (place p.line (p.column + columns_taken k b))).line
    go true = omega arith
    go false = h

line_from : (n : ℕ) (l : List ℕ) (k : Counting) (p : Place) → 1 ≤ p.line → 1 ≤ (past_all n l k p).line
unfolding past_all
line_from zero l k p h = h
line_from (suc n) [] k p h = h
line_from (suc n) (b ∷ l) k p h = line_from n l (behind_byte b l k) (past k b p) (past_line k b p h)

-- a refusal with no place is one by the sizes
sized : (version : Version) (text : List ℕ) (room number : ℕ) → compiled_under version text room ≡ refused number nowhere → found_of version text room ≡ Err (Unfit number)
unfolding compiled_under told_of
sized version text room number e = go (found_of version text room) e
  where
    go : (x : Result TableSize Unaccepted) → told_of text x ≡ refused number nowhere → x ≡ Err (Unfit number)
    go (Ok s) e = absurd (let z : ◌≡◌ {A = ℕ} 0 1 = cc in omega arith)
    go (Err (Unfit n)) e = let same : refusal_of n nowhere ≡ refusal_of number nowhere = cc in rw (ap (λ (r : Refused). r.number) same)
    go (Err (Turned f)) e = absurd (let same : refusal_of f.number (spot_of text f.start f.size) ≡ refusal_of number nowhere = cc in let y : spot_of text f.start f.size ≡ nowhere = ap (λ (r : Refused). r.spot) same in let z : (place_of text f.start).line ≡ 0 = ap (λ (s : Spot). s.line) y in let y = line_from f.start text Outside (place 1 1) (omega arith) in omega arith)

unfit_is : (version : Version) (text : List ℕ) (room number : ℕ) → found_of version text room ≡ Err (Unfit number)
    → ((most_text_bytes < length text) × (number ≡ 1)) ⊎ (((length text ≤ most_text_bytes) × (room < room_for text)) × (number ≡ 2))
unfolding found_of found_by choose
unfit_is version text room number e = go (ltb most_text_bytes (length text)) refl (ltb room (room_for text)) refl (said text) e
  where
    go : (a : Bool) → ltb most_text_bytes (length text) ≡ a → (b : Bool) → ltb room (room_for text) ≡ b → (p : reader.Answer (List Policy))
        → choose a (λ _. Err (Unfit 1)) (λ _. choose b (λ _. Err (Unfit 2)) (λ _. found_by version text p)) ≡ Err (Unfit number)
        → ((most_text_bytes < length text) × (number ≡ 1)) ⊎ (((length text ≤ most_text_bytes) × (room < room_for text)) × (number ≡ 2))
    go true x b y p e = inl (ltb-true _ _ x, cc)
    go false x true y p e = inr ((ltb-false _ _ x, ltb-true _ _ y), cc)
    go false x false y (took ps r) e = absurd (let z : ◌≡◌ {A = ℕ} 0 1 = cc in omega arith)
    go false x false y (refuse n r) e = absurd (let z : ◌≡◌ {A = ℕ} 0 1 = cc in omega arith)

pub unfit : UnfitExactly
unfolding UnfitExactly compiled_under told_of
unfit version text room = (
  (
    λ e l. ⊎_elim (λ x. let y = x.0 in omega arith) (λ x. let y = x.1 in omega arith) (unfit_is version text room 1 (sized version text room 1 e)),
    λ h. rw (too_long version text room (omega arith)),
  ),
  (
    λ e. ⊎_elim (λ x. absurd (let y = x.1 in omega arith)) (λ x. (x.0.0, λ (l : room_for text ≤ room). let y = x.0.1 in omega arith)) (unfit_is version text room 2 (sized version text room 2 e)),
    λ h. rw (no_room version text room h.0 (omega arith)),
  ),
)

start_is : (text : List ℕ) (n : ℕ) (r : List Lexeme) → (refusal_at text n r).start ≡ token_start text r
unfolding refusal_at token_start
start_is text n [] = refl
start_is text n (x ∷ r) = refl

size_is : (text : List ℕ) (n : ℕ) (r : List Lexeme) → (refusal_at text n r).size ≡ first_length r
unfolding refusal_at first_length
size_is text n [] = refl
size_is text n (x ∷ r) = refl

number_is : (text : List ℕ) (n : ℕ) (r : List Lexeme) → (refusal_at text n r).number ≡ n
unfolding refusal_at
number_is text n [] = refl
number_is text n (x ∷ r) = refl

refused_at : (version : Version) (text : List ℕ) (p : reader.Answer (List Policy)) (number : ℕ) (at : Spot) → said text ≡ p → told_of text (found_by version text p) ≡ refused number at
    → RefusedThere text number at
unfolding told_of found_by said lowest.TokensRefusedExactly
refused_at version text (took ps r) number at q e = absurd (let z : ◌≡◌ {A = ℕ} 0 1 = cc in omega arith)
refused_at version text (refuse n r) number at q e =
    let f : Refusal = refusal_at text n r in
    let told : refusal_of f.number (spot_of text f.start f.size) ≡ refusal_of number at = cc in
    let same : number ≡ n = sym (ap (λ (r : Refused). r.number) told) ∙ number_is text n r in
    record {
      tokens = tokens_of text;
      listed = tokens_stand text;
      rest = r;
      refused = (tokens_refused_exactly (tokens_of text) r number).0 (q ∙ rw same);
      place_is =
          ap₂ (spot_of text) (sym (start_is text n r)) (sym (size_is text n r)) ∙ ap (λ (r : Refused). r.spot) told;
    }

-- what the refusal of these tokens is told as
told_there : (version : Version) (text : List ℕ) (number : ℕ) (at : Spot) → RefusedThere text number at → told_of text (found_by version text (said text)) ≡ refused number at
unfolding told_of found_by said lowest.TokensRefusedExactly
told_there version text number at t =
    rw (tokens_are text t.listed, (tokens_refused_exactly t.tokens t.rest number).1 t.refused, number_is text number t.rest, start_is text number t.rest, size_is text number t.rest, t.place_is)

pub refused_there : RefusedExactly
unfolding RefusedExactly compiled_under
refused_there version text room number at l h =
    let f = ap (told_of text) (fitting version text room l h) in
    (λ e. refused_at version text (said text) number at refl (sym f ∙ e), λ t. f ∙ told_there version text number at t)

-- a token's refusal has a number of document 01's table
number_few : {b r : List Lexeme} {n : ℕ} → lowest.AppliesAt b r n → n ≤ 17
number_few (lowest.token (lowest.no_token h)) = omega arith
number_few (lowest.token (lowest.reserved a p q)) = omega arith
number_few (lowest.token (lowest.bare a p q)) = omega arith
number_few (lowest.token (lowest.no_type a p q)) = omega arith
number_few (lowest.token (lowest.not_admitted a)) = omega arith
number_few (lowest.token (lowest.limit l h a k)) = h
number_few lowest.end = omega arith

-- under a version no refusal goes by another number than those
refusal_few : (version : Version) (text : List ℕ) (room : ℕ) → (compile_said (compiled_under version text room)).refusal ≤ 17
unfolding compiled_under found_of found_by told_of compile_said choose said lowest.TokensRefusedExactly
refusal_few version text room = go (ltb most_text_bytes (length text)) (ltb room (room_for text)) (said text) refl
  where
    go : (a b : Bool) (p : reader.Answer (List Policy)) → said text ≡ p
        → (compile_said (told_of text (choose a (λ _. Err (Unfit 1)) (λ _. choose b (λ _. Err (Unfit 2)) (λ _. found_by version text p))))).refusal ≤ 17
    go true b p q = omega arith
    go false true p q = omega arith
    go false false (took ps r) q = omega arith
    go false false (refuse n r) q = rw (number_is text n r) (number_few ((tokens_refused_exactly (tokens_of text) r n).0 q).lowest.applies)

pub other_version : OtherVersion
unfolding OtherVersion UnderItsNumber compiled_of table_after compile_said
other_version number text old room = ((named_not, λ n. ap (λ (r : Result Compiled Refused). (compile_said r).refusal) (by_none number _ _ n)), λ n. (by_none number _ _ n, by_none number _ _ n))
  where
    named_not : (compile_said (compiled_of number text room)).refusal ≡ 30 → NoVersion number
    named_not e version q =
        let f = refusal_few version text room in
        let u : compiled_of number text room ≡ compiled_under version text room = ap (λ (n : ℕ). compiled_of n text room) (sym q) ∙ (under_its_number version text old room).0 in
        let z : (compile_said (compiled_under version text room)).refusal ≡ 30 = ap (λ (r : Result Compiled Refused). (compile_said r).refusal) (sym u) ∙ e in
        omega arith

table_said : (version : Version) (text old : List ℕ) (ps : List Policy) → length text ≤ most_text_bytes → room_for text ≤ length old → said text ≡ took ps []
    → table_under version text old ≡ compiled_bytes version ps ++ drop (length (compiled_bytes version ps)) old
unfolding table_under table_by choose
table_said version text old ps l h e = rw (le-ltb _ _ l, le-ltb _ _ h, e)

bytes_said_lem : (version : Version) (text : List ℕ) (ps : List Policy) → said text ≡ took ps [] → bytes_for version text ≡ compiled_bytes version ps
unfolding bytes_said
bytes_said_lem version text ps e = rw e

pub bytes_of_policies : BytesOfPolicies
unfolding BytesOfPolicies said
bytes_of_policies version text ps b = bytes_said_lem version text ps ((says_exactly text ps).1 b)

parted : (xs old : List ℕ) (n : ℕ) → n ≡ length xs → (take n (xs ++ drop (length xs) old) ≡ xs) × (drop n (xs ++ drop (length xs) old) ≡ drop n old)
parted xs old n e = (take_at xs _ n (sym e), drop_at xs _ n (sym e) ∙ rw e)

pub text_and_version_alone : TextAndVersionAlone
unfolding TextAndVersionAlone
text_and_version_alone version text old policies bytes e =
    let k = compiles version text (length old) policies bytes e in
    let t = table_said version text old k.value k.short k.roomy k.is in
    let p = parted (compiled_bytes version k.value) old bytes k.used in
    (ap (take bytes) t ∙ p.0 ∙ sym (bytes_said_lem version text k.value k.is), ap (drop bytes) t ∙ p.1)

unchanged_under : (version : Version) (text old : List ℕ) (number : ℕ) (at : Spot) → compiled_under version text (length old) ≡ refused number at
    → table_under version text old ≡ old
unfolding compiled_under told_of
unchanged_under version text old number at e = go (found_of version text (length old)) refl e
  where
    go : (x : Result TableSize Unaccepted) → found_of version text (length old) ≡ x → told_of text x ≡ refused number at → table_under version text old ≡ old
    go (Ok s) q e = absurd (let z : ◌≡◌ {A = ℕ} 0 1 = cc in omega arith)
    go (Err u) q e = sym (same_table version text old (sym q))

pub nothing_changed : NothingChanged
unfolding NothingChanged UnderItsNumber OtherVersion
nothing_changed number text old refusal at e = go number (named number) e
  where
    go : (number : ℕ) → Named number → compiled_of number text (length old) ≡ refused refusal at → table_after number text old ≡ old
    go number (a_version version) e =
        let u = under_its_number version text old (length old) in u.1 ∙ unchanged_under version text old refusal at (sym u.0 ∙ e)
    go number (no_version n) e = ((other_version number text old 0).1 n).1

-- a rule text has no more entries than bytes
entries_few : (version : Version) (text : List ℕ) (ps : List Policy) → said text ≡ took ps [] → length (policies_entries version 0 ps) ≤ length text
unfolding said
entries_few version text ps e = entries_below version text ps e

pub enough_room : EnoughRoom
unfolding EnoughRoom
enough_room version text room policies bytes e =
    let k = compiles version text room policies bytes e in
    let x = entries_few version text k.value k.is in let y = length_compiled version k.value in let z = k.used in omega arith

no_entries : (version : Version) (ps : List Policy) → 0 ≡ length ps → length (compiled_bytes version ps) ≡ 0
unfolding compiled_bytes policies_entries bytes_of
no_entries version [] e = refl
no_entries version (p ∷ ps) e = absurd (omega arith)

pub no_policies_no_bytes : NoPoliciesNoBytes
unfolding NoPoliciesNoBytes
no_policies_no_bytes version text room bytes e = let k = compiles version text room 0 bytes e in k.used ∙ no_entries version k.value k.many

pub one_compiled : OneCompiled
unfolding OneCompiled
one_compiled number text old new new' r r' c d = (c.answered ∙ sym d.answered, c.table ∙ sym d.table)

-- ---- the recorded version

pub as_many_bytes : AsManyBytes
unfolding AsManyBytes
as_many_bytes version version' ps = length_compiled version ps ∙ ap (λ (n : ℕ). entry_size * n) (as_many version version' 0 ps) ∙ sym (length_compiled version' ps)

pub version_recorded : VersionRecorded
unfolding VersionRecorded compiled_bytes
version_recorded version table p ps b =
    let es = policies_entries version 0 (p ∷ ps) in
    held_records version table p ps (held_starts table 0 es ∙ (starts_decides (bytes_of es) table).complete b)

pub compiled_records : CompiledRecords
unfolding CompiledRecords VersionRecorded
compiled_records version text old policies bytes e some =
    let k = compiles version text (length old) policies bytes e in
    go k.value (λ z. some (k.many ∙ z)) (table_said version text old k.value k.short k.roomy k.is)
  where
    go : (ps : List Policy) → (length ps ≡ 0 → ⊥) → table_under version text old ≡ compiled_bytes version ps ++ drop (length (compiled_bytes version ps)) old
        → recorded (table_under version text old) ≡ version
    go [] n t = absurd (n refl)
    go (p ∷ ps) n t = version_recorded version (table_under version text old) p ps (record { rest = drop (length (compiled_bytes version (p ∷ ps))) old; is = t })

pub no_policies_no_version : NoPoliciesNoVersion
unfolding NoPoliciesNoVersion compiled_bytes policies_entries bytes_of
no_policies_no_version version = refl

-- a table that begins with the bytes of policies under some version does so under the one that it records
starts_recorded : (version : Version) (table : List ℕ) (ps : List Policy) → Begins (compiled_bytes version ps) table
    → starts_with (compiled_bytes (recorded table) ps) table ≡ true
unfolding NoPoliciesNoVersion VersionRecorded
starts_recorded version table [] b = (starts_decides _ table).complete (rw (no_policies_no_version (recorded table), ← no_policies_no_version version) b)
starts_recorded version table (p ∷ ps) b = rw (version_recorded version table p ps b) ((starts_decides _ table).complete b)

-- ---- a table that begins right

pub compiled_begins : CompiledBegins
unfolding CompiledBegins begins_of begins_by choose
compiled_begins version text old policies bytes e =
    let k = compiles version text (length old) policies bytes e in
    rw (table_said version text old k.value k.short k.roomy k.is, le-ltb _ _ k.short, k.is)
    (starts_recorded version _ k.value (record { rest = drop (length (compiled_bytes version k.value)) old; is = refl }))

begun_said : (text table : List ℕ) → begins_of text table ≡ true → Begun text table
unfolding begins_of begins_by choose said
begun_said text table e = go (ltb most_text_bytes (length text)) refl (said text) refl e
  where
    go : (a : Bool) → ltb most_text_bytes (length text) ≡ a → (p : reader.Answer (List Policy)) → said text ≡ p → choose a (λ _. false) (λ _. begins_by table p) ≡ true → Begun text table
    go true x p q e = absurd (let z : ◌≡◌ {A = ℕ} 0 1 = cc in omega arith)
    go false x (took ps r) q e =
        let n = nothing_left text ps r q in
        record {
          short = ltb-false _ _ x;
          value = ps;
          belongs = (says_exactly text ps).0 (q ∙ rw n);
          version = recorded table;
          begins = (starts_decides (compiled_bytes (recorded table) ps) table).sound e;
        }
    go false x (refuse n r) q e = absurd (let z : ◌≡◌ {A = ℕ} 0 1 = cc in omega arith)

pub begins_exactly : BeginsExactly
unfolding BeginsExactly begins_of begins_by choose said
begins_exactly text table = (
  begun_said text table,
  λ b. rw (le-ltb _ _ b.short, (says_exactly text b.value).1 b.belongs) (starts_recorded b.version table b.value b.begins),
)

held_starting : (version : Version) (table : List ℕ) (ps : List Policy) → starts_with (compiled_bytes version ps) table ≡ true → held table 0 (policies_entries version 0 ps) ≡ true
unfolding compiled_bytes
held_starting version table ps e = held_starts table 0 (policies_entries version 0 ps) ∙ e

pub held_rightly : HeldRightly
unfolding HeldRightly held_of held_by choose said
held_rightly text table policies entries e = go (ltb most_text_bytes (length text)) refl (said text) refl e
  where
    at_bytes : (ps : List Policy) (r : List Lexeme) → ltb most_text_bytes (length text) ≡ false → said text ≡ took ps r → (b : Bool) → starts_with (compiled_bytes (recorded table) ps) table ≡ b
        → choose b (λ _. Some (table_size (length ps) (length (policies_entries (recorded table) 0 ps)))) (λ _. None) ≡ Some (table_size policies entries) → TableHolds text table policies entries
    at_bytes ps r x q true z e =
        let n = nothing_left text ps r q in
        let all : said text ≡ took ps [] = q ∙ rw n in
        let same : table_size (length ps) (length (policies_entries (recorded table) 0 ps)) ≡ table_size policies entries = cc in
        let count : entries ≡ length (policies_entries (recorded table) 0 ps) = sym (ap (λ (t : TableSize). t.entries) same) in
        let few = entries_few (recorded table) text ps all in
        record {
          short = ltb-false _ _ x;
          value = ps;
          is = all;
          belongs = (says_exactly text ps).0 all;
          many = sym (ap (λ (t : TableSize). t.policies) same);
          count = count;
          few = omega arith;
          held_all = held_starting (recorded table) table ps z;
        }
    at_bytes ps r x q false z e = absurd (let z : ◌≡◌ {A = ℕ} 0 1 = cc in omega arith)

    go : (a : Bool) → ltb most_text_bytes (length text) ≡ a → (p : reader.Answer (List Policy)) → said text ≡ p → choose a (λ _. None) (λ _. held_by table p) ≡ Some (table_size policies entries)
        → TableHolds text table policies entries
    go true x p q e = absurd (let z : ◌≡◌ {A = ℕ} 0 1 = cc in omega arith)
    go false x (took ps r) q e = at_bytes ps r x q (starts_with (compiled_bytes (recorded table) ps) table) refl e
    go false x (refuse n r) q e = absurd (let z : ◌≡◌ {A = ℕ} 0 1 = cc in omega arith)

pub zeros_elsewhere : ZerosElsewhere
unfolding ZerosElsewhere compile_said
zeros_elsewhere (Ok c) h = absurd (h refl)
zeros_elsewhere (Err f) h = (refl, refl)
