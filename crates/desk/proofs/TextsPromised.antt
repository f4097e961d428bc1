-- What the desk promises of rule texts: when a text is accepted, what it gets, and which refusal it gets otherwise. Assumes nothing.
use mathlib.Core.Path.{◌≡◌, refl, sym, ap, ap₂, ◌∙◌, subst}
use mathlib.Core.Logic.{◌⊎◌, inl, inr, ⊎_elim, ◌↔◌}
use mathlib.Core.Bool.{Bool, true, false}
use mathlib.Core.List.{List, [], ◌∷◌, ◌++◌, append-nil}
use Prim.Native.Nat.{ℕ, ◌≤◌, ◌<◌, zero-le}
use native.Mathlib.Omega.{arith}
use borrow.Author.Tests.{eqb-true, eqb-false, ltb-true, ltb-false, le-ltb}
use lib.Dec.{eqb, ltb}
use lib.ListN.{length, take, drop}
use lib.Seq.{take_at}
use Rattle.tokens.specs.Sizes.{most_text_bytes}
use Rattle.reading.specs.Lexemes.{choose, tokens_of}
use Rattle.reading.specs.Reader.{took}
use Rattle.grammar.specs.Policies.{Policy}
use Rattle.grammar.specs.Parser.{read_text}
use Rattle.grammar.specs.Versions.{version_number}
use Rattle.grammar.specs.declared.Version.{Version}
use Rattle.grammar.specs.declared.Version.TheVariants.{First, Second}
use Rattle.slices.specs.Parts.{Begins}
use Rattle.table.specs.Recorded.{recorded}
use Rattle.grammar.proofs.Exactly.{says_exactly, says_once}
use Rattle.placing.proofs.Theorems.{policies_placed}
use Rattle.compiling.specs.Outcome.{spot, nowhere, room_for, compiled_bytes, said, compiled_under, compiled_of, compile_said, table_by, table_under, table_after}
use Rattle.compiling_promise.specs.Promise.{UnderItsNumber, NoVersion, OtherVersion, VersionRecorded, AcceptedExactly, UnfitExactly, RefusedThere, RefusedExactly, NothingChanged, ZerosElsewhere, CompiledBegins, BeginsExactly, EnoughRoom, NoPoliciesNoBytes}
use Rattle.compiling.specs.declared.Spot.{Spot}
use Rattle.compiling.specs.declared.Compiled.{Compiled}
use Rattle.compiling.specs.declared.Refused.{Refused}
use Rattle.compiling.specs.Outcome as compiling
use Rattle.std.specs.Prelude.{Result, Ok, Err}
use Rattle.compiling_promise.proofs.Promised as compiling_proofs
use Rattle.compiling_promise.proofs.Promised.{under_its_number, other_version, version_recorded, accepted, unfit, refused_there, nothing_changed, zeros_elsewhere}
use Rattle.desk.specs.Answers.{compiled_as, spot_said, compile_says, compile_leaves, says_under, leaves_under, begins_says}
use Rattle.desk.specs.Promises.{Says, Belongs}
use Rattle.desk.proofs.RefusalNumbers.{token_number}

-- a text says one list of policies
pub one_reading : (text : List ℕ) (ps qs : List Policy) → Says text ps → Says text qs → ps ≡ qs
one_reading text ps qs a b = says_once text ps qs a.belongs b.belongs

-- it is read as these
pub read_as : (text : List ℕ) (ps : List Policy) → Says text ps → read_text (tokens_of text) ≡ took ps []
read_as text ps s = (says_exactly text ps).1 s.belongs

-- a table that begins right under a version records it, where there are policies
pub one_version : (version : Version) (table : List ℕ) (ps : List Policy) → (ps ≡ [] → ⊥) → Begins (compiled_bytes version ps) table → recorded table ≡ version
unfolding VersionRecorded
one_version version table [] some b = absurd (some refl)
one_version version table (p ∷ ps) some b = version_recorded version table p ps b

module _ (version : Version) (text table : List ℕ) where
  -- what compiling answers under the version's number is what it answers under the version
  abbrev answer : Result Compiled Refused
  answer = compiled_of (version_number version) text (length table)

  answer_is : answer ≡ compiled_under version text (length table)
  unfolding UnderItsNumber
  answer_is = (under_its_number version text table (length table)).0

  after_is : leaves_under version text table ≡ table_under version text table
  unfolding UnderItsNumber
  after_is = (under_its_number version text table (length table)).1

  -- what compiling answers, and why
  data Told (c : Result Compiled Refused) : Type 0 where
    told_accepted : (ps : List Policy) → Says text ps → room_for text ≤ length table → c ≡ compiling.compiled_to (length ps) (length (compiled_bytes version ps)) → Told c
    told_long : most_text_bytes < length text → c ≡ compiling.refused 1 nowhere → Told c
    told_no_room : length text ≤ most_text_bytes → length table < room_for text → c ≡ compiling.refused 2 nowhere → Told c
    told_broken : (number : ℕ) (at : Spot) → length text ≤ most_text_bytes → room_for text ≤ length table → RefusedThere text number at → c ≡ compiling.refused number at → Told c

  by_tokens : length text ≤ most_text_bytes → room_for text ≤ length table → (c : Result Compiled Refused) → answer ≡ c → Told c
  unfolding AcceptedExactly RefusedExactly
  by_tokens l h (Ok a) e =
      let b = (accepted version text (length table) a.policies a.bytes l h).0 (sym answer_is ∙ e) in
      told_accepted b.value (record { short = l; belongs = b.belongs }) h (ap₂ compiling.compiled_to b.many b.used)
  by_tokens l h (Err r) e = told_broken r.number r.spot l h ((refused_there version text (length table) r.number r.spot l h).0 (sym answer_is ∙ e)) refl

  long_answer : most_text_bytes < length text → answer ≡ compiling.refused 1 nowhere
  unfolding UnfitExactly
  long_answer h = answer_is ∙ (unfit version text (length table)).0.1 (λ l. omega arith)

  no_room_answer : length text ≤ most_text_bytes → length table < room_for text → answer ≡ compiling.refused 2 nowhere
  unfolding UnfitExactly
  no_room_answer l h = answer_is ∙ (unfit version text (length table)).1.1 (l, λ m. omega arith)

  told : Told answer
  told = go (ltb most_text_bytes (length text)) refl (ltb (length table) (room_for text)) refl
    where
      go : (a : Bool) → ltb most_text_bytes (length text) ≡ a → (b : Bool) → ltb (length table) (room_for text) ≡ b → Told answer
      go true x b y = told_long (ltb-true _ _ x) (long_answer (ltb-true _ _ x))
      go false x true y = told_no_room (ltb-false _ _ x) (ltb-true _ _ y) (no_room_answer (ltb-false _ _ x) (ltb-true _ _ y))
      go false x false y = by_tokens (ltb-false _ _ x) (ltb-false _ _ y) (answer) refl

  -- ---- demand 1

  number_few : {c : Result Compiled Refused} → Told c → (compile_said c).refusal ≤ 17
  unfolding compile_said
  number_few (told_accepted ps s h e) = rw e (omega arith)
  number_few (told_long l e) = rw e (omega arith)
  number_few (told_no_room l h e) = rw e (omega arith)
  number_few (told_broken number at l h r e) = rw e (token_number r).1

  few_under : (says_under version text table).refusal ≤ 17
  unfolding compile_says
  few_under = number_few told

  its_place : {c : Result Compiled Refused} → Told c → 2 < (compile_said c).refusal → RefusedThere text (compile_said c).refusal (spot_said (compiled_as (compile_said c)))
  unfolding compile_said
  its_place (told_accepted ps s h e) = rw e (λ n. absurd (omega arith))
  its_place (told_long l e) = rw e (λ n. absurd (omega arith))
  its_place (told_no_room l h e) = rw e (λ n. absurd (omega arith))
  its_place (told_broken number at l h r e) = rw e (λ n. r)

  placed_under : 2 < (says_under version text table).refusal → RefusedThere text (says_under version text table).refusal (spot_said (says_under version text table))
  unfolding compile_says
  placed_under = its_place told

  without_place : {c : Result Compiled Refused} → Told c → (compile_said c).refusal ≤ 2 → spot_said (compiled_as (compile_said c)) ≡ nowhere
  unfolding compile_said
  without_place (told_accepted ps s h e) = rw e (λ n. refl)
  without_place (told_long l e) = rw e (λ n. refl)
  without_place (told_no_room l h e) = rw e (λ n. refl)
  without_place (told_broken number at l h r e) = rw e (λ n. absurd (let k = (token_number r).0 in omega arith))

  no_place_under : (says_under version text table).refusal ≤ 2 → spot_said (says_under version text table) ≡ nowhere
  unfolding compile_says
  no_place_under = without_place told

  -- ---- demand 2

  accepted_says : {c : Result Compiled Refused} → Told c → (compile_said c).refusal ≡ 0 → Belongs text
  unfolding compile_said
  accepted_says (told_accepted ps s h e) = rw e (λ n. record { policies = ps; says = s })
  accepted_says (told_long l e) = rw e (λ n. absurd (omega arith))
  accepted_says (told_no_room l h e) = rw e (λ n. absurd (omega arith))
  accepted_says (told_broken number at l h r e) = rw e (λ n. absurd (let k = (token_number r).0 in omega arith))

  says_accepted : (ps : List Policy) → Says text ps → room_for text ≤ length table → answer ≡ compiling.compiled_to (length ps) (length (compiled_bytes version ps))
  unfolding AcceptedExactly
  says_accepted ps s h =
      answer_is ∙ (accepted version text (length table) (length ps) (length (compiled_bytes version ps)) s.short h).1 (record { value = ps; belongs = s.belongs; many = refl; used = refl })

  pub accepted_exactly : room_for text ≤ length table → ((says_under version text table).refusal ≡ 0) ↔ Belongs text
  unfolding compile_says compile_said
  accepted_exactly h = (accepted_says told, λ b. rw (says_accepted b.policies b.says h))

  roomy : {c : Result Compiled Refused} → Told c → (compile_said c).refusal ≡ 0 → room_for text ≤ length table
  unfolding compile_said
  roomy (told_accepted ps s h e) = λ n. h
  roomy (told_long l e) = rw e (λ n. absurd (omega arith))
  roomy (told_no_room l h e) = rw e (λ n. absurd (omega arith))
  roomy (told_broken number at l h r e) = λ n. h

  pub compiled : (ps : List Policy) → (says_under version text table).refusal ≡ 0 → Says text ps
      → ((says_under version text table).policies ≡ length ps)
      × ((says_under version text table).bytes ≡ length (compiled_bytes version ps))
      × (leaves_under version text table ≡ compiled_bytes version ps ++ drop (length (compiled_bytes version ps)) table)
  unfolding compile_says compile_said table_under table_by choose said
  compiled ps n s =
      let h = roomy told n in
      let e = says_accepted ps s h in
      (rw e, rw e, after_is ∙ rw (le-ltb _ _ s.short, le-ltb _ _ h, read_as text ps s))

  begins_under : (says_under version text table).refusal ≡ 0 → begins_says text (leaves_under version text table) ≡ true
  unfolding compile_says CompiledBegins
  begins_under n =
      let b = accepted_says told n in
      rw after_is (compiling_proofs.compiled_begins version text table _ _ (sym answer_is ∙ says_accepted b.policies b.says (roomy told n)))

  used_under : (says_under version text table).refusal ≡ 0 → begins_says text (take (says_under version text table).bytes (leaves_under version text table)) ≡ true
  unfolding compile_says BeginsExactly
  used_under n =
      let b = accepted_says told n in
      let c = compiled b.policies n b.says in
      let used = compiled_bytes version b.policies in
      rw (c.1, c.2, take_at used (drop (length used) table) (length used) refl)
      ((compiling_proofs.begins_exactly text used).1
      (record { short = b.says.short; value = b.policies; belongs = b.says.belongs; version = version; begins = record { rest = []; is = sym (append-nil used) } }))

  enough_under : (says_under version text table).bytes ≤ room_for text
  unfolding compile_says compile_said EnoughRoom
  enough_under = go answer refl
    where
      go : (c : Result Compiled Refused) → answer ≡ c → (compile_said c).bytes ≤ room_for text
      go (Ok a) e = compiling_proofs.enough_room version text (length table) a.policies a.bytes (sym answer_is ∙ e)
      go (Err r) e = zero-le

  no_bytes_under : (says_under version text table).policies ≡ 0 → (says_under version text table).bytes ≡ 0
  unfolding compile_says compile_said NoPoliciesNoBytes
  no_bytes_under = go answer refl
    where
      go : (c : Result Compiled Refused) → answer ≡ c → (compile_said c).policies ≡ 0 → (compile_said c).bytes ≡ 0
      go (Ok a) e n = compiling_proofs.no_policies_no_bytes version text (length table) a.bytes (sym answer_is ∙ e ∙ ap (λ (p : ℕ). compiling.compiled_to p a.bytes) n)
      go (Err r) e n = refl

  many_few : {c : Result Compiled Refused} → Told c → (compile_said c).policies ≤ 64
  unfolding compile_said
  many_few (told_accepted ps s h e) = rw e (policies_placed text ps (read_as text ps s)).few
  many_few (told_long l e) = rw e zero-le
  many_few (told_no_room l h e) = rw e zero-le
  many_few (told_broken number at l h r e) = rw e zero-le

  policies_under : (says_under version text table).policies ≤ 64
  unfolding compile_says
  policies_under = many_few told

  -- ---- the refusals by size, and the zeros

  long_then : {c : Result Compiled Refused} → Told c → (compile_said c).refusal ≡ 1 → most_text_bytes < length text
  unfolding compile_said
  long_then (told_accepted ps s h e) = rw e (λ n. absurd (omega arith))
  long_then (told_long l e) = λ n. l
  long_then (told_no_room l h e) = rw e (λ n. absurd (omega arith))
  long_then (told_broken number at l h r e) = rw e (λ n. absurd (let k = (token_number r).0 in omega arith))

  pub too_long : ((says_under version text table).refusal ≡ 1) ↔ (most_text_bytes < length text)
  unfolding compile_says compile_said
  too_long = (long_then told, λ h. rw (long_answer h))

  no_room_then : {c : Result Compiled Refused} → Told c → (compile_said c).refusal ≡ 2 → (length text ≤ most_text_bytes) × (length table < room_for text)
  unfolding compile_said
  no_room_then (told_accepted ps s h e) = rw e (λ n. absurd (omega arith))
  no_room_then (told_long l e) = rw e (λ n. absurd (omega arith))
  no_room_then (told_no_room l h e) = λ n. (l, h)
  no_room_then (told_broken number at l h r e) = rw e (λ n. absurd (let k = (token_number r).0 in omega arith))

  pub no_room : ((says_under version text table).refusal ≡ 2) ↔ ((length text ≤ most_text_bytes) × (length table < room_for text))
  unfolding compile_says compile_said
  no_room = (no_room_then told, λ h. rw (no_room_answer h.0 h.1))

  -- ---- the refusals by token

  refused_as : {number line column size : ℕ} → answer ≡ compiling.refused number (spot line column size)
      → says_under version text table ≡ record { refusal = number; line = line; column = column; length = size; policies = 0; bytes = 0 }
  unfolding compile_says compile_said
  refused_as e = rw e

  pub token_exactly : (number line column size : ℕ) → length text ≤ most_text_bytes → room_for text ≤ length table → 2 < number
      → (says_under version text table ≡ record { refusal = number; line = line; column = column; length = size; policies = 0; bytes = 0 })
      ↔ RefusedThere text number (spot line column size)
  unfolding RefusedExactly
  token_exactly number line column size l h m =
      (λ e. rw e at (placed_under) m, λ r. refused_as (answer_is ∙ (refused_there version text (length table) number (spot line column size) l h).1 r))

  -- ---- the recorded version

  -- a table into which some policies were compiled records the version
  pub records : (says_under version text table).refusal ≡ 0 → ((says_under version text table).policies ≡ 0 → ⊥) → recorded (leaves_under version text table) ≡ version
  unfolding compile_says
  records n some =
      let b = accepted_says told n in
      let c = compiled b.policies n b.says in
      one_version version (leaves_under version text table) b.policies (λ e. some (c.0 ∙ ap length e))
      (record { rest = drop (length (compiled_bytes version b.policies)) table; is = c.2 })

-- ---- under any number

-- a number names a version, or none
no_version : (number : ℕ) → (number ≡ 1 → ⊥) → (number ≡ 2 → ⊥) → NoVersion number
unfolding version_number
no_version number f g First e = f (sym e)
no_version number f g Second e = g (sym e)

named : (number : ℕ) → ((version : Version) × (version_number version ≡ number)) ⊎ NoVersion number
unfolding version_number
named number = go (eqb number 1) refl (eqb number 2) refl
  where
    go : (a : Bool) → eqb number 1 ≡ a → (b : Bool) → eqb number 2 ≡ b → ((version : Version) × (version_number version ≡ number)) ⊎ NoVersion number
    go true e b f = inl (First, sym (eqb-true number 1 e))
    go false e true f = inl (Second, sym (eqb-true number 2 f))
    go false e false f = inr (no_version number (eqb-false number 1 e) (eqb-false number 2 f))

module _ (number : ℕ) (text table : List ℕ) where
  -- what is so under each version, and where no version is named
  by_version : (P : ℕ → Type 0) → ((version : Version) → P (version_number version)) → (NoVersion number → P number) → P number
  by_version P f g = ⊎_elim (λ (w : (version : Version) × (version_number version ≡ number)). subst P w.1 (f w.0)) g (named number)

  -- where none is, the answer is 30 with no place
  none_named : NoVersion number → compile_says number text table ≡ record { refusal = 30; line = 0; column = 0; length = 0; policies = 0; bytes = 0 }
  unfolding compile_says compile_said OtherVersion
  none_named n = rw ((other_version number text table (length table)).1 n).0

  pub other_versions : ((compile_says number text table).refusal ≡ 30) ↔ NoVersion number
  unfolding compile_says OtherVersion
  other_versions = (other_version number text table (length table)).0

  -- ---- demand 1

  pub compile_refusals : ((compile_says number text table).refusal ≤ 17) ⊎ ((compile_says number text table).refusal ≡ 30)
  compile_refusals =
      by_version (λ n. ((compile_says n text table).refusal ≤ 17) ⊎ ((compile_says n text table).refusal ≡ 30))
      (λ version. inl (few_under version text table)) (λ n. inr (rw (none_named n)))

  pub placed : 2 < (compile_says number text table).refusal → (compile_says number text table).refusal ≤ 17
      → RefusedThere text (compile_says number text table).refusal (spot_said (compile_says number text table))
  placed =
      by_version (λ n. 2 < (compile_says n text table).refusal → (compile_says n text table).refusal ≤ 17 → RefusedThere text (compile_says n text table).refusal (spot_said (compile_says n text table)))
      (λ version low high. placed_under version text table low) (λ n. rw (none_named n) (λ low high. absurd (omega arith)))

  pub no_place : ((compile_says number text table).refusal ≤ 2) ⊎ ((compile_says number text table).refusal ≡ 30) → spot_said (compile_says number text table) ≡ nowhere
  no_place =
      by_version (λ n. ((compile_says n text table).refusal ≤ 2) ⊎ ((compile_says n text table).refusal ≡ 30) → spot_said (compile_says n text table) ≡ nowhere)
      (λ version h. no_place_under version text table
      (⊎_elim (λ l. l) (λ (e : (says_under version text table).refusal ≡ 30). absurd (let l = few_under version text table in omega arith)) h))
      (λ n. rw (none_named n) (λ h. refl))

  pub table_stays : ((compile_says number text table).refusal ≡ 0 → ⊥) → compile_leaves number text table ≡ table
  unfolding compile_says compile_said NothingChanged
  table_stays = go (compiled_of number text (length table)) refl
    where
      go : (c : Result Compiled Refused) → compiled_of number text (length table) ≡ c → ((compile_said c).refusal ≡ 0 → ⊥) → table_after number text table ≡ table
      go (Ok a) e n = absurd (n refl)
      go (Err r) e n = nothing_changed number text table r.number r.spot e

  -- ---- demand 2

  pub compiled_begins : (compile_says number text table).refusal ≡ 0 → begins_says text (compile_leaves number text table) ≡ true
  compiled_begins =
      by_version (λ n. (compile_says n text table).refusal ≡ 0 → begins_says text (compile_leaves n text table) ≡ true)
      (λ version. begins_under version text table) (λ n. rw (none_named n) (λ e. absurd (omega arith)))

  pub used_begins : (compile_says number text table).refusal ≡ 0 → begins_says text (take (compile_says number text table).bytes (compile_leaves number text table)) ≡ true
  used_begins =
      by_version (λ n. (compile_says n text table).refusal ≡ 0 → begins_says text (take (compile_says n text table).bytes (compile_leaves n text table)) ≡ true)
      (λ version. used_under version text table) (λ n. rw (none_named n) (λ e. absurd (omega arith)))

  pub enough_room : (compile_says number text table).bytes ≤ room_for text
  enough_room = by_version (λ n. (compile_says n text table).bytes ≤ room_for text) (λ version. enough_under version text table) (λ n. rw (none_named n) zero-le)

  pub no_policies_no_bytes : (compile_says number text table).policies ≡ 0 → (compile_says number text table).bytes ≡ 0
  no_policies_no_bytes =
      by_version (λ n. (compile_says n text table).policies ≡ 0 → (compile_says n text table).bytes ≡ 0)
      (λ version. no_bytes_under version text table) (λ n. rw (none_named n) (λ e. refl))

  pub policies_few : (compile_says number text table).policies ≤ 64
  policies_few = by_version (λ n. (compile_says n text table).policies ≤ 64) (λ version. policies_under version text table) (λ n. rw (none_named n) zero-le)

  pub compile_zeros : ((compile_says number text table).refusal ≡ 0 → ⊥) → ((compile_says number text table).policies ≡ 0) × ((compile_says number text table).bytes ≡ 0)
  unfolding compile_says ZerosElsewhere
  compile_zeros = zeros_elsewhere (compiled_of number text (length table))
