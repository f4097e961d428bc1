-- What compiling answers, by what the readers do. Assumes nothing.
use Rattle.std.specs.Prelude.{Some, None, Result, Ok, Err}
use Rattle.std.specs.Option.{is_some}
use mathlib.Core.Path.{◌≡◌, refl, ◌∙◌, sym, ap, subst}
use mathlib.Core.Bool.{Bool, true, false}
use mathlib.Core.List.{List, [], ◌∷◌, ◌++◌}
use Prim.Native.Nat.{ℕ, zero, suc, ◌≤◌, ◌<◌}
use native.Mathlib.Omega.{arith}
use lib.Dec.{eqb, ltb}
use lib.ListN.{length}
use borrow.Author.Tests.{le-ltb, lt-ltb, ltb-false}
use Rattle.tokens.specs.Tokens.{token_at}
use Rattle.tokens.proofs.ReadLaws.{reads}
use Rattle.tokens.specs.Sizes.{most_text_bytes}
use Rattle.reading.specs.Lexemes.{Lexeme, lexeme, choose, tokens_after, tokens_up_to, tokens_from, tokens_of}
use Rattle.reading.specs.Reader as reader
use Rattle.reading.specs.Reader.{took, refuse}
use Rattle.grammar.specs.Policies.{Policy}
use Rattle.grammar.specs.declared.Version.{Version}
use Rattle.grammar.specs.Promise.{RefusedRightly}
use Rattle.grammar.proofs.Theorems.{refused_rightly}
use Rattle.table.specs.Entries.{policies_entries}
use Rattle.table.specs.Layout.{starts_with}
use Rattle.table.specs.Recorded.{recorded}
use Rattle.table.proofs.Holding.{length_bytes_of, held_starts, puts_front}
use Rattle.parts.specs.Answers.{TurnedAway, refusal_at}
use Rattle.parts.specs.declared.answers.Refusal.{Refusal}
use Rattle.policies.specs.Whole.{Complete, Told, complete, lost}
use Rattle.compiling.specs.Outcome.{table_size, room_for, said, compiled_bytes, found_by, found_of, table_by, table_under, held_by, held_of, begins_by, begins_of}
use Rattle.policies.specs.declared.Whole.{Whole}
use Rattle.compiling.specs.declared.TableSize.{TableSize}
use Rattle.compiling.specs.declared.Unaccepted.{Unaccepted}
use Rattle.compiling.specs.declared.Unaccepted.TheVariants.{Unfit, Turned}

-- ---- what is told of a whole text

module _ {version : Version} {text seen old new : List ℕ} {p : reader.Answer (List Policy)} {r : Result Whole Refusal} where
  pub as_complete : {w : Whole} → r ≡ Ok w → Told version text seen old new p r → Complete version text seen old new p w.policies w.entries w.same
  as_complete e t = go (subst (Told version text seen old new p) e t)
    where
      go : {w : Whole} → Told version text seen old new p (Ok w) → Complete version text seen old new p w.policies w.entries w.same
      go (complete k) = k

  pub as_lost : {f : Refusal} → r ≡ Err f → Told version text seen old new p r → TurnedAway text p f
  as_lost e t = go (subst (Told version text seen old new p) e t)
    where
      go : {f : Refusal} → Told version text seen old new p (Err f) → TurnedAway text p f
      go (lost h) = h

-- ---- what is found

module _ (version : Version) (text : List ℕ) (room : ℕ) where
  pub too_long : most_text_bytes < length text → found_of version text room ≡ Err (Unfit 1)
  unfolding found_of choose
  too_long h = rw (lt-ltb _ _ h)

  pub no_room : length text ≤ most_text_bytes → room < room_for text → found_of version text room ≡ Err (Unfit 2)
  unfolding found_of choose
  no_room l h = rw (le-ltb _ _ l, lt-ltb _ _ h)

  pub fitting : length text ≤ most_text_bytes → room_for text ≤ room → found_of version text room ≡ found_by version text (said text)
  unfolding found_of choose
  fitting l h = rw (le-ltb _ _ l, le-ltb _ _ h)

pub turned_found : (version : Version) {text : List ℕ} {p : reader.Answer (List Policy)} {f : Refusal} → TurnedAway text p f → Err (Turned f) ≡ found_by version text p
unfolding found_by
turned_found version h = rw h.is (ap (λ (f : Refusal). Err (Turned f)) h.told)

pub complete_found : {version : Version} {text seen old new : List ℕ} {p : reader.Answer (List Policy)} {policies free : ℕ} {ok : Bool} → Complete version text seen old new p policies free ok → Ok (table_size policies free) ≡ found_by version text p
unfolding found_by
complete_found {version} {policies = policies} {free} k =
    let z : free ≡ length (policies_entries version 0 k.value) = (let y = k.counted.free_is in omega arith) in
    rw (k.is, k.many, ← z)

pub clash : {x : Unaccepted} {size : TableSize} → ◌≡◌ {A = Result TableSize Unaccepted} (Err x) (Ok size) → ⊥
clash e = let z : ◌≡◌ {A = ℕ} 0 1 = cc in omega arith

-- what an accepted text tells
pub record Accepts (version : Version) (text : List ℕ) (room policies entries : ℕ) : Type 0 where
  pub short : length text ≤ most_text_bytes
  pub roomy : room_for text ≤ room
  pub value : List Policy
  pub rest : List Lexeme
  pub is : said text ≡ took value rest
  pub many : policies ≡ length value
  pub count : entries ≡ length (policies_entries version 0 value)

pub accepts : (version : Version) (text : List ℕ) (room policies entries : ℕ) → Ok (table_size policies entries) ≡ found_of version text room → Accepts version text room policies entries
unfolding found_of found_by choose
accepts version text room policies entries e = go (ltb most_text_bytes (length text)) refl (ltb room (room_for text)) refl (said text) refl e
  where
    go : (a : Bool) → ltb most_text_bytes (length text) ≡ a → (b : Bool) → ltb room (room_for text) ≡ b → (p : reader.Answer (List Policy)) → said text ≡ p
        → Ok (table_size policies entries) ≡ choose a (λ _. Err (Unfit 1)) (λ _. choose b (λ _. Err (Unfit 2)) (λ _. found_by version text p)) → Accepts version text room policies entries
    go true x b y p z e = absurd (clash (sym e))
    go false x true y p z e = absurd (clash (sym e))
    go false x false y (took ps r) z e =
        let same : table_size policies entries ≡ table_size (length ps) (length (policies_entries version 0 ps)) = cc in
        record {
          short = ltb-false _ _ x;
          roomy = ltb-false _ _ y;
          value = ps;
          rest = r;
          is = z;
          many = ap (λ (t : TableSize). t.policies) same;
          count = ap (λ (t : TableSize). t.entries) same;
        }
    go false x false y (refuse n r) z e = absurd (clash (sym e))

-- ---- a refused token lies in the text

module _ (text : List ℕ) where
  lies_within : (n at : ℕ) → at ≤ length text → (before : List Lexeme) (x : Lexeme) (s : List Lexeme) → tokens_up_to n text at ≡ before ++ x ∷ s → x.start ≤ length text
  unfolding tokens_up_to tokens_after choose
  lies_within zero at h [] x s e = absurd (let z : ◌≡◌ {A = ℕ} 0 1 = cc in omega arith)
  lies_within zero at h (y ∷ before) x s e = absurd (let z : ◌≡◌ {A = ℕ} 0 1 = cc in omega arith)
  lies_within (suc n) at h before x s e =
      go (eqb (token_at text at).kind 0) before (λ b r. lies_within n (token_at text at).end (reads text at h).high b x s r) e
    where
      go : (o : Bool) (before : List Lexeme) → ((b : List Lexeme) → tokens_up_to n text (token_at text at).end ≡ b ++ x ∷ s → x.start ≤ length text)
          → choose o (λ _. []) (λ _. lexeme text (token_at text at) ∷ tokens_up_to n text (token_at text at).end) ≡ before ++ x ∷ s → x.start ≤ length text
      go true [] f e = absurd (let z : ◌≡◌ {A = ℕ} 0 1 = cc in omega arith)
      go true (y ∷ before) f e = absurd (let z : ◌≡◌ {A = ℕ} 0 1 = cc in omega arith)
      go false [] f e =
          let same : lexeme text (token_at text at) ≡ x = cc in
          let l = reads text at h in let o = l.order in let g = l.high in
          rw (← same) (omega arith)
      go false (y ∷ before) f e = f before (cc)

  token_inside : (n : ℕ) (r : List Lexeme) → said text ≡ refuse n r → (refusal_at text n r).start ≤ length text
  unfolding said refusal_at RefusedRightly tokens_from
  token_inside n [] q = omega arith
  token_inside n (x ∷ s) q = let w = refused_rightly (tokens_of text) (x ∷ s) n q in lies_within (suc (length text)) 0 (omega arith) w.before x s w.split

  -- a refusal's place is in the text
  pub place_inside : (version : Version) (room : ℕ) {f : Refusal} → Err (Turned f) ≡ found_of version text room → f.start ≤ length text
  unfolding found_of found_by choose
  place_inside version room {f} e = go (ltb most_text_bytes (length text)) (ltb room (room_for text)) (said text) refl e
    where
      go : (a b : Bool) (p : reader.Answer (List Policy)) → said text ≡ p
          → Err (Turned f) ≡ choose a (λ _. Err (Unfit 1)) (λ _. choose b (λ _. Err (Unfit 2)) (λ _. found_by version text p)) → f.start ≤ length text
      go true b p q e = absurd (let z : ◌≡◌ {A = ℕ} 0 1 = cc in omega arith)
      go false true p q e = absurd (let z : ◌≡◌ {A = ℕ} 0 1 = cc in omega arith)
      go false false (took ps r) q e = absurd (clash e)
      go false false (refuse n r) q e = let z : f ≡ refusal_at text n r = cc in rw z (token_inside n r q)

-- ---- the table afterwards

-- the table of a text that is not accepted is left alone
pub same_table : (version : Version) (text old : List ℕ) {x : Unaccepted} → Err x ≡ found_of version text (length old) → old ≡ table_under version text old
unfolding found_of found_by table_under table_by choose
same_table version text old {x} e = go (ltb most_text_bytes (length text)) (ltb (length old) (room_for text)) (said text) e
  where
    go : (a b : Bool) (p : reader.Answer (List Policy)) → Err x ≡ choose a (λ _. Err (Unfit 1)) (λ _. choose b (λ _. Err (Unfit 2)) (λ _. found_by version text p))
        → old ≡ choose a (λ _. old) (λ _. choose b (λ _. old) (λ _. table_by version p old))
    go true b p e = refl
    go false true p e = refl
    go false false (took ps r) e = absurd (clash e)
    go false false (refuse n r) e = refl

-- what is accepted has no more entries than the text has bytes
pub no_more : {version : Version} {text seen old new : List ℕ} {room policies entries : ℕ} {r : Result Whole Refusal} → Accepts version text room policies entries → Told version text seen old new (said text) r → entries ≤ length text
no_more {version} {text} {entries = entries} h (complete k) =
    let same : k.value ≡ h.value = (let x = sym k.is ∙ h.is in cc) in
    let count : entries ≡ length (policies_entries version 0 k.value) = rw same h.count in
    let x = k.room in let y = k.counted.free_is in omega arith
no_more h (lost k) = absurd (let x = sym k.is ∙ h.is in let z : ◌≡◌ {A = ℕ} 0 1 = cc in omega arith)

-- an accepted one's gets the compiled bytes
pub new_table : {version : Version} {text seen old new : List ℕ} {policies entries : ℕ} {r : Result Whole Refusal} → Accepts version text (length old) policies entries → Told version text seen old new (said text) r → new ≡ table_under version text old
unfolding table_under table_by compiled_bytes choose
new_table {version} {text} {old = old} h (complete k) =
    let same : k.value ≡ h.value = (let x = sym k.is ∙ h.is in cc) in
    let n = no_more h (complete k) in
    let c = h.count in let z = h.roomy in let l = length_bytes_of (policies_entries version 0 h.value) in
    k.stored ∙ rw (same, le-ltb _ _ h.short, le-ltb _ _ h.roomy, h.is) (puts_front (policies_entries version 0 h.value) old (omega arith))
new_table h (lost k) = absurd (let x = sym k.is ∙ h.is in let z : ◌≡◌ {A = ℕ} 0 1 = cc in omega arith)

-- ---- a table that begins right

module _ (text table : List ℕ) where
  pub too_long_held : most_text_bytes < length text → held_of text table ≡ None
  unfolding held_of choose
  too_long_held h = rw (lt-ltb _ _ h)

  pub fitting_held : length text ≤ most_text_bytes → held_of text table ≡ held_by table (said text)
  unfolding held_of choose
  fitting_held l = rw (le-ltb _ _ l)

pub lost_held : {text : List ℕ} (table : List ℕ) {p : reader.Answer (List Policy)} {f : Refusal} → TurnedAway text p f → None ≡ held_by table p
unfolding held_by
lost_held table h = rw h.is

module _ {version : Version} {text table old new : List ℕ} {p : reader.Answer (List Policy)} {policies free : ℕ} {ok : Bool} (here : version ≡ recorded table)
    (k : Complete version text table old new p policies free ok) where
  starts_is : ok ≡ starts_with (compiled_bytes (recorded table) k.value) table
  unfolding compiled_bytes
  starts_is = rw (← here) (k.counted.ok_is ∙ held_starts table 0 (policies_entries version 0 k.value))

  pub right_held : ok ≡ true → Some (table_size policies free) ≡ held_by table p
  unfolding held_by choose
  right_held e =
      let z : free ≡ length (policies_entries (recorded table) 0 k.value) = rw (← here) (let y = k.counted.free_is in omega arith) in
      rw (k.is, ← starts_is, e, k.many, ← z)

  pub wrong_held : ok ≡ false → None ≡ held_by table p
  unfolding held_by choose
  wrong_held e = rw (k.is, ← starts_is, e)

-- a table is held exactly where it begins right
module _ (text table : List ℕ) where
  pub held_begins : is_some (held_of text table) ≡ begins_of text table
  unfolding held_of held_by begins_of begins_by choose
  held_begins = go (ltb most_text_bytes (length text)) (said text)
    where
      at_bytes : (ps : List Policy) (b : Bool) → is_some (choose b (λ _. Some (table_size (length ps) (length (policies_entries (recorded table) 0 ps)))) (λ _. None)) ≡ b
      at_bytes ps true = refl
      at_bytes ps false = refl

      go : (a : Bool) (p : reader.Answer (List Policy)) → is_some (choose a (λ _. None) (λ _. held_by table p)) ≡ choose a (λ _. false) (λ _. begins_by table p)
      go true p = refl
      go false (took ps r) = at_bytes ps (starts_with (compiled_bytes (recorded table) ps) table)
      go false (refuse n r) = refl

  pub right_begins : {size : TableSize} → Some size ≡ held_of text table → true ≡ begins_of text table
  right_begins e = ap is_some e ∙ held_begins

  pub wrong_begins : None ≡ held_of text table → false ≡ begins_of text table
  wrong_begins e = ap is_some e ∙ held_begins
