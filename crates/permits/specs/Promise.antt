-- What is promised of permits: what their text says, what that means, and what alone keeps it from being a rule text. Definitions only.
use Rattle.std.specs.Prelude.{◌≡◌, ◌↔◌, true, ◌≤◌, length}
use mathlib.Core.List.{List, [], ◌∷◌, Memᴰ}
use Rattle.grammar.specs.Policies.{Policy}
use Rattle.grammar.specs.Grammar.{SaysPolicies}
use Rattle.grammar.specs.declared.Version.{Version}
use Rattle.placing.specs.Said.{Word, words_of}
use Rattle.views.specs.Meaning.{View}
use Rattle.meaning.specs.Targets.{Request}
use Rattle.meaning.specs.Decisions.{under, satisfied}
use Rattle.permits.specs.Permits.{Test, permit_text, permit_policy}
use Rattle.permits.specs.Meaning.{LockHolds, Fits, Made}

-- every one of some tests fits
abbrev pub AllFit : List Test → Type 0
AllFit tests = (t : Test) → Memᴰ t tests → Fits t

-- The text is a rule text of one policy, the permit, and no longer than a text may be.
pub record SaysPermit (actions : List Word) (resource : Word) (t : Test) (ts : List Test) : Type 0 where
  pub policies : List Policy
  pub says : SaysPolicies (permit_text actions resource (t ∷ ts)) policies
  pub words : words_of (permit_text actions resource (t ∷ ts)) policies ≡ permit_policy actions resource t ts ∷ []
  pub short : length (permit_text actions resource (t ∷ ts)) ≤ 8192

-- What is written of a lock whose values and numbers fit says its permit.
unfoldable pub PermitSays : Type 0
PermitSays = (actions : List Word) (resource : Word) (t : Test) (ts : List Test) → Made actions resource (t ∷ ts) → AllFit (t ∷ ts)
    → SaysPermit actions resource t ts

-- The permit is satisfied exactly when the lock holds: the request is for one of the actions on that resource, and every test holds. So it is under every
-- version: permits agree under both.
unfoldable pub PermitMeans : Type 0
PermitMeans = (version : Version) (view : View) (q : Request) (actions : List Word) (resource : Word) (t : Test) (ts : List Test)
    → (satisfied (under version view) q (permit_policy actions resource t ts) ≡ true) ↔ LockHolds view q actions resource (t ∷ ts)

-- Nothing but the size of a value or a number keeps it from being a rule text.
unfoldable pub OnlySizes : Type 0
OnlySizes = (actions : List Word) (resource : Word) (t : Test) (ts : List Test) (ps : List Policy) → Made actions resource (t ∷ ts)
    → SaysPolicies (permit_text actions resource (t ∷ ts)) ps → AllFit (t ∷ ts)
