-- When a call for a decision gets which refusal, and that the words of its text and the recorded version alone decide. Demand 2 itself stands on the
-- desk's page, and over any attributes in meaning. Definitions only.
use Rattle.std.specs.Prelude.{◌≡◌, ◌↔◌, true, false, List, ℕ}
use Rattle.table.specs.Recorded.{recorded}
use Rattle.compiling_promise.specs.Promise.{Begun}
use Rattle.bags.specs.Forms.{ABag, NoBag}
use Rattle.meaning.specs.Targets.{Request, is_system, is_subject, is_action, is_resource}
use Rattle.deciding.specs.Answers.{words_in, decide_answer, decide_said}

-- what a call for a decision is lent: rule text and table, bag, request
pub record DecideCall : Type 0 where
  pub text : List ℕ
  pub table : List ℕ
  pub bag : List ℕ
  pub request : Request

-- ---- refusals

-- nothing is wrong with the request of any subject but the system
pub record Wellformed (q : Request) : Type 0 where
  pub other : is_system q.subject ≡ false
  pub subject_is : is_subject q.subject ≡ true
  pub action_is : is_action q.action ≡ true
  pub resource_is : is_resource q.resource ≡ true

-- something is: subject, action, resource, in that order
pub data RequestRefused (q : Request) : ℕ → Type 0 where
  bad_subject : is_system q.subject ≡ false → is_subject q.subject ≡ false → RequestRefused q 21
  bad_action : is_system q.subject ≡ false → is_subject q.subject ≡ true → is_action q.action ≡ false → RequestRefused q 22
  bad_resource : is_system q.subject ≡ false → is_subject q.subject ≡ true → is_action q.action ≡ true → is_resource q.resource ≡ false
      → RequestRefused q 23

-- When a call gets which refusal number; 0 where it gets none. The system is never refused; else the first of the five that is wrong is named.
pub data DecideRefused (c : DecideCall) : ℕ → Type 0 where
  never_the_system : is_system c.request.subject ≡ true → DecideRefused c 0
  bad_request : {number : ℕ} → RequestRefused c.request number → DecideRefused c number
  no_bag : Wellformed c.request → NoBag c.bag → DecideRefused c 24
  not_compiled : Wellformed c.request → ABag c.bag → (Begun c.text c.table → ⊥) → DecideRefused c 20
  none_wrong : Wellformed c.request → ABag c.bag → Begun c.text c.table → DecideRefused c 0

-- Each refusal is given exactly when document 01 says.
unfoldable pub DecideRefusedExactly : Type 0
DecideRefusedExactly = (c : DecideCall) (number : ℕ)
    → ((decide_said (decide_answer c.text c.table c.bag c.request)).refusal ≡ number) ↔ DecideRefused c number

-- ---- what a text says

-- Two texts that say the same, each with its table of the same version, get the same answers, wherever they say it and whatever else stands in them.
unfoldable pub AnsweredAlike : Type 0
AnsweredAlike = (text text' table table' bag : List ℕ) (q : Request) → words_in text ≡ words_in text' → recorded table ≡ recorded table'
    → Begun text table → Begun text' table'
    → decide_answer text table bag q ≡ decide_answer text' table' bag q
