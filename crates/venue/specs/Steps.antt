-- Steps as they were sent and as they were answered. Assumes nothing.
use Rattle.std.specs.Prelude.{◌≡◌, List, [], ◌∷◌, ◌++◌, length, take, Some, None, Ok, Err, vec_items, Option, Result}
use Rattle.orders.specs.declared.order.Fill.{Fill}
use Rattle.orders.specs.declared.answer.Answer.{Answer}
use Rattle.orders.specs.declared.refusal.Refusal.{Refusal}
pub use Rattle.orders.specs.Answers.{count}
use Rattle.plain.specs.Book.{Tape}
use Rattle.plain.specs.Account.{Dealt}
use Rattle.venue.specs.declared.step.Sending.{Sending}
use Rattle.venue.specs.declared.step.Asking.{Asking}
use Rattle.venue.specs.declared.step.Step.{Step}
use Rattle.venue.specs.declared.step.Step.TheVariants.{Send, Ask}
use Rattle.venue.specs.Meaning.{Setup, reply_at, outcome, laid, joined}
use Rattle.venue.specs.Questions.{told}

-- the refusal that the gate gives a request after a tape, if any
abbrev pub refusal : Setup → Tape → Sending → Option Refusal
refusal v t s = v.gate t s.request (length (vec_items s.fills))

-- a request as it was sent, and as it was answered after a tape
pub record Sent (v : Setup) (t : Tape) (s s' : Sending) : Type 0 where
  pub same_request : s'.request ≡ s.request
  pub answer : s'.outcome ≡ Some (outcome (refusal v t s) (reply_at v t s.request))
  pub list : vec_items s'.fills ≡ laid (refusal v t s) (reply_at v t s.request) (vec_items s.fills)

-- a question as it was put, and as it was answered after a tape
pub record Asked (v : Setup) (t : Tape) (a a' : Asking) : Type 0 where
  pub same_question : a'.question ≡ a.question
  pub answer : a'.told ≡ Some (told a.question v t)

abbrev pub Answered : Setup → Tape → Step → Step → Type 0
Answered v t (Send s) (Send s') = Sent v t s s'
Answered v t (Send s) (Ask a') = ⊥
Answered v t (Ask a) (Send s') = ⊥
Answered v t (Ask a) (Ask a') = Asked v t a a'

-- the tape after a step
abbrev pub tape_of : Setup → Tape → Step → Tape
tape_of v t (Send s) = joined (refusal v t s) t s.request
tape_of v t (Ask a) = t

-- the fills that a request was answered: that many from the front of its fill list
abbrev pub counted : Option (Result Answer Refusal) → List Fill → List Fill
counted None fs = []
counted (Some (Ok a)) fs = take (count a) fs
counted (Some (Err f)) fs = []

abbrev pub answered_fills : Sending → List Fill
answered_fills s = counted s.outcome (vec_items s.fills)

-- what a step dealt: a request that was admitted, with its answer and fills, and nothing for any other step
abbrev pub deal_of : Option (Result Answer Refusal) → Sending → List Dealt
deal_of None s = []
deal_of (Some (Ok a)) s = record { request = s.request; answer = a; fills = answered_fills s } ∷ []
deal_of (Some (Err f)) s = []

abbrev pub deal : Step → List Dealt
deal (Send s) = deal_of s.outcome s
deal (Ask a) = []

abbrev pub deals : List Step → List Dealt
deals [] = []
deals (s ∷ ss) = deal s ++ deals ss

-- the requests that were admitted
abbrev pub requests : List Dealt → Tape
requests [] = []
requests (d ∷ ds) = d.request ∷ requests ds

abbrev pub admitted : List Step → Tape
admitted ss = requests (deals ss)
