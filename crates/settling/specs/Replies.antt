-- What a venue replies to a request that brings a fill list as long as its capacity. Assumes nothing.
use Rattle.std.specs.Prelude.{◌≡◌, ℕ, List, [], take, Some, None, Ok, Err, vec_items, Option, Result}
use Rattle.orders.specs.declared.request.Request.{Request}
use Rattle.orders.specs.declared.order.Fill.{Fill}
use Rattle.orders.specs.declared.answer.Answer.{Answer}
use Rattle.orders.specs.declared.refusal.Refusal.{Refusal}
use Rattle.orders.specs.Answers.{count}
use Rattle.plain.specs.Book.{Reply, Tape}
use Rattle.venue.specs.Meaning.{Setup, Kept, reply_at, outcome, joined}
use Rattle.settling.specs.declared.reply.Reply.{Reply as Answered}

-- the refusal that the gate gives it after a tape, if any
abbrev pub refused_at : Setup → Tape → Request → Option Refusal
refused_at v t q = v.gate t q v.capacity

-- what it is answered
abbrev pub outcome_at : Setup → Tape → Request → Result Answer Refusal
outcome_at v t q = outcome (refused_at v t q) (reply_at v t q)

-- the fills that it is dealt: none if it is refused
abbrev pub dealt_to : Option Refusal → Reply → List Fill
dealt_to None r = r.fills
dealt_to (Some f) r = []

abbrev pub fills_at : Setup → Tape → Request → List Fill
fills_at v t q = dealt_to (refused_at v t q) (reply_at v t q)

-- the tape after it
abbrev pub tape_after : Setup → Tape → Request → Tape
tape_after v t q = joined (refused_at v t q) t q

-- how many fills were dealt
abbrev pub count_of : Result Answer Refusal → ℕ
count_of (Ok a) = count a
count_of (Err f) = 0

-- the fills of a reply: as many as its answer counts
abbrev pub dealt_in : Answered → List Fill
dealt_in r = take (count_of r.outcome) (vec_items r.fills)

-- a request was sent to a venue that stood after a tape
pub record Replied (v : Setup) (stands' : Tape → Type 0) (t : Tape) (q : Request) (r : Answered) : Type 0 where
  pub kept : Kept v t
  pub answered : r.outcome ≡ outcome_at v t q
  pub dealt : vec_items r.fills ≡ fills_at v t q
  pub tape : stands' (tape_after v t q)

-- the same answer or refusal, and the same fills
abbrev pub SameReply : Result Answer Refusal → List Fill → Result Answer Refusal → List Fill → Type 0
SameReply a fs b gs = (a ≡ b) × (fs ≡ gs)
