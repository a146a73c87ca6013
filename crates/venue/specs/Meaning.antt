-- What a venue means: what is fixed at its set-up, the tapes that it can stand after, and what a request does there. Assumes nothing.
use Rattle.std.specs.Prelude.{◌≡◌, ℕ, ◌≤◌, List, [], ◌∷◌, ◌++◌, length, drop, Some, None, Ok, Err, Option, Result}
use Rattle.orders.specs.declared.request.Request.{Request}
use Rattle.orders.specs.declared.order.Fill.{Fill}
use Rattle.orders.specs.declared.answer.Answer.{Answer}
use Rattle.orders.specs.declared.refusal.Cause.{Cause}
use Rattle.orders.specs.declared.refusal.Refusal.{Refusal}
use Rattle.plain.specs.Rule.{Rule, Lawful}
use Rattle.plain.specs.Book.{Book, Reply, Tape, after, fresh, reply}
use Rattle.plain.specs.Gate.{refused_by, AdmittedFrom}

-- which refusal, if any, a request with a fill list of a length gets after a tape
abbrev pub Gate : Type 0
Gate = Tape → Request → ℕ → Option Refusal

-- what is fixed at set-up: no request alters it
pub record Setup : Type 0 where
  pub rule : Rule
  pub capacity : ℕ
  pub gate : Gate
  pub height : ℕ

-- the plain book after a tape, and its reply to a request there
abbrev pub book_at : Setup → Tape → Book
book_at v t = after v.rule t

abbrev pub reply_at : Setup → Tape → Request → Reply
reply_at v t q = reply v.rule (book_at v t) q

-- what is returned for a request, what its fill list holds after it, and the tape after it:
-- refused, the refusal is returned and nothing changes; admitted, the plain book's answer is, its fills stand first in the list, and the request joins the tape
abbrev pub outcome : Option Refusal → Reply → Result Answer Refusal
outcome None r = Ok r.answer
outcome (Some f) r = Err f

abbrev pub laid : Option Refusal → Reply → List Fill → List Fill
laid None r lent = r.fills ++ drop (length r.fills) lent
laid (Some f) r lent = lent

abbrev pub joined : Option Refusal → Tape → Request → Tape
joined None t q = t ++ (q ∷ [])
joined (Some f) t q = t

-- a request was served after a tape: what was returned and what the lent list holds, and the tape that the venue stands after now
pub record Served (v : Setup) (stands' : Tape → Type 0) (t : Tape) (q : Request) (lent left : List Fill) (r : Result Answer Refusal) : Type 0 where
  pub answered : r ≡ outcome (v.gate t q (length lent)) (reply_at v t q)
  pub list : left ≡ laid (v.gate t q (length lent)) (reply_at v t q) lent
  pub tape : stands' (joined (v.gate t q (length lent)) t q)

-- the gate of a venue admits a request only where the plain gate does
abbrev pub Admits : Option Refusal → Type 0
Admits None = Unit {0}
Admits (Some f) = ⊥

abbrev pub NoCause : Option Cause → Type 0
NoCause None = Unit {0}
NoCause (Some c) = ⊥

-- what every venue keeps, whichever tape it stands after
pub record Kept (v : Setup) (t : Tape) : Type 0 where
  pub lawful : Lawful v.rule
  pub capacity_low : 1 ≤ v.capacity
  pub capacity_high : v.capacity ≤ 1024
  pub height_high : v.height ≤ 15
  pub admitted : AdmittedFrom v.rule v.capacity fresh t
  pub refuses_enough : (q : Request) (n : ℕ) → Admits (v.gate t q n) → NoCause (refused_by v.capacity (book_at v t) q n)

-- a cause at a height, before what comes after it
abbrev pub at_height : ℕ → Option Cause → Option Refusal → Option Refusal
at_height h None later = later
at_height h (Some c) later = Some (record { cause = c; height = Some h })

-- a book: its height is 0, and its gate is the plain gate and no more
abbrev pub book_setup : Rule → ℕ → Setup
book_setup rule capacity = record { rule = rule; capacity = capacity; gate = λ t q n. at_height 0 (refused_by capacity (after rule t) q n) None; height = 0 }
