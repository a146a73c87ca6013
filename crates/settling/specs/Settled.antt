-- One request settled between two venues: the first deals it, its fills are claimed against the second, and then the second deals it too. Assumes nothing.
use Rattle.std.specs.Prelude.{◌≡◌, Bool, true, false, List, Some, None, Ok, Err, Decides, Option, Result, OnOk}
use Rattle.orders.specs.declared.order.Phase.{Phase}
use Rattle.orders.specs.declared.order.Fill.{Fill}
use Rattle.orders.specs.declared.request.Request.{Request}
use Rattle.orders.specs.declared.answer.Answer.{Answer}
use Rattle.orders.specs.declared.refusal.Cause.TheVariants.{LedgerFull}
use Rattle.orders.specs.declared.refusal.Refusal.{Refusal}
use Rattle.plain.specs.Book.{Tape}
use Rattle.venue.specs.Meaning.{Setup, Kept, book_at}
use Rattle.claims.specs.declared.claim.Subject.{Subject}
use Rattle.claims.specs.Judged.{JudgedAt}
use Rattle.ledger.specs.declared.row.Row.{Row}
use Rattle.ledger.specs.Booking.{Fits, Booked}
use Rattle.settling.specs.declared.unbooked.Unbooked.{Unbooked}
use Rattle.settling.specs.declared.unbooked.Unbooked.TheVariants.{Full}
use Rattle.settling.specs.declared.fault.Fault.{Fault}
use Rattle.settling.specs.declared.fault.Fault.TheVariants.{Unbooked as NotBooked, Otherwise}
use Rattle.settling.specs.Claimed.{subject_of}
use Rattle.ledger.specs.Booking.{Fits}
use Rattle.settling.specs.Bookings.{verdict, BookedOrNot}
use Rattle.settling.specs.Replies.{outcome_at, fills_at, SameReply}

-- what an outcome may be claimed for: nothing, if the request was refused
abbrev pub claimed_for : Phase → Request → Result Answer Refusal → Option Subject
claimed_for phase q (Ok a) = subject_of phase q a
claimed_for phase q (Err f) = None

-- what a venue's reply to a request puts forward
abbrev pub put_forward : Setup → Tape → Request → Option Subject
put_forward v t q = claimed_for (book_at v t).phase q (outcome_at v t q)

-- fills put forward for a subject, checked by a venue after a tape and booked; where nothing is put forward nothing is booked
abbrev pub Claimed : Setup → Tape → Option Subject → List Fill → List Row → List Row → Result (Unit {0}) Unbooked → Type 0
Claimed w u None fills rows rows' r = (r ≡ Ok tt) × (rows' ≡ rows)
Claimed w u (Some s) fills rows rows' r = JudgedAt w u s fills (verdict r) × BookedOrNot rows fills rows' r × OnOk r (Fits rows fills)

-- what went wrong: first that the claim was not booked, then that the second venue replied otherwise
abbrev pub fault_of : Result (Unit {0}) Unbooked → Bool → Option Fault
fault_of (Ok _) true = None
fault_of (Ok _) false = Some Otherwise
fault_of (Err u) same = Some (NotBooked u)

-- a request settled between a venue that stood after a tape and one that stood after another, with the ledger before and after
pub record Settled (v w : Setup) (t u : Tape) (q : Request) (rows rows' : List Row) (fault : Option Fault) : Type 0 where
  pub booked : Result (Unit {0}) Unbooked
  pub same : Bool
  pub first_keeps : Kept v t
  pub second_keeps : Kept w u
  pub claim : Claimed w u (put_forward v t q) (fills_at v t q) rows rows' booked
  pub compared : Decides same (SameReply (outcome_at v t q) (fills_at v t q) (outcome_at w u q) (fills_at w u q))
  pub fault_is : fault ≡ fault_of booked same

-- the same where both have the same set-up and stand after the same tape: all that can go wrong is that a total would pass the limit
pub record SettledAlike (v : Setup) (t : Tape) (q : Request) (rows rows' : List Row) (fault : Option Fault) : Type 0 where
  pub booked : Fits rows (fills_at v t q) → (fault ≡ None) × Booked rows (fills_at v t q) rows' (Ok tt)
  pub full : (Fits rows (fills_at v t q) → ⊥) → (fault ≡ Some (NotBooked (Full LedgerFull))) × (rows' ≡ rows)

-- a venue before and after: its set-up stays, and what tape it stands after follows from that before
pub record Moved {V : Type 0} (setup : V → Setup) (stands : V → Tape → Type 0) (onward : Setup → Tape → Tape) (v v' : V) : Type 0 where
  pub same : setup v' ≡ setup v
  pub stood : (t : Tape) → stands v t → stands v' (onward (setup v) t)
