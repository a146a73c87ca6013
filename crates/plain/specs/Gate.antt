-- The plain gate: what every book refuses. Assumes nothing.
use Rattle.std.specs.Prelude.{◌≡◌, ℕ, Bool, true, false, not, [], ◌∷◌, length, Some, None, Option, ◌==◌, nat_le, nat_lt}
use Rattle.orders.specs.declared.entry.Entry.{Entry}
use Rattle.orders.specs.declared.request.Request.{Request}
use Rattle.orders.specs.declared.request.Request.TheVariants.{Enter, Withdraw, Call, Halt}
use Rattle.orders.specs.declared.order.Phase.{Phase}
use Rattle.orders.specs.declared.order.Phase.TheVariants.{Gathering, Dealing}
use Rattle.orders.specs.declared.order.Order.{Order}
use Rattle.orders.specs.declared.refusal.Cause.{Cause}
use Rattle.orders.specs.declared.refusal.Cause.TheVariants.{FillListShort, WrongPhase, NoSuchOrder, BookFull, NumbersSpent, BelowMinimum}
use Rattle.orders.specs.Causes.{when, first}
pub use Rattle.orders.specs.Entries.{early}
use Rattle.plain.specs.Rule.{Rule}
use Rattle.plain.specs.Orders.{find}
use Rattle.plain.specs.Book.{Book, Tape, reach, resting, reply}

-- while dealing, an entry's minimum is above its reach
abbrev pub unreached : Phase → Entry → Book → Bool
unreached Gathering e b = false
unreached Dealing e b = nat_lt (reach e b) e.minimum

-- whether each order deals as it comes
abbrev pub is_dealing : Phase → Bool
is_dealing Gathering = false
is_dealing Dealing = true

-- no order of the number rests, or it is another member's
abbrev pub not_his : ℕ → Option Order → Bool
not_his m None = true
not_his m (Some o) = not (o.member == m)

-- why a book of a capacity refuses a request that brings a fill list of n places, if it does: the first test that holds
abbrev pub refused_by : ℕ → Book → Request → ℕ → Option Cause
refused_by capacity b (Enter e) n =
    first (when (nat_lt n capacity) FillListShort)
    (first (when (early b.phase e) WrongPhase)
    (first (when (nat_le capacity (length (resting b))) BookFull)
    (first (when (nat_lt 999999 b.next) NumbersSpent)
    (when (unreached b.phase e b) BelowMinimum))))
refused_by capacity b (Withdraw c) n = when (not_his c.member (find c.number (resting b))) NoSuchOrder
refused_by capacity b Call n = first (when (nat_lt n capacity) FillListShort) (when (is_dealing b.phase) WrongPhase)
refused_by capacity b Halt n = when (not (is_dealing b.phase)) WrongPhase

-- each request of a tape was admitted, with a fill list of some length
abbrev pub AdmittedFrom : Rule → ℕ → Book → Tape → Type 0
AdmittedFrom rule capacity b [] = Unit {0}
AdmittedFrom rule capacity b (q ∷ qs) = ((n : ℕ) × (refused_by capacity b q n ≡ None)) × AdmittedFrom rule capacity (reply rule b q).book qs
