-- What checking and booking a claim comes to. Assumes nothing.
use Rattle.std.specs.Prelude.{◌≡◌, List, Ok, Err, Result}
use Rattle.orders.specs.declared.order.Fill.{Fill}
use Rattle.orders.specs.declared.refusal.Cause.{Cause}
use Rattle.ledger.specs.declared.row.Row.{Row}
use Rattle.ledger.specs.Booking.{Answered, Booked}
use Rattle.settling.specs.declared.unbooked.Unbooked.{Unbooked}
use Rattle.settling.specs.declared.unbooked.Unbooked.TheVariants.{Failed, Full}

-- what the check said
abbrev pub verdict : Result (Unit {0}) Unbooked → Result (Unit {0}) Cause
verdict (Ok u) = Ok u
verdict (Err (Failed c)) = Err c
verdict (Err (Full c)) = Ok tt

-- what the ledger has after it: the fills, or what it had before, where the check failed or a total would be too large
abbrev pub BookedOrNot : List Row → List Fill → List Row → Result (Unit {0}) Unbooked → Type 0
BookedOrNot rows fills after (Ok u) = Booked rows fills after (Ok u)
BookedOrNot rows fills after (Err (Failed c)) = after ≡ rows
BookedOrNot rows fills after (Err (Full c)) = (after ≡ rows) × Answered rows fills (Err c)
