-- What is refused, by the orders held in places. Assumes nothing.
use Rattle.std.specs.Prelude.{ℕ, Bool, false, List, length, Option, nat_le, nat_lt}
use Rattle.orders.specs.declared.entry.Entry.{Entry}
use Rattle.orders.specs.declared.order.Phase.{Phase}
use Rattle.orders.specs.declared.order.Phase.TheVariants.{Gathering, Dealing}
use Rattle.orders.specs.declared.order.Order.{Order}
use Rattle.orders.specs.declared.refusal.Cause.{Cause}
use Rattle.orders.specs.declared.refusal.Cause.TheVariants.{FillListShort, WrongPhase, BookFull, NumbersSpent, BelowMinimum}
use Rattle.orders.specs.Causes.{first, when}
use Rattle.plain.specs.Gate.{early, is_dealing}
use Rattle.matching.specs.Weights.{held_weight}
use Rattle.matching.specs.Scans.{opposite, tonnes_if}

abbrev pub is_full : List (Option Order) → Bool
is_full ps = nat_le (length ps) (held_weight (λ _. 1) ps)

abbrev pub falls_short : Phase → Entry → List (Option Order) → Bool
falls_short Gathering e ps = false
falls_short Dealing e ps = nat_lt (held_weight (tonnes_if (opposite e.side e.price)) ps) e.minimum

abbrev pub entry_refusal : List (Option Order) → Phase → ℕ → Entry → ℕ → Option Cause
entry_refusal ps phase next e n =
    first (when (nat_lt n (length ps)) FillListShort)
    (first (when (early phase e) WrongPhase)
    (first (when (is_full ps) BookFull)
    (first (when (nat_lt 999999 next) NumbersSpent)
    (when (falls_short phase e ps) BelowMinimum))))

abbrev pub call_refusal : List (Option Order) → Phase → ℕ → Option Cause
call_refusal ps phase n = first (when (nat_lt n (length ps)) FillListShort) (when (is_dealing phase) WrongPhase)
