-- What each kind of layer refuses on its own. Assumes nothing.
use Rattle.std.specs.Prelude.{ℕ, ◌+◌, Bool, true, false, ◌&&◌, ◌||◌, List, None, nat_lt, slice_index}
use Rattle.orders.specs.declared.request.Side.{Side}
use Rattle.orders.specs.declared.request.Side.TheVariants.{Buy, Sell}
use Rattle.orders.specs.declared.request.Request.TheVariants.{Enter, Withdraw, Call, Halt}
use Rattle.orders.specs.declared.refusal.Cause.TheVariants.{OutsideCollar, OverCap}
use Rattle.orders.specs.Causes.{when}
use Rattle.plain.specs.Held.{held}
use Rattle.layers.specs.Stack.{OwnRule}

-- an entry's price must lie within the collar
abbrev pub collar_rule : ℕ → ℕ → OwnRule
collar_rule low high rule t (Enter e) n = when (nat_lt e.price low || nat_lt high e.price) OutsideCollar
collar_rule low high rule t (Withdraw c) n = None
collar_rule low high rule t Call n = None
collar_rule low high rule t Halt n = None

abbrev pub is_buy : Side → Bool
is_buy Buy = true
is_buy Sell = false

-- a buy must not bring what its member holds above his cap
abbrev pub cap_rule : List ℕ → OwnRule
cap_rule caps rule t (Enter e) n = when (is_buy e.side && nat_lt (slice_index caps e.member) (held rule e.member t + e.quantity)) OverCap
cap_rule caps rule t (Withdraw c) n = None
cap_rule caps rule t Call n = None
cap_rule caps rule t Halt n = None
