-- The prices at which what a call deals changes. Assumes nothing.
use Rattle.std.specs.Prelude.{ℕ, ◌+◌, cond, Some, None, Option, nat_lt}
use Rattle.orders.specs.declared.request.Side.{Side}
use Rattle.orders.specs.declared.request.Side.TheVariants.{Buy, Sell}

-- the price from which an order of a side changes what is dealt: a buy's tonnes are not bought above its price
abbrev pub step_of : Side → ℕ → Option ℕ
step_of Buy p = cond (nat_lt p 100000) (Some (p + 1)) None
step_of Sell p = Some p
