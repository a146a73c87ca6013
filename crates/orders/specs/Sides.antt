-- The two sides, and the two lives. Assumes nothing.
use Rattle.std.specs.Prelude.{ℕ, Bool, true, false, nat_le}
use Rattle.orders.specs.declared.request.Side.{Side}
use Rattle.orders.specs.declared.request.Side.TheVariants.{Buy, Sell}
use Rattle.orders.specs.declared.request.Life.{Life}
use Rattle.orders.specs.declared.request.Life.TheVariants.{Rest, Kill}

-- the side opposite
abbrev pub other : Side → Side
other Buy = Sell
other Sell = Buy

-- whether an order of the side with a limit may deal at a price
abbrev pub within_limit : Side → ℕ → ℕ → Bool
within_limit Buy limit price = nat_le price limit
within_limit Sell limit price = nat_le limit price

-- whether what an entry does not deal at once rests
abbrev pub rests : Life → Bool
rests Rest = true
rests Kill = false
