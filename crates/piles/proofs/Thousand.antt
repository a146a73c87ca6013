-- No cap of the day's table is above 1,000.
use Rattle.std.proofs.Common.{ℕ, zero, suc, ◌≤◌, get_or, replicate, arith}

pub at_most : (n m c : ℕ) → get_or (replicate n c) m 0 ≤ c
at_most zero m c = omega arith
at_most (suc n) zero c = omega arith
at_most (suc n) (suc m) c = at_most n m c
