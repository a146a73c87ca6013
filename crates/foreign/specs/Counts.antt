-- A venue that counts what is admitted below it. Assumes nothing.
use Rattle.std.specs.Prelude.{◌≡◌, ℕ, ◌+◌, ◌-◌, ◌^◌, min, length}
use Rattle.plain.specs.Book.{Tape}

-- the venue below stands after the tape, the height is one more, and the count is the tape's length, as far as a number goes
pub record CountStands (below : Tape → Type 0) (height lower admitted : ℕ) (t : Tape) : Type 0 where
  pub stands_below : below t
  pub one_higher : height ≡ lower + 1
  pub counted : admitted ≡ min (length t) (2 ^ 64 - 1)
