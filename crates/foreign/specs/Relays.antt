-- A venue that hands everything on. Assumes nothing.
use Rattle.std.specs.Prelude.{◌≡◌, ℕ, ◌+◌}
use Rattle.plain.specs.Book.{Tape}
use Rattle.venue.specs.Meaning.{Setup}

-- a set-up at another height
abbrev pub raised : ℕ → Setup → Setup
raised height below = record { rule = below.rule; capacity = below.capacity; gate = below.gate; height = height }

-- the venue below stands after the tape, and the height is one more
pub record RelayStands (below : Tape → Type 0) (height lower : ℕ) (t : Tape) : Type 0 where
  pub stands_below : below t
  pub one_higher : height ≡ lower + 1
