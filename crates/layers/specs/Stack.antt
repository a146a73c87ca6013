-- A layer's own rule, and the venue that it makes of the one below. Assumes nothing.
use Rattle.std.specs.Prelude.{◌≡◌, ℕ, ◌+◌, Some, None, Ok, Err, Option, Result}
use Rattle.orders.specs.declared.request.Request.{Request}
use Rattle.orders.specs.declared.refusal.Cause.{Cause}
use Rattle.plain.specs.Rule.{Rule}
use Rattle.plain.specs.Book.{Tape}
use Rattle.venue.specs.Meaning.{Setup, at_height}

-- what a layer refuses on its own, by the priority rule and the tape, a request and its fill list's length
abbrev pub OwnRule : Type 0
OwnRule = Rule → Tape → Request → ℕ → Option Cause

-- a layer's set-up at a height: its own rule comes first, then the gate below, and the rest is as below
abbrev pub layered : OwnRule → ℕ → Setup → Setup
layered own height below = record {
  rule = below.rule;
  capacity = below.capacity;
  gate = λ t q n. at_height height (own below.rule t q n) (below.gate t q n);
  height = height;
}

-- a layer stands after a tape: what it keeps follows the tape, the venue below stands after it, and it is one higher
pub record LayerStands (follows below : Tape → Type 0) (height lower : ℕ) (t : Tape) : Type 0 where
  pub part_follows : follows t
  pub below_stands : below t
  pub one_higher : height ≡ lower + 1

-- what a part's reservation came to: it has no cause to refuse, and holds what it reserved; or its cause, and it follows the tape as before
abbrev pub Reserved : {H : Type 0} → Option Cause → (H → Type 0) → Type 0 → Result H Cause → Type 0
Reserved own holds follows (Ok h) = (own ≡ None) × holds h
Reserved own holds follows (Err c) = (own ≡ Some c) × follows
