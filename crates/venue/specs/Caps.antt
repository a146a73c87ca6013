-- Gates that hold each member's tonnes to a cap. Assumes nothing.
use Rattle.std.specs.Prelude.{◌≡◌, ℕ, ◌+◌, ◌≤◌, None}
use Rattle.orders.specs.declared.request.Side.TheVariants.{Buy}
use Rattle.orders.specs.declared.entry.Entry.{Entry}
use Rattle.orders.specs.declared.request.Request.TheVariants.{Enter}
use Rattle.plain.specs.Book.{Tape}
use Rattle.plain.specs.Held.{held}
use Rattle.venue.specs.Meaning.{Setup}

-- a cap for each member
abbrev pub Caps : Type 0
Caps = ℕ → ℕ

-- a buy is admitted only if what its member holds and its tonnes are at most his cap
abbrev pub BindsCaps : Setup → Caps → Type 0
BindsCaps v caps = (t : Tape) (e : Entry) (n : ℕ) → e.side ≡ Buy → v.gate t (Enter e) n ≡ None → held v.rule e.member t + e.quantity ≤ caps e.member
