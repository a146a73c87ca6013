-- What setting up a book comes to. Assumes nothing.
use Rattle.std.specs.Prelude.{◌≡◌, ℕ, ◌≤◌, []}
use Rattle.orders.specs.declared.refusal.Cause.TheVariants.{BadSetup}
use Rattle.plain.specs.Rule.{Rule}
use Rattle.plain.specs.Book.{Tape}
use Rattle.venue.specs.declared.book.Refused.{Refused}
use Rattle.venue.specs.Meaning.{Setup, book_setup}

-- a number of places that a book may have
abbrev pub FitPlaces : ℕ → Type 0
FitPlaces n = (1 ≤ n) × (n ≤ 1024)

-- a new book over so many places: it stands after the empty tape, and its gate is the plain gate and no more
pub record Opened (rule : Rule) (places : ℕ) (setup : Setup) (stands : Tape → Type 0) : Type 0 where
  pub fit : FitPlaces places
  pub plain : setup ≡ book_setup rule places
  pub fresh : stands []

-- no book: there are too few places or too many, and list and rule are handed back
pub record HandedBack {L R : Type 0} (places : ℕ) (list : L) (rule : R) (u : Refused L R) : Type 0 where
  pub unfit : FitPlaces places → ⊥
  pub cause_is : u.cause ≡ BadSetup
  pub list_is : u.list ≡ list
  pub rule_is : u.rule ≡ rule
