-- What a claim is held to, and what its check answers. Assumes nothing.
use Rattle.std.specs.Prelude.{◌≡◌, ℕ, Bool, true, false, not, List, is_ok, Err, Result, nat_lt}
use Rattle.orders.specs.declared.order.Phase.{Phase}
use Rattle.orders.specs.declared.order.Fill.{Fill}
use Rattle.orders.specs.declared.refusal.Cause.{Cause}
use Rattle.orders.specs.declared.refusal.Cause.TheVariants.{WrongPhase, NumbersSpent, ClaimFails}
use Rattle.plain.specs.Rule.{Rule}
use Rattle.plain.specs.Price.{call_volume}
use Rattle.plain.specs.Book.{Book, Tape}
use Rattle.plain.specs.Book.{price as price_of}
use Rattle.plain.specs.Matched.{CallMatches, EntryMatches}
use Rattle.plain.specs.Gate.{is_dealing}
use Rattle.venue.specs.Meaning.{Setup, book_at}
use Rattle.claims.specs.declared.claim.Subject.{Subject}
use Rattle.claims.specs.declared.claim.Subject.TheVariants.{Entry, Call}

-- a call's price and volume are right, and its fills keep the match laws
pub record CallHolds (rule : Rule) (b : Book) (price volume : ℕ) (fs : List Fill) : Type 0 where
  pub price_is : price ≡ price_of b
  pub volume_is : volume ≡ call_volume b.buys b.sells
  pub fills : CallMatches rule b price volume fs

-- what the fills put forward for a subject are held to
abbrev pub Holds : Rule → Book → Subject → List Fill → Type 0
Holds rule b (Entry e) fs = EntryMatches rule b e fs
Holds rule b (Call p v) fs = CallHolds rule b p v fs

-- a call while dealing, or an entry while gathering
abbrev pub mistimed : Phase → Subject → Bool
mistimed phase (Entry e) = not (is_dealing phase)
mistimed phase (Call p v) = is_dealing phase

-- an entry that finds no number left
abbrev pub numberless : Book → Subject → Bool
numberless b (Entry e) = nat_lt 999999 b.next
numberless b (Call p v) = false

-- each of two facts holds when the other does
abbrev pub Exactly : Type 0 → Type 0 → Type 0
Exactly A B = (A → B) × (B → A)

-- what a check answers, and exactly when, by the phase, the numbers and the laws
pub record Judged {X : Type 0} (mistimed numberless : Bool) (Laws : Type 0) (r : Result X Cause) : Type 0 where
  pub wrong_phase : Exactly (r ≡ Err WrongPhase) (mistimed ≡ true)
  pub numbers_spent : Exactly (r ≡ Err NumbersSpent) ((mistimed ≡ false) × (numberless ≡ true))
  pub claim_fails : Exactly (r ≡ Err ClaimFails) ((mistimed ≡ false) × (numberless ≡ false) × (Laws → ⊥))
  pub passes : Exactly (is_ok r ≡ true) ((mistimed ≡ false) × (numberless ≡ false) × Laws)

-- the same of a subject and fills after a tape
abbrev pub JudgedAt : {X : Type 0} → Setup → Tape → Subject → List Fill → Result X Cause → Type 0
JudgedAt v t s fs = Judged (mistimed (book_at v t).phase s) (numberless (book_at v t) s) (Holds v.rule (book_at v t) s fs)
