-- What is promised of the plain book. Assumes nothing.
use Rattle.std.specs.Prelude.{◌≡◌, ℕ, ◌+◌, ◌-◌, ◌≤◌, length, None, nat_le}
use Rattle.orders.specs.declared.entry.Entry.{Entry}
use Rattle.orders.specs.declared.request.Request.{Request}
use Rattle.orders.specs.declared.request.Request.TheVariants.{Enter, Call}
use Rattle.orders.specs.declared.order.Phase.TheVariants.{Dealing}
use Rattle.plain.specs.Rule.{Rule, Lawful}
use Rattle.plain.specs.Orders.{other}
use Rattle.plain.specs.Price.{call_volume}
use Rattle.plain.specs.Book.{Book, Tape, fresh, side, resting, in_reach, reach, entry_fills, price, call_buyers, call_sellers, call_fills, reply, after}
use Rattle.plain.specs.Matched.{OneList, CallMatches, EntryMatches, CallPriced}
use Rattle.plain.specs.Gate.{unreached, refused_by, AdmittedFrom}
use Rattle.plain.specs.Sound.{Sound, Uncrossed, UncrossedWhileDealing}
use Rattle.plain.specs.Account.{record_from, bought, resting_to_buy, Balanced}
use Rattle.plain.specs.Held.{held}
use Rattle.plain.specs.Beyond.{AddedBeyond}

-- the fills that a sound book deals, in a call or for an entry while dealing, are the one list that meets the match laws
pub record DealsTheOneList (rule : Rule) (b : Book) : Type 0 where
  pub of_call : OneList (CallMatches rule b (price b) (call_volume b.buys b.sells)) (call_fills b)
  pub of_entry : (e : Entry) → e.minimum ≤ reach e b → OneList (EntryMatches rule b e) (entry_fills Dealing e b)

-- so it is of every sound book, under every lawful rule
abbrev pub FillsAreTheOneList : Type 0
FillsAreTheOneList = (rule : Rule) → Lawful rule → (b : Book) → Sound rule b → DealsTheOneList rule b

-- the price of a call is the best of all prices
abbrev pub CallPriceIsBest : Type 0
CallPriceIsBest = (rule : Rule) (b : Book) → Sound rule b → CallPriced b (price b) (call_volume b.buys b.sells)

-- a call leaves no buy's price at or above a sell's
abbrev pub CallLeavesNothingCrossed : Type 0
CallLeavesNothingCrossed = (rule : Rule) → Lawful rule → (b : Book) → Sound rule b → Uncrossed (reply rule b Call).book

-- a call has fewer fills than buyers and sellers, if any; an entry has no more than the orders in its reach
pub record FewFills (b : Book) : Type 0 where
  pub of_call : length (call_fills b) ≤ (length (call_buyers b) + length (call_sellers b)) - 1
  pub of_call_resting : length (call_fills b) ≤ length (resting b)
  pub of_entry : (e : Entry) → length (entry_fills b.phase e b) ≤ length (in_reach e b)

-- so it is of every book
abbrev pub FillsAreFew : Type 0
FillsAreFew = (b : Book) → FewFills b

-- what is added beyond an entry's limit, or taken away there, changes neither what it reaches nor whether it is refused, unless the book fills up
pub record SameReach (e : Entry) (b c : Book) : Type 0 where
  pub orders : in_reach e b ≡ in_reach e c
  pub tonnes : reach e b ≡ reach e c
  pub below_minimum : unreached b.phase e b ≡ unreached c.phase e c
  pub refused : (capacity n : ℕ) → b.next ≡ c.next → nat_le capacity (length (resting b)) ≡ nat_le capacity (length (resting c)) →
      refused_by capacity b (Enter e) n ≡ refused_by capacity c (Enter e) n

-- so it is of every two books that differ only beyond the limit
abbrev pub ReachEndsAtTheLimit : Type 0
ReachEndsAtTheLimit =
    (e : Entry) (b c : Book) → b.phase ≡ c.phase →
    AddedBeyond e.side e.price (side (other e.side) b) (side (other e.side) c) → SameReach e b c

-- after any tape the book is sound
abbrev pub AlwaysSound : Type 0
AlwaysSound = (rule : Rule) → Lawful rule → (t : Tape) → Sound rule (after rule t)

-- after any tape the book is uncrossed while dealing
abbrev pub NeverCrossedWhileDealing : Type 0
NeverCrossedWhileDealing = (rule : Rule) → Lawful rule → (t : Tape) → UncrossedWhileDealing (after rule t)

-- no more orders rest than the capacity, no request has more fills, and those of one that is admitted fit the list that it brings
pub record WithinCapacity (rule : Rule) (capacity : ℕ) (b : Book) : Type 0 where
  pub orders : length (resting b) ≤ capacity
  pub fills : (q : Request) → length (reply rule b q).fills ≤ capacity
  pub room : (q : Request) (n : ℕ) → refused_by capacity b q n ≡ None → length (reply rule b q).fills ≤ n

-- so it is after any tape of admitted requests
abbrev pub AlwaysWithinCapacity : Type 0
AlwaysWithinCapacity = (rule : Rule) (capacity : ℕ) (t : Tape) → AdmittedFrom rule capacity fresh t → WithinCapacity rule capacity (after rule t)

-- after any tape every order adds up
abbrev pub EveryOrderAddsUp : Type 0
EveryOrderAddsUp = (rule : Rule) → Lawful rule → (t : Tape) → Balanced (record_from rule fresh t) (after rule t)

-- after any tape of admitted requests a member's tonnes bought and resting to buy are those that he holds
abbrev pub HeldIsBoughtAndResting : Type 0
HeldIsBoughtAndResting =
    (rule : Rule) → Lawful rule → (capacity : ℕ) (t : Tape) → AdmittedFrom rule capacity fresh t →
    (m : ℕ) → bought m (record_from rule fresh t) + resting_to_buy m (after rule t) ≡ held rule m t
