-- The match laws at a book: of a call, and of an entry while dealing. Assumes nothing.
use Rattle.std.specs.Prelude.{◌≡◌, ℕ, ◌≤◌, min, List}
use Rattle.orders.specs.declared.request.Side.TheVariants.{Buy, Sell}
use Rattle.orders.specs.declared.entry.Entry.{Entry}
use Rattle.orders.specs.declared.order.Fill.{Fill}
use Rattle.plain.specs.Rule.{Rule}
use Rattle.plain.specs.Orders.{keep, within}
use Rattle.plain.specs.Price.{BestPrice}
use Rattle.plain.specs.Price.{volume as volume_at}
use Rattle.plain.specs.Book.{Book, order, in_reach, reach, resting_price, entry_buyers, entry_sellers}
use Rattle.plain.specs.Matching.{MatchLaws}

-- a list meets laws, and no other list does
pub record OneList (Laws : List Fill → Type 0) (fs : List Fill) : Type 0 where
  pub meets : Laws fs
  pub only : (gs : List Fill) → Laws gs → gs ≡ fs

-- fills of a call at a price and volume: between the buys at the price or more and the sells at it or less
abbrev pub CallMatches : Rule → Book → (price volume : ℕ) → List Fill → Type 0
CallMatches rule b price volume = MatchLaws rule (λ _ _. price) volume (keep (within Sell price) b.buys) (keep (within Buy price) b.sells)

-- fills of an entry while dealing: between the entry alone and the orders in its reach, with its minimum held against that reach
pub record EntryMatches (rule : Rule) (b : Book) (e : Entry) (fs : List Fill) : Type 0 where
  pub minimum : e.minimum ≤ reach e b
  pub fills : MatchLaws rule (resting_price e.side) (min e.quantity (reach e b)) (entry_buyers e.side (order e b.next) (in_reach e b)) (entry_sellers e.side (order e b.next) (in_reach e b)) fs

-- the price and volume of a call: no price deals more, the price is the best where something deals, and 0 where nothing does
pub record CallPriced (b : Book) (price volume : ℕ) : Type 0 where
  pub most : (p : ℕ) → 1 ≤ p → p ≤ 100000 → volume_at b.buys b.sells p ≤ volume
  pub deals : volume_at b.buys b.sells price ≡ volume
  pub best : 1 ≤ volume → BestPrice b.buys b.sells price
  pub none : volume ≡ 0 → price ≡ 0
