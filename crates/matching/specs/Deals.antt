-- Orders dealt one fill at a time with those that the rule puts first. Assumes nothing.
use Rattle.std.specs.Prelude.{◌≡◌, ℕ, ◌-◌, ◌≤◌, min, cond, ◌⊎◌, List, [], ◌∷◌, ◌++◌, length, drop, Some, None, Option, nat_lt, slice_set}
use Rattle.orders.specs.declared.request.Side.{Side}
use Rattle.orders.specs.declared.request.Side.TheVariants.{Buy, Sell}
use Rattle.orders.specs.declared.order.Order.{Order}
use Rattle.orders.specs.declared.order.Fill.{Fill}
use Rattle.orders.specs.declared.order.Phase.{Phase}
use Rattle.orders.specs.declared.order.Phase.TheVariants.{Gathering, Dealing}
use Rattle.orders.specs.Entries.{taken}
use Rattle.plain.specs.Rule.{Rule, with_remaining}
use Rattle.plain.specs.Dealing.{fill}
use Rattle.ranking.specs.Search.{FirstIn}
use Rattle.matching.specs.declared.dealing.Deal.{Deal}
use Rattle.matching.specs.declared.dealing.Tally.{Tally}
use Rattle.matching.specs.declared.dealing.Deal.TheVariants.{Entry, Call}
use Rattle.matching.specs.Scans.{opposite}

-- the place of an order that gave n tonnes
abbrev pub reduced : Order → ℕ → Option Order
reduced o n = cond (nat_lt n o.remaining) (Some (with_remaining o (o.remaining - n))) None

-- what is found opposite an order of a side, within its limit
abbrev pub FirstOpposite : Rule → Side → ℕ → List (Option Order) → Option (ℕ × Order) → Type 0
FirstOpposite rule side limit ps = FirstIn (opposite side limit) rule ps (length ps)

-- the fill f of an entry's order with the first one opposite, and the places after it
pub record EntryTurn (rule : Rule) (o : Order) (left : ℕ) (ps qs : List (Option Order)) (f : Fill) : Type 0 where
  pub found : ℕ × Order
  pub first : FirstOpposite rule o.side o.price ps (Some found)
  pub fill_is : f ≡ taken o.side o found.1 (min left found.1.remaining)
  pub places_are : qs ≡ slice_set ps found.0 (reduced found.1 (min left found.1.remaining))

-- the tonnes dealt between a buy and a sell of which so many are left
abbrev pub crossing : ℕ → Order → Order → ℕ
crossing left buy sell = min (min left buy.remaining) sell.remaining

-- the fill f of the first buy with the first sell at a price, and the places after it
pub record CallTurn (rule : Rule) (price left : ℕ) (ps qs : List (Option Order)) (f : Fill) : Type 0 where
  pub buy : ℕ × Order
  pub sell : ℕ × Order
  pub first_buy : FirstOpposite rule Sell price ps (Some buy)
  pub first_sell : FirstOpposite rule Buy price ps (Some sell)
  pub fill_is : f ≡ fill (λ _ _. price) buy.1 sell.1 (crossing left buy.1 sell.1)
  pub places_are :
      qs ≡ slice_set (slice_set ps buy.0 (reduced buy.1 (crossing left buy.1 sell.1))) sell.0 (reduced sell.1 (crossing left buy.1 sell.1))

abbrev pub Turn : Rule → Deal → ℕ → List (Option Order) → List (Option Order) → Fill → Type 0
Turn rule (Entry o) = EntryTurn rule o
Turn rule (Call price) = CallTurn rule price

-- nobody is left to deal with
abbrev pub Nobody : Rule → Deal → List (Option Order) → Type 0
Nobody rule (Entry o) ps = FirstOpposite rule o.side o.price ps None
Nobody rule (Call price) ps = FirstOpposite rule Sell price ps None ⊎ FirstOpposite rule Buy price ps None

-- one fill, or none since nobody is left
abbrev pub Turned : Rule → Deal → (left : ℕ) → List (Option Order) → List (Option Order) → Option Fill → Type 0
Turned rule d left ps qs None = (qs ≡ ps) × Nobody rule d ps
Turned rule d left ps qs (Some f) = Turn rule d left ps qs f

pub record DealtOne (rule : Rule) (d : Deal) (left : ℕ) (ps qs : List (Option Order)) (f : Fill) : Type 0 where
  pub some_left : 1 ≤ left
  pub turn : Turn rule d left ps qs f
  pub no_more : f.quantity ≤ left

-- one fill, or none since nothing or nobody is left
abbrev pub OneDeal : Rule → Deal → (left : ℕ) → List (Option Order) → List (Option Order) → Option Fill → Type 0
OneDeal rule d left ps qs None = (qs ≡ ps) × ((left ≡ 0) ⊎ Nobody rule d ps)
OneDeal rule d left ps qs (Some f) = DealtOne rule d left ps qs f

-- fills of so many tonnes one after another, from the places as they were
pub data Run (rule : Rule) (d : Deal) (start : ℕ) (before : List (Option Order)) : List Fill → List (Option Order) → ℕ → Type 0 where
  begin : Run rule d start before [] before start
  more : {fs : List Fill} {ps qs : List (Option Order)} {left : ℕ} {f : Fill} → Run rule d start before fs ps left → DealtOne rule d left ps qs f →
      Run rule d start before (fs ++ (f ∷ [])) qs (left - f.quantity)

-- a run of k fills, which lie at the front of the lent list
pub record RunTo (rule : Rule) (d : Deal) (start : ℕ) (before : List (Option Order)) (lent : List Fill) (k : ℕ) (ps : List (Option Order)) (list : List Fill) (left : ℕ) : Type 0 where
  pub fills : List Fill
  pub run : Run rule d start before fills ps left
  pub many : length fills ≡ k
  pub list_is : list ≡ fills ++ drop k lent

-- a run that goes on until nothing or nobody is left, or the list is full
pub record RunOut (rule : Rule) (d : Deal) (start : ℕ) (before : List (Option Order)) (lent : List Fill) (ps : List (Option Order)) (list : List Fill) (r : Tally) : Type 0 where
  pub run_to : RunTo rule d start before lent r.count ps list r.left
  pub ends : ((r.left ≡ 0) ⊎ Nobody rule d ps) ⊎ (r.count ≡ length lent)

-- an entry's order dealt with: not at all while gathering
abbrev pub DealtNow : Rule → Phase → Order → List (Option Order) → List Fill → List (Option Order) → List Fill → Tally → Type 0
DealtNow rule Gathering o before lent ps list r = (ps ≡ before) × (list ≡ lent) × (r.count ≡ 0) × (r.left ≡ o.remaining)
DealtNow rule Dealing o before lent ps list r = RunOut rule (Entry o) o.remaining before lent ps list r
