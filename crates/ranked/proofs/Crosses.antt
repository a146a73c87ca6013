-- A fill between the best buy and the best sell, by a turn with each. Assumes nothing.
use Rattle.std.proofs.Common.{◌≡◌, ℕ, min, leb, List, [], ◌∷◌, length, Some, sym, refl, ap, ◌∙◌, ⊎_elim, arith, Option}
use Rattle.std.proofs.lemmas.Bool.{cond-true, le-leb, cases_lt}
use Rattle.orders.specs.declared.request.Side.TheVariants.{Buy, Sell}
use Rattle.orders.specs.declared.order.Order.{Order}
use Rattle.orders.specs.declared.order.Fill.{Fill}
use Rattle.plain.specs.Book.{Book}
use Rattle.venue.specs.Questions.{ranked}
use Rattle.ranked.specs.declared.deal.Turn.{Turn}
use Rattle.lineup.specs.declared.state.State.{State}
use Rattle.orders.specs.Entries.{fill_at}
use Rattle.lineup.specs.Lying.{Lies}
use Rattle.ranked.specs.ByTurns.{cut_by, Turned}
use Rattle.ranked.specs.Crossings.{holding, Crossable}
use Rattle.lineup.proofs.Ranks.{best_some}

-- more tonnes than remain cut no more than what remains
cut_least : (n : ℕ) (x : Order) (xs : List Order) → cut_by n x xs ≡ cut_by (min n x.remaining) x xs
cut_least n x xs =
    let r = x.remaining in
    ⊎_elim
    (λ part. let same : n ≡ min n r = omega arith in ap (λ k. cut_by k x xs) same)
    (λ whole. cond-true (leb r n) xs _ (le-leb r n whole) ∙ sym (cond-true (leb r (min n r)) xs _ (le-leb r (min n r) (omega arith))))
    (cases_lt n r)

module _ (price n m : ℕ) (b : Book) (sell : Order) (best : Some sell ≡ ranked 1 b.sells) (places : List (Option Order)) (st : State) (bought : Turn) (buying : Turned Buy m b places st bought) where
  -- what the turn with the best buy leaves
  abbrev pub bought_from : Book
  bought_from = holding (cut_by m bought.order buying.later) b.sells b

  pub bought_lies : Lies places st bought_from
  bought_lies = buying.lies bought_from refl refl refl refl

  pub crosses : m ≡ min n sell.remaining → (places' : List (Option Order)) (st' : State) (sold : Turn) → Turned Sell bought.tonnes bought_from places' st' sold → (f : Fill) → f ≡ fill_at price bought.order sold.order sold.tonnes → Crossable price n b places' st' f
  crosses m-is places' st' sold selling f is =
      let first = best_some sell b.sells best in
      let same : sold.order ≡ sell = let e : sold.order ∷ selling.later ≡ sell ∷ first.0 = sym selling.are ∙ first.1 in cc in
      let left = ap (λ o. o.remaining) same in
      let q = sold.tonnes in
      let least = buying.tonnes_are in
      let whole = selling.tonnes_are in
      let buy_cut : q ≡ min m bought.order.remaining = omega arith in
      let sell_cut : q ≡ bought.tonnes = omega arith in
      let end = holding (cut_by q bought.order buying.later) (cut_by q sold.order selling.later) b in
      rw is (record {
        buy = bought.order;
        sell = sold.order;
        later_buys = buying.later;
        later_sells = selling.later;
        buys_are = buying.are;
        sells_are = selling.are;
        tonnes_are = omega arith;
        fill_is = refl;
        lies = selling.lies end
            (ap (λ k. cut_by k sold.order selling.later) sell_cut)
            (ap (λ k. cut_by k bought.order buying.later) buy_cut ∙ sym (cut_least m bought.order buying.later))
            refl
            refl;
      })

-- with no order on a side there is no fill
pub no_buys : (b : Book) → b.buys ≡ [] → min (length b.buys) (length b.sells) ≡ 0
no_buys b none = let n = ap length none in omega arith

pub no_sells : (b : Book) → b.sells ≡ [] → min (length b.buys) (length b.sells) ≡ 0
no_sells b none = let n = ap length none in omega arith
