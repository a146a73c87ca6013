-- Tonnes dealt from the front of two lists meet the match laws, and no other list of fills does. Assumes nothing.
use Rattle.std.proofs.Common.{ℕ, ◌≤◌, List, arith}
use Rattle.orders.specs.declared.request.Side.TheVariants.{Buy, Sell}
use Rattle.orders.specs.declared.order.Order.{Order}
use Rattle.plain.specs.Rule.{Rule, Lawful, InSequence}
use Rattle.plain.specs.Orders.{total}
use Rattle.plain.specs.Dealing.{Pricing, takes, dealt}
use Rattle.plain.specs.Matching.{MatchLaws}
use Rattle.plain.specs.Matched.{OneList}
use Rattle.plain.specs.Sound.{AllLive, Distinct}
use Rattle.plain.proofs.Portions.{takes_all}
use Rattle.plain.proofs.Given.{given_of, dealt_tonnes}
use Rattle.plain.proofs.OneSide.{Fair}
use Rattle.plain.proofs.Unique.{one_list}
use Rattle.plain.proofs.Cut.{takes_some, takes_placed}
use Rattle.plain.proofs.Fair.{takes_fair}
use Rattle.plain.proofs.Deals.{Deals, paired_deals, deals_between, deals_onward}

module _ (rule : Rule) (lawful : Lawful rule) (price : Pricing) (next n : ℕ) (buyers sellers : List Order)
    (live : AllLive Buy next buyers) (live' : AllLive Sell next sellers) (distinct : Distinct buyers) (distinct' : Distinct sellers)
    (sequence : InSequence rule buyers) (sequence' : InSequence rule sellers) (high : n ≤ total buyers) (high' : n ≤ total sellers) where
  deals : Deals price (takes n buyers) (takes n sellers) (dealt price n buyers sellers)
  deals =
      let bought = takes_all n buyers in
      let sold = takes_all n sellers in
      paired_deals price n (takes n buyers) (takes n sellers) (omega arith) (omega arith) (takes_some Buy next n buyers live)
      (takes_some Sell next n sellers live')

  dealt_laws : MatchLaws rule price n buyers sellers (dealt price n buyers sellers)
  dealt_laws =
      let placed = takes_placed rule buyers n buyers (λ _ m. m) sequence in
      let placed' = takes_placed rule sellers n sellers (λ _ m. m) sequence' in
      let fair : Fair Buy rule buyers (dealt price n buyers sellers) =
      takes_fair rule lawful Buy n buyers distinct sequence (dealt price n buyers sellers) (given_of price n buyers sellers high high' Buy) in
      let fair' : Fair Sell rule sellers (dealt price n buyers sellers) =
      takes_fair rule lawful Sell n sellers distinct' sequence' (dealt price n buyers sellers) (given_of price n buyers sellers high high' Sell) in
      record {
        between = deals_between rule buyers sellers deals placed placed';
        buys_fit = fair.fits;
        sells_fit = fair'.fits;
        sums = dealt_tonnes price n buyers sellers high high';
        buys_in_turn = fair.turn;
        sells_in_turn = fair'.turn;
        onward = deals_onward rule buyers sellers lawful distinct distinct' deals placed placed';
      }

pub one_list_of_fills : (rule : Rule) → Lawful rule → (price : Pricing) (next n : ℕ) (buyers sellers : List Order) →
    AllLive Buy next buyers → AllLive Sell next sellers → Distinct buyers → Distinct sellers →
    InSequence rule buyers → InSequence rule sellers → n ≤ total buyers → n ≤ total sellers →
    OneList (MatchLaws rule price n buyers sellers) (dealt price n buyers sellers)
one_list_of_fills rule lawful price next n buyers sellers live live' distinct distinct' sequence sequence' high high' =
    let laws = dealt_laws rule lawful price next n buyers sellers live live' distinct distinct' sequence sequence' high high' in
    record { meets = laws; only = λ fs laws'. one_list rule price buyers sellers lawful distinct distinct' n sequence sequence' fs (dealt price n buyers sellers) laws' laws }
