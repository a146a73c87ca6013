-- Fills agree with two lists of live orders exactly when they are those that the lists deal. Assumes nothing.
use Rattle.std.proofs.Common.{◌≡◌, ℕ, ◌-◌, Bool, true, false, not, ◌&&◌, eqb, leb, ◌⊎◌, List, [], ◌∷◌, is_some, Some, None, Decides, sym, refl, ap, ◌∙◌, inl, inr, ⊎_elim, arith}
use Rattle.std.proofs.lemmas.Bool.{cond-true, cond-false, cond_both, eq-eqb, ne_eqb, eqb-true, leb-false, cases_eq, and_parts, and_from, both_ways}
use Rattle.std.proofs.lemmas.Bool.Decides.{Decides-at}
use Rattle.orders.specs.declared.request.Side.{Side}
use Rattle.orders.specs.declared.request.Side.TheVariants.{Buy, Sell}
use Rattle.orders.specs.declared.order.Order.{Order}
use Rattle.orders.specs.declared.order.Fill.{Fill}
use Rattle.plain.specs.Rule.{with_remaining}
use Rattle.plain.specs.Dealing.{Pricing, fill, dealt}
use Rattle.plain.specs.Sound.{AllLive}
use Rattle.plain.proofs.Crossing.{BlindPricing, cross_more, dealt_nothing, dealt_unsold}
use Rattle.replay.specs.Lists.{head_of, cut_list}
use Rattle.replay.specs.Fills.{same_fill, is_fill, crossing, first_fill, agrees}

same_fill_lem : (f g : Fill) → same_fill f g ≡ true → f ≡ g
same_fill_lem f g e =
    let a = and_parts (eqb f.buy g.buy) _ e in
    let b = and_parts (eqb f.sell g.sell) _ a.1 in
    let c = and_parts (eqb f.buyer g.buyer) _ b.1 in
    let d = and_parts (eqb f.seller g.seller) _ c.1 in
    let h = and_parts (eqb f.price g.price) _ d.1 in
    let buy = eqb-true f.buy g.buy a.0 in
    let sell = eqb-true f.sell g.sell b.0 in
    let buyer = eqb-true f.buyer g.buyer c.0 in
    let seller = eqb-true f.seller g.seller d.0 in
    let price = eqb-true f.price g.price h.0 in
    let quantity = eqb-true f.quantity g.quantity h.1 in
    λ i. record { buy = buy i; sell = sell i; buyer = buyer i; seller = seller i; price = price i; quantity = quantity i }

fill_itself : (f : Fill) → same_fill f f ≡ true
fill_itself f =
    rw (eq-eqb f.buy f.buy refl, eq-eqb f.sell f.sell refl, eq-eqb f.buyer f.buyer refl, eq-eqb f.seller f.seller refl, eq-eqb f.price f.price refl, eq-eqb f.quantity f.quantity refl)

-- a list begins with the fill that comes next, and goes on as it should
decides_next : (f g : Fill) (fs all : List Fill) (rest : Fill → List Fill) (after : Bool) → all ≡ g ∷ rest g → Decides after (fs ≡ rest f) → Decides (same_fill f g && after) (f ∷ fs ≡ all)
decides_next f g fs all rest after is later = (
  (λ e.
      let both = and_parts (same_fill f g) after e in
      let same = same_fill_lem f g both.0 in
      ap (λ x. x ∷ fs) same ∙ ap (λ ys. g ∷ ys) (later.0 both.1 ∙ ap rest same) ∙ sym is),
  (λ e.
      let split : f ∷ fs ≡ g ∷ rest g = e ∙ is in
      let same : f ≡ g = cc in
      let on : fs ≡ rest g = cc in
      and_from (same_fill f g) after (ap (same_fill f) (sym same) ∙ fill_itself f) (later.1 (on ∙ ap rest (sym same)))),
)

-- what is left of live orders is live
pub live_cut : (s : Side) (next q : ℕ) (os : List Order) → AllLive s next os → AllLive s next (cut_list q os)
live_cut s next q [] live = tt
live_cut s next q (x ∷ xs) live =
    cond_both (leb x.remaining q) xs (with_remaining x (x.remaining - q) ∷ xs) (AllLive s next) (λ _. live.1)
    (λ part. let more = leb-false x.remaining q part in (
      record {
        of_side = live.0.of_side;
        numbered = live.0.numbered;
        some_remains = omega arith;
        no_more_than_entered = omega (arith, live.0.no_more_than_entered);
        quantity_high = live.0.quantity_high;
        price_low = live.0.price_low;
        price_high = live.0.price_high;
        member_high = live.0.member_high;
      },
      live.1,
    ))

-- nothing is dealt, or a first fill and then the rest
record Ended (price : Pricing) (n : ℕ) (bs ss : List Order) : Type 0 where
  pub none : first_fill price n (head_of bs) (head_of ss) ≡ None
  pub nothing : dealt price n bs ss ≡ []

record Going (price : Pricing) (n : ℕ) (bs ss : List Order) : Type 0 where
  pub one : Fill
  pub first : first_fill price n (head_of bs) (head_of ss) ≡ Some one
  pub rest : dealt price n bs ss ≡ one ∷ dealt price (n - one.quantity) (cut_list one.quantity bs) (cut_list one.quantity ss)

module _ (price : Pricing) (blind : BlindPricing price) (next : ℕ) where
  first_of : (n : ℕ) (bs ss : List Order) → AllLive Buy next bs → AllLive Sell next ss → Ended price n bs ss ⊎ Going price n bs ss
  first_of n [] ss live live' = inl (record { none = refl; nothing = refl })
  first_of n (b ∷ bs) [] live live' = inl (record { none = refl; nothing = dealt_unsold price n (b ∷ bs) })
  first_of n (b ∷ bs) (s ∷ ss) live live' =
      let q = crossing n b s in
      let one = fill price b s q in
      ⊎_elim
      (λ z. inl (record { none = cond-true (eqb n 0) None (Some one) (eq-eqb n 0 z); nothing = dealt_nothing price n (b ∷ bs) (s ∷ ss) z }))
      (λ some. inr (record {
        one = one;
        first = cond-false (eqb n 0) None (Some one) (ne_eqb n 0 some);
        rest = cross_more price blind next n q b s bs ss (omega arith) live.0.some_remains live'.1 (omega arith);
      }))
      (cases_eq n 0)

  pub agrees_decides : (n : ℕ) (bs ss : List Order) (fs : List Fill) → AllLive Buy next bs → AllLive Sell next ss → Decides (agrees price n bs ss fs) (fs ≡ dealt price n bs ss)
  agrees_decides n bs ss [] live live' =
      ⊎_elim
      (λ ended. Decides-at (agrees price n bs ss []) true (ap (λ x. not (is_some x)) ended.none) ((λ _. sym ended.nothing), (λ _. refl)))
      (λ going. Decides-at (agrees price n bs ss []) false (ap (λ x. not (is_some x)) going.first) (
        (λ e. absurd (both_ways false refl e)),
        (λ e. let clash : [] ≡ going.one ∷ dealt price (n - going.one.quantity) (cut_list going.one.quantity bs) (cut_list going.one.quantity ss) = e ∙ going.rest in cc),
      ))
      (first_of n bs ss live live')
  agrees_decides n bs ss (f ∷ fs) live live' =
      let q = f.quantity in
      let later = agrees_decides (n - q) (cut_list q bs) (cut_list q ss) fs (live_cut Buy next q bs live) (live_cut Sell next q ss live') in
      let after = agrees price (n - q) (cut_list q bs) (cut_list q ss) fs in
      ⊎_elim
      (λ ended. Decides-at (agrees price n bs ss (f ∷ fs)) false (ap (λ x. is_fill f x && after) ended.none) (
        (λ e. absurd (both_ways false refl e)),
        (λ e. let clash : f ∷ fs ≡ [] = e ∙ ended.nothing in cc),
      ))
      (λ going. Decides-at (agrees price n bs ss (f ∷ fs)) (same_fill f going.one && after) (ap (λ x. is_fill f x && after) going.first)
      (decides_next f going.one fs (dealt price n bs ss) (λ x. dealt price (n - x.quantity) (cut_list x.quantity bs) (cut_list x.quantity ss)) after going.rest later))
      (first_of n bs ss live live')
