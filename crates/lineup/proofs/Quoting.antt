-- The best price of a call, by a sweep up the prices. Assumes nothing.
use Rattle.std.proofs.Common.{◌≡◌, ℕ, ◌<◌, ◌≤◌, true, false, eqb, List, sym, refl, ap, ◌∙◌, ⊎_elim, arith}
use Rattle.std.proofs.lemmas.Bool.{cond_both, cond-true, cond-false, eq-eqb, ne_eqb, cases_lt, cases_eq}
use Rattle.std.proofs.lemmas.Bool.Decides.{nat_tests}
use Rattle.orders.specs.declared.order.Order.{Order}
use Rattle.plain.specs.Price.{volume, imbalance, BestPrice, best_price, call_price, call_volume}
use Rattle.quotes.specs.declared.quote.Quote.{Quote}
use Rattle.quotes.specs.Quotes.{preferred_to, better}
use Rattle.lineup.specs.Sweeps.{unquoted, BestBelow}

-- the better of two prices, of which the second is no lower
taken_better : (best other : Quote) → best.price ≤ other.price → preferred_to other best ≡ true → (best.volume ≤ other.volume) × (other.volume ≡ best.volume → other.imbalance < best.imbalance)
taken_better best other up t = (grind (arith, nat_tests), grind (arith, nat_tests))

left_better : (best other : Quote) → preferred_to other best ≡ false → (other.volume ≤ best.volume) × (other.volume ≡ best.volume → best.imbalance ≤ other.imbalance)
left_better best other t = (grind (arith, nat_tests), grind (arith, nat_tests))

module _ (dealt gap : ℕ → ℕ) where
  pub best_none : BestBelow dealt gap 1 unquoted
  best_none = record {
    most = λ p l h. absurd (omega arith);
    closest = λ p l h. absurd (omega arith);
    lowest = λ p l h. absurd (omega arith);
    none = λ _. (refl, refl);
    some = λ l. absurd (omega arith);
  }

  -- the prices from the limit on, up to another, deal alike
  pub best_more : (k later : ℕ) (best other : Quote) → BestBelow dealt gap k best → 1 ≤ k → k < later → other.price ≡ k →
      ((p : ℕ) → k ≤ p → p < later → (dealt p ≡ other.volume) × (gap p ≡ other.imbalance)) → BestBelow dealt gap later (better best other)
  best_more k later best other b low up is alike =
      cond_both (preferred_to other best) other best (BestBelow dealt gap later)
      (λ t.
      let taken = taken_better best other (rw is (price_under k best b)) t in
      let here = alike k (omega arith) up in
      record {
        most = λ p l h. ⊎_elim (λ under. let m = b.most p l under in omega arith) (λ over. let a = alike p over h in omega arith) (cases_lt p k);
        closest = λ p l h e. ⊎_elim (λ under. let m = b.most p l under in let c = b.closest p l under in omega arith) (λ over. let a = alike p over h in omega arith) (cases_lt p k);
        lowest = λ p l h e f. ⊎_elim (λ under. let m = b.most p l under in let c = b.closest p l under in omega arith) (λ over. omega arith) (cases_lt p k);
        none = λ e. let n = b.none in absurd (omega arith);
        some = λ l. (omega arith, omega arith, ap dealt is ∙ here.0, ap gap is ∙ here.1);
      })
      (λ t.
      let left = left_better best other t in
      record {
        most = λ p l h. ⊎_elim (λ under. b.most p l under) (λ over. let a = alike p over h in omega arith) (cases_lt p k);
        closest = λ p l h e. ⊎_elim (λ under. b.closest p l under e) (λ over. let a = alike p over h in omega arith) (cases_lt p k);
        lowest = λ p l h e f. ⊎_elim (λ under. b.lowest p l under e f) (λ over. before_it k best b p over) (cases_lt p k);
        none = b.none;
        some = λ l. let s = b.some l in (s.0, omega arith, s.2, s.3);
      })
    where
      price_under : (k : ℕ) (best : Quote) → BestBelow dealt gap k best → best.price ≤ k
      price_under k best b = ⊎_elim (λ e. let z = b.none e in omega arith) (λ ne. let s = b.some (omega arith) in omega arith) (cases_eq best.volume 0)

      before_it : (k : ℕ) (best : Quote) → BestBelow dealt gap k best → (p : ℕ) → k ≤ p → best.price ≤ p
      before_it k best b p over = ⊎_elim (λ e. let z = b.none e in omega arith) (λ ne. let s = b.some (omega arith) in omega arith) (cases_eq best.volume 0)

-- the best price below 100,001 is that of the call
pub quoted : (buys sells : List Order) (q : Quote) → BestPrice buys sells (best_price buys sells) → BestBelow (volume buys sells) (imbalance buys sells) 100001 q →
    (q.price ≡ call_price buys sells) × (q.volume ≡ call_volume buys sells)
quoted buys sells q best b =
    let p = best_price buys sells in
    let low = best.low in
    let high = best.high in
    let most = b.most p low (omega arith) in
    ⊎_elim
    (λ e.
    let n = b.none e in
    let none : volume buys sells p ≡ 0 = omega arith in
    (n.0 ∙ sym (cond-true (eqb (volume buys sells p) 0) 0 p (eq-eqb (volume buys sells p) 0 none)), e ∙ sym none))
    (λ ne.
    let s = b.some (omega arith) in
    let m = best.most q.price s.0 (omega arith) in
    let same : volume buys sells p ≡ q.volume = omega arith in
    let near = b.closest p low (omega arith) same in
    let near' = best.closest q.price s.0 (omega arith) (s.2 ∙ sym same) in
    let first = b.lowest p low (omega arith) same (omega arith) in
    let first' = best.lowest q.price s.0 (omega arith) (s.2 ∙ sym same) (omega arith) in
    let is : q.price ≡ p = omega arith in
    (is ∙ sym (cond-false (eqb (volume buys sells p) 0) 0 p (ne_eqb (volume buys sells p) 0 (λ z. ne (sym same ∙ z)))), sym same))
    (cases_eq q.volume 0)
