use Rattle.std.proofs.Common.{◌≡◌, ◌∷◌, ◌++◌, length, get_or, sym, ap, ◌∙◌, arith, None}
use Rattle.lineup.proofs.Meeting.{buy_at, buy_there, buys_few, vacant_holds, holds_same}
use Rattle.lineup.proofs.lineup.Lineup.next_buy.Goals as goal

pub returns-then-buy-limit : goal.returns-then-buy-limit
returns-then-buy-limit g c = record {
  some = omega (arith, c.if-left-eq0.false);
  next = λ b below above l are at.
      let n = buys_few _ _ b l below above are in
      let found = buy_there _ _ b l below above are (omega (arith, at, c.if-left-eq0.false)) in
      let place : c.saturating_sub-place.result ≡ length below = omega (arith, c.saturating_sub-place.ensures, at) in
      let same = holds_same (c.in_ok-buy.ensures ∙ ap (λ k. get_or (g.L.Places.contents c.args.self.now.mirrored.list) k None) place ∙ found.1.1.1) in
      (found.1.0, (found.1.1.0 ∙ ap (λ o. o ∷ found.1.0) (sym same), c.if-buy-limit.true));
}

pub returns-else-buy-limit : goal.returns-else-buy-limit
returns-else-buy-limit g c = record {
  some = tt;
  next = λ b below above l are at x later is.
      let n = buys_few _ _ b l below above are in
      let found = buy_at _ _ b l below x later (are ∙ ap (λ os. below ++ os) is) in
      let place : c.saturating_sub-place.result ≡ length below = omega (arith, c.saturating_sub-place.ensures, at) in
      let same = ap (λ o. o.price) (holds_same (c.in_ok-buy.ensures ∙ ap (λ k. get_or (g.L.Places.contents c.args.self.now.mirrored.list) k None) place ∙ found)) in
      omega (arith, same, c.if-buy-limit.false);
}

pub returns-in_err-buy : goal.returns-in_err-buy
returns-in_err-buy g c = rw c.from_residual.ensures (record {
  some = tt;
  next = λ b below above l are at x later is.
      let n = buys_few _ _ b l below above are in
      let found = buy_at _ _ b l below x later (are ∙ ap (λ os. below ++ os) is) in
      let place : c.saturating_sub-place.result ≡ length below = omega (arith, c.saturating_sub-place.ensures, at) in
      vacant_holds (c.in_err-buy.ensures ∙ ap (λ k. get_or (g.L.Places.contents c.args.self.now.mirrored.list) k None) place ∙ found);
})
