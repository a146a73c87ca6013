use Rattle.std.proofs.Common.{◌≡◌, ◌+◌, ◌≤◌, [], get_or, replicate, sym, ap, ◌∙◌, subst, arith}
use Rattle.venue.specs.Caps.{BindsCaps}
use Rattle.layers.specs.Own.{cap_rule, collar_rule}
use Rattle.layers.specs.Stack.{layered, LayerStands}
use Rattle.layers.specs.Caps.{HasHeld, WithinCaps}
use Rattle.piles.specs.Day.{capped_setup, CappedStands}
use Rattle.piles.proofs.day.pile_over.Goals as goal

pub returns : goal.returns
returns g c =
    let setup = g.V.Venue.setup in
    let stands = g.V.Venue.stands in
    let l = c.in_ok-capped.capped in
    let p = c.in_ok-pile.pile in
    let caps = c.in_ok-capped.ensures in
    let collar = c.in_ok-pile.ensures in
    let table : cap_rule l.part.caps ≡ cap_rule (replicate 64 1000) = caps.laid.0 ∙ ap cap_rule c.usual.ensures.caps in
    let limits : collar_rule p.part.low p.part.high ≡ collar_rule 100 300 = collar.laid.0 ∙ (λ i. collar_rule (c.new.ensures.0 i) (c.new.ensures.1 i)) in
    let one : l.height ≡ (setup c.args.book).height + 1 = caps.laid.1 in
    let two : p.height ≡ (setup c.args.book).height + 2 = omega (arith, collar.laid.1, one) in
    let inner : capped_setup setup stands l ≡ layered (cap_rule (replicate 64 1000)) ((setup c.args.book).height + 1) (setup c.args.book) = λ i. layered (table i) (one i) (setup (caps.below i)) in
    let under : stands c.args.book [] → CappedStands setup stands l [] = λ fresh.
    subst (λ x. LayerStands (λ t. HasHeld l.part.held (setup x).rule t × WithinCaps l.part.held l.part.caps) (stands x) l.height (setup x).height []) (sym caps.below) (caps.stands fresh) in
    let over = (λ i. layered (limits i) (two i) (capped_setup setup stands (collar.below i))) ∙ ap (layered (collar_rule 100 300) ((setup c.args.book).height + 2)) inner in
    let fresh = λ (was : stands c.args.book []). subst (λ x. LayerStands (λ t. p.part.low ≤ p.part.high) (CappedStands setup stands x) p.height (capped_setup setup stands x).height []) (sym collar.below) (collar.stands (under was)) in
    let binds = c.binds_as_below.ensures (λ m. get_or (replicate 64 1000) m 0)
    (subst (λ x. BindsCaps (capped_setup setup stands x) (λ m. get_or (replicate 64 1000) m 0)) (sym collar.below) (c.binds_its_caps.ensures (replicate 64 1000) table)) in
    record {
      book = λ low was. record {
        set_up = over ∙ ap (λ h. layered (collar_rule 100 300) (h + 2) (layered (cap_rule (replicate 64 1000)) (h + 1) (setup c.args.book))) low;
        fresh = fresh was;
        binds = binds;
      };
      venue = record {
        room = omega (arith, collar.refused.1, one);
        was_fresh = caps.refused.2;
        set_up = over;
        fresh = fresh;
        binds = binds;
      };
    }
