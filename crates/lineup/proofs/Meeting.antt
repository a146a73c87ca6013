-- The orders that a sweep meets, by their places. Assumes nothing.
use Rattle.std.proofs.Common.{◌≡◌, ℕ, ◌+◌, ◌-◌, ◌^◌, ◌<◌, min, List, [], ◌∷◌, ◌++◌, reverse, length, get_or, replicate, sym, refl, ap, ◌∙◌, append_assoc, arith, length-append, Option, None, Some}
use mathlib.Core.List.{reverse-cons}
use lib.ListN.{length-map, length-reverse}
use Rattle.std.proofs.lemmas.List.{map-append, get_or_at, nil_from_length}
use Rattle.orders.specs.declared.request.Side.TheVariants.{Buy, Sell}
use Rattle.orders.specs.declared.order.Order.{Order}
use Rattle.plain.specs.Rule.{Rule, Lawful}
use Rattle.plain.specs.Price.{demand}
use Rattle.plain.specs.Book.{Book}
use Rattle.plain.specs.Sound.{Sound}
use Rattle.lineup.specs.declared.state.State.{State}
use Rattle.lineup.specs.declared.sweep.Sweep.{Sweep}
use Rattle.lineup.specs.Layout.{held}
use Rattle.lineup.specs.Lying.{Lies}
use Rattle.lineup.specs.Sweeps.{SweptBy}
use Rattle.lineup.proofs.Laying.{gap_left}
use Rattle.lineup.proofs.Sweeping.{sweep_from, swept_none}

held_reverse : (os : List Order) → reverse (held os) ≡ held (reverse os)
held_reverse [] = refl
held_reverse (o ∷ os) =
    reverse-cons (Some o) (held os) ∙ ap (λ v. v ++ Some o ∷ []) (held_reverse os) ∙ sym (map-append Some (reverse os) (o ∷ [])) ∙ ap held (sym (reverse-cons o os))

module _ (places : List (Option Order)) (s : State) (b : Book) (l : Lies places s b) where
  -- the buys lie from the front, the lowest first
  pub buy_at : (below : List Order) (x : Order) (later : List Order) → reverse b.buys ≡ below ++ x ∷ later → get_or places (length below) None ≡ Some x
  buy_at below x later are =
      let rest = replicate l.gap None ++ held b.sells in
      ap (λ v. get_or v (length below) None)
      (l.laid Sell ∙ ap (λ v. v ++ rest) (held_reverse b.buys ∙ ap held are ∙ map-append Some below (x ∷ later)) ∙ append_assoc (held below) (held (x ∷ later)) rest) ∙
      get_or_at (held below) (Some x) (held later ++ rest) None (length below) (simp length-map)

  pub buy_there : (below above : List Order) → reverse b.buys ≡ below ++ above → length below < s.buys → (x : Order) × ((later : List Order) × ((above ≡ x ∷ later) × (get_or places (length below) None ≡ Some x)))
  buy_there below [] are h =
      let n = sym (length-append below []) ∙ ap length (sym are) ∙ length-reverse b.buys in
      let c = l.counts Buy in
      absurd (omega arith)
  buy_there below (x ∷ later) are h = (x, (later, (refl, buy_at below x later are)))

  pub buys_few : (below above : List Order) → reverse b.buys ≡ below ++ above → length below + length above ≡ s.buys
  buys_few below above are = sym (length-append below above) ∙ ap length (sym are) ∙ length-reverse b.buys ∙ sym (l.counts Buy)

-- a sweep before the sells that lie in the rest of the places
pub record SweptTo (b : Book) (rest : List (Option Order)) (w : Sweep) : Type 0 where
  pub sold : List Order
  pub unsold : List Order
  pub lie : rest ≡ held unsold
  pub swept : SweptBy b sold unsold w

pub swept_to_none : (places : List (Option Order)) (s : State) (b : Book) → Lies places s b → (rule : Rule) → Lawful rule → Sound rule b → (bought : ℕ) → bought ≡ min (demand b.buys b.sells 1) (2 ^ 32 - 1) →
    (rest : List (Option Order)) → rest ≡ held b.sells → SweptTo b rest (sweep_from s.buys bought)
swept_to_none places s b l rule lawful sound bought is rest lie =
    let buys = l.counts Buy in
    let sells = l.counts Sell in
    let few = gap_left places s b l Sell in
    let small = l.small in
    record {
      sold = [];
      unsold = b.sells;
      lie = lie;
      swept = record { below = []; above = reverse b.buys; swept = swept_none rule lawful b sound (omega arith) (omega arith) s.buys bought buys is };
    }

module _ (b : Book) (place : Option Order) (rest : List (Option Order)) (w w' : Sweep) where
  passed : (sold unsold : List Order) → place ∷ rest ≡ held unsold → SweptBy b sold unsold w →
      ((y : Order) (later : List Order) → place ≡ Some y → SweptBy b sold (y ∷ later) w → SweptBy b (sold ++ y ∷ []) later w') → SweptTo b rest w'
  passed sold [] lie swept pass = let n = ap length lie in absurd (omega arith)
  passed sold (y ∷ later) lie swept pass = record { sold = sold ++ y ∷ []; unsold = later; lie = cc; swept = pass y later (cc) swept }

  pub swept_to_more : (all : List (Option Order)) (t : SweptTo b all w) → all ≡ place ∷ rest →
      ((y : Order) (later : List Order) → place ≡ Some y → SweptBy b t.sold (y ∷ later) w → SweptBy b (t.sold ++ y ∷ []) later w') → SweptTo b rest w'
  swept_to_more all t are = passed t.sold t.unsold (sym are ∙ t.lie) t.swept

pub swept_to_all : (b : Book) (rest : List (Option Order)) (w : Sweep) (t : SweptTo b rest w) → rest ≡ [] → t.unsold ≡ []
swept_to_all b rest w t e =
    let n : 0 ≡ length t.unsold = ap length (sym e ∙ t.lie) ∙ simp length-map in
    nil_from_length t.unsold (omega arith)

pub vacant_holds : {P : Type 0} {x : Order} → None ≡ Some x → P
vacant_holds e = let z : ◌≡◌ {A = ℕ} 0 1 = cc in absurd (omega arith)

pub holds_same : {x y : Order} → Some x ≡ Some y → x ≡ y
holds_same e = cc
