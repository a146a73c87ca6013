-- One fill in the places is the next fill of the plain book, and leaves what it leaves. Assumes nothing.
use Rattle.std.proofs.Common.{◌≡◌, ℕ, ◌+◌, ◌-◌, ◌<◌, ◌≤◌, min, Bool, true, eqb, ◌≢◌, List, [], ◌∷◌, length, get_or, set, sym, refl, ap, ◌∙◌, subst, ⊎_elim, le_refl, arith, length-set, get_or-set_other, Option, None, Some}
use Rattle.std.proofs.lemmas.Bool.{lt-leb, le-leb, lt-ltb, le-ltb, cases_lt, and_parts}
use Rattle.orders.specs.declared.request.Side.{Side}
use Rattle.orders.specs.declared.request.Side.TheVariants.{Buy, Sell}
use Rattle.orders.specs.declared.order.Order.{Order}
use Rattle.orders.specs.declared.order.Fill.{Fill}
use Rattle.orders.specs.declared.order.Phase.{Phase}
use Rattle.plain.specs.Rule.{Rule, Lawful, with_remaining}
use Rattle.plain.specs.Orders.{keep, within, other}
use Rattle.plain.specs.Dealing.{fill, dealt, names, settled}
use Rattle.plain.specs.Book.{Book, side, resting, dealt_with}
use Rattle.plain.specs.Sound.{AllLive, NotNumbered, Distinct, Sound}
use Rattle.plain.proofs.Sides.{side_dealt}
use Rattle.plain.proofs.StaysSound.{sides_distinct}
use Rattle.plain.proofs.Thinned.{keep_thins, thinned_live}
use Rattle.plain.proofs.Crossing.{cut_first, keep_cut, settled_others, settled_nothing, settled_cut, cross_more}
use Rattle.ranking.specs.Search.{Holds}
use Rattle.matching.specs.declared.dealing.Deal.{Deal}
use Rattle.matching.specs.declared.dealing.Deal.TheVariants.{Entry, Call}
use Rattle.matching.specs.Weights.{Weight, weight, place_weight, SameOrders}
use Rattle.matching.specs.Scans.{same_side}
use Rattle.orders.specs.Entries.{taken}
use Rattle.matching.specs.Deals.{reduced, crossing, EntryTurn, CallTurn, Turn}
use Rattle.matching.proofs.Alike.{same_side_lem}
use Rattle.matching.proofs.Held.{held_set}
use Rattle.matching.proofs.Weighed.{weight_append}
use Rattle.matching.proofs.OnSide.{side_live}
use Rattle.matching.proofs.First.{Heads, found_first}
use Rattle.matching.proofs.ByTurn.{fills_of, fills_more}
use Rattle.matching.proofs.Running.{fill_tonnes}

-- the fills that are still to come of a deal
abbrev pub to_come : Deal → ℕ → Book → List Fill
to_come (Entry o) left c = fills_of o.side o left (keep (within o.side o.price) (side (other o.side) c))
to_come (Call price) left c = dealt (λ _ _. price) left (keep (within Sell price) c.buys) (keep (within Buy price) c.sells)

-- an entry's order has a number of its own
abbrev pub New : Deal → Book → Type 0
New (Entry o) c = NotNumbered o.number (side o.side c)
New (Call price) c = Unit {0}

-- the book after fills, and the fills that are still to come of it
pub record NextFill (d : Deal) (left : ℕ) (c : Book) (phase : Phase) (next : ℕ) (qs : List (Option Order)) (f : Fill) : Type 0 where
  pub orders : SameOrders qs (dealt_with phase next (f ∷ []) c)
  pub fills : to_come d left c ≡ f ∷ to_come d (left - f.quantity) (dealt_with phase next (f ∷ []) c)

cut_weight : (w : Weight) (q : ℕ) (x : Order) (xs : List Order) → weight w (cut_first q x xs) + w x ≡ weight w (x ∷ xs) + place_weight w (reduced x q)
cut_weight w q x xs =
    ⊎_elim
    (λ part. rw (lt-leb x.remaining q part, lt-ltb q x.remaining part) (omega arith))
    (λ whole. rw (le-leb x.remaining q whole, le-ltb q x.remaining whole) (omega arith))
    (cases_lt q x.remaining)

both_sides : (w : Weight) (s : Side) (c : Book) → weight w (resting c) ≡ weight w (side s c) + weight w (side (other s) c)
both_sides w Buy c = weight_append w c.buys c.sells
both_sides w Sell c = omega (arith, weight_append w c.buys c.sells)

keep_live : (t : Side) (next : ℕ) (f : Order → Bool) (xs : List Order) → AllLive t next xs → AllLive t next (keep f xs)
keep_live t next f xs live = thinned_live t next next (le_refl next) (keep_thins f xs) live

still_within : (s : Side) (limit : ℕ) (x : Order) → within s limit x ≡ true → (k : ℕ) → within s limit (with_remaining x k) ≡ true
still_within Buy limit x h k = h
still_within Sell limit x h k = h

-- the first order of a side dealt with
module _ (rule : Rule) (s : Side) (limit : ℕ) (c : Book) (sound : Sound rule c) (x : Order) (head : Heads rule s limit c x) (f : Fill) (named : (n : ℕ) → names (other s) n f ≡ eqb x.number n) where
  head_live : AllLive (other s) c.next (x ∷ head.rest)
  head_live = subst (AllLive (other s) c.next) head.are (side_live c sound (other s))

  head_apart : NotNumbered x.number head.rest
  head_apart = (subst Distinct head.are (sides_distinct sound (other s))).0

  head_settled : settled (other s) (f ∷ []) (side (other s) c) ≡ cut_first f.quantity x head.rest
  head_settled = ap (settled (other s) (f ∷ [])) head.are ∙ settled_cut (other s) (other s) c.next f x head.rest named head_live.1 head_apart

  head_kept : keep (within s limit) (side (other s) c) ≡ x ∷ keep (within s limit) head.rest
  head_kept = ap (keep (within s limit)) head.are ∙ rw head.passes

  head_kept_after : keep (within s limit) (settled (other s) (f ∷ []) (side (other s) c)) ≡ cut_first f.quantity x (keep (within s limit) head.rest)
  head_kept_after = ap (keep (within s limit)) head_settled ∙ keep_cut (within s limit) f.quantity x head.rest (still_within s limit x head.passes)

names_theirs : (s : Side) (o x : Order) (q m : ℕ) → names (other s) m (taken s o x q) ≡ eqb x.number m
names_theirs Buy o x q m = refl
names_theirs Sell o x q m = refl

names_own : (s : Side) (o x : Order) (q m : ℕ) → names s m (taken s o x q) ≡ eqb o.number m
names_own Buy o x q m = refl
names_own Sell o x q m = refl

module _ {rule : Rule} (c : Book) (sound : Sound rule c) (ps : List (Option Order)) (orders : SameOrders ps c) (phase : Phase) (next left : ℕ) (some : 1 ≤ left) where
  module _ (s : Side) (limit : ℕ) (o : Order) (i : ℕ) (x : Order) (q : ℕ) (head : Heads rule s limit c x) where
    abbrev F : Fill
    F = taken s o x q

    abbrev D : Book
    D = dealt_with phase next (F ∷ []) c

    theirs : side (other s) D ≡ cut_first q x head.rest
    theirs =
        side_dealt (other s) phase next (F ∷ []) c ∙ head_settled rule s limit c sound x head F (names_theirs s o x q) ∙
        ap (λ k. cut_first k x head.rest) (fill_tonnes s o x q)

    own : NotNumbered o.number (side s c) → side s D ≡ side s c
    own new =
        side_dealt s phase next (F ∷ []) c ∙ settled_others s o.number F [] (names_own s o x q) (side s c) new ∙
        settled_nothing s s c.next (side s c) (side_live c sound s)

    entry_weighs : NotNumbered o.number (side s c) → i < length ps → Holds ps i x → SameOrders (set ps i (reduced x q)) D
    entry_weighs new inside holds w =
        omega (
          arith,
          held_set w ps i (reduced x q) inside,
          ap (place_weight w) holds,
          orders w,
          both_sides w s c,
          both_sides w s D,
          ap (weight w) (own new),
          ap (weight w) theirs,
          ap (weight w) head.are,
          cut_weight w q x head.rest,
        )

    entry_follows : q ≡ min left x.remaining →
        fills_of s o left (keep (within s limit) (side (other s) c)) ≡ F ∷ fills_of s o (left - F.quantity) (keep (within s limit) (side (other s) D))
    entry_follows is =
        let rest = keep (within s limit) head.rest in
        let live = head_live rule s limit c sound x head F (names_theirs s o x q) in
        let kept : keep (within s limit) (side (other s) D) ≡ cut_first q x rest =
        ap (keep (within s limit)) theirs ∙ keep_cut (within s limit) q x head.rest (still_within s limit x head.passes) in
        ap (fills_of s o left) (head_kept rule s limit c sound x head F (names_theirs s o x q)) ∙
        fills_more s o c.next left q x rest some live.0.some_remains (keep_live (other s) c.next (within s limit) head.rest live.1) is ∙
        ap (λ zs. F ∷ fills_of s o (left - q) zs) (sym kept) ∙ ap (λ k. F ∷ fills_of s o (left - k) (keep (within s limit) (side (other s) D))) (sym (fill_tonnes s o x q))

  module _ (price i k : ℕ) (x y : Order) (q : ℕ) (buy : Heads rule Sell price c x) (sell : Heads rule Buy price c y) where
    abbrev G : Fill
    G = fill (λ _ _. price) x y q

    abbrev E : Book
    E = dealt_with phase next (G ∷ []) c

    bought : E.buys ≡ cut_first q x buy.rest
    bought = head_settled rule Sell price c sound x buy G (λ _. refl)

    sold : E.sells ≡ cut_first q y sell.rest
    sold = head_settled rule Buy price c sound y sell G (λ _. refl)

    call_weighs : i < length ps → Holds ps i x → k < length ps → Holds ps k y → k ≢ i → SameOrders (set (set ps i (reduced x q)) k (reduced y q)) E
    call_weighs inside holds inside' holds' apart w =
        let there : k < length (set ps i (reduced x q)) = omega (arith, length-set ps i (reduced x q)) in
        let still : get_or (set ps i (reduced x q)) k None ≡ Some y = rw get_or-set_other holds' in
        omega (
          arith,
          held_set w ps i (reduced x q) inside,
          ap (place_weight w) holds,
          held_set w (set ps i (reduced x q)) k (reduced y q) there,
          ap (place_weight w) still,
          orders w,
          both_sides w Buy c,
          both_sides w Buy E,
          ap (weight w) bought,
          ap (weight w) sold,
          ap (weight w) buy.are,
          ap (weight w) sell.are,
          cut_weight w q x buy.rest,
          cut_weight w q y sell.rest,
        )

    call_follows : q ≡ crossing left x y → to_come (Call price) left c ≡ G ∷ to_come (Call price) (left - q) E
    call_follows is =
        let xs = keep (within Sell price) buy.rest in
        let ys = keep (within Buy price) sell.rest in
        let live = head_live rule Sell price c sound x buy G (λ _. refl) in
        let live' = head_live rule Buy price c sound y sell G (λ _. refl) in
        let kept : keep (within Sell price) E.buys ≡ cut_first q x xs = head_kept_after rule Sell price c sound x buy G (λ _. refl) in
        let kept' : keep (within Buy price) E.sells ≡ cut_first q y ys = head_kept_after rule Buy price c sound y sell G (λ _. refl) in
        ap (λ bs. dealt (λ _ _. price) left bs (keep (within Buy price) c.sells)) (head_kept rule Sell price c sound x buy G (λ _. refl)) ∙
        ap (dealt (λ _ _. price) left (x ∷ xs)) (head_kept rule Buy price c sound y sell G (λ _. refl)) ∙
        cross_more (λ _ _. price) (record { buyer = λ _ _ _. refl; seller = λ _ _ _. refl }) c.next left q x y xs ys some live.0.some_remains
        (keep_live Sell c.next (within Buy price) sell.rest live'.1) (omega arith) ∙
        ap (λ bs. G ∷ dealt (λ _ _. price) (left - q) bs (cut_first q y ys)) (sym kept) ∙
        ap (λ ss. G ∷ dealt (λ _ _. price) (left - q) (keep (within Sell price) E.buys) ss) (sym kept')

-- a buy and a sell lie in different places
sides_differ : (ps : List (Option Order)) (i k : ℕ) (x y : Order) → Holds ps i x → Holds ps k y → same_side Buy x.side ≡ true → same_side Sell y.side ≡ true → k ≢ i
sides_differ ps i k x y holds holds' bx sy e =
    let at : Holds ps i y = subst (λ j. Holds ps j y) e holds' in
    let same : x.side ≡ y.side = cc in
    let both : Buy ≡ Sell = same_side_lem Buy x.side bx ∙ same ∙ sym (same_side_lem Sell y.side sy) in
    let z : ◌≡◌ {A = ℕ} 0 1 = cc in
    omega arith

module _ {rule : Rule} (law : Lawful rule) (c : Book) (sound : Sound rule c) (ps qs : List (Option Order)) (orders : SameOrders ps c) (phase : Phase) (next left : ℕ) (some : 1 ≤ left) where
  entry_turn : (o : Order) (f : Fill) → NotNumbered o.number (side o.side c) → EntryTurn rule o left ps qs f → NextFill (Entry o) left c phase next qs f
  entry_turn o f new t =
      let x = t.found.1 in
      let q = min left x.remaining in
      let head = found_first law ps c sound orders o.side o.price t.found t.first in
      subst (λ g. NextFill (Entry o) left c phase next qs g) (sym t.fill_is)
      (subst (λ rs. NextFill (Entry o) left c phase next rs (taken o.side o x q)) (sym t.places_are)
      (record {
        orders = entry_weighs c sound ps orders phase next left some o.side o.price o t.found.0 x q head new t.first.0 t.first.1;
        fills = entry_follows c sound ps orders phase next left some o.side o.price o t.found.0 x q head refl;
      }))

  call_turn : (price : ℕ) (f : Fill) → CallTurn rule price left ps qs f → NextFill (Call price) left c phase next qs f
  call_turn price f t =
      let x = t.buy.1 in
      let y = t.sell.1 in
      let q = crossing left x y in
      let buy = found_first law ps c sound orders Sell price t.buy t.first_buy in
      let sell = found_first law ps c sound orders Buy price t.sell t.first_sell in
      let apart = sides_differ ps t.buy.0 t.sell.0 x y t.first_buy.1 t.first_sell.1
      (and_parts (same_side Buy x.side) (within Sell price x) t.first_buy.2).0 (and_parts (same_side Sell y.side) (within Buy price y) t.first_sell.2).0 in
      subst (λ g. NextFill (Call price) left c phase next qs g) (sym t.fill_is)
      (subst (λ rs. NextFill (Call price) left c phase next rs (fill (λ _ _. price) x y q)) (sym t.places_are)
      (record {
        orders = call_weighs c sound ps orders phase next left some price t.buy.0 t.sell.0 x y q buy sell t.first_buy.0 t.first_buy.1 t.first_sell.0 t.first_sell.1 apart;
        fills = call_follows c sound ps orders phase next left some price t.buy.0 t.sell.0 x y q buy sell refl;
      }))

  pub next_fill : (d : Deal) (f : Fill) → New d c → Turn rule d left ps qs f → NextFill d left c phase next qs f
  next_fill (Entry o) f new t = entry_turn o f new t
  next_fill (Call price) f new t = call_turn price f t
