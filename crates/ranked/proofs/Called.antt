-- A call's fills, one after another. Assumes nothing.
use Rattle.std.proofs.Common.{◌≡◌, ℕ, ◌+◌, ◌-◌, ◌<◌, ◌≤◌, min, Bool, eqb, leb, List, [], ◌∷◌, ◌++◌, length, drop, take, set, None, sym, refl, ap, ◌∙◌, subst, ⊎_elim, append_assoc, arith, length-append, Option}
use Rattle.std.proofs.lemmas.List.{length_push}
use Rattle.std.proofs.lemmas.Bool.{cond_both, leb-true, leb-false, cases_eq}
use Rattle.orders.specs.declared.request.Side.{Side}
use Rattle.orders.specs.declared.request.Side.TheVariants.{Buy, Sell}
use Rattle.orders.specs.declared.request.Request.TheVariants.{Call}
use Rattle.orders.specs.declared.answer.Answer.TheVariants.{Called as AsCalled}
use Rattle.orders.specs.declared.order.Order.{Order}
use Rattle.orders.specs.declared.order.Fill.{Fill}
use Rattle.orders.specs.declared.order.Phase.TheVariants.{Dealing}
use Rattle.plain.specs.Rule.{Rule, Lawful, with_remaining}
use Rattle.plain.specs.Orders.{keep, total, within}
use Rattle.plain.specs.Dealing.{takes, paired, names, dealt, settled}
use Rattle.plain.specs.Price.{call_price, call_volume}
use Rattle.plain.specs.Book.{Book, side, dealt_with, call_buyers, call_fills}
use Rattle.plain.specs.Sound.{AllLive, Distinct, Sound}
use Rattle.plain.specs.Gate.{refused_by}
use Rattle.plain.proofs.Call.{call_fits}
use Rattle.plain.proofs.FewFills.{fills_are_few}
use Rattle.lineup.specs.declared.state.State.{State}
use Rattle.lineup.specs.Lying.{Lies}
use Rattle.ranked.specs.Handling.{Accepted}
use Rattle.ranked.specs.ByTurns.{cut_by}
use Rattle.ranked.specs.Crossings.{holding, Crossable, Crossed}
use Rattle.lineup.proofs.Laying.{on_both, relabelled, gap_left}
use Rattle.ranked.proofs.Turning.{none_taken, settled_nothing, takes_within}
use Rattle.ranked.proofs.Filling.{filled_more, filled_all, written_part}
use Rattle.ranked.proofs.Crossing.{settled_first, cross_more}

-- a side while n tonnes are to be dealt: the fills to come leave of it what all of them leave of the side as it was
pub record Left (t : Side) (next n : ℕ) (fs goal : List Fill) (was os : List Order) : Type 0 where
  pub live : AllLive t next os
  pub apart : Distinct os
  pub enough : n ≤ total os
  pub leaves : settled t fs os ≡ settled t goal was

cut_live : (t : Side) (next q : ℕ) (x : Order) (xs : List Order) → AllLive t next (x ∷ xs) → AllLive t next (cut_by q x xs)
cut_live t next q x xs live =
    let o = live.0 in
    cond_both (leb x.remaining q) xs (with_remaining x (x.remaining - q) ∷ xs) (AllLive t next) (λ _. live.1)
    (λ part. let some = leb-false x.remaining q part in (
      record {
        of_side = o.of_side;
        numbered = o.numbered;
        some_remains = omega arith;
        no_more_than_entered = let h = o.no_more_than_entered in omega arith;
        quantity_high = o.quantity_high;
        price_low = o.price_low;
        price_high = o.price_high;
        member_high = o.member_high;
      },
      live.1,
    ))

cut_apart : (q : ℕ) (x : Order) (xs : List Order) → Distinct (x ∷ xs) → Distinct (cut_by q x xs)
cut_apart q x xs d = cond_both (leb x.remaining q) xs (with_remaining x (x.remaining - q) ∷ xs) Distinct (λ _. d.1) (λ _. d)

cut_total : (n q : ℕ) (x : Order) (xs : List Order) → q ≤ x.remaining → n ≤ total (x ∷ xs) → n - q ≤ total (cut_by q x xs)
cut_total n q x xs fits h =
    cond_both (leb x.remaining q) xs (with_remaining x (x.remaining - q) ∷ xs) (λ os. n - q ≤ total os)
    (λ whole. let all = leb-true x.remaining q whole in omega arith)
    (λ part. let some = leb-false x.remaining q part in omega arith)

-- one fill more
left_more : (t : Side) (next n : ℕ) (f : Fill) (fs goal : List Fill) (was os : List Order) (x : Order) (xs : List Order) → os ≡ x ∷ xs → ((k : ℕ) → names t k f ≡ eqb x.number k) → f.quantity ≤ x.remaining →
    Left t next n (f ∷ fs) goal was os → Left t next (n - f.quantity) fs goal was (cut_by f.quantity x xs)
left_more t next n f fs goal was os x xs are named fits l =
    let live = subst (AllLive t next) are l.live in
    let apart = subst Distinct are l.apart in
    record {
      live = cut_live t next f.quantity x xs live;
      apart = cut_apart f.quantity x xs apart;
      enough = cut_total n f.quantity x xs fits (subst (λ ys. n ≤ total ys) are l.enough);
      leaves = sym (settled_first t f fs x xs named fits apart.0) ∙ ap (settled t (f ∷ fs)) (sym are) ∙ l.leaves;
    }

-- a side that has tonnes has orders, and two such sides deal
has_orders : (n : ℕ) (os : List Order) → 0 < n → n ≤ total os → 1 ≤ length os
has_orders n [] l h = absurd (omega arith)
has_orders n (o ∷ os) l h = omega arith

some_dealt : (price next n : ℕ) (bs ss : List Order) → 0 < n → 1 ≤ length bs → 1 ≤ length ss → AllLive Buy next bs → AllLive Sell next ss → 1 ≤ length (dealt (λ _ _. price) n bs ss)
some_dealt price next n [] ss l bought sold buys sells = absurd (omega arith)
some_dealt price next n (x ∷ xs) [] l bought sold buys sells = absurd (omega arith)
some_dealt price next n (x ∷ xs) (y ∷ ys) l bought sold buys sells =
    let e = ap length (cross_more price next n (min (min n x.remaining) (min n y.remaining)) x y xs ys l buys.0.some_remains sells.1 refl) in omega arith

-- some fills are dealt; those that are left come to the goal
pub record Calling (price : ℕ) (b : Book) (goal : List Fill) (places : List (Option Order)) (st : State) (left count : ℕ) (lent fills : List Fill) : Type 0 where
  pub book : Book
  pub done : List Fill
  pub same_phase : book.phase ≡ b.phase
  pub same_next : book.next ≡ b.next
  pub lies : Lies places st book
  pub counted : length done ≡ count
  pub filled : fills ≡ done ++ drop count lent
  pub fills_are : done ++ dealt (λ _ _. price) left book.buys book.sells ≡ goal
  pub sides : (t : Side) → Left t b.next left (dealt (λ _ _. price) left book.buys book.sells) goal (side t b) (side t book)

module _ (price : ℕ) (b : Book) where
  pub calling_none : (rule : Rule) → Sound rule b → (places : List (Option Order)) (st : State) (n : ℕ) (lent : List Fill) → Lies places st b → n ≤ total b.buys → n ≤ total b.sells →
      Calling price b (dealt (λ _ _. price) n b.buys b.sells) places st n 0 lent lent
  calling_none rule sound places st n lent l bought sold =
      let goal = dealt (λ _ _. price) n b.buys b.sells in
      record {
        book = b;
        done = [];
        same_phase = refl;
        same_next = refl;
        lies = l;
        counted = refl;
        filled = refl;
        fills_are = refl;
        sides = on_both (λ t. Left t b.next n goal goal (side t b) (side t b)) Buy
            (record { live = sound.buys_live; apart = sound.buys_distinct; enough = bought; leaves = refl })
            (record { live = sound.sells_live; apart = sound.sells_distinct; enough = sold; leaves = refl });
      }

  module _ (goal : List Fill) (places : List (Option Order)) (st : State) (left count : ℕ) (lent fills : List Fill) (g : Calling price b goal places st left count lent fills) where
    pub calling_more : (places' : List (Option Order)) (st' : State) (f : Fill) → 0 < left → count < length lent → Crossable price left g.book places' st' f →
        Calling price b goal places' st' (left - f.quantity) (count + 1) lent (set fills count f)
    calling_more places' st' f some room c =
        let q = f.quantity in
        let x = c.buy in
        let y = c.sell in
        let xs = c.later_buys in
        let ys = c.later_sells in
        let is = c.tonnes_are in
        let book = holding (cut_by q x xs) (cut_by q y ys) g.book in
        let rest = dealt (λ _ _. price) (left - q) book.buys book.sells in
        let buys_live = subst (AllLive Buy b.next) c.buys_are (g.sides Buy).live in
        let sells_live = subst (AllLive Sell b.next) c.sells_are (g.sides Sell).live in
        let come : dealt (λ _ _. price) left g.book.buys g.book.sells ≡ f ∷ rest =
        ap (λ os. dealt (λ _ _. price) left os g.book.sells) c.buys_are ∙
        ap (dealt (λ _ _. price) left (x ∷ xs)) c.sells_are ∙
        cross_more price b.next left q x y xs ys some buys_live.0.some_remains sells_live.1 is ∙
        ap (λ h. h ∷ rest) (sym c.fill_is) in
        let one = λ (t : Side). subst (λ fs. Left t b.next left fs goal (side t b) (side t g.book)) come (g.sides t) in
        record {
          book = book;
          done = g.done ++ f ∷ [];
          same_phase = g.same_phase;
          same_next = g.same_next;
          lies = c.lies;
          counted = length_push g.done f ∙ ap (λ k. k + 1) g.counted;
          filled = filled_more g.done count lent fills g.counted g.filled f room;
          fills_are = append_assoc g.done (f ∷ []) rest ∙ ap (λ v. g.done ++ v) (sym come) ∙ g.fills_are;
          sides = on_both (λ t. Left t b.next (left - q) rest goal (side t b) (side t book)) Buy
              (left_more Buy b.next left f rest goal b.buys g.book.buys x xs c.buys_are (λ k. ap (names Buy k) c.fill_is) (omega arith) (one Buy))
              (left_more Sell b.next left f rest goal b.sells g.book.sells y ys c.sells_are (λ k. ap (names Sell k) c.fill_is) (omega arith) (one Sell));
        }

    pub calling_used : left ≡ 0 → (Lies places st (dealt_with b.phase b.next goal b)) × (count ≡ length goal) × (fills ≡ goal ++ drop (length goal) lent)
    calling_used e =
        let none : dealt (λ _ _. price) left g.book.buys g.book.sells ≡ [] = ap (λ ps. paired (λ _ _. price) ps (takes left g.book.sells)) (none_taken left g.book.buys e) in
        let all = filled_all g.done count lent fills g.counted g.filled goal _ g.fills_are none in
        let end : (t : Side) → settled t goal (side t b) ≡ side t g.book = λ t.
        let h = g.sides t in sym h.leaves ∙ ap (λ fs. settled t fs (side t g.book)) none ∙ settled_nothing t t b.next (side t g.book) h.live in (
          relabelled places st st g.book (dealt_with b.phase b.next goal b) g.lies refl refl refl (end Buy) (end Sell) (g.lies.phase_is ∙ g.same_phase) (g.lies.next_is ∙ g.same_next),
          all.0,
          all.1,
        )

    -- while tonnes are left there are orders and fills to come
    pub calling_on : 0 < left → (1 ≤ min (length g.book.buys) (length g.book.sells)) × (count < length goal)
    calling_on l =
        let buys = g.sides Buy in
        let sells = g.sides Sell in
        let bought = has_orders left g.book.buys l buys.enough in
        let sold = has_orders left g.book.sells l sells.enough in
        let some = some_dealt price b.next left g.book.buys g.book.sells l bought sold buys.live sells.live in
        let n : length g.done + length (dealt (λ _ _. price) left g.book.buys g.book.sells) ≡ length goal =
        sym (length-append g.done (dealt (λ _ _. price) left g.book.buys g.book.sells)) ∙ ap length g.fills_are in
        let c = g.counted in
        (omega arith, omega arith)

pub crossed_so : {price n : ℕ} {b : Book} {places : List (Option Order)} {st : State} {count k : ℕ} {lent part : List Fill} →
    length (dealt (λ _ _. price) n b.buys b.sells) ≤ k → k ≤ length lent →
    (Lies places st (dealt_with b.phase b.next (dealt (λ _ _. price) n b.buys b.sells) b)) × (count ≡ length (dealt (λ _ _. price) n b.buys b.sells)) × (part ≡ dealt (λ _ _. price) n b.buys b.sells ++ drop (length (dealt (λ _ _. price) n b.buys b.sells)) (take k lent)) →
    Crossed price n b places st count lent (part ++ drop k lent)
crossed_so few fits t = record { lies = t.0; counted = t.1; list = written_part _ _ _ _ few fits t.2 }

pub none_left : (n : ℕ) → (0 < n → ⊥) → n ≡ 0
none_left n h = ⊎_elim (λ e. e) (λ ne. absurd (h (omega arith))) (cases_eq n 0)

kept_less : (f : Order → Bool) (os : List Order) → total (keep f os) ≤ total os
kept_less f [] = omega arith
kept_less f (o ∷ os) = let rest = kept_less f os in cond_both (f o) (o ∷ keep f os) (keep f os) (λ ps. total ps ≤ total (o ∷ os)) (λ _. omega arith) (λ _. omega arith)

-- what a call comes to, in the words of the plain book
abbrev pub dealing : Book → Book
dealing b = record { phase = Dealing; next = b.next; buys = b.buys; sells = b.sells }

pub dealing_sound : {rule : Rule} (b : Book) → Sound rule b → Sound rule (dealing b)
dealing_sound b sound = record {
  buys_live = sound.buys_live;
  sells_live = sound.sells_live;
  buys_in_sequence = sound.buys_in_sequence;
  sells_in_sequence = sound.sells_in_sequence;
  buys_distinct = sound.buys_distinct;
  sells_distinct = sound.sells_distinct;
  sides_apart = sound.sides_apart;
}

module _ (rule : Rule) (lawful : Lawful rule) (b : Book) (sound : Sound rule b) where
  -- the orders beyond the price of a call do not deal
  call_fills_lem : dealt (λ _ _. call_price b.buys b.sells) (call_volume b.buys b.sells) b.buys b.sells ≡ call_fills b
  call_fills_lem =
      let p = call_price b.buys b.sells in
      let n = call_volume b.buys b.sells in
      let fits = call_fits b.buys b.sells in
      let buys = takes_within rule lawful p b.next Sell n b.buys sound.buys_live sound.buys_in_sequence fits.0 in
      let sells = takes_within rule lawful p b.next Buy n b.sells sound.sells_live sound.sells_in_sequence fits.1 in
      ap (λ ps. paired (λ _ _. p) ps (takes n b.sells)) (sym buys) ∙ ap (paired (λ _ _. p) (takes n (call_buyers b))) (sym sells)

  module _ (price n : ℕ) (price_is : price ≡ call_price b.buys b.sells) (n_is : n ≡ call_volume b.buys b.sells) where
    fills_are_these : dealt (λ _ _. price) n b.buys b.sells ≡ call_fills b
    fills_are_these = ap (λ p. dealt (λ _ _. p) n b.buys b.sells) price_is ∙ ap (λ k. dealt (λ _ _. call_price b.buys b.sells) k b.buys b.sells) n_is ∙ call_fills_lem

    pub call_has : (n ≤ total b.buys) × (n ≤ total b.sells)
    call_has =
        let p = call_price b.buys b.sells in
        let fits = call_fits b.buys b.sells in
        let bought = kept_less (within Sell p) b.buys in
        let sold = kept_less (within Buy p) b.sells in
        (omega arith, omega arith)

    pub call_room : (s : State) (places : List (Option Order)) → Lies places s b → length (dealt (λ _ _. price) n b.buys b.sells) ≤ s.capacity
    call_room s places l =
        let few = (fills_are_few b).of_call_resting in
        let k = ap length fills_are_these in
        let rest = length-append b.buys b.sells in
        let bought = l.counts Buy in
        let sold = l.counts Sell in
        let room = gap_left places s b l Sell in
        omega arith

    pub call_accepted : (s st : State) (places : List (Option Order)) (count : ℕ) (lent left : List Fill) → refused_by s.capacity b Call (length lent) ≡ None → st.capacity ≡ s.capacity →
        Crossed price n (dealing b) places st count lent left →
        Accepted rule b Call s st places lent left (AsCalled (record { price = price; volume = n; fills = count }))
    call_accepted s st places count lent left may capacity w =
        let e = fills_are_these in
        record {
          admitted = may;
          answered =
              ap (λ p. AsCalled (record { price = p; volume = n; fills = count })) price_is ∙
              ap (λ v. AsCalled (record { price = call_price b.buys b.sells; volume = v; fills = count })) n_is ∙
              ap (λ k. AsCalled (record { price = call_price b.buys b.sells; volume = call_volume b.buys b.sells; fills = k })) (w.counted ∙ ap length e);
          list = w.list ∙ ap (λ fs. fs ++ drop (length fs) lent) e;
          lies = subst (λ fs. Lies places st (dealt_with Dealing b.next fs b)) e w.lies;
          capacity = capacity;
        }
