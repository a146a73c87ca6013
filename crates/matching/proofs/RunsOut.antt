-- A run of fills that has ended has dealt all that the plain book deals. Assumes nothing.
use Rattle.std.proofs.Common.{◌≡◌, ℕ, ◌+◌, ◌-◌, ◌≤◌, List, [], ◌∷◌, ◌++◌, length, drop, set, sym, refl, ap, ◌∙◌, subst, inl, inr, append_assoc, append-nil, arith, length-append, length-set, Option}
use Rattle.orders.specs.declared.request.Side.{Side}
use Rattle.orders.specs.declared.request.Side.TheVariants.{Buy, Sell}
use Rattle.orders.specs.declared.order.Order.{Order}
use Rattle.orders.specs.declared.order.Fill.{Fill}
use Rattle.orders.specs.declared.order.Phase.{Phase}
use Rattle.plain.specs.Rule.{Rule, Lawful}
use Rattle.plain.specs.Orders.{keep, total, within, other}
use Rattle.plain.specs.Dealing.{dealt, tonnes}
use Rattle.plain.specs.Book.{Book, side, dealt_with}
use Rattle.plain.specs.Sound.{NotNumbered, Sound}
use Rattle.plain.proofs.Sides.{side_dealt}
use Rattle.plain.proofs.StaysSound.{dealt_sound}
use Rattle.plain.proofs.Thinned.{settled_thins, thinned_not_numbered}
use Rattle.plain.proofs.Crossing.{settled_nothing, settled_append, dealt_nothing, dealt_unsold}
use Rattle.matching.specs.Weights.{SameOrders}
use Rattle.matching.specs.declared.dealing.Deal.{Deal}
use Rattle.matching.specs.declared.dealing.Tally.{Tally}
use Rattle.matching.specs.declared.dealing.Deal.TheVariants.{Entry, Call}
use Rattle.matching.specs.Deals.{Turn, Nobody, DealtOne, Run, begin, more, RunOut}
use Rattle.matching.proofs.First.{found_nobody}
use Rattle.matching.proofs.ByTurn.{fills_of, fills_none}
use Rattle.matching.proofs.Turns.{to_come, New, next_fill}

same_sides : (b c : Book) → b.buys ≡ c.buys → b.sells ≡ c.sells → (t : Side) → side t b ≡ side t c
same_sides b c e f Buy = e
same_sides b c e f Sell = f

same_to_come : (b c : Book) → b.buys ≡ c.buys → b.sells ≡ c.sells → (d : Deal) (left : ℕ) → to_come d left b ≡ to_come d left c
same_to_come b c e f (Entry o) left = ap (λ os. fills_of o.side o left (keep (within o.side o.price) os)) (same_sides b c e f (other o.side))
same_to_come b c e f (Call price) left =
    ap (λ os. dealt (λ _ _. price) left (keep (within Sell price) os) (keep (within Buy price) b.sells)) e ∙
    ap (λ os. dealt (λ _ _. price) left (keep (within Sell price) c.buys) (keep (within Buy price) os)) f

dealt_append : (phase : Phase) (next : ℕ) (fs gs : List Fill) (b : Book) → dealt_with phase next (fs ++ gs) b ≡ dealt_with phase next gs (dealt_with phase next fs b)
dealt_append phase next fs gs b = λ i. record { phase = phase; next = next; buys = settled_append Buy fs gs b.buys i; sells = settled_append Sell fs gs b.sells i }

new_still : (d : Deal) (phase : Phase) (next : ℕ) (fs : List Fill) (b : Book) → New d b → New d (dealt_with phase next fs b)
new_still (Entry o) phase next fs b new =
    subst (NotNumbered o.number) (sym (side_dealt o.side phase next fs b)) (thinned_not_numbered o.number (settled_thins o.side fs (side o.side b)) new)
new_still (Call price) phase next fs b new = tt

tonnes_append : (fs : List Fill) (f : Fill) → tonnes (fs ++ (f ∷ [])) ≡ tonnes fs + f.quantity
tonnes_append [] f = omega arith
tonnes_append (g ∷ fs) f = omega (arith, tonnes_append fs f)

turn_length : (rule : Rule) (d : Deal) (left : ℕ) (ps qs : List (Option Order)) (f : Fill) → Turn rule d left ps qs f → length qs ≡ length ps
turn_length rule (Entry o) left ps qs f t = ap length t.places_are ∙ length-set ps t.found.0 _
turn_length rule (Call price) left ps qs f t = ap length t.places_are ∙ length-set (set ps t.buy.0 _) t.sell.0 _ ∙ length-set ps t.buy.0 _

pub run_length : {rule : Rule} {d : Deal} {start : ℕ} {before : List (Option Order)} {fs : List Fill} {ps : List (Option Order)} {left : ℕ} → Run rule d start before fs ps left → length ps ≡ length before
run_length begin = refl
run_length {rule} {d} (more {fs} {ps} {qs} {left} {f} run one) = turn_length rule d left ps qs f one.turn ∙ run_length run

nothing_after : (fs gs : List Fill) → length (fs ++ gs) ≤ length fs → gs ≡ []
nothing_after fs [] h = refl
nothing_after fs (g ∷ gs) h = absurd (omega (arith, length-append fs (g ∷ gs)))

nothing_left : (d : Deal) (c : Book) (left : ℕ) → left ≡ 0 → to_come d left c ≡ []
nothing_left (Entry o) c left e = fills_none o.side o left (keep (within o.side o.price) (side (other o.side) c)) (omega arith)
nothing_left (Call price) c left e = dealt_nothing (λ _ _. price) left (keep (within Sell price) c.buys) (keep (within Buy price) c.sells) e

nobody_left : {rule : Rule} → Lawful rule → (ps : List (Option Order)) (c : Book) → Sound rule c → SameOrders ps c → (d : Deal) (left : ℕ) → Nobody rule d ps → to_come d left c ≡ []
nobody_left law ps c sound orders (Entry o) left nobody =
    let none = found_nobody law ps c sound orders o.side o.price nobody in
    fills_none o.side o left (keep (within o.side o.price) (side (other o.side) c)) (omega (arith, ap total none))
nobody_left law ps c sound orders (Call price) left (inl nobody) =
    ap (λ bs. dealt (λ _ _. price) left bs (keep (within Buy price) c.sells)) (found_nobody law ps c sound orders Sell price nobody)
nobody_left law ps c sound orders (Call price) left (inr nobody) =
    ap (dealt (λ _ _. price) left (keep (within Sell price) c.buys)) (found_nobody law ps c sound orders Buy price nobody) ∙
    dealt_unsold (λ _ _. price) left (keep (within Sell price) c.buys)

-- the places, the lent list and what is left after fills
pub record Dealt (fs : List Fill) (start : ℕ) (b : Book) (phase : Phase) (next : ℕ) (before ps : List (Option Order)) (lent list : List Fill) (r : Tally) : Type 0 where
  pub orders : SameOrders ps (dealt_with phase next fs b)
  pub same_length : length ps ≡ length before
  pub sum : r.left + tonnes fs ≡ start
  pub count_is : r.count ≡ length fs
  pub list_is : list ≡ fs ++ drop (length fs) lent

module _ {rule : Rule} (law : Lawful rule) (d : Deal) (start : ℕ) (b : Book) (sound : Sound rule b) (new : New d b) (before : List (Option Order)) (orders : SameOrders before b) (phase : Phase) (next : ℕ) (later : b.next ≤ next) where
  abbrev after : List Fill → Book
  after fs = dealt_with phase next fs b

  -- what some fills of a run leave, and what is still to come
  record Along (fs : List Fill) (ps : List (Option Order)) (left : ℕ) : Type 0 where
    pub held : SameOrders ps (after fs)
    pub whole : fs ++ to_come d left (after fs) ≡ to_come d start b
    pub sum : left + tonnes fs ≡ start

  none_yet : Along [] before start
  none_yet =
      let buys = settled_nothing Buy Buy b.next b.buys sound.buys_live in
      let sells = settled_nothing Sell Sell b.next b.sells sound.sells_live in
      record { held = λ w. rw (buys, sells) (orders w); whole = same_to_come (after []) b buys sells d start; sum = omega arith }

  one_more : (fs : List Fill) (ps qs : List (Option Order)) (left : ℕ) (f : Fill) → Along fs ps left → DealtOne rule d left ps qs f →
      Along (fs ++ (f ∷ [])) qs (left - f.quantity)
  one_more fs ps qs left f a one =
      let n = next_fill law (after fs) (dealt_sound law phase next fs b later sound) ps qs a.held phase next left one.some_left d f (new_still d phase next fs b new) one.turn in
      let is = dealt_append phase next fs (f ∷ []) b in
      record {
        held = subst (SameOrders qs) (sym is) n.orders;
        whole = append_assoc fs (f ∷ []) _ ∙ ap (λ c. fs ++ (f ∷ to_come d (left - f.quantity) c)) is ∙ ap (λ gs. fs ++ gs) (sym n.fills) ∙ a.whole;
        sum = omega (arith, a.sum, one.no_more, tonnes_append fs f);
      }

  along : {fs : List Fill} {ps : List (Option Order)} {left : ℕ} → Run rule d start before fs ps left → Along fs ps left
  along begin = none_yet
  along (more {fs} {ps} {qs} {left} {f} run one) = one_more fs ps qs left f (along run) one

  pub runs_out : (ps : List (Option Order)) (lent list : List Fill) (r : Tally) → RunOut rule d start before lent ps list r → length (to_come d start b) ≤ length lent →
      Dealt (to_come d start b) start b phase next before ps lent list r
  runs_out ps lent list r out fits =
      let fs = out.run_to.fills in
      let a = along out.run_to.run in
      let rest = to_come d r.left (after fs) in
      let long : length (fs ++ rest) ≤ length lent = subst (λ gs. length gs ≤ length lent) (sym a.whole) fits in
      let none : rest ≡ [] = elim out.ends [
        | inl ended ↦ elim ended [
          | inl nothing ↦ nothing_left d (after fs) r.left nothing
          | inr nobody ↦ nobody_left law ps (after fs) (dealt_sound law phase next fs b later sound) a.held d r.left nobody
        ]
        | inr full ↦ nothing_after fs rest (omega (arith, out.run_to.many))
      ] in
      let all : fs ≡ to_come d start b = sym (append-nil fs) ∙ ap (λ gs. fs ++ gs) (sym none) ∙ a.whole in
      subst (λ gs. Dealt gs start b phase next before ps lent list r) all
      (record {
        orders = a.held;
        same_length = run_length out.run_to.run;
        sum = a.sum;
        count_is = sym out.run_to.many;
        list_is = out.run_to.list_is ∙ ap (λ k. fs ++ drop k lent) (sym out.run_to.many);
      })
