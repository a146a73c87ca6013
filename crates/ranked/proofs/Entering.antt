-- A book after an entry, by its turns. Assumes nothing.
use Rattle.std.proofs.Common.{◌≡◌, ℕ, ◌+◌, ◌-◌, ◌≤◌, min, List, [], ◌∷◌, ◌++◌, length, drop, None, sym, refl, ap, ◌∙◌, subst, ⊎_elim, arith, Option}
use Rattle.std.proofs.lemmas.Bool.{cases_eq}
use Rattle.orders.specs.declared.request.Side.{Side}
use Rattle.orders.specs.declared.request.Side.TheVariants.{Buy, Sell}
use Rattle.orders.specs.declared.entry.Entry.{Entry}
use Rattle.orders.specs.declared.request.Request.TheVariants.{Enter}
use Rattle.orders.specs.declared.answer.Answer.{Answer}
use Rattle.orders.specs.declared.order.Order.{Order}
use Rattle.orders.specs.declared.order.Fill.{Fill}
use Rattle.orders.specs.declared.order.Phase.TheVariants.{Dealing}
use Rattle.plain.specs.Rule.{Rule, Lawful, InSequence}
use Rattle.plain.specs.Orders.{other, within}
use Rattle.plain.specs.Dealing.{settled, tonnes}
use Rattle.plain.specs.Book.{Book, side, order, in_reach, reach, entry_fills, entered, dealt_with}
use Rattle.plain.specs.Gate.{refused_by}
use Rattle.plain.specs.Sound.{Sound, AllLive}
use Rattle.plain.proofs.Entry.{dealt_at_tonnes}
use Rattle.plain.proofs.StaysSound.{next_is_new, sides_distinct}
use Rattle.plain.proofs.Thinned.{keep_thins, thinned_live}
use Rattle.lineup.specs.declared.state.State.{State}
use Rattle.lineup.specs.Lying.{Lies}
use Rattle.ranked.specs.Handling.{Accepted}
use Rattle.ranked.specs.ByTurns.{by_turns, left_by, replaced, TurnsTaken}
use Rattle.lineup.proofs.Laying.{gap_left}
use Rattle.ranked.proofs.Turning.{turns_none, turns_more, dealt_by_turns, settled_nothing, settled_turns, settled_own, turns_within}

-- the book that has given out its next number
abbrev pub number_given : Book → Book
number_given b = record { phase = b.phase; next = b.next + 1; buys = b.buys; sells = b.sells }

side_given : (t : Side) (b : Book) → side t (number_given b) ≡ side t b
side_given Buy b = refl
side_given Sell b = refl

turns_few : (s : Side) (o : Order) (n : ℕ) (os : List Order) → length (by_turns s o n os) ≤ length os
turns_few s o n [] = omega arith
turns_few s o n (x ∷ xs) =
    ⊎_elim
    (λ e. let k = ap length (turns_none s o n (x ∷ xs) e) in omega arith)
    (λ ne. let k = ap length (turns_more s o n x xs (omega arith)) in let m = turns_few s o (n - x.remaining) xs in omega arith)
    (cases_eq n 0)

dealt_is : (s : Side) (b : Book) (fs : List Fill) (os : List Order) → settled s fs (side s b) ≡ side s b → settled (other s) fs (side (other s) b) ≡ os →
    dealt_with b.phase (b.next + 1) fs b ≡ replaced (other s) os (number_given b)
dealt_is Buy b fs os own theirs = rw (own, theirs)
dealt_is Sell b fs os own theirs = rw (own, theirs)

module _ (rule : Rule) (b : Book) (sound : Sound rule b) where
  live : (t : Side) → AllLive t b.next (side t b)
  live Buy = sound.buys_live
  live Sell = sound.sells_live

  in_sequence : (t : Side) → InSequence rule (side t b)
  in_sequence Buy = sound.buys_in_sequence
  in_sequence Sell = sound.sells_in_sequence

  pub none_dealt : dealt_with b.phase (b.next + 1) [] b ≡ number_given b
  none_dealt = let buys = settled_nothing Buy Buy b.next b.buys (live Buy) in let sells = settled_nothing Sell Sell b.next b.sells (live Sell) in rw (buys, sells)

  module _ (lawful : Lawful rule) (e : Entry) where
    pub fills_by_turns : entry_fills Dealing e b ≡ by_turns e.side (order e b.next) (min e.quantity (reach e b)) (side (other e.side) b)
    fills_by_turns =
        let n = min e.quantity (reach e b) in
        dealt_by_turns e.side (order e b.next) b.next n (in_reach e b)
        (thinned_live (other e.side) b.next b.next (omega arith) (keep_thins (within e.side e.price) (side (other e.side) b)) (live (other e.side)))
        (omega arith) ∙
        turns_within rule lawful e.price b.next e.side (order e b.next) n (side (other e.side) b) (live (other e.side)) (in_sequence (other e.side)) (omega arith)

    pub tonnes_dealt : tonnes (entry_fills Dealing e b) ≡ min e.quantity (reach e b)
    tonnes_dealt = dealt_at_tonnes e.side (order e b.next) (min e.quantity (reach e b)) (in_reach e b) (omega arith) (omega arith)

    pub turns_deal : dealt_with b.phase (b.next + 1) (entry_fills Dealing e b) b ≡ replaced (other e.side) (left_by (min e.quantity (reach e b)) (side (other e.side) b)) (number_given b)
    turns_deal =
        let n = min e.quantity (reach e b) in
        let t = other e.side in
        dealt_is e.side b (entry_fills Dealing e b) (left_by n (side t b))
        (ap (λ fs. settled e.side fs (side e.side b)) fills_by_turns ∙ settled_own e.side (order e b.next) e.side b.next n (side t b) (side e.side b) (live e.side) (next_is_new sound e.side))
        (ap (λ fs. settled t fs (side t b)) fills_by_turns ∙ settled_turns e.side (order e b.next) t b.next n (side t b) (live t) (sides_distinct sound t))

    -- what the turns come to, in the words of the plain book
    pub turns_come_to : (taker : Order) (n : ℕ) (places : List (Option Order)) (st : State) (count : ℕ) (lent left : List Fill) → taker ≡ order e b.next → n ≡ min e.quantity (reach e b) →
        TurnsTaken taker.side taker n (number_given b) places st count lent left →
        (Lies places st (dealt_with b.phase (b.next + 1) (entry_fills Dealing e b) b)) × (count ≡ length (entry_fills Dealing e b)) × (left ≡ entry_fills Dealing e b ++ drop (length (entry_fills Dealing e b)) lent)
    turns_come_to taker n places st count lent left taker_is n_is taken =
        let t = other e.side in
        let k = min e.quantity (reach e b) in
        let w = subst (λ m. TurnsTaken e.side (order e b.next) m (number_given b) places st count lent left) n_is (subst (λ o. TurnsTaken o.side o n (number_given b) places st count lent left) taker_is taken) in
        let fills = ap (by_turns e.side (order e b.next) k) (side_given t b) ∙ sym fills_by_turns in
        let book = ap (λ os. replaced t (left_by k os) (number_given b)) (side_given t b) ∙ sym turns_deal in
        (subst (Lies places st) book w.lies, w.counted ∙ ap length fills, w.list ∙ ap (λ gs. gs ++ drop (length gs) lent) fills)

pub turns_fit : (places : List (Option Order)) (st : State) (b : Book) → Lies places st b → (s : Side) (o : Order) (n : ℕ) → length (by_turns s o n (side (other s) b)) ≤ st.capacity
turns_fit places st b l s o n =
    let few = turns_few s o n (side (other s) b) in
    let counts = l.counts (other s) in
    let room = gap_left places st b l s in
    omega arith

pub entry_accepted : (rule : Rule) (b : Book) (e : Entry) (fs : List Fill) (s s' : State) (places : List (Option Order)) (lent left : List Fill) (a : Answer) →
    entry_fills b.phase e b ≡ fs → refused_by s.capacity b (Enter e) (length lent) ≡ None → a ≡ (entered rule e b fs).answer → left ≡ fs ++ drop (length fs) lent →
    Lies places s' (entered rule e b fs).book → s'.capacity ≡ s.capacity → Accepted rule b (Enter e) s s' places lent left a
entry_accepted rule b e fs s s' places lent left a are may answered list lies capacity = record {
  admitted = may;
  answered = answered ∙ sym (ap (λ gs. (entered rule e b gs).answer) are);
  list = list ∙ sym (ap (λ gs. gs ++ drop (length gs) lent) are);
  lies = subst (λ gs. Lies places s' (entered rule e b gs).book) (sym are) lies;
  capacity = capacity;
}
