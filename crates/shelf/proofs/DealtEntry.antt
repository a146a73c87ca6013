-- What an entry deals in the places is what the plain book deals. Assumes nothing.
use Rattle.std.proofs.Common.{◌≡◌, ℕ, ◌+◌, ◌≤◌, min, Bool, false, List, length, None, Ok, sym, refl, ap, ◌∙◌, subst, arith, Option}
use Rattle.std.proofs.lemmas.Bool.{leb-false, lt-leb}
use Rattle.orders.specs.declared.request.Side.TheVariants.{Buy, Sell}
use Rattle.orders.specs.declared.entry.Entry.{Entry}
use Rattle.orders.specs.declared.request.Request.TheVariants.{Enter}
use Rattle.orders.specs.declared.order.Order.{Order}
use Rattle.orders.specs.declared.order.Fill.{Fill}
use Rattle.orders.specs.declared.order.Phase.{Phase}
use Rattle.orders.specs.declared.order.Phase.TheVariants.{Gathering, Dealing}
use Rattle.orders.specs.declared.answer.Answer.{Answer}
use Rattle.plain.specs.Rule.{Rule}
use Rattle.plain.specs.Book.{Book, Tape, after, side, resting, entry_fills, dealt_with}
use Rattle.plain.specs.Sound.{NotNumbered}
use Rattle.plain.proofs.Capacity.{always_within_capacity, thinned_rest}
use Rattle.plain.proofs.StaysSound.{always_sound, next_is_new}
use Rattle.plain.proofs.Thinned.{settled_thins}
use Rattle.venue.specs.Meaning.{Served, book_setup}
use Rattle.matching.specs.declared.dealing.Tally.{Tally}
use Rattle.matching.specs.declared.dealing.Deal.TheVariants.{Entry as EntryDeal}
use Rattle.matching.specs.Weights.{held_weight, SameOrders}
use Rattle.shelf.specs.HeldGate.{is_full, entry_refusal}
use Rattle.shelf.specs.Entering.{left_of, Laid, entry_answer}
use Rattle.matching.specs.Deals.{DealtNow}
use Rattle.shelf.specs.Stands.{Stands}
use Rattle.matching.proofs.Weighed.{weight_ones}
use Rattle.shelf.proofs.Gates.{entry_refused, admits_room}
use Rattle.matching.proofs.Turns.{to_come}
use Rattle.matching.proofs.RunsOut.{run_length, runs_out}
use Rattle.shelf.proofs.ServedEntry.{DealtIn, gathered, entry_so}

-- fills leave a vacant place where there was one
still_room : (b : Book) (ps qs : List (Option Order)) (phase : Phase) (next : ℕ) (fs : List Fill) → SameOrders ps b → SameOrders qs (dealt_with phase next fs b) → length qs ≡ length ps →
    is_full ps ≡ false → is_full qs ≡ false
still_room b ps qs phase next fs before after same room =
    let fewer = thinned_rest phase next b (settled_thins Buy fs b.buys) (settled_thins Sell fs b.sells) in
    let had = leb-false (length ps) (held_weight (λ _. 1) ps) room in
    lt-leb (length qs) (held_weight (λ _. 1) qs)
    (omega (arith, before (λ _. 1), after (λ _. 1), weight_ones (resting b), weight_ones (resting (dealt_with phase next fs b))))

-- as many places after it as before
pub now_length : (rule : Rule) (phase : Phase) (o : Order) (before : List (Option Order)) (lent : List Fill) (ps : List (Option Order)) (list : List Fill) (r : Tally) →
    DealtNow rule phase o before lent ps list r → length ps ≡ length before
now_length rule Gathering o before lent ps list r d = ap length d.0
now_length rule Dealing o before lent ps list r d = run_length d.run_to.run

module _ {rule : Rule} {ps : List (Option Order)} {phase : Phase} {next : ℕ} {is_fresh : Bool} (t : Tape) (stands : Stands rule ps phase next is_fresh t) (e : Entry) (lent list : List Fill) (admits : None ≡ entry_refusal ps phase next e (length lent)) (qs : List (Option Order)) (r : Tally) where
  abbrev b : Book
  b = after rule t

  room : is_full ps ≡ false
  room = admits_room ps phase next e (length lent) admits

  -- the fills fit the lent list
  fits : length (entry_fills b.phase e b) ≤ length lent
  fits =
      (always_within_capacity rule (length ps) t stands.admitted).room (Enter e) (length lent)
      (sym (admits ∙ entry_refused b (always_sound rule stands.lawful t) stands.shows e (length lent)))

  abbrev o : Order
  o = left_of e next e.quantity

  gathers : phase ≡ Gathering → DealtNow rule Gathering o ps lent qs list r → DealtIn b e (entry_fills b.phase e b) ps qs lent list r.count r.left
  gathers is d =
      let in_none = gathered b (always_sound rule stands.lawful t) stands.shows is room e lent in
      let fs_are = subst (λ fs. DealtIn b e fs ps ps lent lent 0 e.quantity) in_none.fills_are in_none in
      rw (d.0, d.1, d.2, d.3) fs_are

  deals : phase ≡ Dealing → DealtNow rule Dealing o ps lent qs list r → DealtIn b e (entry_fills b.phase e b) ps qs lent list r.count r.left
  deals is d =
      let sound = always_sound rule stands.lawful t in
      let shows = stands.shows in
      let fs = to_come (EntryDeal o) e.quantity b in
      let same : fs ≡ entry_fills b.phase e b =
      ap (λ n. to_come (EntryDeal (left_of e n e.quantity)) e.quantity b) shows.next_is ∙ ap (λ p. entry_fills p e b) (sym (sym shows.phase_is ∙ is)) in
      let new : NotNumbered next (side e.side b) = subst (λ n. NotNumbered n (side e.side b)) (sym shows.next_is) (next_is_new sound e.side) in
      let out = runs_out stands.lawful (EntryDeal o) e.quantity b sound new ps shows.orders b.phase (b.next + 1) (omega arith) qs lent list r d
      (subst (λ gs. length gs ≤ length lent) (sym same) fits) in
      subst (λ gs. DealtIn b e gs ps qs lent list r.count r.left) same
      (record {
        fills_are = same;
        orders = out.orders;
        same_length = out.same_length;
        room = still_room b ps qs b.phase (b.next + 1) fs shows.orders out.orders out.same_length room;
        no_more = omega (arith, out.sum);
        left_is = omega (arith, out.sum);
        count_is = out.count_is;
        list_is = out.list_is;
      })

  by_phase : (p : Phase) → phase ≡ p → DealtNow rule p o ps lent qs list r → DealtIn b e (entry_fills b.phase e b) ps qs lent list r.count r.left
  by_phase Gathering is d = gathers is d
  by_phase Dealing is d = deals is d

  -- the entry is served
  pub entry_dealt : DealtNow rule phase o ps lent qs list r → (rs : List (Option Order)) (a : Answer) → Laid e.life (left_of e next r.left) qs rs →
      a ≡ entry_answer e next (min r.count 4294967295) r.left → Served (book_setup rule (length ps)) (Stands rule rs phase (next + 1) false) t (Enter e) lent list (Ok a)
  entry_dealt d rs a laid answers =
      let in_all = by_phase phase refl d in
      let few = (always_within_capacity rule (length ps) t stands.admitted).fills (Enter e) in
      let count : min r.count 4294967295 ≡ r.count = omega (arith, in_all.count_is, stands.few_places) in
      entry_so t stands e lent (entry_fills b.phase e b) list qs rs r.count r.left a admits in_all laid (answers ∙ ap (λ k. entry_answer e next k r.left) count)
