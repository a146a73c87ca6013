-- A call that is admitted, from what its fills leave in the places. Assumes nothing.
use Rattle.std.proofs.Common.{◌≡◌, ℕ, ◌≤◌, min, Bool, false, ltb, List, length, None, Ok, sym, refl, ap, ◌∙◌, subst, le_refl, arith, Option}
use Rattle.orders.specs.declared.request.Request.TheVariants.{Call}
use Rattle.orders.specs.declared.order.Order.{Order}
use Rattle.orders.specs.declared.order.Fill.{Fill}
use Rattle.orders.specs.declared.order.Phase.{Phase}
use Rattle.orders.specs.declared.order.Phase.TheVariants.{Dealing}
use Rattle.orders.specs.declared.answer.Answer.{Answer}
use Rattle.orders.specs.declared.answer.Answer.TheVariants.{Called}
use Rattle.orders.specs.declared.refusal.Cause.TheVariants.{FillListShort, WrongPhase}
use Rattle.plain.specs.Rule.{Rule}
use Rattle.plain.specs.Price.{call_volume}
use Rattle.plain.specs.Book.{Book, Tape, after, resting, price, call_fills}
use Rattle.orders.specs.Causes.{first, when}
use Rattle.plain.specs.Gate.{is_dealing, refused_by}
use Rattle.plain.proofs.Capacity.{always_within_capacity}
use Rattle.plain.proofs.StaysSound.{always_sound}
use Rattle.venue.specs.Meaning.{Served, book_setup}
use Rattle.matching.specs.declared.dealing.Tally.{Tally}
use Rattle.matching.specs.declared.dealing.Deal.TheVariants.{Call as CallDeal}
use Rattle.quotes.specs.declared.quote.Quote.{Quote}
use Rattle.quotes.specs.Quotes.{called_price}
use Rattle.shelf.specs.HeldGate.{call_refusal}
use Rattle.matching.specs.Quotes.{best_quote}
use Rattle.matching.specs.Deals.{RunOut}
use Rattle.shelf.specs.Stands.{Stands}
use Rattle.matching.proofs.RunsOut.{Dealt, runs_out}
use Rattle.matching.proofs.Quoted.{called_volume, called_price_lem}
use Rattle.shelf.proofs.Serving.{served_so}

-- what a call is answered
abbrev pub call_answer : ℕ → ℕ → ℕ → Answer
call_answer price volume count = Called (record { price = price; volume = volume; fills = count })

module _ {rule : Rule} {ps : List (Option Order)} {phase : Phase} {next : ℕ} {is_fresh : Bool} (t : Tape) (stands : Stands rule ps phase next is_fresh t) (lent : List Fill) where
  abbrev b : Book
  b = after rule t

  refused : call_refusal ps phase (length lent) ≡ refused_by (length ps) b Call (length lent)
  refused = ap (λ p. first (when (ltb (length lent) (length ps)) FillListShort) (when (is_dealing p) WrongPhase)) stands.shows.phase_is

  module _ (admits : None ≡ call_refusal ps phase (length lent)) (qs : List (Option Order)) (list : List Fill) (r : Tally) where
    admitted : refused_by (length ps) b Call (length lent) ≡ None
    admitted = sym (admits ∙ refused)

    -- what is dealt at the best quote is what the plain book deals
    dealt_all : RunOut rule (CallDeal (price b)) (call_volume b.buys b.sells) ps lent qs list r →
        Dealt (call_fills b) (call_volume b.buys b.sells) b Dealing b.next ps qs lent list r
    dealt_all out =
        runs_out stands.lawful (CallDeal (price b)) (call_volume b.buys b.sells) b (always_sound rule stands.lawful t) tt ps stands.shows.orders Dealing b.next
        (le_refl b.next) qs lent list r out ((always_within_capacity rule (length ps) t stands.admitted).room Call (length lent) admitted)

    -- the call is served
    pub call_so : (q : Quote) (p count : ℕ) → q ≡ best_quote ps → p ≡ called_price q → count ≡ min r.count 4294967295 → RunOut rule (CallDeal p) q.volume ps lent qs list r →
        Served (book_setup rule (length ps)) (Stands rule qs Dealing next false) t Call lent list (Ok (call_answer p q.volume count))
    call_so q p count best called counted out =
        let all = always_within_capacity rule (length ps) t stands.admitted in
        let sound = always_sound rule stands.lawful t in
        let few : length (resting b) ≤ 1024 = omega (arith, all.orders, stands.few_places) in
        let price_is : p ≡ price b = called ∙ ap called_price best ∙ called_price_lem ps b sound stands.shows.orders few in
        let volume_is : q.volume ≡ call_volume b.buys b.sells = ap (λ (x : Quote). x.volume) best ∙ called_volume ps b sound stands.shows.orders few in
        let d = dealt_all (subst (λ v. RunOut rule (CallDeal (price b)) v ps lent qs list r) volume_is (subst (λ x. RunOut rule (CallDeal x) q.volume ps lent qs list r) price_is out)) in
        let count_is : count ≡ length (call_fills b) = omega (arith, d.count_is, all.fills Call, stands.few_places) in
        served_so t stands Call lent qs Dealing next (call_answer p q.volume count) list admitted d.same_length
        (record { orders = d.orders; phase_is = refl; next_is = stands.shows.next_is }) (λ i. call_answer (price_is i) (volume_is i) (count_is i)) d.list_is
