-- Two venues with the same set-up that stand after the same tape: what the first puts forward passes the second's check.
use Rattle.std.proofs.Common.{◌≡◌, true, false, not, List, [], Some, None, Ok, Err, Option, Result, sym, refl, ap, ◌∙◌, subst, arith}
use Rattle.std.proofs.lemmas.Bool.{true≢false}
use Rattle.orders.specs.declared.order.Phase.{Phase}
use Rattle.orders.specs.declared.order.Phase.TheVariants.{Gathering, Dealing}
use Rattle.orders.specs.declared.order.Order.{Order}
use Rattle.orders.specs.declared.order.Fill.{Fill}
use Rattle.orders.specs.declared.request.Request.{Request}
use Rattle.orders.specs.declared.request.Request.TheVariants.{Enter, Withdraw, Call, Halt}
use Rattle.orders.specs.declared.refusal.Cause.{Cause}
use Rattle.orders.specs.declared.refusal.Cause.TheVariants.{LedgerFull}
use Rattle.orders.specs.declared.refusal.Refusal.{Refusal}
use Rattle.plain.specs.Orders.{find}
use Rattle.plain.specs.Book.{Book, Tape, resting, withdrawn, entry_fills}
use Rattle.plain.specs.Matched.{EntryMatches}
use Rattle.plain.specs.Gate.{refused_by, is_dealing}
use Rattle.plain.specs.Sound.{Sound}
use Rattle.plain.proofs.StaysSound.{always_sound}
use Rattle.plain.proofs.Capacity.{entry_numbered, entry_reaches, call_gathers}
use Rattle.plain.proofs.Matched.{fills_are_the_one_list}
use Rattle.venue.specs.Meaning.{Setup, Kept, Admits, NoCause, book_at, reply_at, outcome}
use Rattle.claims.specs.declared.claim.Subject.{Subject}
use Rattle.claims.specs.Judged.{Holds, mistimed, numberless}
use Rattle.ledger.specs.declared.row.Row.{Row}
use Rattle.ledger.specs.Rows.{all_within}
use Rattle.ledger.specs.Booking.{Fits, Booked}
use Rattle.ledger.proofs.Summing.{member_within}
use Rattle.settling.specs.declared.unbooked.Unbooked.{Unbooked}
use Rattle.settling.specs.declared.unbooked.Unbooked.TheVariants.{Failed, Full}
use Rattle.settling.specs.declared.fault.Fault.{Fault}
use Rattle.settling.specs.Replies.{refused_at, dealt_to, fills_at}
use Rattle.settling.specs.Settled.{claimed_for, put_forward, Claimed, fault_of, Settled, SettledAlike}

withdrawn_fills : (n : _) (b : Book) (o : Option Order) → (withdrawn n b o).fills ≡ []
withdrawn_fills n b None = refl
withdrawn_fills n b (Some o) = refl

none_caused : (o : Option Cause) → NoCause o → o ≡ None
none_caused None h = refl
none_caused (Some c) h = absurd h

-- no fills add nothing, and fit
none_booked : (rows rows' : List Row) (fills : List Fill) → fills ≡ [] → rows' ≡ rows → Booked rows fills rows' (Ok tt)
none_booked rows rows' fills none same = subst (λ fs. Booked rows fs rows' (Ok tt)) (sym none) (subst (λ after. Booked rows [] after (Ok tt)) (sym same) (λ s u m h. omega arith))

none_fits : (rows : List Row) (fills : List Fill) → all_within rows ≡ true → fills ≡ [] → Fits rows fills
none_fits rows fills within none = subst (Fits rows) (sym none) (λ s u m h. let low = member_within s u rows within m in omega arith)

module _ (v : Setup) (t : Tape) (kept : Kept v t) where
  sound : Sound v.rule (book_at v t)
  sound = always_sound v.rule kept.lawful t

  pub passed : (q : Request) → refused_at v t q ≡ None → refused_by v.capacity (book_at v t) q v.capacity ≡ None
  passed q e = none_caused (refused_by v.capacity (book_at v t) q v.capacity) (kept.refuses_enough q v.capacity (subst Admits (sym e) tt))

  -- what is put forward meets all that a check asks; where nothing is, nothing was dealt
  abbrev Forward : Option Subject → List Fill → Type 0
  Forward None fills = fills ≡ []
  Forward (Some s) fills = (mistimed (book_at v t).phase s ≡ false) × (numberless (book_at v t) s ≡ false) × Holds v.rule (book_at v t) s fills

  forward : (g : Option Refusal) (q : Request) (phase : Phase) → refused_at v t q ≡ g → (book_at v t).phase ≡ phase → Forward (claimed_for phase q (outcome g (reply_at v t q))) (dealt_to g (reply_at v t q))
  forward (Some f) q phase e p = refl
  forward None (Enter x) Gathering e p = ap (λ ph. entry_fills ph x (book_at v t)) p
  forward None (Enter x) Dealing e p =
      let b = book_at v t in
      let one = (fills_are_the_one_list v.rule kept.lawful b sound).of_entry x (entry_reaches v.capacity b v.capacity x (passed (Enter x) e) p) in (
        ap (λ ph. not (is_dealing ph)) p,
        entry_numbered v.capacity b v.capacity x (passed (Enter x) e),
        subst (λ ph. EntryMatches v.rule b x (entry_fills ph x b)) (sym p) one.meets,
      )
  forward None (Withdraw x) phase e p = withdrawn_fills x.number (book_at v t) (find x.number (resting (book_at v t)))
  forward None Call Gathering e p = (
    ap is_dealing p,
    refl,
    record { price_is = refl; volume_is = refl; fills = (fills_are_the_one_list v.rule kept.lawful (book_at v t) sound).of_call.meets },
  )
  forward None Call Dealing e p = absurd (true≢false (sym (ap is_dealing p) ∙ call_gathers v.capacity (book_at v t) v.capacity (passed Call e)))
  forward None Halt phase e p = refl

  -- it is booked whole if every total fits, and else refused by the limit with nothing changed
  module _ (rows rows' : List Row) (fills : List Fill) where
    claim_fits : (o : Option Subject) (r : Result (Unit {0}) Unbooked) → Forward o fills → Claimed v t o fills rows rows' r → Fits rows fills → (r ≡ Ok tt) × Booked rows fills rows' (Ok tt)
    claim_fits None r none claim f = (claim.0, none_booked rows rows' fills none claim.1)
    claim_fits (Some s) (Ok u) holds claim f = (refl, claim.1)
    claim_fits (Some s) (Err (Failed x)) holds claim f = absurd (true≢false (sym (claim.0.passes.1 holds)))
    claim_fits (Some s) (Err (Full x)) holds claim f = absurd (claim.1.1.1 f)

    claim_full : (o : Option Subject) (r : Result (Unit {0}) Unbooked) → all_within rows ≡ true → Forward o fills → Claimed v t o fills rows rows' r → (Fits rows fills → ⊥) → (r ≡ Err (Full LedgerFull)) × (rows' ≡ rows)
    claim_full None r within none claim f = absurd (f (none_fits rows fills within none))
    claim_full (Some s) (Ok u) within holds claim f = absurd (f claim.2)
    claim_full (Some s) (Err (Failed x)) within holds claim f = absurd (true≢false (sym (claim.0.passes.1 holds)))
    claim_full (Some s) (Err (Full x)) within holds claim f = (ap (λ y. Err (Full y)) claim.1.1.0, claim.1.0)

  module _ (q : Request) (rows rows' : List Row) (fault : Option Fault) (so : Settled v v t t q rows rows' fault) where
    ahead : Forward (put_forward v t q) (fills_at v t q)
    ahead = forward (refused_at v t q) q (book_at v t).phase refl refl

    fault_by : (r : Result (Unit {0}) Unbooked) → so.booked ≡ r → fault ≡ fault_of r true
    fault_by r is = so.fault_is ∙ ap (λ x. fault_of x so.same) is ∙ ap (fault_of r) (so.compared.1 (refl, refl))

    pub settled_fits : Fits rows (fills_at v t q) → (fault ≡ None) × Booked rows (fills_at v t q) rows' (Ok tt)
    settled_fits f = let whole = claim_fits rows rows' (fills_at v t q) (put_forward v t q) so.booked ahead so.claim f in (fault_by (Ok tt) whole.0, whole.1)

    pub settled_alike : all_within rows ≡ true → SettledAlike v t q rows rows' fault
    settled_alike within = record {
      booked = settled_fits;
      full = λ f. let none = claim_full rows rows' (fills_at v t q) (put_forward v t q) so.booked within ahead so.claim f in (fault_by (Err (Full LedgerFull)) none.0, none.1);
    }
