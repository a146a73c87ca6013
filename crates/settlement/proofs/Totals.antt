-- Items settled between two fresh venues alike, whose gate binds caps of at most 1,000: nothing goes wrong, and the totals are the sums over all fills.
use Rattle.std.proofs.Common.{◌≡◌, ℕ, ◌+◌, ◌<◌, ◌≤◌, List, [], ◌∷◌, ◌++◌, length, replicate, Some, None, Ok, Err, Option, sym, refl, ap, ◌∙◌, subst, append_assoc, append-nil, arith}
use Rattle.std.proofs.lemmas.List.{get_or-replicate}
use Rattle.orders.specs.declared.request.Side.{Side}
use Rattle.orders.specs.declared.request.Side.TheVariants.{Buy, Sell}
use Rattle.orders.specs.declared.request.Request.{Request}
use Rattle.orders.specs.declared.order.Fill.{Fill}
use Rattle.orders.specs.declared.refusal.Cause.{Cause}
use Rattle.orders.specs.declared.refusal.Refusal.{Refusal}
use Rattle.plain.specs.Rule.{Rule}
use Rattle.plain.specs.Book.{Book, Tape, fresh, from, reply}
use Rattle.plain.specs.Gate.{refused_by, AdmittedFrom}
use Rattle.plain.specs.Account.{Dealt, record_from}
use Rattle.plain.specs.Held.{held}
use Rattle.plain.proofs.Tapes.{record_append}
use Rattle.plain.proofs.StaysSound.{fresh_sound}
use Rattle.plain.proofs.MembersAddUp.{held_is_bought_and_resting}
use Rattle.ranking.specs.Sequence.{sum_of}
use Rattle.venue.specs.Meaning.{Setup, Kept, reply_at, joined}
use Rattle.venue.specs.Caps.{Caps, BindsCaps}
use Rattle.venue.proofs.Capped.{joined_capped}
use Rattle.ledger.specs.declared.row.Row.{Row}
use Rattle.ledger.specs.Rows.{UnitOf, total, nothing, row_of, adds, limit}
use Rattle.ledger.specs.Rows.UnitOf.{tonnes, pence}
use Rattle.ledger.specs.Booking.{Fits}
use Rattle.settling.specs.declared.fault.Fault.{Fault}
use Rattle.settling.specs.declared.fault.Noted.{Noted}
use Rattle.settling.specs.Replies.{refused_at, dealt_to, fills_at, tape_after}
use Rattle.settling.specs.Settled.{Settled}
use Rattle.settling.specs.Items.{Item, tape_from, ItemSettled, noted, AllSettled, none, more}
use Rattle.settling.proofs.Alike.{passed, settled_fits}
use Rattle.settling.proofs.Onward.{tape_push}
use Rattle.settlement.specs.Totals.{fills_in, TotalsAre, Clear}
use Rattle.settlement.proofs.Priced.{record_priced}
use Rattle.settlement.proofs.Bounded.{bought_fills, all_within}

sum_append : (w : Fill → ℕ) (fs gs : List Fill) → sum_of w (fs ++ gs) ≡ sum_of w fs + sum_of w gs
sum_append w [] gs = omega arith
sum_append w (f ∷ fs) gs = let rest = sum_append w fs gs in omega arith

fills_append : (ds es : List Dealt) → fills_in (ds ++ es) ≡ fills_in ds ++ fills_in es
fills_append [] es = refl
fills_append (d ∷ ds) es = ap (λ fs. d.fills ++ fs) (fills_append ds es) ∙ sym (append_assoc d.fills (fills_in ds) (fills_in es))

admitted_push : (rule : Rule) (capacity n : ℕ) (b : Book) (t : Tape) (q : Request) → AdmittedFrom rule capacity b t → refused_by capacity (from rule b t) q n ≡ None → AdmittedFrom rule capacity b (t ++ q ∷ [])
admitted_push rule capacity n b [] q a h = ((n, h), tt)
admitted_push rule capacity n b (x ∷ t) q a h = (a.0, admitted_push rule capacity n (reply rule b x).book t q a.1 h)

no_total : (s : Side) (u : UnitOf) → total s u nothing ≡ 0
no_total Buy tonnes = refl
no_total Buy pence = refl
no_total Sell tonnes = refl
no_total Sell pence = refl

module _ (v : Setup) where
  -- all fills after a tape
  abbrev all_fills : Tape → List Fill
  all_fills t = fills_in (record_from v.rule fresh t)

  joined_fills : (t : Tape) (q : Request) (g : Option Refusal) → all_fills (joined g t q) ≡ all_fills t ++ dealt_to g (reply_at v t q)
  joined_fills t q None =
      ap fills_in (record_append v.rule fresh t (q ∷ [])) ∙ fills_append (record_from v.rule fresh t) (record_from v.rule (from v.rule fresh t) (q ∷ [])) ∙
      ap (λ fs. all_fills t ++ fs) (append-nil (reply_at v t q).fills)
  joined_fills t q (Some f) = sym (append-nil (all_fills t))

  joined_admitted : (t : Tape) → Kept v t → (q : Request) (g : Option Refusal) → refused_at v t q ≡ g → AdmittedFrom v.rule v.capacity fresh (joined g t q)
  joined_admitted t kept q None e = admitted_push v.rule v.capacity v.capacity fresh t q kept.admitted (passed v t kept q e)
  joined_admitted t kept q (Some f) e = kept.admitted

  module _ (caps : Caps) (binds : BindsCaps v caps) (low : (m : ℕ) → caps m ≤ 1000) where
    -- no total of all fills after one more request passes the limit
    sums_within : (t : Tape) → Kept v t → (q : Request) → ((m : ℕ) → held v.rule m (tape_after v t q) ≤ caps m) → (s : Side) (u : UnitOf) (m : ℕ) → m < 64 → sum_of (adds s u m) (all_fills (tape_after v t q)) ≤ limit
    sums_within t kept q capped =
        let after = tape_after v t q in
        let tape = joined_admitted t kept q (refused_at v t q) refl in
        all_within (all_fills after) (record_priced kept.lawful v.capacity fresh after (fresh_sound v.rule) tape)
        (λ m. omega (arith, bought_fills m (record_from v.rule fresh after), held_is_bought_and_resting v.rule kept.lawful v.capacity after tape m, capped m, low m))

    -- after items: no fault, the totals are the sums, and what each member holds is within his cap
    record Stood (items : List Item) (rows : List Row) (notes : List Noted) : Type 0 where
      pub no_fault : notes ≡ []
      pub totals : TotalsAre v items rows
      pub capped : (m : ℕ) → held v.rule m (tape_from items v []) ≤ caps m

    stood_none : Stood [] (replicate 64 nothing) []
    stood_none = record {
      no_fault = refl;
      totals = λ s u m h. ap (total s u) (get_or-replicate 64 m nothing nothing h) ∙ no_total s u;
      capped = λ m. omega arith;
    }

    module _ (items : List Item) (rows rows' : List Row) (notes : List Noted) (fault : Option Fault) (so : Stood items rows notes) where
      no_more_faults : fault ≡ None → notes ++ noted (length items + 1) fault ≡ []
      no_more_faults is = ap (λ f. notes ++ noted (length items + 1) f) is ∙ append-nil notes ∙ so.no_fault

      stood_skip : (c : Cause) → rows' ≡ rows → fault ≡ None → Stood (items ++ Err c ∷ []) rows' (notes ++ noted (length items + 1) fault)
      stood_skip c same is =
          let tape : tape_from (items ++ Err c ∷ []) v [] ≡ tape_from items v [] = tape_push items (Err c) v [] in
          record {
            no_fault = no_more_faults is;
            totals = λ s u m h. ap (λ rs. total s u (row_of rs m)) same ∙ so.totals s u m h ∙ ap (λ t. sum_of (adds s u m) (all_fills t)) (sym tape);
            capped = λ m. subst (λ t. held v.rule m t ≤ caps m) (sym tape) (so.capped m);
          }

      stood_more : (q : Request) → Settled v v (tape_from items v []) (tape_from items v []) q rows rows' fault → Stood (items ++ Ok q ∷ []) rows' (notes ++ noted (length items + 1) fault)
      stood_more q settled =
          let t = tape_from items v [] in
          let tape : tape_from (items ++ Ok q ∷ []) v [] ≡ tape_after v t q = tape_push items (Ok q) v [] in
          let capped : (m : ℕ) → held v.rule m (tape_after v t q) ≤ caps m = λ m. joined_capped v caps binds m t q v.capacity (refused_at v t q) refl (so.capped m) in
          let sums : (s : Side) (u : UnitOf) (m : ℕ) → sum_of (adds s u m) (all_fills (tape_after v t q)) ≡ sum_of (adds s u m) (all_fills t) + sum_of (adds s u m) (fills_at v t q) =
          λ s u m. ap (sum_of (adds s u m)) (joined_fills t q (refused_at v t q)) ∙ sum_append (adds s u m) (all_fills t) (fills_at v t q) in
          let fits : Fits rows (fills_at v t q) = λ s u m h. omega (arith, so.totals s u m h, sums s u m, sums_within t settled.first_keeps q capped s u m h) in
          let booked = settled_fits v t settled.first_keeps q rows rows' fault settled fits in
          record {
            no_fault = no_more_faults booked.0;
            totals = λ s u m h. booked.1 s u m h ∙ ap (λ n. n + sum_of (adds s u m) (fills_at v t q)) (so.totals s u m h) ∙ sym (sums s u m) ∙ ap (λ x. sum_of (adds s u m) (all_fills x)) (sym tape);
            capped = λ m. subst (λ x. held v.rule m x ≤ caps m) (sym tape) (capped m);
          }

      stood_item : (x : Item) → ItemSettled x v v (tape_from items v []) (tape_from items v []) rows rows' fault → Stood (items ++ x ∷ []) rows' (notes ++ noted (length items + 1) fault)
      stood_item (Ok q) settled = stood_more q settled
      stood_item (Err c) settled = stood_skip c settled.0 settled.1

    stood : {items : List Item} {rows : List Row} {notes : List Noted} → AllSettled v v [] [] (replicate 64 nothing) items rows notes → Stood items rows notes
    stood none = stood_none
    stood (more {xs} {rows'} {notes} x rows'' fault before item) = stood_item xs rows' rows'' notes fault (stood before) x item

    pub clear : {items : List Item} {rows : List Row} {notes : List Noted} → AllSettled v v [] [] (replicate 64 nothing) items rows notes → Clear v items rows notes
    clear all = let so = stood all in record { no_fault = so.no_fault; settled = subst (AllSettled v v [] [] (replicate 64 nothing) _ _) so.no_fault all; totals = so.totals }
