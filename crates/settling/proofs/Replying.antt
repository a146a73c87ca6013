-- A request that brings a fill list as long as the capacity: its fills, and two replies to it side by side.
use Rattle.std.proofs.Common.{◌≡◌, ℕ, Bool, List, length, take, drop, Some, None, vec_items, Decides, Option, Result, sym, refl, ap, ◌∙◌, subst, arith, take_at}
use Rattle.std.proofs.lemmas.List.{take_all}
use Rattle.std.proofs.lemmas.Bool.Decides.{Decides-like}
use Rattle.orders.specs.declared.request.Request.{Request}
use Rattle.orders.specs.declared.order.Fill.{Fill}
use Rattle.orders.specs.declared.order.Phase.{Phase}
use Rattle.orders.specs.declared.refusal.Refusal.{Refusal}
use Rattle.plain.specs.Book.{Tape}
use Rattle.venue.specs.Meaning.{Setup, book_at, reply_at, outcome, laid}
use Rattle.venue.proofs.Records.{reply_count}
use Rattle.ledger.specs.declared.row.Row.{Row}
use Rattle.settling.specs.declared.reply.Reply.{Reply as Answered}
use Rattle.settling.specs.declared.unbooked.Unbooked.{Unbooked}
use Rattle.settling.specs.declared.fault.Fault.{Fault}
use Rattle.settling.specs.Replies.{refused_at, outcome_at, dealt_to, fills_at, count_of, dealt_in, Replied, SameReply}
use Rattle.settling.specs.Settled.{claimed_for, put_forward, Claimed, fault_of, Settled}

module _ (v : Setup) (t : Tape) (q : Request) (lent : List Fill) where
  -- as many fills as the answer counts are those that were dealt
  counted_fills : (g : Option Refusal) → take (count_of (outcome g (reply_at v t q))) (laid g (reply_at v t q) lent) ≡ dealt_to g (reply_at v t q)
  counted_fills None =
      let fills = (reply_at v t q).fills in
      take_at fills (drop (length fills) lent) (count_of (outcome None (reply_at v t q))) (sym (reply_count v.rule (book_at v t) q))
  counted_fills (Some f) = refl

  pub dealt_fills : (n : ℕ) (left : List Fill) → length lent ≡ v.capacity → n ≡ count_of (outcome_at v t q) → left ≡ laid (v.gate t q (length lent)) (reply_at v t q) lent →
      take n left ≡ fills_at v t q
  dealt_fills n left long counts is =
      ap (λ k. take k left) counts ∙ ap (take (count_of (outcome_at v t q))) (is ∙ ap (λ k. laid (v.gate t q k) (reply_at v t q) lent) long) ∙ counted_fills (refused_at v t q)

-- the fills that a reply counts are all that were dealt
counted_all : (v : Setup) (t : Tape) (q : Request) (g : Option Refusal) → take (count_of (outcome g (reply_at v t q))) (dealt_to g (reply_at v t q)) ≡ dealt_to g (reply_at v t q)
counted_all v t q None = take_all (count_of (outcome None (reply_at v t q))) (reply_at v t q).fills (omega (arith, reply_count v.rule (book_at v t) q))
counted_all v t q (Some f) = refl

pub dealt_in_lem : {v : Setup} {stands' : Tape → Type 0} {t : Tape} {q : Request} {x : Answered} → Replied v stands' t q x → dealt_in x ≡ fills_at v t q
dealt_in_lem {v} {stands'} {t} {q} {x} so = ap (λ o. take (count_of o) (vec_items x.fills)) so.answered ∙ ap (take (count_of (outcome_at v t q))) so.dealt ∙ counted_all v t q (refused_at v t q)

-- two replies with the claim between them
pub settled_by : (v w : Setup) (stands' stands'' : Tape → Type 0) (t u : Tape) (q : Request) (x y : Answered) (phase : Phase) (rows rows' : List Row) (booked : Result (Unit {0}) Unbooked) (same : Bool) (fault : Option Fault) →
    Replied v stands' t q x → Replied w stands'' u q y → phase ≡ (book_at v t).phase → Claimed w u (claimed_for phase q x.outcome) (dealt_in x) rows rows' booked →
    Decides same (SameReply x.outcome (vec_items x.fills) y.outcome (vec_items y.fills)) → fault ≡ fault_of booked same → Settled v w t u q rows rows' fault
settled_by v w stands' stands'' t u q x y phase rows rows' booked same fault first second at claim compared is =
    let forward : claimed_for phase q x.outcome ≡ put_forward v t q = ap (λ p. claimed_for p q x.outcome) at ∙ ap (claimed_for (book_at v t).phase q) first.answered in
    record {
      booked = booked;
      same = same;
      first_keeps = first.kept;
      second_keeps = second.kept;
      claim = subst (λ o. Claimed w u o (fills_at v t q) rows rows' booked) forward (subst (λ fs. Claimed w u (claimed_for phase q x.outcome) fs rows rows' booked) (dealt_in_lem first) claim);
      compared = Decides-like same
          (λ s. (sym first.answered ∙ s.0 ∙ second.answered, sym first.dealt ∙ s.1 ∙ second.dealt))
          (λ s. (first.answered ∙ s.0 ∙ sym second.answered, first.dealt ∙ s.1 ∙ sym second.dealt))
          compared;
      fault_is = is;
    }
