-- The steps as they were answered are the plain book's record of the requests admitted.
use Rattle.std.proofs.Common.{◌≡◌, suc, List, [], ◌∷◌, ◌++◌, length, take, drop, Some, None, Ok, Err, vec_items, Option, sym, refl, ap, ◌∙◌, append_assoc, append-nil, arith, take_at}
use Rattle.orders.specs.declared.request.Request.{Request}
use Rattle.orders.specs.declared.request.Request.TheVariants.{Enter, Withdraw, Call, Halt}
use Rattle.orders.specs.declared.order.Order.{Order}
use Rattle.orders.specs.declared.refusal.Refusal.{Refusal}
use Rattle.orders.specs.Answers.{count}
use Rattle.plain.specs.Rule.{Rule}
use Rattle.plain.specs.Orders.{find}
use Rattle.plain.specs.Book.{Book, Tape, resting, withdrawn, reply, after}
use Rattle.plain.specs.Account.{record_from}
use Rattle.plain.proofs.Tapes.{from_more}
use Rattle.venue.specs.declared.step.Sending.{Sending}
use Rattle.venue.specs.declared.step.Step.{Step}
use Rattle.venue.specs.declared.step.Step.TheVariants.{Send, Ask}
use Rattle.venue.specs.Meaning.{Setup, book_at, reply_at, outcome, laid, joined}
use Rattle.venue.specs.Steps.{refusal, Sent, Answered, tape_of, counted, answered_fills, deal_of, deals, requests, admitted}
use Rattle.venue.proofs.Turns.{reached, Ran}

-- the plain book's answer counts its fills
withdrawn_count : (n : _) (b : Book) (o : Option Order) → count (withdrawn n b o).answer ≡ length (withdrawn n b o).fills
withdrawn_count n b None = refl
withdrawn_count n b (Some o) = refl

pub reply_count : (rule : Rule) (b : Book) (q : Request) → count (reply rule b q).answer ≡ length (reply rule b q).fills
reply_count rule b (Enter e) = refl
reply_count rule b (Withdraw c) = withdrawn_count c.number b (find c.number (resting b))
reply_count rule b Call = refl
reply_count rule b Halt = refl

module _ (v : Setup) where
  -- what a refused request and an admitted one were answered
  module _ (t : Tape) (s s' : Sending) (a : Sent v t s s') where
    pub refused_outcome : (f : Refusal) → refusal v t s ≡ Some f → s'.outcome ≡ Some (Err f)
    refused_outcome f e = a.answer ∙ ap (λ r. Some (outcome r (reply_at v t s.request))) e

    pub refused_list : (f : Refusal) → refusal v t s ≡ Some f → vec_items s'.fills ≡ vec_items s.fills
    refused_list f e = a.list ∙ ap (λ r. laid r (reply_at v t s.request) (vec_items s.fills)) e

    refused_deal : (f : Refusal) → refusal v t s ≡ Some f → deal_of s'.outcome s' ≡ []
    refused_deal f e = ap (λ o. deal_of o s') (refused_outcome f e)

    module _ (e : refusal v t s ≡ None) where
      pub admitted_outcome : s'.outcome ≡ Some (Ok (reply_at v t s.request).answer)
      admitted_outcome = a.answer ∙ ap (λ r. Some (outcome r (reply_at v t s.request))) e

      pub admitted_list : vec_items s'.fills ≡ (reply_at v t s.request).fills ++ drop (length (reply_at v t s.request).fills) (vec_items s.fills)
      admitted_list = a.list ∙ ap (λ r. laid r (reply_at v t s.request) (vec_items s.fills)) e

      pub admitted_fills : answered_fills s' ≡ (reply_at v t s.request).fills
      admitted_fills =
          let r = reply_at v t s.request in
          ap (λ o. counted o (vec_items s'.fills)) admitted_outcome ∙
          ap (λ fs. take (count r.answer) fs) admitted_list ∙
          take_at r.fills (drop (length r.fills) (vec_items s.fills)) (count r.answer) (sym (reply_count v.rule (book_at v t) s.request))

      admitted_deal : deal_of s'.outcome s' ≡ record_from v.rule (book_at v t) (s.request ∷ [])
      admitted_deal =
          ap (λ o. deal_of o s') admitted_outcome ∙
          ap (λ q. record { request = q; answer = (reply_at v t s.request).answer; fills = answered_fills s' } ∷ []) a.same_request ∙
          ap (λ fs. record { request = s.request; answer = (reply_at v t s.request).answer; fills = fs } ∷ []) admitted_fills

  -- the tape after steps is the requests that were answered
  tape_more : (t : Tape) (s s' : Sending) (ss ss' : List Step) (r : Option Refusal) → refusal v t s ≡ r → Sent v t s s' →
      reached v (joined r t s.request) ss ≡ joined r t s.request ++ admitted ss' → reached v (joined r t s.request) ss ≡ t ++ admitted (Send s' ∷ ss')
  tape_more t s s' ss ss' None e a ih = ih ∙ append_assoc t (s.request ∷ []) (admitted ss') ∙ ap (λ ds. t ++ requests (ds ++ deals ss')) (sym (admitted_deal t s s' a e))
  tape_more t s s' ss ss' (Some f) e a ih = ih ∙ ap (λ ds. t ++ requests (ds ++ deals ss')) (sym (refused_deal t s s' a f e))

  pub tape_is : (t : Tape) (ss ss' : List Step) → Ran v t ss ss' → reached v t ss ≡ t ++ admitted ss'
  tape_is t [] [] r = sym (append-nil t)
  tape_is t [] (s' ∷ ss') r = absurd r
  tape_is t (s ∷ ss) [] r = absurd r
  tape_is t (Send s ∷ ss) (Send s' ∷ ss') r = tape_more t s s' ss ss' (refusal v t s) refl r.0 (tape_is (tape_of v t (Send s)) ss ss' r.1)
  tape_is t (Send s ∷ ss) (Ask a' ∷ ss') r = absurd r.0
  tape_is t (Ask a ∷ ss) (Send s' ∷ ss') r = absurd r.0
  tape_is t (Ask a ∷ ss) (Ask a' ∷ ss') r = tape_is t ss ss' r.1

  -- and what was answered is the plain book's record of it
  deals_more : (t : Tape) (s s' : Sending) (ss' : List Step) (r : Option Refusal) → refusal v t s ≡ r → Sent v t s s' →
      deals ss' ≡ record_from v.rule (book_at v (joined r t s.request)) (admitted ss') → deals (Send s' ∷ ss') ≡ record_from v.rule (book_at v t) (admitted (Send s' ∷ ss'))
  deals_more t s s' ss' None e a ih =
      rw (admitted_deal t s s' a e) (ap (λ ds. record_from v.rule (book_at v t) (s.request ∷ []) ++ ds) (ih ∙ ap (λ b. record_from v.rule b (admitted ss')) (from_more v.rule (after v.rule []) t s.request)))
  deals_more t s s' ss' (Some f) e a ih = rw (refused_deal t s s' a f e) ih

  pub deals_are : (t : Tape) (ss ss' : List Step) → Ran v t ss ss' → deals ss' ≡ record_from v.rule (book_at v t) (admitted ss')
  deals_are t [] [] r = refl
  deals_are t [] (s' ∷ ss') r = absurd r
  deals_are t (s ∷ ss) [] r = absurd r
  deals_are t (Send s ∷ ss) (Send s' ∷ ss') r = deals_more t s s' ss' (refusal v t s) refl r.0 (deals_are (tape_of v t (Send s)) ss ss' r.1)
  deals_are t (Send s ∷ ss) (Ask a' ∷ ss') r = absurd r.0
  deals_are t (Ask a ∷ ss) (Send s' ∷ ss') r = absurd r.0
  deals_are t (Ask a ∷ ss) (Ask a' ∷ ss') r = deals_are t ss ss' r.1

  -- a step of a run was answered after the steps before it, and those are a run too
  pub ran_split : (t : Tape) (sent unsent done rest : List Step) (s s' : Step) → length sent ≡ length done → Ran v t (sent ++ s ∷ unsent) (done ++ s' ∷ rest) →
      Ran v t sent done × Answered v (reached v t sent) s s'
  ran_split t [] unsent [] rest s s' l r = (tt, r.0)
  ran_split t [] unsent (y ∷ done) rest s s' l r = absurd (omega arith)
  ran_split t (x ∷ sent) unsent [] rest s s' l r = absurd (omega arith)
  ran_split t (x ∷ sent) unsent (y ∷ done) rest s s' l r =
      let more = ran_split (tape_of v t x) sent unsent done rest s s' (omega arith) r.1 in
      ((r.0, more.0), more.1)

  -- steps from the front of a run are a run
  pub ran_front : (t : Tape) (ss done rest : List Step) → Ran v t ss (done ++ rest) → (sent : List Step) × Ran v t sent done
  ran_front t ss [] rest r = ([], tt)
  ran_front t [] (y ∷ done) rest r = absurd r
  ran_front t (x ∷ ss) (y ∷ done) rest r =
      let more = ran_front (tape_of v t x) ss done rest r.1 in
      (x ∷ more.0, (r.0, more.1))

  pub ran_length : (t : Tape) (ss ss' : List Step) → Ran v t ss ss' → length ss' ≡ length ss
  ran_length t [] [] r = refl
  ran_length t [] (s' ∷ ss') r = absurd r
  ran_length t (s ∷ ss) [] r = absurd r
  ran_length t (s ∷ ss) (s' ∷ ss') r = ap suc (ran_length (tape_of v t s) ss ss' r.1)
