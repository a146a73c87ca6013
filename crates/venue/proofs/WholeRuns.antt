-- What a whole run keeps, at a venue that keeps its word after it.
use Rattle.std.proofs.Common.{◌≡◌, ◌+◌, ◌≤◌, List, [], ◌∷◌, ◌++◌, length, Some, None, Ok, Err, Option, sym, refl, ap, ◌∙◌, subst, append_assoc, arith}
use Rattle.orders.specs.declared.entry.Entry.{Entry}
use Rattle.orders.specs.declared.request.Request.{Request}
use Rattle.orders.specs.declared.request.Request.TheVariants.{Enter, Call}
use Rattle.orders.specs.declared.order.Phase.TheVariants.{Dealing}
use Rattle.orders.specs.declared.answer.Answer.{Answer}
use Rattle.orders.specs.declared.answer.Answer.TheVariants.{Called}
use Rattle.orders.specs.declared.answer.Called.{Called as CallAnswer}
use Rattle.orders.specs.declared.refusal.Refusal.{Refusal}
use Rattle.plain.specs.Rule.{Lawful}
use Rattle.plain.specs.Price.{call_volume}
use Rattle.plain.specs.Book.{Tape, fresh, price, call_fills, entry_fills, reach}
use Rattle.plain.specs.Matched.{OneList, CallMatches, EntryMatches}
use Rattle.plain.specs.Gate.{AdmittedFrom}
use Rattle.plain.specs.Account.{Dealt, record_from, Balanced, bought, resting_to_buy}
use Rattle.plain.specs.Held.{held}
use Rattle.plain.proofs.Tapes.{admitted_front, admitted_at, record_append}
use Rattle.plain.proofs.Capacity.{entry_reaches}
use Rattle.plain.proofs.StaysSound.{always_sound}
use Rattle.plain.proofs.NeverCrossed.{never_crossed_while_dealing}
use Rattle.plain.proofs.OrdersAddUp.{every_order_adds_up}
use Rattle.plain.proofs.MembersAddUp.{held_is_bought_and_resting}
use Rattle.plain.proofs.Matched.{fills_are_the_one_list, call_price_is_best}
use Rattle.venue.specs.declared.step.Sending.{Sending}
use Rattle.venue.specs.declared.step.Step.{Step}
use Rattle.venue.specs.declared.step.Step.TheVariants.{Send, Ask}
use Rattle.venue.specs.Meaning.{Setup, book_at, reply_at, Kept}
use Rattle.venue.specs.Steps.{refusal, Sent, Answered, answered_fills, deal_of, deal, deals, requests, admitted}
use Rattle.venue.specs.Runs.{CallKept, SendKept, StepKept, Between, WholeRun}
use Rattle.venue.proofs.Turns.{Ran}
use Rattle.venue.proofs.Records.{refused_outcome, refused_list, admitted_outcome, admitted_list, admitted_fills, tape_is, deals_are, ran_split, ran_front, ran_length}
use Rattle.venue.proofs.Capped.{held_capped, held_before}

-- what a request was answered says whether the gate refused it
module _ (v : Setup) (t : Tape) (s s' : Sending) (a : Sent v t s s') where
  refused_since : (f : Refusal) (r : Option Refusal) → refusal v t s ≡ r → s'.outcome ≡ Some (Err f) → r ≡ Some f
  refused_since f None e o = let was = admitted_outcome v t s s' a e in cc
  refused_since f (Some g) e o = let was = refused_outcome v t s s' a g e in cc

  admitted_since : (x : Answer) (r : Option Refusal) → refusal v t s ≡ r → s'.outcome ≡ Some (Ok x) → r ≡ None
  admitted_since x None e o = refl
  admitted_since x (Some g) e o = let was = refused_outcome v t s s' a g e in cc

  module _ (q : Request) (is : s.request ≡ q) (x : Answer) (o : s'.outcome ≡ Some (Ok x)) where
    passed : refusal v t s ≡ None
    passed = admitted_since x (refusal v t s) refl o

    answer_is : x ≡ (reply_at v t q).answer
    answer_is =
        let was = admitted_outcome v t s s' a passed in
        let same = ap (λ y. (reply_at v t y).answer) is in
        cc

    fills_are : answered_fills s' ≡ (reply_at v t q).fills
    fills_are = admitted_fills v t s s' a passed ∙ ap (λ y. (reply_at v t y).fills) is

requests_append : (ds es : List Dealt) → requests (ds ++ es) ≡ requests ds ++ requests es
requests_append [] es = refl
requests_append (d ∷ ds) es = ap (λ t. d.request ∷ t) (requests_append ds es)

deals_append : (ss rs : List Step) → deals (ss ++ rs) ≡ deals ss ++ deals rs
deals_append [] rs = refl
deals_append (s ∷ ss) rs = ap (λ ds. deal s ++ ds) (deals_append ss rs) ∙ sym (append_assoc (deal s) (deals ss) (deals rs))

admitted_append : (done rest : List Step) → admitted (done ++ rest) ≡ admitted done ++ admitted rest
admitted_append done rest = ap requests (deals_append done rest) ∙ requests_append (deals done) (deals rest)

-- the tape after some steps begins the tape after all of them
tape_append : (t : Tape) (ss done rest : List Step) → ss ≡ done ++ rest → t ++ admitted ss ≡ (t ++ admitted done) ++ admitted rest
tape_append t ss done rest is = ap (λ xs. t ++ admitted xs) is ∙ ap (λ u. t ++ u) (admitted_append done rest) ∙ sym (append_assoc t (admitted done) (admitted rest))

-- a request that was answered after a tape, and joined it if it was admitted
module _ (v : Setup) (lawful : Lawful v.rule) (t : Tape) (rest : List Step) (s s' : Sending) (a : Sent v t s s') (tape : AdmittedFrom v.rule v.capacity fresh (t ++ admitted (Send s' ∷ rest))) where
  call_kept : s.request ≡ Call → (x : Answer) → s'.outcome ≡ Some (Ok x) → (c : CallAnswer) × ((x ≡ Called c) × CallKept v (book_at v t) s' c)
  call_kept is x o =
      let b = book_at v t in
      let sound = always_sound v.rule lawful t in
      let fills = fills_are v t s s' a Call is x o in (
        record { price = price b; volume = call_volume b.buys b.sells; fills = length (call_fills b) },
        (
          answer_is v t s s' a Call is x o,
          record {
            one_list = subst (OneList (CallMatches v.rule b (price b) (call_volume b.buys b.sells))) (sym fills) (fills_are_the_one_list v.rule lawful b sound).of_call;
            best_price = call_price_is_best v.rule b sound;
          },
        ),
      )

  reaches : (e : Entry) → s.request ≡ Enter e → (book_at v t).phase ≡ Dealing → (x : Answer) → s'.outcome ≡ Some (Ok x) → e.minimum ≤ reach e (book_at v t)
  reaches e is dealing x o =
      let joins = ap (λ r. t ++ requests (deal_of r s' ++ deals rest)) o ∙ ap (λ q. t ++ q ∷ admitted rest) (a.same_request ∙ is) in
      let passed = admitted_at v.rule v.capacity fresh t (admitted rest) (Enter e) (subst (AdmittedFrom v.rule v.capacity fresh) joins tape) in
      entry_reaches v.capacity (book_at v t) passed.0 e passed.1 dealing

  entry_kept : (e : Entry) → s.request ≡ Enter e → (book_at v t).phase ≡ Dealing → (x : Answer) → s'.outcome ≡ Some (Ok x) → OneList (EntryMatches v.rule (book_at v t) e) (answered_fills s')
  entry_kept e is dealing x o =
      let b = book_at v t in
      let sound = always_sound v.rule lawful t in
      let fills = fills_are v t s s' a (Enter e) is x o ∙ ap (λ p. entry_fills p e b) dealing in
      subst (OneList (EntryMatches v.rule b e)) (sym fills) ((fills_are_the_one_list v.rule lawful b sound).of_entry e (reaches e is dealing x o))

  send_kept : SendKept v t s s'
  send_kept = record {
    same_request = a.same_request;
    refused = λ f e. (refused_outcome v t s s' a f e, refused_list v t s s' a f e);
    refused_only = λ f o. refused_since v t s s' a f (refusal v t s) refl o;
    answered = λ e. admitted_outcome v t s s' a e;
    filled = λ e. let fills = admitted_fills v t s s' a e in (fills, rw fills (admitted_list v t s s' a e));
    call = call_kept;
    entry = entry_kept;
  }

step_kept : (v : Setup) → Lawful v.rule → (t : Tape) (rest : List Step) (s s' : Step) → Answered v t s s' → AdmittedFrom v.rule v.capacity fresh (t ++ admitted (s' ∷ rest)) → StepKept v t s s'
step_kept v lawful t rest (Send s) (Send s') a tape = send_kept v lawful t rest s s' a tape
step_kept v lawful t rest (Send s) (Ask a') a tape = a
step_kept v lawful t rest (Ask q) (Send s') a tape = a
step_kept v lawful t rest (Ask q) (Ask q') a tape = a

module _ (v : Setup) (lawful : Lawful v.rule) (earlier : Tape) where
  between_kept : (sent done : List Step) → Ran v earlier sent done → AdmittedFrom v.rule v.capacity fresh (earlier ++ admitted done) → Between v earlier done
  between_kept sent done r tape =
      let all = earlier ++ admitted done in
      let record_is = record_append v.rule fresh earlier (admitted done) ∙ ap (λ ds. record_from v.rule fresh earlier ++ ds) (sym (deals_are v earlier sent done r)) in
      record {
        every_order_adds_up = subst (λ ds. Balanced ds (book_at v all)) record_is (every_order_adds_up v.rule lawful all);
        uncrossed_while_dealing = never_crossed_while_dealing v.rule lawful all;
        within_caps = λ caps binds before m.
            let capped = subst (λ t. held v.rule m t ≤ caps m) (tape_is v earlier sent done r) (held_capped v caps binds m earlier sent (held_before v caps binds m earlier before)) in
            let same = held_is_bought_and_resting v.rule lawful v.capacity all tape m in
            subst (λ ds. bought m ds + resting_to_buy m (book_at v all) ≤ caps m) record_is (omega arith);
      }

pub whole_run : (v : Setup) (earlier : Tape) (ss ss' : List Step) → Ran v earlier ss ss' → Kept v (earlier ++ admitted ss') → WholeRun v earlier ss ss'
whole_run v earlier ss ss' r kept = record {
  as_many = ran_length v earlier ss ss' r;
  each_step = λ sent unsent done rest s s' is is' l.
      let both = ran_split v earlier sent unsent done rest s s' l (subst (λ xs. Ran v earlier xs (done ++ s' ∷ rest)) is (subst (Ran v earlier ss) is' r)) in
      step_kept v kept.lawful (earlier ++ admitted done) rest s s' (subst (λ t. Answered v t s s') (tape_is v earlier sent done both.0) both.1)
      (subst (AdmittedFrom v.rule v.capacity fresh) (tape_append earlier ss' done (s' ∷ rest) is') kept.admitted);
  between_steps = λ done rest is.
      let front = ran_front v earlier ss done rest (subst (Ran v earlier ss) is r) in
      between_kept v kept.lawful earlier front.0 done front.1
      (admitted_front v.rule v.capacity fresh (earlier ++ admitted done) (admitted rest) (subst (AdmittedFrom v.rule v.capacity fresh) (tape_append earlier ss' done rest is) kept.admitted));
}
