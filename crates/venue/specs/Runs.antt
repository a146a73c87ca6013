-- What a whole run promises: of each step, and of where the venue stands between any two. Assumes nothing.
use Rattle.std.specs.Prelude.{◌≡◌, ℕ, ◌+◌, ◌≤◌, List, [], ◌∷◌, ◌++◌, length, drop, Some, None, Ok, Err, vec_items}
use Rattle.orders.specs.declared.entry.Entry.{Entry}
use Rattle.orders.specs.declared.request.Request.TheVariants.{Enter, Call}
use Rattle.orders.specs.declared.order.Phase.TheVariants.{Dealing}
use Rattle.orders.specs.declared.answer.Answer.{Answer}
use Rattle.orders.specs.declared.answer.Answer.TheVariants.{Called}
use Rattle.orders.specs.declared.answer.Called.{Called as CallAnswer}
use Rattle.orders.specs.declared.refusal.Refusal.{Refusal}
use Rattle.plain.specs.Rule.{Rule}
use Rattle.plain.specs.Book.{Book, Tape, fresh}
use Rattle.plain.specs.Matched.{OneList, CallMatches, EntryMatches, CallPriced}
use Rattle.plain.specs.Sound.{UncrossedWhileDealing}
use Rattle.plain.specs.Account.{record_from, Balanced, bought, resting_to_buy}
use Rattle.plain.specs.Held.{held}
use Rattle.venue.specs.declared.step.Sending.{Sending}
use Rattle.venue.specs.declared.step.Step.{Step}
use Rattle.venue.specs.declared.step.Step.TheVariants.{Send, Ask}
use Rattle.venue.specs.Meaning.{Setup, book_at, reply_at}
use Rattle.venue.specs.Caps.{Caps, BindsCaps}
use Rattle.venue.specs.Steps.{refusal, Asked, answered_fills, deals, admitted}

-- the fills and the price of a call that was admitted, by what was answered
pub record CallKept (v : Setup) (b : Book) (s : Sending) (a : CallAnswer) : Type 0 where
  pub one_list : OneList (CallMatches v.rule b a.price a.volume) (answered_fills s)
  pub best_price : CallPriced b a.price a.volume

-- a request as it was sent and as it was answered, after a tape
pub record SendKept (v : Setup) (t : Tape) (s s' : Sending) : Type 0 where
  pub same_request : s'.request ≡ s.request
  -- refused exactly when the gate refuses, with its refusal, and the fill list as it was lent
  pub refused : (f : Refusal) → refusal v t s ≡ Some f → (s'.outcome ≡ Some (Err f)) × (vec_items s'.fills ≡ vec_items s.fills)
  pub refused_only : (f : Refusal) → s'.outcome ≡ Some (Err f) → refusal v t s ≡ Some f
  -- otherwise answered as by the plain book, with its fills first in the list and the places past them as they were lent
  pub answered : refusal v t s ≡ None → s'.outcome ≡ Some (Ok (reply_at v t s.request).answer)
  pub filled : refusal v t s ≡ None → (answered_fills s' ≡ (reply_at v t s.request).fills) × (vec_items s'.fills ≡ answered_fills s' ++ drop (length (answered_fills s')) (vec_items s.fills))
  -- the fills of a call that was admitted are the one list that meets the match laws, and its price is the best
  pub call : s.request ≡ Call → (x : Answer) → s'.outcome ≡ Some (Ok x) → (a : CallAnswer) × ((x ≡ Called a) × CallKept v (book_at v t) s' a)
  -- and so are the fills of an entry that was admitted while dealing
  pub entry : (e : Entry) → s.request ≡ Enter e → (book_at v t).phase ≡ Dealing → (x : Answer) → s'.outcome ≡ Some (Ok x) → OneList (EntryMatches v.rule (book_at v t) e) (answered_fills s')

-- any step, after a tape; a question is answered by the plain book after it, and changes nothing
abbrev pub StepKept : Setup → Tape → Step → Step → Type 0
StepKept v t (Send s) (Send s') = SendKept v t s s'
StepKept v t (Send s) (Ask a') = ⊥
StepKept v t (Ask a) (Send s') = ⊥
StepKept v t (Ask a) (Ask a') = Asked v t a a'

-- what members held before the run was within the caps: of a fresh venue there is nothing to ask
abbrev pub HeldWithin : Rule → Caps → Tape → Type 0
HeldWithin rule caps [] = Unit {0}
HeldWithin rule caps (q ∷ t) = (m : ℕ) → held rule m (q ∷ t) ≤ caps m

-- what holds whenever some steps were answered, by all that was dealt until then: before the run, and in answer to the steps
pub record Between (v : Setup) (earlier : Tape) (done : List Step) : Type 0 where
  pub every_order_adds_up : Balanced (record_from v.rule fresh earlier ++ deals done) (book_at v (earlier ++ admitted done))
  pub uncrossed_while_dealing : UncrossedWhileDealing (book_at v (earlier ++ admitted done))
  -- for every table of caps that the gate binds, no member has bought and rests to buy more than his cap
  pub within_caps : (caps : Caps) → BindsCaps v caps → HeldWithin v.rule caps earlier →
      (m : ℕ) → bought m (record_from v.rule fresh earlier ++ deals done) + resting_to_buy m (book_at v (earlier ++ admitted done)) ≤ caps m

-- a whole run of a venue that stood after a tape, the empty one where it was fresh: the steps as they were sent, and as they were answered
pub record WholeRun (v : Setup) (earlier : Tape) (ss ss' : List Step) : Type 0 where
  pub as_many : length ss' ≡ length ss
  pub each_step : (sent unsent done rest : List Step) (s s' : Step) → ss ≡ sent ++ s ∷ unsent → ss' ≡ done ++ s' ∷ rest → length sent ≡ length done → StepKept v (earlier ++ admitted done) s s'
  pub between_steps : (done rest : List Step) → ss' ≡ done ++ rest → Between v earlier done
