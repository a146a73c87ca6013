-- What becomes of a request to a book whose places and state are those of a plain book. Assumes nothing.
use Rattle.std.specs.Prelude.{◌≡◌, List, ◌++◌, length, drop, Some, None, Ok, Err, Result, Option}
use Rattle.orders.specs.declared.request.Request.{Request}
use Rattle.orders.specs.declared.order.Order.{Order}
use Rattle.orders.specs.declared.order.Fill.{Fill}
use Rattle.orders.specs.declared.answer.Answer.{Answer}
use Rattle.orders.specs.declared.refusal.Cause.{Cause}
use Rattle.plain.specs.Rule.{Rule}
use Rattle.plain.specs.Book.{Book, reply}
use Rattle.plain.specs.Gate.{refused_by}
use Rattle.lineup.specs.declared.state.State.{State}
use Rattle.lineup.specs.Lying.{Lies}

pub record Accepted (rule : Rule) (b : Book) (q : Request) (s s' : State) (places : List (Option Order)) (lent left : List Fill) (answer : Answer) : Type 0 where
  pub admitted : refused_by s.capacity b q (length lent) ≡ None
  pub answered : answer ≡ (reply rule b q).answer
  pub list : left ≡ (reply rule b q).fills ++ drop (length (reply rule b q).fills) lent
  pub lies : Lies places s' (reply rule b q).book
  pub capacity : s'.capacity ≡ s.capacity

pub record Declined (b : Book) (q : Request) (s s' : State) (places places' : List (Option Order)) (lent left : List Fill) (c : Cause) : Type 0 where
  pub refused : refused_by s.capacity b q (length lent) ≡ Some c
  pub list : left ≡ lent
  pub same : places' ≡ places
  pub unaltered : s' ≡ s

abbrev pub Handled : Rule → Book → Request → State → List (Option Order) → State → List (Option Order) → List Fill → List Fill → Result Answer Cause → Type 0
Handled rule b q s places s' places' lent left (Ok a) = Accepted rule b q s s' places' lent left a
Handled rule b q s places s' places' lent left (Err c) = Declined b q s s' places places' lent left c
