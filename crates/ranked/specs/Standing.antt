-- When a book stands after a tape. Assumes nothing.
use Rattle.std.specs.Prelude.{◌≡◌, ◌≤◌, List, Option}
use Rattle.orders.specs.declared.order.Order.{Order}
use Rattle.plain.specs.Rule.{Rule, Lawful}
use Rattle.plain.specs.Book.{Tape, after, fresh}
use Rattle.plain.specs.Gate.{AdmittedFrom}
use Rattle.venue.specs.Questions.{is_empty}
use Rattle.lineup.specs.declared.state.State.{State}
use Rattle.lineup.specs.Lying.{Lies}

-- a book by its places and its state stands after a tape
pub record Stands (rule : Rule) (places : List (Option Order)) (s : State) (t : Tape) : Type 0 where
  pub lies : Lies places s (after rule t)
  pub fresh_is : s.is_fresh ≡ is_empty t
  pub capacity_low : 1 ≤ s.capacity
  pub admitted : AdmittedFrom rule s.capacity fresh t
  pub lawful : Lawful rule
