-- What a shelf of orders stands for. Assumes nothing.
use Rattle.std.specs.Prelude.{◌≡◌, ℕ, ◌≤◌, Bool, List, length, Result, Option}
use Rattle.orders.specs.declared.request.Request.{Request}
use Rattle.orders.specs.declared.order.Fill.{Fill}
use Rattle.orders.specs.declared.answer.Answer.{Answer}
use Rattle.orders.specs.declared.refusal.Refusal.{Refusal}
use Rattle.orders.specs.declared.order.Phase.{Phase}
use Rattle.orders.specs.declared.order.Order.{Order}
use Rattle.plain.specs.Rule.{Rule, Lawful}
use Rattle.plain.specs.Book.{Book, Tape, after}
use Rattle.plain.specs.Book.{fresh as new_book}
use Rattle.plain.specs.Gate.{AdmittedFrom}
use Rattle.venue.specs.Meaning.{Setup, Served, book_setup}
use Rattle.venue.specs.Questions.{is_empty}
use Rattle.shelf.specs.declared.shelf.Shelf.{Shelf}
use Rattle.matching.specs.Weights.{SameOrders}

-- the orders held are those of the plain book
pub record Shows (ps : List (Option Order)) (phase : Phase) (next : ℕ) (b : Book) : Type 0 where
  pub orders : SameOrders ps b
  pub phase_is : phase ≡ b.phase
  pub next_is : next ≡ b.next

pub record Stands (rule : Rule) (ps : List (Option Order)) (phase : Phase) (next : ℕ) (is_fresh : Bool) (t : Tape) : Type 0 where
  pub shows : Shows ps phase next (after rule t)
  pub fresh_is : is_fresh ≡ is_empty t
  pub some_places : 1 ≤ length ps
  pub few_places : length ps ≤ 1024
  pub admitted : AdmittedFrom rule (length ps) new_book t
  pub lawful : Lawful rule

-- a shelf, by what its list holds and how its rule ranks
module _ {L R : Type 0} (contents : L → List (Option Order)) where
  -- the rule and the number of places stay
  pub record SameShelf (s s' : Shelf L R) : Type 0 where
    pub same_rule : s'.rule ≡ s.rule
    pub same_places : length (contents s'.list) ≡ length (contents s.list)

  module _ (ahead : R → Rule) where
    abbrev pub ShelfStands : Shelf L R → Tape → Type 0
    ShelfStands s = Stands (ahead s.rule) (contents s.list) s.phase s.next s.is_new

    -- it is a book with the plain gate and no more
    abbrev pub shelf_setup : Shelf L R → Setup
    shelf_setup s = book_setup (ahead s.rule) (length (contents s.list))

    abbrev pub ServedFrom : Shelf L R → Shelf L R → Request → List Fill → List Fill → Result Answer Refusal → Type 0
    ServedFrom s s' q lent left r = (t : Tape) → ShelfStands s t → Served (shelf_setup s) (ShelfStands s') t q lent left r

    -- a request handled: the rule and the number of places stay, and it is served
    pub record Handles (s s' : Shelf L R) (q : Request) (lent left : List Fill) (r : Result Answer Refusal) : Type 0 where
      pub same : SameShelf s s'
      pub served : ServedFrom s s' q lent left r
