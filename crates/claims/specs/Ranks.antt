-- The orders of a side after a tape. Assumes nothing.
use Rattle.std.specs.Prelude.{List}
use Rattle.orders.specs.declared.request.Side.{Side}
use Rattle.orders.specs.declared.order.Order.{Order}
use Rattle.plain.specs.Book.{Tape, side}
use Rattle.venue.specs.Meaning.{Setup, book_at}

abbrev pub side_at : Setup → Tape → Side → List Order
side_at v t s = side s (book_at v t)
