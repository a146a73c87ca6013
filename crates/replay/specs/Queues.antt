-- A queue as the list of its orders. Assumes nothing.
use Rattle.std.specs.Prelude.{List, [], ◌∷◌, Some, None, Option}
use Rattle.orders.specs.declared.order.Order.{Order}
use Rattle.replay.specs.declared.queue.Queue.{Queue}

-- a first order, if there is one, before others
abbrev pub led : Option Order → List Order → List Order
led None os = []
led (Some o) os = o ∷ os

abbrev pub queued : Queue → List Order
queued q = led q.first q.rest.now
