-- What is added beyond an entry's limit changes neither its reach nor its refusal. Assumes nothing.
use Rattle.std.proofs.Common.{◌≡◌, ℕ, ltb, List, refl, ap}
use Rattle.orders.specs.declared.request.Side.{Side}
use Rattle.orders.specs.declared.entry.Entry.{Entry}
use Rattle.orders.specs.declared.order.Phase.{Phase}
use Rattle.orders.specs.declared.order.Phase.TheVariants.{Gathering, Dealing}
use Rattle.orders.specs.declared.order.Order.{Order}
use Rattle.plain.specs.Orders.{keep, total, within}
use Rattle.plain.specs.Book.{Book, in_reach, reach}
use Rattle.plain.specs.Gate.{unreached}
use Rattle.plain.specs.Beyond.{AddedBeyond, none, same, more}
use Rattle.plain.specs.Promises.{ReachEndsAtTheLimit}

kept_the_same : (s : Side) (limit : ℕ) {os ps : List Order} → AddedBeyond s limit os ps → keep (within s limit) os ≡ keep (within s limit) ps
kept_the_same s limit none = refl
kept_the_same s limit (same o a) = rw (kept_the_same s limit a)
kept_the_same s limit (more o beyond a) = rw beyond (kept_the_same s limit a)

unreached_by : (p q : Phase) (e : Entry) (b c : Book) → p ≡ q → reach e b ≡ reach e c → unreached p e b ≡ unreached q e c
unreached_by p q e b c phase tonnes =
    rw phase (elim q as (λ r. unreached r e b ≡ unreached r e c) [ Gathering ↦ refl | Dealing ↦ ap (λ n. ltb n e.minimum) tonnes ])

pub reach_ends_at_the_limit : ReachEndsAtTheLimit
reach_ends_at_the_limit e b c phase added =
    let orders : in_reach e b ≡ in_reach e c = kept_the_same e.side e.price added in
    let tonnes : reach e b ≡ reach e c = ap total orders in
    let below = unreached_by b.phase c.phase e b c phase tonnes in
    record { orders = orders; tonnes = tonnes; below_minimum = below; refused = λ capacity n numbers full. rw (below, phase, numbers, full) }
