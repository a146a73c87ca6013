-- Whether there is room, by what a search for a vacant place found. Assumes nothing.
use Rattle.std.proofs.Common.{◌≡◌, ℕ, ◌≤◌, Bool, true, false, not, List, length, Some, None, Option, sym, arith}
use Rattle.std.specs.Option.{is_some}
use Rattle.std.proofs.lemmas.Bool.{false≢true, true≢false, le-leb, lt-leb}
use Rattle.orders.specs.declared.order.Order.{Order}
use Rattle.matching.specs.Weights.{held_weight}
use Rattle.matching.specs.Scans.{VacantIn}
use Rattle.matching.proofs.Held.{held_all, held_room}
use Rattle.shelf.specs.HeldGate.{is_full}

pub no_room : (ps : List (Option Order)) → VacantIn ps (length ps) None → is_full ps ≡ true
no_room ps none =
    let full : length ps ≤ held_weight (λ _. 1) ps = omega (arith, held_all ps none) in
    le-leb _ _ full

pub some_room : (ps : List (Option Order)) (k : ℕ) → VacantIn ps (length ps) (Some k) → is_full ps ≡ false
some_room ps k found = lt-leb _ _ (held_room ps k found.0 found.1)

pub room_told : (ps : List (Option Order)) (found : Option ℕ) (none : Bool) → VacantIn ps (length ps) found → is_some found ≡ not none → none ≡ is_full ps
room_told ps None true vacant told = sym (no_room ps vacant)
room_told ps None false vacant told = absurd (false≢true told)
room_told ps (Some k) true vacant told = absurd (true≢false told)
room_told ps (Some k) false vacant told = sym (some_room ps k vacant)
