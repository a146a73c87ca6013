-- What is left of an entry rests, or nothing of it does. Assumes nothing.
use Rattle.std.proofs.Common.{◌≡◌, ℕ, ◌+◌, ◌-◌, ◌≤◌, true, false, ◌&&◌, ltb, List}
use Rattle.std.proofs.lemmas.Bool.{ltb-true, and_parts, cond_both}
use Rattle.orders.specs.declared.entry.Entry.{Entry}
use Rattle.orders.specs.declared.order.Order.{Order}
use Rattle.orders.specs.declared.order.Fill.{Fill}
use Rattle.plain.specs.Rule.{Rule, with_remaining}
use Rattle.plain.specs.Dealing.{tonnes}
use Rattle.plain.specs.Book.{Book, order, put, rests, dealt_with, entered}

-- the tonnes left of an entry, its order with them, and the book before it rests
abbrev pub left_tonnes : Entry → List Fill → ℕ
left_tonnes e fs = e.quantity - tonnes fs

abbrev pub left_order : Entry → Book → List Fill → Order
left_order e b fs = with_remaining (order e b.next) (left_tonnes e fs)

abbrev pub dealt_book : Book → List Fill → Book
dealt_book b fs = dealt_with b.phase (b.next + 1) fs b

-- what holds of the book with and without what is left of an entry holds of the book after it
pub entered_both : (rule : Rule) (e : Entry) (b : Book) (fs : List Fill) (P : Book → Type 0) →
    (rests e.life ≡ true → 1 ≤ left_tonnes e fs → P (put rule e.side (left_order e b fs) (dealt_book b fs))) →
    ((rests e.life && ltb 0 (left_tonnes e fs)) ≡ false → P (dealt_book b fs)) → P (entered rule e b fs).book
entered_both rule e b fs P rested gone =
    cond_both (rests e.life && ltb 0 (left_tonnes e fs)) (put rule e.side (left_order e b fs) (dealt_book b fs)) (dealt_book b fs) P
    (λ t. let parts = and_parts (rests e.life) (ltb 0 (left_tonnes e fs)) t in rested parts.0 (ltb-true 0 (left_tonnes e fs) parts.1))
    gone
