-- What a shelf refuses is what every book refuses. Assumes nothing.
use Rattle.std.proofs.Common.{◌≡◌, ℕ, Bool, true, false, ltb, leb, List, length, Some, None, Option, sym, refl, ap, ◌∙◌, arith}
use Rattle.orders.specs.declared.refusal.Cause.{Cause}
use Rattle.orders.specs.declared.refusal.Cause.TheVariants.{FillListShort, BookFull}
use Rattle.orders.specs.declared.entry.Entry.{Entry}
use Rattle.orders.specs.declared.request.Request.TheVariants.{Enter}
use Rattle.orders.specs.declared.order.Order.{Order}
use Rattle.orders.specs.declared.order.Phase.{Phase}
use Rattle.orders.specs.declared.order.Phase.TheVariants.{Gathering, Dealing}
use Rattle.plain.specs.Rule.{Rule}
use Rattle.plain.specs.Book.{Book, resting}
use Rattle.orders.specs.Causes.{first, when}
use Rattle.plain.specs.Gate.{unreached, refused_by}
use Rattle.plain.specs.Sound.{Sound}
use Rattle.matching.specs.Scans.{opposite, tonnes_if}
use Rattle.shelf.specs.HeldGate.{is_full, falls_short, entry_refusal}
use Rattle.shelf.specs.Stands.{Shows}
use Rattle.matching.proofs.Shown.{held_count}
use Rattle.matching.proofs.Opposite.{opposite_weight}

module _ {rule : Rule} {ps : List (Option Order)} {phase : Phase} {next : ℕ} (b : Book) (sound : Sound rule b) (shows : Shows ps phase next b) where
  full_same : is_full ps ≡ leb (length ps) (length (resting b))
  full_same = ap (leb (length ps)) (held_count ps b shows.orders)

  short_same : (p : Phase) (e : Entry) → falls_short p e ps ≡ unreached p e b
  short_same Gathering e = refl
  short_same Dealing e = ap (λ n. ltb n e.minimum) (shows.orders (tonnes_if (opposite e.side e.price)) ∙ opposite_weight b sound e.side e.price)

  pub entry_refused : (e : Entry) (n : ℕ) → entry_refusal ps phase next e n ≡ refused_by (length ps) b (Enter e) n
  entry_refused e n = rw (full_same, short_same phase e, shows.phase_is, shows.next_is)

some_none : {c : Cause} → Some c ≡ None → ⊥
some_none h = let z : ◌≡◌ {A = ℕ} 0 1 = cc in omega arith

-- where none of two tests in sequence holds, neither does
none_first : (a r : Option Cause) → first a r ≡ None → (a ≡ None) × (r ≡ None)
none_first None r h = (refl, h)
none_first (Some c) r h = absurd (some_none h)

none_when : (t : Bool) (c : Cause) → when t c ≡ None → t ≡ false
none_when true c h = absurd (some_none h)
none_when false c h = refl

-- what is not refused has a vacant place
pub admits_room : (ps : List (Option Order)) (phase : Phase) (next : ℕ) (e : Entry) (n : ℕ) → None ≡ entry_refusal ps phase next e n → is_full ps ≡ false
admits_room ps phase next e n h =
    let early_on = (none_first _ _ (none_first (when (ltb n (length ps)) FillListShort) _ (sym h)).1).1 in
    none_when (is_full ps) BookFull (none_first (when (is_full ps) BookFull) _ early_on).0
