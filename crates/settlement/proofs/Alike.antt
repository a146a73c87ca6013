-- Items settled between the day's piles over two fresh books of 8 places under the time rule.
use Rattle.std.proofs.Common.{◌≡◌, List, [], get_or, replicate, ap, ◌∙◌, subst}
use Rattle.venue.specs.Meaning.{Setup, book_setup}
use Rattle.venue.specs.Caps.{BindsCaps}
use Rattle.ranking.specs.Rules.{time}
use Rattle.piles.specs.Day.{over_book, day_setup}
use Rattle.piles.proofs.Thousand.{at_most}
use Rattle.ledger.specs.declared.row.Row.{Row}
use Rattle.ledger.specs.Rows.{nothing}
use Rattle.settling.specs.declared.fault.Noted.{Noted}
use Rattle.settling.specs.Items.{Item, AllSettled}
use Rattle.settlement.specs.Totals.{Clear}
use Rattle.settlement.proofs.Totals.{clear}

pub day_clear : (v w book book' : Setup) (start rows : List Row) (items : List Item) (notes : List Noted) →
    v ≡ over_book book → book ≡ book_setup time 8 → w ≡ over_book book' → book' ≡ book_setup time 8 → start ≡ replicate 64 nothing → BindsCaps v (λ m. get_or (replicate 64 1000) m 0) →
    AllSettled v w [] [] start items rows notes → Clear (day_setup time 8) items rows notes
day_clear v w book book' start rows items notes over plain over' plain' empty binds all =
    let v_is : v ≡ day_setup time 8 = over ∙ ap over_book plain in
    let w_is : w ≡ day_setup time 8 = over' ∙ ap over_book plain' in
    clear (day_setup time 8) (λ m. get_or (replicate 64 1000) m 0) (subst (λ x. BindsCaps x (λ m. get_or (replicate 64 1000) m 0)) v_is binds) (λ m. at_most 64 m 1000)
    (subst (λ x. AllSettled x (day_setup time 8) [] [] (replicate 64 nothing) items rows notes) v_is
    (subst (λ x. AllSettled v x [] [] (replicate 64 nothing) items rows notes) w_is
    (subst (λ rs. AllSettled v w [] [] rs items rows notes) empty all)))
