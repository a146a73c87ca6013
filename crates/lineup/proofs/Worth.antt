-- The tonnes of a side, by its places. Assumes nothing.
use Rattle.std.proofs.Common.{◌≡◌, ℕ, ◌+◌, ◌-◌, ◌^◌, min, cond, List, [], ◌∷◌, drop, sym, refl, ap, ◌∙◌, Option}
use Rattle.orders.specs.declared.request.Side.{Side}
use Rattle.orders.specs.declared.order.Order.{Order}
use Rattle.plain.specs.Orders.{keep, total, within, other}
use Rattle.plain.specs.Book.{Book, side}
use Rattle.plain.proofs.Kept.{total_keep}
use Rattle.lineup.specs.declared.state.State.{State}
use Rattle.lineup.specs.Layout.{seen, held, worth}
use Rattle.lineup.specs.Lying.{Lies, count}
use Rattle.lineup.proofs.Laying.{own_from}

pub worth_held : (t : Side) (limit : ℕ) (os : List Order) → worth t limit (held os) ≡ total (keep (within t limit) os)
worth_held t limit [] = refl
worth_held t limit (o ∷ os) = ap (λ n. cond (within t limit o) o.remaining 0 + n) (worth_held t limit os) ∙ sym (total_keep (within t limit) o os)

-- what an order reaches, where `t` is the side that it deals with
pub reached : (places : List (Option Order)) (s : State) (b : Book) → Lies places s b → (t seer u : Side) (limit start sum : ℕ) →
    seer ≡ t → seer ≡ other u → start ≡ s.capacity - count seer s → sum ≡ min (worth u limit (drop start (seen t places))) (2 ^ 32 - 1) →
    sum ≡ min (total (keep (within u limit) (side (other u) b))) (2 ^ 32 - 1)
reached places s b l t seer u limit start sum is opposite starts summed =
    summed ∙
    ap (λ n. min n (2 ^ 32 - 1))
    (ap (worth u limit) (own_from places s b l t start (starts ∙ ap (λ v. s.capacity - count v s) is)) ∙
    worth_held u limit (side t b) ∙
    ap (λ v. total (keep (within u limit) (side v b))) (sym is ∙ opposite))
