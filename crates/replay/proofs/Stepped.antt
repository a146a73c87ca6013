-- Fills held against two lists of orders, one fill at a time. Assumes nothing.
use Rattle.std.proofs.Common.{◌≡◌, ℕ, ◌+◌, ◌-◌, ◌<◌, false, ◌&&◌, List, length, get_or, drop, None, Some, Option, sym, refl, ap, ◌∙◌}
use Rattle.std.proofs.lemmas.List.{at_drop_more}
use Rattle.orders.specs.declared.order.Order.{Order}
use Rattle.orders.specs.declared.order.Fill.{Fill}
use Rattle.plain.specs.Dealing.{Pricing}
use Rattle.replay.specs.declared.queue.Queue.{Queue}
use Rattle.replay.specs.Lists.{head_of, cut_list}
use Rattle.replay.specs.Queues.{led, queued}
use Rattle.replay.specs.Fills.{is_fill, first_fill, agrees}

first_led : (o : Option Order) (os : List Order) → o ≡ head_of (led o os)
first_led None os = refl
first_led (Some o) os = refl

pub queued_first : (q : Queue) → q.first ≡ head_of (queued q)
queued_first q = first_led q.first q.rest.now

module _ (price : Pricing) (n : ℕ) (bs ss : List Order) (fs : List Fill) (i : ℕ)
    {b s : Option Order} {next : Option Fill} (buy : b ≡ head_of bs) (sell : s ≡ head_of ss) (is : next ≡ first_fill price n b s) where
  first_is : next ≡ first_fill price n (head_of bs) (head_of ss)
  first_is = is ∙ ap (λ x. first_fill price n x s) buy ∙ ap (first_fill price n (head_of bs)) sell

  -- a fill that is not the next ends it
  pub agrees_no : (d : Fill) → i < length fs → is_fill (get_or fs i d) next ≡ false → agrees price n bs ss (drop i fs) ≡ false
  agrees_no d h e =
      at_drop_more (agrees price n bs ss) fs i d h ∙
      ap (λ t. t && agrees price (n - (get_or fs i d).quantity) (cut_list (get_or fs i d).quantity bs) (cut_list (get_or fs i d).quantity ss) (drop (i + 1) fs)) (ap (is_fill (get_or fs i d)) (sym first_is) ∙ e)
