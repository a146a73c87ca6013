-- A book that is opened. Assumes nothing.
use Rattle.std.proofs.Common.{◌≡◌, ℕ, ◌≤◌, List, length, replicate, sym, refl, ap, ◌∙◌, append-nil, arith, Option, None}
use lib.ListN.{length-replicate}
use Rattle.orders.specs.declared.request.Side.TheVariants.{Buy, Sell}
use Rattle.orders.specs.declared.order.Order.{Order}
use Rattle.plain.specs.Rule.{Rule, Lawful}
use Rattle.plain.specs.Book.{side, fresh}
use Rattle.lineup.specs.declared.state.State.{State}
use Rattle.lineup.specs.Lying.{count, vacant}
use Rattle.lineup.proofs.Laying.{both_see, on_both}
use Rattle.venue.specs.Meaning.{book_setup}
use Rattle.venue.specs.Books.{Opened}
use Rattle.ranked.specs.Standing.{Stands}

-- a book that is opened
pub opened : (rule : Rule) → Lawful rule → (capacity places-count : ℕ) → capacity ≡ places-count → 1 ≤ capacity → capacity ≤ 1024 → (s : State) → s ≡ vacant places-count →
    {places : List (Option Order)} → places ≡ replicate places-count None → Opened rule places-count (book_setup rule s.capacity) (Stands rule places s)
opened rule lawful capacity n size low high s is {places = places} none = rw is (record {
  fresh = record {
    lies = record {
      gap = n;
      laid = both_see Sell places n fresh (none ∙ sym (append-nil (replicate n None)));
      counts = on_both (λ t. count t (vacant n) ≡ length (side t fresh)) Buy refl refl;
      size = sym (ap length none ∙ length-replicate n None);
      small = omega arith;
      phase_is = refl;
      next_is = refl;
    };
    fresh_is = refl;
    capacity_low = omega arith;
    admitted = tt;
    lawful = lawful;
  };
  plain = refl;
  fit = (omega arith, omega arith);
})
