use Rattle.std.proofs.Common.{not, sym, refl, ap, ◌∙◌}
use Rattle.orders.specs.declared.refusal.Cause.TheVariants.{WrongPhase}
use Rattle.orders.specs.declared.request.Request.TheVariants.{Halt}
use Rattle.orders.specs.Causes.{when}
use Rattle.plain.specs.Gate.{is_dealing}
use Rattle.shelf.proofs.Serving.{served_so}
use Rattle.shelf.proofs.shelf.Shelf.halt.Goals as goal

pub returns-in-Dealing : goal.returns-in-Dealing
returns-in-Dealing g c =
    λ lent. record {
      same = record { same_rule = refl; same_places = refl };
      served = λ t s.
          served_so t s Halt lent _ _ _ _ _ (ap (λ p. when (not (is_dealing p)) WrongPhase) (sym s.shows.phase_is ∙ c.in-Dealing.is)) refl
          (record { orders = s.shows.orders; phase_is = refl; next_is = s.shows.next_is }) refl refl;
    }
