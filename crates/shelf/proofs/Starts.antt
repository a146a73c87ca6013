-- None places stand for the new book. Assumes nothing.
use Rattle.std.proofs.Common.{ℕ, ◌≤◌, Option, true, [], replicate, None, refl, arith}
use Rattle.std.proofs.lemmas.List.{length-replicate}
use Rattle.orders.specs.declared.order.Phase.TheVariants.{Gathering}
use Rattle.orders.specs.declared.order.Order.{Order}
use Rattle.plain.specs.Rule.{Rule, Lawful}
use Rattle.shelf.specs.Stands.{Stands}
use Rattle.matching.proofs.Held.{held_none}

pub stands_new : (rule : Rule) → Lawful rule → (n : ℕ) → 1 ≤ n → n ≤ 1024 → Stands rule (replicate n None) Gathering 1 true []
stands_new rule law n low high =
    record {
      shows = record { orders = λ w. held_none w n; phase_is = refl; next_is = refl };
      fresh_is = refl;
      some_places = omega (arith, length-replicate {A = Option Order} n None);
      few_places = omega (arith, length-replicate {A = Option Order} n None);
      admitted = tt;
      lawful = law;
    }
