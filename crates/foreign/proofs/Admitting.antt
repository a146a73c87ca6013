-- A request that was answered was admitted, and one more counts.
use Rattle.std.proofs.Common.{◌≡◌, ℕ, ◌+◌, ◌-◌, ◌^◌, min, [], ◌∷◌, ◌++◌, length, Some, None, Ok, Option, sym, refl, subst, arith, length-append}
use Rattle.orders.specs.declared.answer.Answer.{Answer}
use Rattle.orders.specs.declared.request.Request.{Request}
use Rattle.orders.specs.declared.refusal.Refusal.{Refusal}
use Rattle.plain.specs.Book.{Tape, Reply}
use Rattle.venue.specs.Meaning.{outcome, joined}
use Rattle.foreign.specs.Counts.{CountStands}

admitted : (g : Option Refusal) (r : Reply) (a : Answer) → Ok a ≡ outcome g r → g ≡ None
admitted None r a e = refl
admitted (Some f) r a e = cc

module _ (below : Tape → Type 0) (height lower before after : ℕ) (t : Tape) (q : Request) (one_higher : height ≡ lower + 1) (was : before ≡ min (length t) (2 ^ 64 - 1)) (is : after ≡ min (before + 1) (2 ^ 64 - 1)) where
  counted_on : below (t ++ q ∷ []) → CountStands below height lower after (t ++ q ∷ [])
  counted_on stands = record { stands_below = stands; one_higher = one_higher; counted = omega (arith, length-append t (q ∷ [])) }

  pub one_more : (g : Option Refusal) (r : Reply) (a : Answer) → Ok a ≡ outcome g r → below (joined g t q) → CountStands below height lower after (joined g t q)
  one_more g r a e stands =
      let none = admitted g r a e in
      subst (λ x. CountStands below height lower after (joined x t q)) (sym none) (counted_on (subst (λ x. below (joined x t q)) none stands))
