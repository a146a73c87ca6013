-- A gate that binds caps keeps what each member holds at most at his cap.
use Rattle.std.proofs.Common.{◌≡◌, ℕ, ◌+◌, ◌≤◌, Bool, true, false, cond, eqb, List, [], ◌∷◌, length, Some, None, vec_items, Option, refl, subst, arith}
use Rattle.std.proofs.lemmas.Bool.{eqb-true}
use Rattle.orders.specs.declared.request.Side.{Side}
use Rattle.orders.specs.declared.request.Side.TheVariants.{Buy, Sell}
use Rattle.orders.specs.declared.entry.Entry.{Entry}
use Rattle.orders.specs.declared.request.Request.{Request}
use Rattle.orders.specs.declared.request.Request.TheVariants.{Enter, Withdraw, Call, Halt}
use Rattle.orders.specs.declared.refusal.Refusal.{Refusal}
use Rattle.plain.specs.Book.{Tape}
use Rattle.plain.specs.Held.{of_buy, to_buy, held}
use Rattle.plain.proofs.Tapes.{held_more}
use Rattle.venue.specs.declared.step.Step.{Step}
use Rattle.venue.specs.declared.step.Step.TheVariants.{Send, Ask}
use Rattle.venue.specs.Meaning.{Setup, joined}
use Rattle.venue.specs.Caps.{Caps, BindsCaps}
use Rattle.venue.specs.Steps.{refusal, tape_of}
use Rattle.venue.specs.Runs.{HeldWithin}
use Rattle.venue.proofs.Turns.{reached}

module _ (v : Setup) (caps : Caps) (binds : BindsCaps v caps) (m : ℕ) where
  entry_capped : (t : Tape) (e : Entry) (n : ℕ) (side : Side) (his : Bool) → e.side ≡ side → eqb e.member m ≡ his → v.gate t (Enter e) n ≡ None →
      held v.rule m t ≤ caps m → held v.rule m t + cond his (of_buy side e.quantity) 0 ≤ caps m
  entry_capped t e n Buy true s h a l = subst (λ k. held v.rule k t + e.quantity ≤ caps k) (eqb-true e.member m h) (binds t e n s a)
  entry_capped t e n Sell true s h a l = omega arith
  entry_capped t e n side false s h a l = omega arith

  more_capped : (t : Tape) (q : Request) (n : ℕ) → v.gate t q n ≡ None → held v.rule m t ≤ caps m → held v.rule m t + to_buy m q ≤ caps m
  more_capped t (Enter e) n a l = entry_capped t e n e.side (eqb e.member m) refl refl a l
  more_capped t (Withdraw c) n a l = omega arith
  more_capped t Call n a l = omega arith
  more_capped t Halt n a l = omega arith

  pub joined_capped : (t : Tape) (q : Request) (n : ℕ) (r : Option Refusal) → v.gate t q n ≡ r → held v.rule m t ≤ caps m → held v.rule m (joined r t q) ≤ caps m
  joined_capped t q n None a l = rw (held_more v.rule m t q) (omega (arith, more_capped t q n a l))
  joined_capped t q n (Some f) a l = l

  pub held_capped : (t : Tape) (ss : List Step) → held v.rule m t ≤ caps m → held v.rule m (reached v t ss) ≤ caps m
  held_capped t [] l = l
  held_capped t (Send s ∷ ss) l = held_capped (tape_of v t (Send s)) ss (joined_capped t s.request (length (vec_items s.fills)) (refusal v t s) refl l)
  held_capped t (Ask a ∷ ss) l = held_capped t ss l

  pub held_before : (t : Tape) → HeldWithin v.rule caps t → held v.rule m t ≤ caps m
  held_before [] h = omega arith
  held_before (q ∷ t) h = h m
