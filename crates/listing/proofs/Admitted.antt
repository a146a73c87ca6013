-- How many requests of steps were admitted, one step at a time.
use Rattle.std.proofs.Common.{◌≡◌, ℕ, ◌+◌, ◌<◌, cond, eqb, List, ◌∷◌, ◌++◌, length, get_or, drop, Some, None, Ok, Err, Option, Result, sym, ap, ◌∙◌, arith}
use Rattle.std.proofs.lemmas.List.{drop_more}
use Rattle.orders.specs.declared.answer.Answer.{Answer}
use Rattle.orders.specs.declared.refusal.Refusal.{Refusal}
use Rattle.venue.specs.declared.step.Sending.{Sending}
use Rattle.venue.specs.declared.step.Step.{Step}
use Rattle.venue.specs.declared.step.Step.TheVariants.{Send, Ask}
use Rattle.venue.specs.Steps.{deal, deal_of, deals, requests, admitted}

-- a request was admitted if it dealt
sent_more : (o : Option (Result Answer Refusal)) (s : Sending) (ss : List Step) →
    length (requests (deal_of o s ++ deals ss)) ≡ cond (eqb (length (deal_of o s)) 1) 1 0 + length (admitted ss)
sent_more None s ss = omega arith
sent_more (Some (Ok a)) s ss = omega arith
sent_more (Some (Err f)) s ss = omega arith

-- one more step in front
pub admitted_more : (s : Step) (ss : List Step) → length (admitted (s ∷ ss)) ≡ cond (eqb (length (deal s)) 1) 1 0 + length (admitted ss)
admitted_more (Send s) ss = sent_more s.outcome s ss
admitted_more (Ask a) ss = omega arith

-- the steps from an index on, and those after it
pub admitted_rest : (ss : List Step) (i : ℕ) (s : Step) → i < length ss → s ≡ get_or ss i s →
    length (admitted (drop i ss)) ≡ cond (eqb (length (deal s)) 1) 1 0 + length (admitted (drop (i + 1) ss))
admitted_rest ss i s h is =
    ap (λ l. length (admitted l)) (drop_more ss i s h) ∙ ap (λ x. length (admitted (x ∷ drop (i + 1) ss))) (sym is) ∙ admitted_more s (drop (i + 1) ss)
