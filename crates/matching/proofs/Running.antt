-- One fill, and one more at the end of a run. Assumes nothing.
use Rattle.std.proofs.Common.{◌≡◌, ℕ, ◌+◌, ◌-◌, ◌<◌, ◌≤◌, List, [], ◌∷◌, ◌++◌, length, get_or, drop, set, Some, None, Option, sym, refl, ap, ◌∙◌, inr, append_assoc, arith, length-append}
use Rattle.std.proofs.lemmas.List.{drop_more}
use Rattle.orders.specs.declared.request.Side.{Side}
use Rattle.orders.specs.declared.request.Side.TheVariants.{Buy, Sell}
use Rattle.orders.specs.declared.order.Order.{Order}
use Rattle.orders.specs.declared.order.Fill.{Fill}
use Rattle.plain.specs.Rule.{Rule}
use Rattle.matching.specs.declared.dealing.Deal.{Deal}
use Rattle.matching.specs.declared.dealing.Deal.TheVariants.{Entry, Call}
use Rattle.orders.specs.Entries.{taken}
use Rattle.matching.specs.Deals.{Turn, Turned, DealtOne, OneDeal, begin, more, RunTo}

pub fill_tonnes : (s : Side) (o x : Order) (n : ℕ) → (taken s o x n).quantity ≡ n
fill_tonnes Buy o x n = refl
fill_tonnes Sell o x n = refl

module _ (rule : Rule) (ps qs : List (Option Order)) where
  -- a fill deals no more than is left
  turn_fits : (d : Deal) (left : ℕ) (f : Fill) → Turn rule d left ps qs f → f.quantity ≤ left
  turn_fits (Entry o) left f t = omega (arith, ap (λ (g : Fill). g.quantity) t.fill_is, fill_tonnes o.side o t.found.1)
  turn_fits (Call price) left f t = omega (arith, ap (λ (g : Fill). g.quantity) t.fill_is)

  pub one_deal : (d e : Deal) (left : ℕ) (r : Option Fill) → d ≡ e → 1 ≤ left → Turned rule e left ps qs r → OneDeal rule d left ps qs r
  one_deal d e left None same some t = rw same (t.0, inr t.1)
  one_deal d e left (Some f) same some t = rw same (record { some_left = some; turn = t; no_more = turn_fits e left f t })

-- a write at the end of the front
set_after : (fs : List Fill) (y f : Fill) (rest : List Fill) (k : ℕ) → length fs ≡ k → set (fs ++ (y ∷ rest)) k f ≡ fs ++ (f ∷ rest)
set_after [] y f rest k e = rw (sym e)
set_after (x ∷ fs) y f rest k e = rw (sym e) (ap (λ zs. x ∷ zs) (set_after fs y f rest (length fs) refl))

module _ {rule : Rule} {d : Deal} {start : ℕ} {before : List (Option Order)} (lent : List Fill) where
  pub run_start : RunTo rule d start before lent 0 before lent start
  run_start = record { fills = []; run = begin; many = refl; list_is = refl }

  pub run_more : (k left : ℕ) (ps qs : List (Option Order)) (list : List Fill) (f : Fill) → k < length lent → RunTo rule d start before lent k ps list left →
      DealtOne rule d left ps qs f → RunTo rule d start before lent (k + 1) qs (set list k f) (left - f.quantity)
  run_more k left ps qs list f h r d =
      record {
        fills = r.fills ++ (f ∷ []);
        run = more r.run d;
        many = length-append r.fills (f ∷ []) ∙ ap (λ n. n + 1) r.many;
        list_is = rw (r.list_is, drop_more lent k f h, append_assoc) (set_after r.fills (get_or lent k f) f (drop (k + 1) lent) k r.many);
      }
