-- A plain book after the cancel of an order that rests in it. Assumes nothing.
use Rattle.std.proofs.Common.{◌≡◌, ℕ, Bool, true, false, cond, not, eqb, List, [], ◌∷◌, ◌++◌, Some, None, sym, refl, ap, ◌∙◌, subst, arith}
use Rattle.std.proofs.lemmas.Bool.{cond-false, eq-eqb, ne_eqb}
use Rattle.orders.specs.declared.request.Side.{Side}
use Rattle.orders.specs.declared.request.Side.TheVariants.{Buy, Sell}
use Rattle.orders.specs.declared.cancel.Cancel.{Cancel}
use Rattle.orders.specs.declared.request.Request.TheVariants.{Withdraw}
use Rattle.orders.specs.declared.order.Order.{Order}
use Rattle.orders.specs.declared.refusal.Cause.TheVariants.{NoSuchOrder}
use Rattle.plain.specs.Rule.{Rule}
use Rattle.plain.specs.Orders.{find, keep, without, other}
use Rattle.plain.specs.Book.{Book, side, resting}
use Rattle.orders.specs.Causes.{when}
use Rattle.plain.specs.Gate.{refused_by, not_his}
use Rattle.plain.specs.Sound.{Sound, NotNumbered, Distinct, Apart}
use Rattle.lineup.specs.Layout.{Stood}

keep_append : (f : Order → Bool) (xs ys : List Order) → keep f (xs ++ ys) ≡ keep f xs ++ keep f ys
keep_append f [] ys = refl
keep_append f (x ∷ xs) ys =
    let later = keep_append f xs ys in
    elim (f x) as (λ t. cond t (x ∷ keep f (xs ++ ys)) (keep f (xs ++ ys)) ≡ cond t (x ∷ keep f xs) (keep f xs) ++ keep f ys) [
      | true ↦ ap (λ v. x ∷ v) later
      | false ↦ later
    ]

-- nothing of the number is there
pub absent : (n : ℕ) (os : List Order) → find n os ≡ None → without n os ≡ os
absent n [] e = refl
absent n (o ∷ os) e =
    elim (eqb o.number n) as (λ t. (find n os ≡ None → without n os ≡ os) → cond t (Some o) (find n os) ≡ None → cond (not t) (o ∷ without n os) (without n os) ≡ o ∷ os) [
      | true ↦ λ f h. let z : ◌≡◌ {A = ℕ} 0 1 = cc in absurd (omega arith)
      | false ↦ λ f h. ap (λ v. o ∷ v) (f h)
    ] (absent n os) e

unfound : (n : ℕ) (os : List Order) → NotNumbered n os → find n os ≡ None
unfound n [] a = refl
unfound n (o ∷ os) a = cond-false (eqb o.number n) (Some o) (find n os) (ne_eqb o.number n (λ e. a.0 (sym e))) ∙ unfound n os a.1

distinct_later : (earlier : List Order) (o : Order) (later : List Order) → Distinct (earlier ++ o ∷ later) → NotNumbered o.number later
distinct_later [] o later d = d.0
distinct_later (x ∷ earlier) o later d = distinct_later earlier o later d.1

apart_one : (earlier : List Order) (o : Order) (later ys : List Order) → Apart (earlier ++ o ∷ later) ys → NotNumbered o.number ys
apart_one [] o later ys a = a.0
apart_one (x ∷ earlier) o later ys a = apart_one earlier o later ys a.1

module _ (n start : ℕ) (os : List Order) (i : ℕ) (o : Order) (s : Stood n start os i o) where
  stood_without : Distinct os → without n os ≡ s.earlier ++ s.later
  stood_without d =
      let later = subst (λ k. NotNumbered k s.later) s.numbered (distinct_later s.earlier o s.later (subst Distinct s.are d)) in
      let here : without n (o ∷ s.later) ≡ s.later =
      cond-false (not (eqb o.number n)) (o ∷ without n s.later) (without n s.later) (ap not (eq-eqb o.number n s.numbered)) ∙ absent n s.later (unfound n s.later later) in
      ap (without n) s.are ∙ keep_append (λ x. not (eqb x.number n)) s.earlier (o ∷ s.later) ∙ ap (λ v. v ++ without n (o ∷ s.later)) (absent n s.earlier s.not_earlier) ∙ ap (λ v. s.earlier ++ v) here

  apart_without : (ys : List Order) → Apart os ys → without n ys ≡ ys
  apart_without ys a = absent n ys (unfound n ys (subst (λ k. NotNumbered k ys) s.numbered (apart_one s.earlier o s.later ys (subst (λ v. Apart v ys) s.are a))))

abbrev pub gone : ℕ → Book → Book
gone n b = record { phase = b.phase; next = b.next; buys = without n b.buys; sells = without n b.sells }

module _ (rule : Rule) (b : Book) (sound : Sound rule b) (n start i : ℕ) (o : Order) where
  pub own_gone : (t : Side) (s : Stood n start (side t b) i o) → side t (gone n b) ≡ s.earlier ++ s.later
  own_gone Buy s = stood_without n start b.buys i o s sound.buys_distinct
  own_gone Sell s = stood_without n start b.sells i o s sound.sells_distinct

  pub others_stay : (t : Side) → Stood n start (side t b) i o → (t ≡ Sell → find n b.buys ≡ None) → side (other t) (gone n b) ≡ side (other t) b
  others_stay Buy s none = apart_without n start b.buys i o s b.sells sound.sides_apart
  others_stay Sell s none = absent n b.buys (none refl)

pub may_cancel : (capacity : ℕ) (b : Book) (c : Cancel) (m : ℕ) (o : Order) → find c.number (resting b) ≡ Some o → o.member ≡ c.member → refused_by capacity b (Withdraw c) m ≡ None
may_cancel capacity b c m o e his = ap (λ v. when (not_his c.member v) NoSuchOrder) e ∙ ap (λ t. when (not t) NoSuchOrder) (eq-eqb o.member c.member his)
