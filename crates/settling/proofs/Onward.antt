-- Items settled so far, and one more.
use Rattle.std.proofs.Common.{◌≡◌, ℕ, ◌+◌, ◌<◌, List, [], ◌∷◌, ◌++◌, length, get_or, take, Option, sym, refl, ap, ◌∙◌, subst, arith}
use Rattle.std.proofs.lemmas.List.{take_more, length-take}
use Rattle.plain.specs.Book.{Tape}
use Rattle.venue.specs.Meaning.{Setup}
use Rattle.ledger.specs.declared.row.Row.{Row}
use Rattle.settling.specs.declared.fault.Fault.{Fault}
use Rattle.settling.specs.declared.fault.Noted.{Noted}
use Rattle.settling.specs.Settled.{Moved}
use Rattle.settling.specs.Items.{Item, tape_of, tape_from, ItemSettled, noted, AllSettled, none, more}

pub tape_push : (xs : List Item) (x : Item) (v : Setup) (t : Tape) → tape_from (xs ++ x ∷ []) v t ≡ tape_of x v (tape_from xs v t)
tape_push [] x v t = refl
tape_push (y ∷ xs) x v t = tape_push xs x v (tape_of y v t)

module _ {V : Type 0} (setup : V → Setup) (stands : V → Tape → Type 0) where
  moved_none : (v : V) → Moved setup stands (tape_from []) v v
  moved_none v = record { same = refl; stood = λ t s. s }

  moved_more : (v v' v'' : V) (xs : List Item) (x : Item) → Moved setup stands (tape_from xs) v v' → Moved setup stands (tape_of x) v' v'' → Moved setup stands (tape_from (xs ++ x ∷ [])) v v''
  moved_more v v' v'' xs x a b = record {
    same = b.same ∙ a.same;
    stood = λ t s. subst (stands v'') (ap (λ k. tape_of x k (tape_from xs (setup v) t)) a.same ∙ sym (tape_push xs x (setup v) t)) (b.stood (tape_from xs (setup v) t) (a.stood t s));
  }

module _ {V W : Type 0} (setup : V → Setup) (stands : V → Tape → Type 0) (setup' : W → Setup) (stands' : W → Tape → Type 0) where
  -- two venues and a ledger before and after items
  pub record SoFar (v v' : V) (w w' : W) (rows rows' : List Row) (xs : List Item) (notes : List Noted) : Type 0 where
    pub first : Moved setup stands (tape_from xs) v v'
    pub second : Moved setup' stands' (tape_from xs) w w'
    pub settled : (t u : Tape) → stands v t → stands' w u → AllSettled (setup v) (setup' w) t u rows xs rows' notes

  pub so_far_none : (v : V) (w : W) (rows : List Row) (notes : List Noted) → notes ≡ [] → SoFar v v w w rows rows [] notes
  so_far_none v w rows notes empty = subst (SoFar v v w w rows rows []) (sym empty) (record { first = moved_none setup stands v; second = moved_none setup' stands' w; settled = λ t u s s'. none })

  module _ (v v' v'' : V) (w w' w'' : W) (rows rows' rows'' : List Row) where
    push : (xs : List Item) (x : Item) (notes : List Noted) (fault : Option Fault) → SoFar v v' w w' rows rows' xs notes →
        Moved setup stands (tape_of x) v' v'' → Moved setup' stands' (tape_of x) w' w'' →
        ((t u : Tape) → stands v' t → stands' w' u → ItemSettled x (setup v') (setup' w') t u rows' rows'' fault) →
        SoFar v v'' w w'' rows rows'' (xs ++ x ∷ []) (notes ++ noted (length xs + 1) fault)
    push xs x notes fault so a b settled = record {
      first = moved_more setup stands v v' v'' xs x so.first a;
      second = moved_more setup' stands' w w' w'' xs x so.second b;
      settled = λ t u s s'.
          let here = settled (tape_from xs (setup v) t) (tape_from xs (setup' w) u) (so.first.stood t s) (so.second.stood u s') in
          more x rows'' fault (so.settled t u s s')
          (subst (λ k. ItemSettled x (setup v) k (tape_from xs (setup v) t) (tape_from xs (setup' w) u) rows' rows'' fault) so.second.same
          (subst (λ k. ItemSettled x k (setup' w') (tape_from xs (setup v) t) (tape_from xs (setup' w) u) rows' rows'' fault) so.first.same here));
    }

    pub so_far_more : (xs : List Item) (i : ℕ) (x : Item) (notes notes' : List Noted) (fault : Option Fault) → SoFar v v' w w' rows rows' (take i xs) notes → i < length xs → x ≡ get_or xs i x →
        Moved setup stands (tape_of x) v' v'' → Moved setup' stands' (tape_of x) w' w'' →
        ((t u : Tape) → stands v' t → stands' w' u → ItemSettled x (setup v') (setup' w') t u rows' rows'' fault) →
        notes' ≡ notes ++ noted (i + 1) fault → SoFar v v'' w w'' rows rows'' (take (i + 1) xs) notes'
    so_far_more xs i x notes notes' fault so inside is a b settled grown =
        let all = push (take i xs) x notes fault so a b settled in
        let items : take i xs ++ x ∷ [] ≡ take (i + 1) xs = ap (λ y. take i xs ++ y ∷ []) is ∙ sym (take_more xs i x inside) in
        let long : length (take i xs) ≡ i = simp length-take (omega arith) in
        let faults : notes ++ noted (length (take i xs) + 1) fault ≡ notes' = ap (λ n. notes ++ noted (n + 1) fault) long ∙ sym grown in
        subst (SoFar v v'' w w'' rows rows'' (take (i + 1) xs)) faults (subst (λ ys. SoFar v v'' w w'' rows rows'' ys (notes ++ noted (length (take i xs) + 1) fault)) items all)
