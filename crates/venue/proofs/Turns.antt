-- Steps taken one after the other, and one more at the end.
use Rattle.std.proofs.Common.{◌≡◌, ℕ, ◌+◌, ◌<◌, List, [], ◌∷◌, ◌++◌, length, get_or, take, drop, set, sym, refl, ◌∙◌, subst, arith, drop-set-lt}
use Rattle.std.proofs.lemmas.List.{take_more, drop_more}
use Rattle.plain.specs.Book.{Tape}
use Rattle.venue.specs.declared.step.Step.{Step}
use Rattle.venue.specs.Meaning.{Setup}
use Rattle.venue.specs.Steps.{Answered, tape_of}

-- the tape after steps that were taken after a tape
abbrev pub reached : Setup → Tape → List Step → Tape
reached v t [] = t
reached v t (s ∷ ss) = reached v (tape_of v t s) ss

-- each step was answered after those before it
abbrev pub Ran : Setup → Tape → List Step → List Step → Type 0
Ran v t [] [] = Unit {0}
Ran v t [] (s' ∷ ss') = ⊥
Ran v t (s ∷ ss) [] = ⊥
Ran v t (s ∷ ss) (s' ∷ ss') = Answered v t s s' × Ran v (tape_of v t s) ss ss'

-- what is read where two lists are the same from there on, and what follows it
pub read_same : {X : Type 0} (xs ys : List X) (i : ℕ) (d : X) → i < length xs → i < length ys → drop i xs ≡ drop i ys → take (i + 1) ys ≡ take i ys ++ get_or xs i d ∷ []
read_same xs ys i d l k same =
    let a = drop_more xs i d l in
    let b = drop_more ys i d k in
    let c = take_more ys i d k in
    cc

pub rest_same : {X : Type 0} (xs ys : List X) (i : ℕ) (x : X) → i < length xs → i < length ys → drop i xs ≡ drop i ys → drop (i + 1) (set xs i x) ≡ drop (i + 1) ys
rest_same xs ys i x l k same =
    let a = drop_more xs i x l in
    let b = drop_more ys i x k in
    let c = drop-set-lt (i + 1) xs i x (omega arith) in
    cc

reached_push : (v : Setup) (t : Tape) (ss : List Step) (s : Step) → reached v t (ss ++ s ∷ []) ≡ tape_of v (reached v t ss) s
reached_push v t [] s = refl
reached_push v t (x ∷ ss) s = reached_push v (tape_of v t x) ss s

ran_push : (v : Setup) (t : Tape) (ss ss' : List Step) (s s' : Step) → Ran v t ss ss' → Answered v (reached v t ss) s s' → Ran v t (ss ++ s ∷ []) (ss' ++ s' ∷ [])
ran_push v t [] [] s s' r a = (a, tt)
ran_push v t [] (x' ∷ ss') s s' r a = absurd r
ran_push v t (x ∷ ss) [] s s' r a = absurd r
ran_push v t (x ∷ ss) (x' ∷ ss') s s' r a = (r.0, ran_push v (tape_of v t x) ss ss' s s' r.1 a)

-- a venue before and after steps
pub record Taken {V : Type 0} (setup : V → Setup) (stands : V → Tape → Type 0) (v v' : V) (ss ss' : List Step) : Type 0 where
  pub same : setup v' ≡ setup v
  pub stood : (t : Tape) → stands v t → stands v' (reached (setup v) t ss)
  pub ran : (t : Tape) → stands v t → Ran (setup v) t ss ss'

module _ {V : Type 0} (setup : V → Setup) (stands : V → Tape → Type 0) where
  pub taken_none : (v : V) → Taken setup stands v v [] []
  taken_none v = record { same = refl; stood = λ t s. s; ran = λ t s. tt }

  pub taken_more : (v v' v'' : V) (ss ss' : List Step) (s s' : Step) → Taken setup stands v v' ss ss' → Taken setup stands v' v'' (s ∷ []) (s' ∷ []) →
      Taken setup stands v v'' (ss ++ s ∷ []) (ss' ++ s' ∷ [])
  taken_more v v' v'' ss ss' s s' a b = record {
    same = b.same ∙ a.same;
    stood = λ t h. subst (stands v'') (sym (reached_push (setup v) t ss s)) (subst (λ k. stands v'' (tape_of k (reached (setup v) t ss) s)) a.same (b.stood (reached (setup v) t ss) (a.stood t h)));
    ran = λ t h. ran_push (setup v) t ss ss' s s' (a.ran t h) (subst (λ k. Answered k (reached (setup v) t ss) s s') a.same (b.ran (reached (setup v) t ss) (a.stood t h)).0);
  }
