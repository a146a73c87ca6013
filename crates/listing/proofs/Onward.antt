-- Records read so far, and steps made so far, one more at a time.
use Rattle.std.proofs.Common.{◌≡◌, ℕ, suc, ◌+◌, ◌<◌, ◌⊎◌, List, [], ◌∷◌, ◌++◌, length, get_or, take, None, Ok, Err, sym, ap, ◌∙◌, subst, inl, inr, ⊎_elim, add-one, arith}
use Rattle.std.proofs.lemmas.Bool.{cases_lt}
use Rattle.std.proofs.lemmas.List.{length_push, get_or_push, get_or_append_left, take_more}
use Rattle.orders.specs.declared.refusal.Cause.{Cause}
use Rattle.orders.specs.declared.request.Request.{Request}
use Rattle.request_file.specs.declared.position.Position.{Position}
use Rattle.request_file.specs.declared.position.Position.TheVariants.{Start}
use Rattle.request_file.specs.Reading.{Given, given, gives, onward, position_after, Steps}
use Rattle.venue.specs.declared.step.Step.{Step}
use Rattle.listing.specs.Lines.{Record}
use Rattle.listing.specs.Records.{ItemOf, AllRead, Unsent, Prepared, none, skip, send}

-- a reader over a file has given the items so far
pub record ReadSoFar (file file' : List ℕ) (p : Position) (rs : List Record) : Type 0 where
  pub same : file' ≡ file
  pub stands : p ≡ position_after file (length rs)
  pub each : (k : ℕ) (d : Record) → k < length rs → ItemOf (given file k) (get_or rs k d)

-- before the first call
pub read_none : (file file' : List ℕ) (p : Position) (rs : List Record) → file' ≡ file → p ≡ Start → rs ≡ [] → ReadSoFar file file' p rs
read_none file file' p rs same start empty =
    record { same = same; stands = start ∙ ap (λ l. position_after file (length l)) (sym empty); each = λ k d h. absurd (omega (arith, ap length empty)) }

-- an index below the next is below, or the last
below_or_last : (k n : ℕ) → k < n + 1 → (k < n) ⊎ (k ≡ n)
below_or_last k n h = ⊎_elim (λ l. inl l) (λ m. inr (omega arith)) (cases_lt k n)

-- what the call gave is what call number (length rs) gives
gave_is : (file file' file'' : List ℕ) (p p' : Position) (g : Given) (rs : List Record) → ReadSoFar file file' p rs → Steps file' p g file'' p' →
    g ≡ given file (length rs)
gave_is file file' file'' p p' g rs so step = step.gave ∙ ap (λ l. gives l p) so.same ∙ ap (gives file) so.stands

-- after one more item
pub read_more : (file file' file'' : List ℕ) (p p' : Position) (g : Given) (rs : List Record) (r : Record) →
    ReadSoFar file file' p rs → Steps file' p g file'' p' → ItemOf g r → ReadSoFar file file'' p' (rs ++ r ∷ [])
read_more file file' file'' p p' g rs r so step made =
    let gave = gave_is file file' file'' p p' g rs so step in
    let long : length (rs ++ r ∷ []) ≡ suc (length rs) = length_push rs r ∙ add-one (length rs) in
    record {
      same = step.file_stays ∙ so.same;
      stands = step.stands ∙ ap onward gave ∙ ap (position_after file) (sym long);
      each = λ k d h. ⊎_elim
          (λ before. subst (ItemOf (given file k)) (sym (get_or_append_left rs (r ∷ []) d k before)) (so.each k d before))
          (λ last. subst (λ x. ItemOf (given file k) x) (sym (get_or_push rs r d k (sym last))) (subst (λ x. ItemOf x r) (gave ∙ ap (given file) (sym last)) made))
          (below_or_last k (length rs) (omega arith));
    }

-- after the call that gives nothing
pub read_all : (file file' file'' : List ℕ) (p p' : Position) (rs : List Record) → ReadSoFar file file' p rs → Steps file' p None file'' p' → AllRead file rs
read_all file file' file'' p p' rs so step = record { each = so.each; ended = sym (gave_is file file' file'' p p' None rs so step) }

-- one more record at the end, which has no request
skipped : {places : ℕ} {rs : List Record} {ss : List Step} (c : Cause) → Prepared places rs ss → Prepared places (rs ++ Err c ∷ []) ss
skipped c none = skip none
skipped c (skip p) = skip (skipped c p)
skipped c (send u p) = send u (skipped c p)

-- one more record at the end, which has one
sent : {places : ℕ} {rs : List Record} {ss : List Step} (q : Request) (s : Step) → Unsent places q s → Prepared places rs ss → Prepared places (rs ++ Ok q ∷ []) (ss ++ s ∷ [])
sent q s new none = send new none
sent q s new (skip p) = skip (sent q s new p)
sent q s new (send u p) = send u (sent q s new p)

-- the same of the front of a list, up to an index and past it
module _ (places : ℕ) (rs : List Record) (i : ℕ) (r : Record) (inside : i < length rs) (is : r ≡ get_or rs i r) where
  pub prepared_skip : (c : Cause) (ss : List Step) → r ≡ Err c → Prepared places (take i rs) ss → Prepared places (take (i + 1) rs) ss
  prepared_skip c ss err p =
      let front : take (i + 1) rs ≡ take i rs ++ Err c ∷ [] = take_more rs i r inside ∙ ap (λ x. take i rs ++ x ∷ []) (sym is ∙ err) in
      rw front (skipped c p)

  pub prepared_send : (q : Request) (s : Step) (ss : List Step) → r ≡ Ok q → Unsent places q s → Prepared places (take i rs) ss → Prepared places (take (i + 1) rs) (ss ++ s ∷ [])
  prepared_send q s ss ok new p =
      let front : take (i + 1) rs ≡ take i rs ++ Ok q ∷ [] = take_more rs i r inside ∙ ap (λ x. take i rs ++ x ∷ []) (sym is ∙ ok) in
      rw front (sent q s new p)
