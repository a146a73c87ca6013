-- The records of a file as requests or refusals, and the steps that are made of them. Assumes nothing.
use Rattle.std.specs.Prelude.{◌≡◌, ℕ, ◌<◌, List, [], ◌∷◌, length, replicate, Some, None, Ok, Err, vec_items, slice_index_or}
use Rattle.orders.specs.Rows.{Made}
use Rattle.orders.specs.declared.order.Fill.{Fill}
use Rattle.orders.specs.declared.refusal.Cause.{Cause}
use Rattle.orders.specs.declared.request.Request.{Request}
use Rattle.request_file.specs.Reading.{Given, given}
use Rattle.venue.specs.declared.step.Step.{Step}
use Rattle.venue.specs.declared.step.Step.TheVariants.{Send, Ask}
use Rattle.listing.specs.Lines.{Record}

-- what is made of that which a call of the reader gives: a record's request or first fault, or the refusal that ends the file
abbrev pub ItemOf : Given → Record → Type 0
ItemOf None r = ⊥
ItemOf (Some (Ok f)) r = Made f.row r
ItemOf (Some (Err f)) r = r ≡ Err f.cause

-- all items of a file, one for each call of the reader, to the call that gives nothing
pub record AllRead (file : List ℕ) (rs : List Record) : Type 0 where
  pub each : (k : ℕ) (d : Record) → k < length rs → ItemOf (given file k) (slice_index_or rs k d)
  pub ended : given file (length rs) ≡ None

-- a fill that no deal made
abbrev pub blank : Fill
blank = record { buy = 0; sell = 0; buyer = 0; seller = 0; price = 0; quantity = 0 }

-- a step that will send a request: a fill list of so many blank fills, and no outcome yet
abbrev pub Unsent : ℕ → Request → Step → Type 0
Unsent places q (Send s) = (s.request ≡ q) × (vec_items s.fills ≡ replicate places blank) × (s.outcome ≡ None)
Unsent places q (Ask a) = ⊥

-- a step for each request, in sequence, and no others
pub data Prepared (places : ℕ) : List Record → List Step → Type 0 where
  none : Prepared places [] []
  skip : {c : Cause} {rs : List Record} {ss : List Step} → Prepared places rs ss → Prepared places (Err c ∷ rs) ss
  send : {q : Request} {s : Step} {rs : List Record} {ss : List Step} → Unsent places q s → Prepared places rs ss → Prepared places (Ok q ∷ rs) (s ∷ ss)
