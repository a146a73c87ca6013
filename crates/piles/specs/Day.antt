-- The day's pile, and what a run of it promises. Assumes nothing.
use Rattle.std.specs.Prelude.{◌≡◌, ℕ, ◌+◌, ◌<◌, ◌≤◌, true, List, [], ◌++◌, replicate, slice_index}
use Rattle.orders.specs.declared.refusal.Cause.{Cause}
use Rattle.orders.specs.declared.refusal.Cause.TheVariants.{BadSetup}
use Rattle.plain.specs.Rule.{Rule}
use Rattle.plain.specs.Book.{Tape}
use Rattle.plain.specs.Account.{bought, resting_to_buy}
use Rattle.venue.specs.declared.step.Step.{Step}
use Rattle.venue.specs.Meaning.{Setup, book_at, book_setup}
use Rattle.venue.specs.Questions.{is_empty}
use Rattle.venue.specs.Steps.{deals, admitted}
use Rattle.venue.specs.Runs.{WholeRun}
use Rattle.venue.specs.Books.{FitPlaces}
use Rattle.venue.specs.Caps.{BindsCaps}
use Rattle.layers.specs.declared.layer.Layer.{Layer}
use Rattle.layers.specs.declared.caps.Caps.{Caps}
use Rattle.layers.specs.declared.collar.Collar.{Collar}
use Rattle.layers.specs.Caps.{HasHeld, WithinCaps}
use Rattle.layers.specs.Stack.{layered, LayerStands}
use Rattle.layers.specs.Own.{cap_rule, collar_rule}

-- the cap layer without caps given lies at height 1, over any book, and the collar from 100 to 300 at height 2
abbrev pub over_book : Setup → Setup
over_book book = layered (collar_rule 100 300) 2 (layered (cap_rule (replicate 64 1000)) 1 book)

-- the same over any venue: one higher than it, and two higher
abbrev pub over_venue : Setup → Setup
over_venue v = layered (collar_rule 100 300) (v.height + 2) (layered (cap_rule (replicate 64 1000)) (v.height + 1) v)

-- over a book with the plain gate and no more
abbrev pub day_setup : Rule → ℕ → Setup
day_setup rule places = over_book (book_setup rule places)

-- what a pile is by its parts: the set-up and the tapes of a collar over caps over a venue
abbrev pub Pile : Type 0 → Type 0
Pile V = Layer Collar (Layer Caps V)

module _ {V : Type 0} (setup : V → Setup) (stands : V → Tape → Type 0) where
  abbrev pub capped_setup : Layer Caps V → Setup
  capped_setup l = layered (cap_rule l.part.caps) l.height (setup l.below)

  abbrev pub CappedStands : Layer Caps V → Tape → Type 0
  CappedStands l = LayerStands (λ t. HasHeld l.part.held (setup l.below).rule t × WithinCaps l.part.held l.part.caps) (stands l.below) l.height (setup l.below).height

  abbrev pub pile_setup : Pile V → Setup
  pile_setup p = layered (collar_rule p.part.low p.part.high) p.height (capped_setup p.below)

  abbrev pub PileStands : Pile V → Tape → Type 0
  PileStands p = LayerStands (λ t. p.part.low ≤ p.part.high) (CappedStands p.below) p.height (capped_setup p.below).height

  -- the day's pile over a fresh book: its set-up, that it stands after the empty tape, and that it binds a cap of 1,000 for each member
  pub record PiledOver (book : V) (p : Pile V) : Type 0 where
    pub set_up : pile_setup p ≡ over_book (setup book)
    pub fresh : PileStands p []
    pub binds : BindsCaps (pile_setup p) (λ m. slice_index (replicate 64 1000) m)

  -- the same over a fresh venue with room for two layers
  pub record PiledOverVenue (below : V) (p : Pile V) : Type 0 where
    pub room : (setup below).height < 14
    pub was_fresh : (t : Tape) → stands below t → is_empty t ≡ true
    pub set_up : pile_setup p ≡ over_venue (setup below)
    pub fresh : stands below [] → PileStands p []
    pub binds : BindsCaps (pile_setup p) (λ m. slice_index (replicate 64 1000) m)

  -- no pile: the venue is not fresh, or has no room for two layers
  pub record NotPiled (below : V) (c : Cause) : Type 0 where
    pub cause_is : c ≡ BadSetup
    pub unfit : (setup below).height < 14 → stands below [] → ⊥

-- what a run of a fresh pile promises
pub record DayRun (v : Setup) (ss ss' : List Step) : Type 0 where
  pub whole : WholeRun v [] ss ss'
  -- at any point of the run no member has bought and rests to buy more than 1,000 tonnes
  pub within_thousand : (done rest : List Step) → ss' ≡ done ++ rest → (m : ℕ) → bought m (deals done) + resting_to_buy m (book_at v (admitted done)) ≤ 1000

-- no run: there is no book over so few places or so many, and the steps are as they were
pub record NotRun (places : ℕ) (c : Cause) (ss ss' : List Step) : Type 0 where
  pub unfit : FitPlaces places → ⊥
  pub cause_is : c ≡ BadSetup
  pub unsent : ss' ≡ ss
