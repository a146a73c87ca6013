-- A file dealt on the day's pile, from its bytes to the lines of the listing. Assumes nothing.
use Rattle.std.specs.Prelude.{◌≡◌, ℕ, List}
use Rattle.plain.specs.Rule.{Rule}
use Rattle.venue.specs.declared.step.Step.{Step}
use Rattle.piles.specs.Day.{day_setup, DayRun}
use Rattle.listing.specs.declared.line.Line.{Line}
use Rattle.listing.specs.Lines.{Record, listing}
use Rattle.listing.specs.Records.{AllRead, Prepared}

-- a step for each request of the file was sent to a fresh pile over a book of 8 places, and the lines are of what was answered
pub record DayListing (rule : Rule) (file : List ℕ) (lines : List Line) : Type 0 where
  pub records : List Record
  pub sent : List Step
  pub answered : List Step
  pub read : AllRead file records
  pub prepared : Prepared 8 records sent
  pub ran : DayRun (day_setup rule 8) sent answered
  pub listed : lines ≡ listing records answered
