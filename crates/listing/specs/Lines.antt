-- The lines of a listing. Assumes nothing.
use Rattle.std.specs.Prelude.{ℕ, ◌+◌, List, [], ◌∷◌, ◌++◌, map, length, take, Some, None, Ok, Err, vec_items, Option, Result}
use Rattle.orders.specs.declared.request.Request.{Request}
use Rattle.orders.specs.declared.answer.Answer.{Answer}
use Rattle.orders.specs.declared.answer.Answer.TheVariants.{Entered as EnteredAnswer, Withdrawn as WithdrawnAnswer, Called as CalledAnswer, Halted as HaltedAnswer}
use Rattle.orders.specs.declared.refusal.Cause.{Cause}
use Rattle.orders.specs.declared.refusal.Refusal.{Refusal}
use Rattle.orders.specs.declared.order.Fill.{Fill}
use Rattle.venue.specs.declared.step.Sending.{Sending}
use Rattle.venue.specs.declared.step.Step.{Step}
use Rattle.venue.specs.declared.step.Step.TheVariants.{Send, Ask}
use Rattle.venue.specs.Steps.{count as count_of, admitted}
use Rattle.listing.specs.declared.line.Line.{Line}
use Rattle.listing.specs.declared.line.Line.TheVariants.{Entered, Cancelled, Called, Halted, Refused, Filled, End}

-- a record of a file: its request, or why it has none
abbrev pub Record : Type 0
Record = Result Request Cause

-- the line of a record that no pile was asked about
abbrev pub skipped : ℕ → Cause → Line
skipped count c = Refused count (record { cause = c; height = None })

-- the line of an answer
abbrev pub answer_line : ℕ → Answer → Line
answer_line count (EnteredAnswer a) = Entered count a
answer_line count (WithdrawnAnswer a) = Cancelled count a
answer_line count (CalledAnswer a) = Called count a
answer_line count HaltedAnswer = Halted count

-- the lines of a request that was admitted: how it was answered, then as many fills as the answer says
abbrev pub admitted_lines : ℕ → Answer → List Fill → List Line
admitted_lines count a fs = answer_line count a ∷ map Filled (take (count_of a) fs)

-- the lines of a request by what it was answered: none for one that was not sent
abbrev pub outcome_lines : ℕ → Option (Result Answer Refusal) → List Fill → List Line
outcome_lines count None fs = []
outcome_lines count (Some (Ok a)) fs = admitted_lines count a fs
outcome_lines count (Some (Err f)) fs = Refused count f ∷ []

-- the same of a request with its fill list
abbrev pub sending_lines : ℕ → Sending → List Line
sending_lines count s = outcome_lines count s.outcome (vec_items s.fills)

-- the lines of a step: a question has none
abbrev pub step_lines : ℕ → Step → List Line
step_lines count (Send s) = sending_lines count s
step_lines count (Ask a) = []

-- the lines of a record with the steps that are left: a request has the next step
abbrev pub first_lines : ℕ → Record → List Step → List Line
first_lines count (Err c) ss = skipped count c ∷ []
first_lines count (Ok q) [] = []
first_lines count (Ok q) (s ∷ ss) = step_lines count s

-- the steps that it leaves
abbrev pub steps_after : Record → List Step → List Step
steps_after (Err c) ss = ss
steps_after (Ok q) [] = []
steps_after (Ok q) (s ∷ ss) = ss

-- the lines of records, counted on from a number
abbrev pub record_lines : ℕ → List Record → List Step → List Line
record_lines count [] ss = []
record_lines count (r ∷ rs) ss = first_lines count r ss ++ record_lines (count + 1) rs (steps_after r ss)

-- all lines after the first: those of the records, and how many requests were admitted
abbrev pub listing : List Record → List Step → List Line
listing rs ss = record_lines 1 rs ss ++ (End (length (admitted ss)) ∷ [])
