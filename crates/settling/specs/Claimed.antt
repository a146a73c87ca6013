-- What may be claimed. Assumes nothing.
use Rattle.std.specs.Prelude.{Some, None, Option}
use Rattle.orders.specs.declared.order.Phase.{Phase}
use Rattle.orders.specs.declared.order.Phase.TheVariants.{Gathering, Dealing}
use Rattle.orders.specs.declared.request.Request.{Request}
use Rattle.orders.specs.declared.request.Request.TheVariants.{Enter, Withdraw, Call, Halt}
use Rattle.orders.specs.declared.answer.Answer.{Answer}
use Rattle.orders.specs.declared.answer.Answer.TheVariants.{Entered, Withdrawn, Called, Halted}
use Rattle.claims.specs.declared.claim.Subject.{Subject}
use Rattle.claims.specs.declared.claim.Subject.TheVariants.{Entry as EntrySubject, Call as CallSubject}

-- a call while gathering, at the price and volume that it was answered
abbrev pub call_subject : Phase → Answer → Option Subject
call_subject Gathering (Entered a) = None
call_subject Gathering (Withdrawn a) = None
call_subject Gathering (Called a) = Some (CallSubject a.price a.volume)
call_subject Gathering Halted = None
call_subject Dealing a = None

-- whether an answer to an entry came while dealing
abbrev pub entry_subject : Phase → Answer → Subject → Option Subject
entry_subject Gathering a s = None
entry_subject Dealing (Entered a) s = Some s
entry_subject Dealing (Withdrawn a) s = None
entry_subject Dealing (Called a) s = None
entry_subject Dealing Halted s = None

-- what a request that was answered in a phase may be claimed for, if anything
abbrev pub subject_of : Phase → Request → Answer → Option Subject
subject_of phase (Enter e) a = entry_subject phase a (EntrySubject e)
subject_of phase (Withdraw c) a = None
subject_of phase Call a = call_subject phase a
subject_of phase Halt a = None
