-- What an answer says of its fills. Assumes nothing.
use Rattle.std.specs.Prelude.{ℕ}
use Rattle.orders.specs.declared.answer.Answer.{Answer}
use Rattle.orders.specs.declared.answer.Answer.TheVariants.{Entered, Withdrawn, Called, Halted}

-- how many fills an answer says that it has
abbrev pub count : Answer → ℕ
count (Entered a) = a.fills
count (Withdrawn a) = 0
count (Called a) = a.fills
count Halted = 0
