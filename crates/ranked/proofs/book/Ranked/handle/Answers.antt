use Rattle.ranked.proofs.book.Ranked.handle.Goals as goal

pub returns-in-Withdraw-clause-handled : goal.returns-in-Withdraw-clause-handled
returns-in-Withdraw-clause-handled g c b l sound = rw c.in-Withdraw.is (c.withdraw.ensures.handled _ b c.args.fills.now l sound)

pub returns-in-Halt-clause-handled : goal.returns-in-Halt-clause-handled
returns-in-Halt-clause-handled g c b l sound = rw c.in-Halt.is (c.halt.ensures.handled _ b c.args.fills.now l)
