use Rattle.std.proofs.Common.{◌≡◌, ◌+◌, ◌≤◌, drop}
use Rattle.plain.specs.Orders.{keep, total, within}
use Rattle.replay.specs.Lists.{capped}
use Rattle.replay.proofs.lists.tonnes_within.Given as goal

-- what was summed up and what is left make the whole
abbrev pub invariant-loop-o : goal.invariant-loop-o
invariant-loop-o l =
    (capped (l.sum + total (keep (within l.side l.limit) (drop l.o-index l.orders))) ≡ capped (total (keep (within l.side l.limit) l.orders))) ×
    (l.sum ≤ 4294967295)
