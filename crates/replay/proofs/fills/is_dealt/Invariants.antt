use Rattle.std.proofs.Common.{◌≡◌, drop}
use Rattle.replay.specs.Fills.{pricing, agrees}
use Rattle.replay.specs.Queues.{queued}
use Rattle.replay.proofs.fills.is_dealt.Given as goal

-- the fills that are left agree with what is left of both lists exactly when all agree with all
abbrev pub invariant-loop-f : goal.invariant-loop-f
invariant-loop-f l =
    agrees (pricing l.terms) l.left (queued l.buys) (queued l.sells) (drop l.f-index l.fills) ≡
    agrees (pricing l.terms) l.tonnes l.buyers l.sellers l.fills
