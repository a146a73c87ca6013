use Rattle.std.proofs.Common.{sym, ◌∙◌}
use Rattle.replay.specs.Fills.{pricing}
use Rattle.replay.specs.Queues.{queued}
use Rattle.replay.proofs.Stepped.{agrees_no, queued_first}
use Rattle.replay.proofs.fills.is_dealt.Goals as goal

pub returns-then-not-is_next : goal.returns-then-not-is_next
returns-then-not-is_next c =
    sym (agrees_no (pricing c.args.terms) c.loop-f.left (queued c.loop-f.buys) (queued c.loop-f.sells) c.args.fills.now c.loop-f.f-index
    (queued_first c.loop-f.buys) (queued_first c.loop-f.sells) c.next_fill.ensures _ c.loop-f-test.true (sym c.if-not-is_next.ensures)) ∙
    c.loop-f.invariant
