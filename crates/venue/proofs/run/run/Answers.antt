use Rattle.std.proofs.Common.{◌<◌, ◌++◌, length, get_or, take, refl, arith}
use Rattle.std.proofs.lemmas.List.{take_all, take_more_set}
use Rattle.plain.specs.Book.{Tape}
use Rattle.venue.specs.Steps.{admitted}
use Rattle.venue.proofs.Records.{tape_is}
use Rattle.venue.proofs.WholeRuns.{whole_run}
use Rattle.venue.proofs.Turns.{taken_none, taken_more, read_same, rest_same}
use Rattle.venue.proofs.run.run.Goals as goal

pub loop-step-init : goal.loop-step-init
loop-step-init g c = (taken_none g.V.Venue.setup g.V.Venue.stands c.args.venue.now, refl {a = c.args.steps.now})

pub loop-step-preserved : goal.loop-step-preserved
loop-step-preserved g c =
    let i = c.loop-step.step-index in
    let before = c.args.steps.now in
    let now = c.loop-step.steps in
    let in_before : i < length before = omega arith in
    let in_now : i < length now = omega arith in
    let read = read_same now before i c.step-item.result in_now in_before c.loop-step.invariant.1 in
    let written = take_more_set now i c.take_step.new.step in_now in
    let taken = c.take_step.ensures in
    let all = taken_more g.V.Venue.setup g.V.Venue.stands c.args.venue.now c.loop-step.venue c.take_step.new.venue (take i before) (take i now) (get_or now i c.step-item.result) c.take_step.new.step c.loop-step.invariant.0
    (record { same = taken.same; stood = taken.stands; ran = λ t h. (taken.answered t h, tt) }) in
    (simp (read, written) all, rest_same now before i c.take_step.new.step in_now in_before c.loop-step.invariant.1)

pub returns : goal.returns
returns g c =
    let taken = simp (take_all _ _ c.loop-step-test.false, take_all c.loop-step.step-index c.loop-step.steps (omega arith)) at c.loop-step.invariant.0 in
    let setup = g.V.Venue.setup c.args.venue.now in
    let stands : (t : Tape) → g.V.Venue.stands c.args.venue.now t → g.V.Venue.stands c.loop-step.venue (t ++ admitted c.loop-step.steps) =
    λ t s. rw (← tape_is setup t c.args.steps.now c.loop-step.steps (taken.ran t s)) (taken.stood t s) in
    record {
      same = taken.same;
      stands = stands;
      whole = λ t s. whole_run setup t c.args.steps.now c.loop-step.steps (taken.ran t s) (simp taken.same at (c.keeps.ensures _ (stands t s)));
    }
