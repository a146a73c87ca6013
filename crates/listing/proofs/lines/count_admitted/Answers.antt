use Rattle.std.proofs.Common.{◌<◌, length, ap, arith}
use Rattle.std.proofs.lemmas.List.{drop_all}
use Rattle.std.proofs.lemmas.Bool.Decides.{nat_tests}
use Rattle.venue.specs.Steps.{admitted}
use Rattle.listing.proofs.Admitted.{admitted_rest}
use Rattle.listing.proofs.lines.count_admitted.Goals as goal
use Rattle.listing.proofs.lines.count_admitted.Goals.{then-is_admitted, else-is_admitted}

pub loop-step-preserved : goal.loop-step-preserved
loop-step-preserved c =
    let inside : c.loop-step.step-index < length c.args.steps.now = omega arith in
    let rest = admitted_rest c.args.steps.now c.loop-step.step-index c.step-item.result inside c.step-item.is in
    elim c.if-is_admitted.branch [ then-is_admitted w ↦ (grind (arith, nat_tests), omega (arith, w.count-is)) | else-is_admitted w ↦ (grind (arith, nat_tests), omega (arith, w.count-is)) ]

pub returns : goal.returns
returns c =
    let none = ap (λ ss. length (admitted ss)) (drop_all c.loop-step.step-index c.args.steps.now c.loop-step-test.false) in
    omega arith
