use Rattle.std.proofs.Common.{◌+◌, [], take, vec_items, sym, ap, ◌∙◌, subst}
use Rattle.std.proofs.lemmas.List.{take_all}
use Rattle.listing.specs.Records.{Prepared, none}
use Rattle.listing.proofs.Onward.{prepared_skip, prepared_send}
use Rattle.listing.proofs.records.steps_for.Goals as goal
use Rattle.listing.proofs.records.steps_for.Goals.{in-Ok+in_ok-unsent+in_ok-push, in_default}

pub loop-item-init : goal.loop-item-init
loop-item-init c = subst (Prepared c.args.places []) (sym c.new-steps.ensures.items) none

pub loop-item-preserved : goal.loop-item-preserved
loop-item-preserved c =
    let records = c.args.records.now in
    let i = c.loop-item.item-index in
    let places = c.args.places in
    let r = c.item-item.result in
    let steps = vec_items c.loop-item.steps in
    elim c.match-item.branch [
      | in-Ok+in_ok-unsent+in_ok-push w ↦
          let sent = prepared_send places records i r c.loop-item-test.true c.item-item.is w.in-Ok.request w.in_ok-unsent.field-0 steps w.in-Ok.is w.in_ok-unsent.ensures c.loop-item.invariant in
          subst (Prepared places (take (i + 1) records)) (sym (ap vec_items w.steps-is ∙ w.in_ok-push.ensures.items)) sent
      | in_default w ↦
          let skipped = prepared_skip places records i r c.loop-item-test.true c.item-item.is w.in_default.field-0 steps w.in_default.is c.loop-item.invariant in
          subst (Prepared places (take (i + 1) records)) (sym (ap vec_items w.steps-is)) skipped
    ]

pub returns : goal.returns
returns c = rw (take_all c.loop-item.item-index c.args.records.now c.loop-item-test.false) at c.loop-item.invariant
