use Rattle.std.proofs.Common.{Some, vec_items, sym, ap, ◌∙◌, subst}
use Rattle.request_file.specs.Reading.{seen}
use Rattle.listing.proofs.Onward.{ReadSoFar, read_none, read_more, read_all}
use Rattle.listing.proofs.records.read_records.Goals as goal

pub loop-item-init : goal.loop-item-init
loop-item-init c =
    let becomes = c.into_iter-item-iterator.ensures.into_iter_gives in
    read_none _ _ _ _ (ap (λ r. r.file.now) becomes ∙ c.over-item-items.ensures.file) (ap (λ r. r.position) becomes ∙ c.over-item-items.ensures.start) c.new-records.ensures.items

pub loop-item-preserved : goal.loop-item-preserved
loop-item-preserved c =
    let file = c.args.file.now in
    let before = c.loop-item.item-iterator in
    let after = c.next.new.self in
    let more = read_more file before.file.now after.file.now before.position after.position (seen (Some c.in-Some.item)) (vec_items c.loop-item.records) c.request_of.result c.loop-item.invariant c.in-Some.ensures.steps c.request_of.ensures in
    subst (ReadSoFar file after.file.now after.position) (sym c.in_ok-push.ensures.items) more

pub returns : goal.returns
returns c =
    let before = c.loop-item.item-iterator in
    let after = c.next.new.self in
    read_all c.args.file.now before.file.now after.file.now before.position after.position (vec_items c.loop-item.records) c.loop-item.invariant c.in-None.ensures.steps
