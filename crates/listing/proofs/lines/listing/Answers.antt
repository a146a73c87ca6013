use Rattle.std.proofs.Common.{◌≡◌, ◌+◌, [], ◌∷◌, ◌++◌, vec_items, sym, refl, ap, ◌∙◌, append-nil}
use Rattle.std.proofs.lemmas.List.{drop_all}
use Rattle.listing.specs.declared.line.Line.TheVariants.{End}
use Rattle.listing.specs.Lines.{record_lines}
use Rattle.std.specs.Slice.Iter.{iter_rest}
use Rattle.listing.proofs.Listed.{record_more}
use Rattle.listing.proofs.lines.listing.Goals as goal

pub loop-i-init : goal.loop-i-init
loop-i-init c =
    let none : vec_items c.new-lines.result ≡ [] = c.new-lines.ensures.items in
    let all : iter_rest c.iter-left.result ≡ c.args.steps.now = c.iter-left.ensures.rest in
    rw (none, all) refl

pub loop-i-preserved : goal.loop-i-preserved
loop-i-preserved c =
    let done = c.in_ok-push_record.ensures in
    let records = c.args.records.now in
    let steps = c.args.steps.now in
    record_more (record_lines 1 records steps) (vec_items c.loop-i.lines) (vec_items c.push_record.new.lines) records c.loop-i.i c.index-records-i.result (iter_rest c.loop-i.left) (iter_rest c.push_record.new.steps) c.loop-i.invariant c.loop-i-test.true c.index-records-i.is done.lines done.used

pub returns : goal.returns
returns c =
    let records = c.args.records.now in
    let steps = c.args.steps.now in
    let lines = vec_items c.loop-i.lines in
    let none = ap (λ rs. lines ++ record_lines (c.loop-i.i + 1) rs (iter_rest c.loop-i.left)) (drop_all c.loop-i.i records c.loop-i-test.false) in
    let all : lines ≡ record_lines 1 records steps = sym (append-nil lines) ∙ sym none ∙ c.loop-i.invariant in
    c.in_ok-push.ensures.items ∙ ap (λ l. l ++ End c.count_admitted.result ∷ []) all ∙ ap (λ n. record_lines 1 records steps ++ End n ∷ []) c.count_admitted.ensures
