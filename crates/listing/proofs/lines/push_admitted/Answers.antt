use Rattle.std.proofs.Common.{[], ◌∷◌, ◌++◌, map, take, vec_items, ap, ◌∙◌}
use Rattle.std.proofs.lemmas.Result.{IfOk-weaker}
use Rattle.venue.specs.Steps.{count as count_of}
use Rattle.listing.specs.declared.line.Line.TheVariants.{Filled}
use Rattle.listing.specs.Lines.{answer_line}
use Rattle.listing.proofs.Listed.{push_then}
use Rattle.listing.proofs.lines.push_admitted.Goals as goal

pub returns : goal.returns
returns c =
    let before = vec_items c.args.lines.now in
    let pushed = vec_items c.push.new.self in
    let answer = c.args.answer.now in
    let fills = c.args.fills.now in
    let line = c.in_ok-push.ensures.items ∙ ap (λ x. before ++ x ∷ []) c.answer_line.ensures in
    IfOk-weaker c.push_fills.result _ _
    (λ _ filled. push_then before pushed (vec_items c.push_fills.new.lines) (map Filled (take (count_of answer) fills)) (answer_line c.args.count answer) line (filled ∙ ap (λ n. pushed ++ map Filled (take n fills)) c.fill_count.ensures))
    c.push_fills.ensures
