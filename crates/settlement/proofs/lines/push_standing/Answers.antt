use Rattle.std.proofs.Common.{rules, ◌≡◌, [], ◌∷◌, ◌++◌, map, Some, vec_items, sym, ap, ◌∙◌, append_assoc, append-nil}
use Rattle.settlement.specs.declared.line.Line.TheVariants.{Total}
use Rattle.settlement.specs.Lines.{member_lines}
use Rattle.settlement.proofs.Ranks.{place_lines, held_lines}
use Rattle.settlement.proofs.lines.push_standing.Goals as goal

pub returns : goal.returns
returns c =
    let stand = c.rank_members-board.ensures in
    let held : c.into_iter-i-iterator.result.list.now.places ≡ map Some stand.members = search rules in
    let before = vec_items c.args.lines.now in
    let lines = vec_items c.loop-i.lines in
    let all : lines ≡ before ++ member_lines 1 stand.members =
    sym (append-nil lines) ∙ rw c.in-None.ensures.steps.1.1 at c.loop-i.invariant ∙ ap (λ ps. before ++ place_lines 1 ps) held ∙ ap (λ ls. before ++ ls) (held_lines 1 stand.members) in
    record {
      members = stand.members;
      sum = c.sum.result;
      ranked = stand.ranked;
      sums = c.sum.ensures;
      are = c.in_ok-push.ensures.items ∙ ap (λ ls. ls ++ Total c.sum.result ∷ []) all ∙ append_assoc before (member_lines 1 stand.members) (Total c.sum.result ∷ []);
    }
