use Rattle.std.proofs.Common.{rules, vec_items, refl}
use Rattle.std.proofs.lemmas.Bool.Decides.{Decides-at, Decides-and}
use Rattle.std.proofs.lemmas.Slice.Eq.{slice_eq-Decides}
use Rattle.settling.proofs.reply.is_same.Goals as goal

pub returns : goal.returns
returns c =
    Decides-at c.eq.result _ c.eq.ensures
    (Decides-and _ _ (search rules) (slice_eq-Decides (λ a b. search rules) (vec_items c.args.a.now.fills) (vec_items c.args.b.now.fills) _ refl))
