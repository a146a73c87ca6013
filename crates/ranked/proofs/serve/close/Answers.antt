use Rattle.std.proofs.Common.{refl, subst}
use Rattle.plain.specs.Book.{after}
use Rattle.ranked.specs.Handling.{Handled}
use Rattle.ranked.proofs.Serving.{served_ok}
use Rattle.ranked.proofs.serve.close.Goals as goal

pub returns-in-Ok-clause-served : goal.returns-in-Ok-clause-served
returns-in-Ok-clause-served c rule t q s places left-places lent left st h =
    let done = subst (Handled rule (after rule t) q s places c.args.state.now left-places lent left) c.in-Ok.is h in
    served_ok rule t q s places left-places lent left st _ _ _ done refl refl refl refl refl refl
