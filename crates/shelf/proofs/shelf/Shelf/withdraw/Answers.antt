use Rattle.std.proofs.Common.{◌≡◌, ℕ, length, Some, None, sym, refl, ap, ◌∙◌, subst, length-set}
use Rattle.orders.specs.declared.order.Order.{Order}
use Rattle.orders.specs.declared.answer.Answer.TheVariants.{Withdrawn}
use Rattle.orders.specs.declared.request.Request.TheVariants.{Withdraw}
use Rattle.plain.specs.Book.{after, reply}
use Rattle.plain.proofs.StaysSound.{always_sound}
use Rattle.matching.specs.Scans.{NumberedIn}
use Rattle.shelf.specs.Stands.{Shows}
use Rattle.shelf.proofs.Serving.{served_so, served_not}
use Rattle.shelf.proofs.Cancelled.{cancel_none, cancel_another, cancel_his, cancel_answer, cancel_list, cancel_shows}
use Rattle.shelf.proofs.shelf.Shelf.withdraw.Goals as goal
use Rattle.shelf.proofs.shelf.Shelf.withdraw.Goals.{in_default-via-in-Some+else-o-member, in_default-via-in_default}

pub returns-in_default : goal.returns-in_default
returns-in_default g c =
    let ps = g.L.Places.contents c.args.self.now.list in
    let found = subst (λ n. NumberedIn n ps (length ps) c.numbered.result) c.number-number.ensures c.numbered.ensures in
    let cause = ap (λ k. Some k) (sym c.at.ensures.0) in
    λ lent. record {
      same = record { same_rule = refl; same_places = refl };
      served = λ t s.
          let b = after (g.R.Ranking.ahead c.args.self.now.rule) t in
          let sound = always_sound (g.R.Ranking.ahead c.args.self.now.rule) s.lawful t in
          served_not t s (Withdraw c.args.c.now) lent c.at.result
          (elim c.in_default.branch [
            | in_default-via-in-Some+else-o-member w ↦
                cancel_another b sound s.shows c.args.c.now (w.in-Some.i, w.in-Some.o) (subst (NumberedIn c.args.c.now.number ps (length ps)) w.in-Some.is found)
                (λ e. w.if-o-member.false (e ∙ sym w.member.ensures.value)) (length lent) ∙ cause
            | in_default-via-in_default w ↦
                cancel_none b sound s.shows c.args.c.now (subst (NumberedIn c.args.c.now.number ps (length ps)) w.in_default.is found) (length lent) ∙ cause
          ])
          c.at.ensures.1;
    }

pub returns-in-Some : goal.returns-in-Some
returns-in-Some g c =
    let rule = g.R.Ranking.ahead c.args.self.now.rule in
    let ps = g.L.Places.contents c.args.self.now.list in
    let s0 : ℕ × Order = (c.in-Some.i, c.in-Some.o) in
    let same : length (g.L.Places.contents c.vacate.new.self) ≡ length ps = ap length c.vacate.ensures ∙ length-set ps c.in-Some.i None in
    let found = subst (λ n. NumberedIn n ps (length ps) (Some s0)) c.number-number.ensures c.in-Some.ensures in
    λ lent. record {
      same = record { same_rule = refl; same_places = same };
      served = λ t s.
          let sound = always_sound rule s.lawful t in
          served_so t s (Withdraw c.args.c.now) lent _ _ _ _ _
          (cancel_his (after rule t) sound s.shows c.args.c.now s0 found (c.if-o-member.true ∙ c.member.ensures.value) (length lent))
          same
          (subst (λ qs. Shows qs c.args.self.now.phase c.args.self.now.next (reply rule (after rule t) (Withdraw c.args.c.now)).book) (sym c.vacate.ensures) (cancel_shows (after rule t) sound s.shows c.args.c.now s0 found))
          (ap (λ n. Withdrawn (record { number = n; side = c.in-Some.o.side; tonnes = c.in-Some.o.remaining })) c.number-number.ensures ∙ cancel_answer (after rule t) sound s.shows c.args.c.now s0 found)
          (cancel_list (after rule t) sound s.shows c.args.c.now s0 found lent);
    }
