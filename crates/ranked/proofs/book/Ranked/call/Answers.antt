use Rattle.std.proofs.Common.{sym, refl, ap, ◌∙◌, arith}
use Rattle.std.proofs.lemmas.Bool.{le-ltb}
use Rattle.orders.specs.declared.refusal.Cause.TheVariants.{FillListShort, WrongPhase}
use Rattle.orders.specs.Causes.{first, when}
use Rattle.plain.specs.Gate.{is_dealing}
use Rattle.lineup.proofs.Laying.{relabelled}
use Rattle.ranked.proofs.Called.{dealing, dealing_sound, call_has, call_room, call_accepted}
use Rattle.ranked.proofs.book.Ranked.call.Goals as goal

pub returns : goal.returns
returns g c = record {
  same = (refl, c.crossed-count.ensures.capacity);
  handled = λ b l sound.
      let lawful = c.is_lawful.ensures in
      let s = c.args.self.now.lineup.state in
      let quoted = c.quote-quote.ensures _ b lawful l sound in
      let phase = sym l.phase_is ∙ c.in-Gathering.is in
      let has = call_has _ lawful b sound _ _ quoted.0 quoted.1 in
      let room = call_room _ lawful b sound _ _ quoted.0 quoted.1 s _ l in
      let begun = relabelled _ _ _ b (dealing b) l refl refl refl refl refl refl l.next_is in
      let crossed = c.crossed-count.ensures.dealt _ (dealing b) begun (dealing_sound b sound) has.0 has.1 room in
      call_accepted _ lawful b sound _ _ quoted.0 quoted.1 s _ _ _ _ _
      (ap (λ x. first (when x FillListShort) (when (is_dealing b.phase) WrongPhase)) (le-ltb _ _ (omega arith)) ∙ ap (λ p. when (is_dealing p) WrongPhase) phase)
      c.crossed-count.ensures.capacity
      crossed;
}
