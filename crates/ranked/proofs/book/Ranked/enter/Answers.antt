use Rattle.std.proofs.Common.{◌+◌, [], sym, refl, ap, ◌∙◌}
use Rattle.plain.specs.Book.{entry_fills, order}
use Rattle.orders.specs.declared.order.Phase.TheVariants.{Dealing}
use Rattle.lineup.proofs.Laying.{relabelled}
use Rattle.ranked.proofs.Entering.{number_given, none_dealt, tonnes_dealt, turns_fit, turns_come_to, entry_accepted}
use Rattle.ranked.proofs.book.Ranked.enter.Goals as goal

pub returns-in-Gathering : goal.returns-in-Gathering
returns-in-Gathering g c = record {
  same = c.conclude.ensures.same;
  handled = λ b l sound.
      let e = c.args.entry.now in
      let phase = sym l.phase_is ∙ c.in-Gathering.is in
      let given = relabelled _ _ _ b (number_given b) l refl refl refl refl refl l.phase_is (ap (λ k. k + 1) l.next_is) in
      let done = c.conclude.ensures.concluded b [] (rw (none_dealt _ b sound) given) l.next_is refl refl in
      entry_accepted _ b e [] _ _ _ _ _ _ (ap (λ p. entry_fills p e b) phase) (c.in_ok-admit.ensures.refused b l) done.1 refl done.0 c.conclude.ensures.same.1;
}

pub returns-in-Dealing : goal.returns-in-Dealing
returns-in-Dealing g c = record {
  same = (c.conclude-in-Dealing.ensures.same.0, c.conclude-in-Dealing.ensures.same.1 ∙ c.deal-count.ensures.few.0);
  handled = λ b l sound.
      let e = c.args.entry.now in
      let fs = entry_fills Dealing e b in
      let lawful = c.is_lawful.ensures in
      let phase = sym l.phase_is ∙ c.in-Dealing.is in
      let given = relabelled _ _ _ b (number_given b) l refl refl refl refl refl l.phase_is (ap (λ k. k + 1) l.next_is) in
      let n = c.dealable-n.ensures.deals b l in
      let taken = c.deal-count.ensures.dealt (number_given b) given (turns_fit _ _ (number_given b) given _ _ _) in
      let turns = turns_come_to _ b sound lawful e _ _ _ _ _ _ _ (c.order-taker.ensures ∙ ap (order e) l.next_is) n taken in
      let done = c.conclude-in-Dealing.ensures.concluded b fs turns.0 l.next_is (n ∙ sym (tonnes_dealt _ b sound lawful e)) turns.1 in
      entry_accepted _ b e fs _ _ _ _ _ _ (ap (λ p. entry_fills p e b) phase) (c.in_ok-admit.ensures.refused b l) done.1 turns.2 done.0 (c.conclude-in-Dealing.ensures.same.1 ∙ c.deal-count.ensures.few.0);
}
