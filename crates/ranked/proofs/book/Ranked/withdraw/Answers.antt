use Rattle.std.proofs.Common.{◌≡◌, ◌++◌, length, drop, Some, sym, refl, ap, ◌∙◌, subst}
use Rattle.orders.specs.declared.answer.Answer.TheVariants.{Withdrawn}
use Rattle.plain.specs.Orders.{find}
use Rattle.plain.specs.Book.{resting, withdrawn}
use Rattle.lineup.specs.Lying.{Lies}
use Rattle.ranked.proofs.Cancelled.{gone, own_gone, others_stay, may_cancel}
use Rattle.ranked.proofs.book.Ranked.withdraw.Goals as goal

pub returns : goal.returns
returns g c = record {
  same = (refl, c.take_out.ensures.recounted.capacity);
  handled = λ rule b lent l sound.
      let cancel = c.args.cancel.now in
      let found = c.in-Some.found in
      let o = found.order in
      let rests = c.in-Some.ensures b l in
      let number = c.number-number.ensures in
      let first : find cancel.number (resting b) ≡ Some o = ap (λ n. find n (resting b)) (sym number) ∙ rests.first in
      let replied = sym (ap (withdrawn cancel.number b) first) in
      let own = own_gone rule b sound _ _ _ o found.side rests.stood in
      let others = others_stay rule b sound _ _ _ o found.side rests.stood rests.not_bought in
      let lies = c.take_out.ensures.lies b (gone c.number-number.result b) _ o _ l rests.stood.are rests.stood.lies own others refl refl in
      let places = g.L.Places.contents c.take_out.new.self.mirrored.list in
      record {
        admitted = may_cancel c.args.self.now.lineup.state.capacity b cancel (length lent) o first (c.if-order-member.false ∙ c.member.ensures.value);
        answered = ap (λ n. Withdrawn (record { number = n; side = o.side; tonnes = o.remaining })) number ∙ ap (λ r. r.answer) replied;
        list = ap (λ r. r.fills ++ drop (length r.fills) lent) replied;
        lies = subst (λ r. Lies places c.take_out.new.self.state r.book) replied (subst (λ n. Lies places c.take_out.new.self.state (gone n b)) number lies);
        capacity = c.take_out.ensures.recounted.capacity;
      };
}
