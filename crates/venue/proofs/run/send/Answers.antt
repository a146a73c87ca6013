use Rattle.std.proofs.Common.{Some, refl, ap, ◌∙◌, arith}
use Rattle.std.proofs.lemmas.List.{with_items_is}
use Rattle.plain.specs.Book.{Tape}
use Rattle.venue.specs.Meaning.{Served}
use Rattle.venue.proofs.run.send.Goals as goal

pub returns : goal.returns
returns g c =
    let sending = c.args.sending.now in
    let left = c.serve-outcome.new.fills in
    let filled = with_items_is sending.fills left (omega arith) in
    -- what `serve` promised, over the list that the request brought
    let served : (t : Tape) → g.V.Venue.stands c.args.venue.now t →
    Served (g.V.Venue.setup c.args.venue.now) (g.V.Venue.stands c.serve-outcome.new.self) t sending.request sending.fills.items left c.serve-outcome.result =
    λ t s. simp c.as_mut_slice.ensures.value at (c.serve-outcome.ensures.served t s) in
    record {
      same = c.serve-outcome.ensures.same;
      stands = λ t s. (served t s).tape;
      answered = λ t s. record { same_request = refl {a = sending.request}; answer = ap Some (served t s).answered; list = filled ∙ (served t s).list };
    }
