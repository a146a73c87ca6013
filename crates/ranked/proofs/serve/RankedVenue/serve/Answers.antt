use Rattle.std.proofs.Common.{ap, ◌∙◌}
use Rattle.plain.proofs.StaysSound.{always_sound}
use Rattle.venue.specs.Meaning.{book_setup}
use Rattle.ranked.proofs.serve.RankedVenue.serve.Goals as goal

pub returns : goal.returns
returns g c =
    let same = c.handle-outcome.ensures.same in
    record {
      same = ap (λ r. book_setup (g.R.Ranking.ahead r) c.close.new.state.capacity) same.0 ∙ ap (book_setup _) (c.close.ensures.capacity ∙ same.1);
      served = λ t st. rw same.0 (c.close.ensures.served _ t _ _ _ _ _ _ st (c.handle-outcome.ensures.handled _ st.lies (always_sound _ st.lawful t)));
    }
