use Rattle.layers.proofs.Gates.{admits_below}
use Rattle.layers.proofs.layer.LayerVenue.keeps.Goals as goal

pub returns : goal.returns
returns g c t s =
    let below = c.keeps.ensures t s.below_stands in
    record {
      lawful = below.lawful;
      capacity_low = below.capacity_low;
      capacity_high = below.capacity_high;
      height_high = c.args.self.now.height_high;
      admitted = below.admitted;
      refuses_enough = λ q n a. below.refuses_enough q n (admits_below _ (g.P.Part.own c.args.self.now.part (g.V.Venue.setup c.args.self.now.below).rule t q n) _ a);
    }
