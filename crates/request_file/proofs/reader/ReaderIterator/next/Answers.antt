use Rattle.std.proofs.Common.{sym, ap, ◌∙◌, rules}
use Rattle.request_file.specs.Reading.{onward}
use Rattle.request_file.proofs.reader.ReaderIterator.next.Goals as goal
use Rattle.request_file.proofs.Falling.{item_falls}
use Rattle.std.proofs.iter.Next.{firm}

pub returns : goal.returns
returns c =
    let call = c.next_record.ensures in
    record {
      steps = record { file_stays = call.file; gave = call.gives; stands = call.goes ∙ ap onward (sym call.gives) };
      goes = firm (item_falls c.next_record.result c.args.self.now.file.now c.next_record.new.self.file.now c.args.self.now.position c.next_record.new.self.position call.file call.gives call.goes) (λ h. search rules);
    }
