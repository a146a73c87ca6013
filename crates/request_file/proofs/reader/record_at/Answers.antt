use Rattle.std.proofs.Common.{◌∙◌, arith}
use Rattle.request_file.specs.Records.{bytes_of, row_of}
use Rattle.request_file.proofs.reader.record_at.Goals as goal
use Rattle.request_file.proofs.Framing.{record_lies, none_lies}

pub returns-in-Some : goal.returns-in-Some
returns-in-Some c =
    let f = record_lies c.args.file.now c.args.offset c.from-length.result (omega arith) (omega arith) (bytes_of c.in-Some.record) (row_of c.in-Some.record) c.in-Some.ensures.0 c.in-Some.ensures.1 in
    record { found = f.0; position = f.1 }

pub returns-in-None : goal.returns-in-None
returns-in-None c =
    let f = none_lies c.args.file.now c.args.offset c.from-length.result (omega arith) (omega arith) c.in-None.ensures in
    record { found = c.refused-in-None.ensures.found ∙ f.0; position = c.refused-in-None.ensures.position ∙ f.1 }
