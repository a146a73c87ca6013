use Rattle.request_file.proofs.reader.records_make_up_the_file.Goals as goal
use Rattle.request_file.proofs.Whole.{make_up_the_file}

pub returns : goal.returns
returns c = make_up_the_file
