use Rattle.csv.specs.Records.{fields_of}
use Rattle.csv_source.proofs.Standings.{reads-stands}
use Rattle.csv_source.proofs.records.next_record.Goals as goal

pub returns-clause-reads : goal.returns-clause-reads
returns-clause-reads c =
    reads-stands c.args.reader.now c.read_byte_record.new.self (fields_of c.read_byte_record.new.row) c.read_byte_record.result c.read_byte_record.ensures.reads c.read_byte_record.ensures.reads_on
