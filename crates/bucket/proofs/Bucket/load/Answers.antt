-- `bucket::Bucket::load` meets its contract. Assumes nothing.
use Rattle.bucket_model.proofs.ByteForm.{decode-bucket}
use Rattle.bucket.proofs.Bucket.load.Goals as goal

pub returns : goal.returns
returns c = let start = c in
    let args = start.args in
    rw (decode-bucket args.bytes.now args.at start.requires.0 start.requires.1.0 start.requires.1.1)
    (record { entries = c.load_list-entries.ensures; replacements = c.load_list-replacements.ensures })
