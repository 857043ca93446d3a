-- `entry::load_entry` meets its contract. Assumes nothing.
use Rattle.entry.proofs.Laws.{loaded_entry}
use Rattle.entry.proofs.load_entry.Goals as goal

pub returns : goal.returns
returns c = let at_load_stamp_2 = c in
    let at_load_stamp = at_load_stamp_2 in
    let at_number = at_load_stamp in
    let at_get_bytes = at_number in
    let args = at_get_bytes.args in
    loaded_entry args.bytes.now args.at
    at_get_bytes.get_bytes.ensures
    at_number.load_endpoint-endpoint.ensures
    at_number.number_at.ensures
    at_load_stamp.load_stamp-proof.ensures
    at_load_stamp_2.proof_of-proof.ensures
    at_load_stamp_2.load_stamp-ping.ensures
    c.ping_of-ping.ensures
    c.get_bytes-2.ensures
