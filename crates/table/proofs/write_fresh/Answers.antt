-- `table::write_fresh` meets its contract. Assumes nothing.
use Rattle.table.proofs.Fresh.{stored_fresh}
use Rattle.table.proofs.write_fresh.Goals as goal

pub returns : goal.returns
returns c = let at_put_zeros = c in
    let at_put_bytes = at_put_zeros in
    let at_keccak256 = at_put_bytes in
    let start = at_keccak256 in
    stored_fresh start.args.table.now start.args.key.now start.args.count start.requires.1.1
    at_keccak256.keccak256-hash.ensures
    at_put_bytes.put_bytes.ensures
    at_put_zeros.put_zeros.ensures
    c.put_number.ensures
