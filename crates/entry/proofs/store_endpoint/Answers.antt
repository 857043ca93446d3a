-- `entry::store_endpoint` meets its contract. Assumes nothing.
use mathlib.Core.Path.{◌≡◌}
use native.Mathlib.Omega.{arith}
use lib.ListN.{length}
use Rattle.entry.proofs.Laws.{store-endpoint}
use borrow.Author.Rules.{rules}
use Rattle.entry.proofs.store_endpoint.Goals as goal

pub put_bytes-requires : goal.put_bytes-requires
put_bytes-requires c =
    let size : length c.args.e.address ≡ 16 = search rules in
    omega (arith, size)

pub returns : goal.returns
returns c =
    let size : length c.args.e.address ≡ 16 = search rules in
    let start = c in
    let args = start.args in
    cc (store-endpoint args.bytes.now args.at args.e size)
