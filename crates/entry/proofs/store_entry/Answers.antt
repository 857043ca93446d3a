-- `entry::store_entry` meets its contract. Assumes nothing.
use mathlib.Core.Path.{◌≡◌, sym}
use native.Mathlib.Omega.{arith}
use lib.ListN.{length}
use Rattle.entry.proofs.Laws.{stored_entry, length-encode_entry}
use borrow.Author.Rules.{rules}
use Rattle.entry.proofs.store_entry.Goals as goal

pub put_bytes-requires : goal.put_bytes-requires
put_bytes-requires c =
    let key_size : length c.args.p.key ≡ 64 = search rules in
    omega (arith, key_size)

pub slice_bounds-put_bytes-end-2 : goal.slice_bounds-put_bytes-end-2
slice_bounds-put_bytes-end-2 c =
    let hash_size : length c.args.p.hash ≡ 32 = search rules in
    sym hash_size

pub put_bytes-requires-2 : goal.put_bytes-requires-2
put_bytes-requires-2 c =
    let hash_size : length c.args.p.hash ≡ 32 = search rules in
    omega (arith, c.requires, hash_size)

pub returns : goal.returns
returns c =
    let key_size : length c.args.p.key ≡ 64 = search rules in
    let address_size : length c.args.p.endpoint.address ≡ 16 = search rules in
    let hash_size : length c.args.p.hash ≡ 32 = search rules in
    let at_store_stamp_2 = c in
    let at_store_stamp = at_store_stamp_2 in
    let at_put_number = at_store_stamp in
    let at_store_endpoint = at_put_number in
    let at_put_bytes = at_store_endpoint in
    let at_ping_stamp = at_put_bytes in
    let at_proof_stamp = at_ping_stamp in
    let start = at_proof_stamp in
    let args = start.args in record {
      bytes_after = stored_entry args.bytes.now args.at args.p key_size address_size
          at_proof_stamp.proof_stamp-proof.ensures
          at_ping_stamp.ping_stamp-ping.ensures
          at_put_bytes.put_bytes.ensures
          at_store_endpoint.store_endpoint.ensures
          at_put_number.put_number.ensures
          at_store_stamp.store_stamp.ensures
          at_store_stamp_2.store_stamp-2.ensures
          c.put_bytes-2.ensures;
      p_len = length-encode_entry args.p key_size address_size hash_size;
    }
