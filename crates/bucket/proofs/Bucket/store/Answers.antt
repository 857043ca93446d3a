-- `bucket::Bucket::store` meets its contract. Assumes nothing.
use native.Mathlib.Omega.{arith}
use lib.ListN.{length}
use mathlib.Core.Path.{◌≡◌}
use Rattle.bucket.proofs.Laws.{length_mapped, length-listed, store_bucket_done}
use Rattle.bucket_model.proofs.ByteForm.{length-encode_bucket}
use borrow.Author.Rules.{rules}
use Rattle.bucket.proofs.Bucket.store.Goals as goal

pub returns : goal.returns
returns c =
    let seats_size : length c.args.self.entries.items ≡ 16 = search (rules, length_mapped) in
    let waits_size : length c.args.self.replacements.items ≡ 16 = search (rules, length_mapped) in
    let at_store_list = c in
    let at_put_byte_2 = at_store_list in
    let at_put_byte = at_put_byte_2 in
    let start = at_put_byte in
    let args = start.args in record {
      bytes_after = store_bucket_done args.bytes.now
          at_put_byte.put_byte.new.bytes
          at_put_byte_2.put_byte-2.new.bytes
          at_store_list.store_list.new.bytes
          c.store_list-2.new.bytes
          args.at
          args.self
          (length-listed args.self.entries seats_size start.requires.1.entries)
          (length-listed args.self.replacements waits_size (omega (arith, start.requires.1.replacements)))
          at_put_byte.put_byte.ensures
          at_put_byte_2.put_byte-2.ensures
          at_store_list.store_list.ensures.bytes_after
          at_store_list.store_list.ensures.l_len
          c.store_list-2.ensures.bytes_after;
      self_len = length-encode_bucket _ at_store_list.store_list.ensures.l_len c.store_list-2.ensures.l_len;
    }
