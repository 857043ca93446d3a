-- `bucket::store_list` meets its contract. Assumes nothing.
use native.Mathlib.Omega.{arith}
use lib.ListN.{length}
use mathlib.Core.Path.{◌≡◌}
use Rattle.bucket.specs.Steps.{listed}
use Rattle.bucket.proofs.Laws.{length_mapped, length-listed, store_list_done}
use borrow.Author.Rules.{rules}
use Rattle.bucket.proofs.store_list.Goals as goal

pub returns : goal.returns
returns c =
    let items_size : length c.args.l.items ≡ 16 = search (rules, length_mapped) in
    let call = c.store_entries in
    let start = c in
    let args = start.args in
    let n : length (listed args.l) ≡ args.l.len = length-listed args.l items_size (omega (arith, start.requires)) in record {
      bytes_after = (store_list_done args.bytes.now call.new.bytes c.put_zeros.new.bytes args.at args.cap args.l.len (listed args.l) n (omega (arith, start.requires))
          call.ensures.bytes_after call.ensures.l_len c.put_zeros.ensures).0;
      l_len = (store_list_done args.bytes.now call.new.bytes c.put_zeros.new.bytes args.at args.cap args.l.len (listed args.l) n (omega (arith, start.requires))
          call.ensures.bytes_after call.ensures.l_len c.put_zeros.ensures).1;
    }
