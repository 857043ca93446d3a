-- The calls that a burst stands for have values of their types. Assumes nothing.
use Prim.Native.Nat.{ℕ, zero, suc, ◌+◌, ◌*◌}
use mathlib.Core.Bool.{Bool, true, false, cond}
use mathlib.Core.List.{List, []}
use native.Mathlib.Omega.{arith}
use lib.ListN.{length, get_or, replicate}
use Rattle.octets.specs.Octets.{Bytes, Slice, part, same_bytes}
use Rattle.octets.proofs.Laws.{slice_part}
use Rattle.lists.specs.Lists.{All}
use Rattle.node.specs.Nodes.{is_address_size}
use Rattle.call_burst_lists.specs.Lists.{Burst, IsBurst, is_whole, signer_in, address_in}
use Rattle.call_history.specs.Model.{Call}
use Rattle.call_history.specs.Chain.{IsCall}
use Rattle.call_burst.specs.Burst.{calls_from, calls_of}

no_bytes : Slice []
no_bytes = record { bytes = λ i. omega arith; size = omega arith }

either : (t : Bool) (x y : Bytes) → Slice x → Slice y → Slice (cond t x y)
either true x y hx hy = hx
either false x y hx hy = hy

address_slice : (a : Bytes) → Slice a → Slice (address_in a)
address_slice a h = either (is_address_size (get_or a 0 0)) (part a 1 (get_or a 0 0)) [] (slice_part a 1 (get_or a 0 0) h) no_bytes

signer_slice : (key : Bytes) → Slice key → Slice (signer_in key)
signer_slice key h = either (same_bytes key (replicate 64 0)) [] key no_bytes h

module _ (b : Burst) (is : IsBurst b) where
  made-from : (i at n : ℕ) → All IsCall (calls_from b i at n)
  unfolding calls_from
  made-from i at zero = tt
  made-from i at (suc n) =
      let address = slice_part b.addresses (17 * i) 17 is.addresses in
      let signer = slice_part b.signers (64 * i) 64 is.signers in (
        (is.millis _, is.unix _, address_slice _ address, is.ports _, signer_slice _ signer, slice_part _ _ _ is.buffer),
        made-from (i + 1) (at + get_or b.lengths i 0) n,
      )

  of_test : (t : Bool) (cs : List Call) → All IsCall cs → All IsCall (cond t cs [])
  of_test true cs h = h
  of_test false cs h = tt

  pub calls-made : (room : ℕ) → All IsCall (calls_of b room)
  unfolding calls_of
  calls-made room = of_test (is_whole b room) (calls_from b 0 0 (length b.lengths)) (made-from 0 0 (length b.lengths))
