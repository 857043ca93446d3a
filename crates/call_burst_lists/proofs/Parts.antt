-- The parts that the code takes of a burst's lists are those of the definitions. Assumes nothing.
use mathlib.Core.Path.{◌≡◌, sym, ap, ◌∙◌}
use mathlib.Core.Bool.{true, false}
use mathlib.Core.List.{[]}
use Prim.Native.Nat.{ℕ, ◌+◌, ◌-◌, ◌≤◌}
use native.Mathlib.Nat.{sub_self, add-sub_cancel_left}
use native.Mathlib.Omega.{arith}
use lib.ListN.{get_or, take, drop, replicate}
use Rattle.octets.specs.Octets.{Bytes, part, same_bytes}
use Rattle.octets.proofs.Laws.{part-part, get_d_part}
use Rattle.node.specs.Nodes.{is_address_size}
use Rattle.packet_model.proofs.From.{address_range}
use Rattle.call_burst_lists.specs.Lists.{signer_in, address_in}

pub taken : (s : Bytes) (at n : ℕ) → take (at + n - at) (drop at s) ≡ part s at n
unfolding part
taken s at n = ap (λ (k : ℕ). take k (drop at s)) (add-sub_cancel_left at n)

none : (s : Bytes) (at : ℕ) → take (at - at) (drop at s) ≡ []
none s at = ap (λ (k : ℕ). take k (drop at s)) (sub_self at)

module _ (s : Bytes) (at : ℕ) where
  pub signer-none : same_bytes (take (at + 64 - at) (drop at s)) (replicate 64 0) ≡ true → take (at - at) (drop at s) ≡ signer_in (part s at 64)
  signer-none h =
      let e : same_bytes (part s at 64) (replicate 64 0) ≡ true = ap (λ (k : Bytes). same_bytes k (replicate 64 0)) (sym (taken s at 64)) ∙ h in
      rw e (none s at)

  pub signer-key : same_bytes (take (at + 64 - at) (drop at s)) (replicate 64 0) ≡ false → take (at + 64 - at) (drop at s) ≡ signer_in (part s at 64)
  signer-key h =
      let e : same_bytes (part s at 64) (replicate 64 0) ≡ false = ap (λ (k : Bytes). same_bytes k (replicate 64 0)) (sym (taken s at 64)) ∙ h in
      rw e (taken s at 64)

  size-at : get_or (part s at 17) 0 0 ≡ get_or s at 0
  size-at = get_d_part s at 17 0 (omega arith) ∙ ap (λ (k : ℕ). get_or s k 0) (omega arith)

  pub size_most : is_address_size (get_or s at 0) ≡ true → get_or s at 0 ≤ 16
  size_most h = (address_range (get_or s at 0) h).1

  pub address-held : is_address_size (get_or s at 0) ≡ true → take (at + 1 + get_or s at 0 - (at + 1)) (drop (at + 1) s) ≡ address_in (part s at 17)
  address-held h =
      let most : get_or s at 0 ≤ 16 = size_most h in
      rw (size-at, h) (taken s (at + 1) (get_or s at 0) ∙ sym (part-part s at 17 1 (get_or s at 0) (omega arith)))

  pub address-none : is_address_size (get_or s at 0) ≡ false → take (at - at) (drop at s) ≡ address_in (part s at 17)
  address-none h = rw (size-at, h) (none s at)
