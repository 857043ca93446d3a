-- `call_burst_lists::address_at` meets its contract. Assumes nothing.
use mathlib.Core.Path.{sym, ◌∙◌}
use Prim.Native.Nat.{◌*◌, ◌≤◌}
use native.Mathlib.Omega.{arith}
use lib.ListN.{get_or}
use Rattle.call_burst_lists.proofs.Parts.{size_most, address-held, address-none}
use Rattle.call_burst_lists.proofs.address_at.Goals as goal

pub overflow_cast-len : goal.overflow_cast-len
overflow_cast-len c = let args = c.args in record { fits = omega (arith, c.shared_slice_known-1.given (17 * args.i)) }

pub overflow_add-end : goal.overflow_add-end
overflow_add-end c =
    let most : get_or c.args.addresses.now (17 * c.args.i) 0 ≤ 16 = let args = c.args in
    size_most args.addresses.now (17 * args.i) (sym c.is_address_size.ensures ∙ c.if-is_address_size.true) in
    omega (arith, most)

pub slice_bounds-result-end : goal.slice_bounds-result-end
slice_bounds-result-end c =
    let most : get_or c.args.addresses.now (17 * c.args.i) 0 ≤ 16 = let args = c.args in
    size_most args.addresses.now (17 * args.i) (sym c.is_address_size.ensures ∙ c.if-is_address_size.true) in
    omega (arith, most)

pub returns-then-is_address_size : goal.returns-then-is_address_size
returns-then-is_address_size c = let args = c.args in
    address-held args.addresses.now (17 * args.i) (sym c.is_address_size.ensures ∙ c.if-is_address_size.true)

pub returns : goal.returns
returns c = let args = c.args in
    address-none args.addresses.now (17 * args.i) (sym c.is_address_size.ensures ∙ c.if-is_address_size.false)
