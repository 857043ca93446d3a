-- `octets::number_at` meets its contract. The invariant: the value is the number of the first bytes, and fits them. Assumes nothing.
use mathlib.Core.Path.{◌≡◌, refl, sym, ap, ◌∙◌}
use Prim.Native.Nat.{ℕ, ◌+◌, ◌-◌, ◌*◌, ◌^◌, ◌<◌}
use native.Mathlib.Omega.{arith}
use lib.ListN.{drop, length-take, length-drop}
use Rattle.octets.specs.Octets.{part, number, number_from}
use Rattle.octets.proofs.Laws.{get_d_part, number_next, next_less, fits_8}
use Rattle.octets.proofs.number_at.Goals as goal

pub loop-b-init : goal.loop-b-init
unfolding part number_from
loop-b-init c = (omega arith, refl)

pub overflow_mul-value : goal.overflow_mul-value
overflow_mul-value c =
    let room : c.loop-b.value * 256 + 255 < 2 ^ 64 = fits_8 c.loop-b.b-index (next_less c.loop-b.b-index c.loop-b.invariant.0 (omega arith)) (omega arith) in
    omega (arith, room)

pub overflow_add-value : goal.overflow_add-value
overflow_add-value c =
    let room : c.loop-b.value * 256 + 255 < 2 ^ 64 = fits_8 c.loop-b.b-index (next_less c.loop-b.b-index c.loop-b.invariant.0 (omega arith)) (omega arith) in
    omega (arith, room, c.wide.ensures.1)

pub loop-b-preserved : goal.loop-b-preserved
unfolding part
loop-b-preserved c =
    let i = c.loop-b.b-index in
    let a = c.args in
    let inside : i < a.at + a.width - a.at = omega (arith, c.loop-b-test.true, length-take (a.at + a.width - a.at) (drop a.at a.bytes.now)) in (
      next_less i c.loop-b.invariant.0 c.wide.ensures.1,
      ap (λ (n : ℕ). n * 256 + c.wide.result) c.loop-b.invariant.1
          ∙ ap (λ (b : ℕ). number (part a.bytes.now a.at i) * 256 + b) (c.wide.ensures.0 ∙ get_d_part a.bytes.now a.at (a.at + a.width - a.at) i inside)
          ∙ sym (number_next a.bytes.now a.at i (omega arith)),
    )

pub returns : goal.returns
returns c =
    let a = c.args in
    let e : c.loop-b.b-index ≡ a.width = omega (arith, c.loop-b-test.false, c.loop-b.auto.b-index-end, length-take (a.at + a.width - a.at) (drop a.at a.bytes.now), length-drop a.at a.bytes.now) in
    c.loop-b.invariant.1 ∙ ap (λ (n : ℕ). number (part a.bytes.now a.at n)) e
