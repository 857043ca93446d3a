-- `closest_distance::not_farther` meets its contract. Assumes nothing.
use mathlib.Core.Path.{◌≡◌, sym, ◌∙◌}
use borrow.Author.Rules.{rules}
use mir.Syntax.{w8}
use mir.Val.{Fits}
use lib.ListN.{length, get_or}
use Rattle.octets.specs.Octets.{IsBytes}
use Rattle.closest_distance.proofs.Compare.{not_above}
use Rattle.closest_distance.proofs.not_farther.Goals as goal

pub returns : goal.returns
returns c =
    let size_a : length c.args.a ≡ 32 = search rules in
    let size_b : length c.args.b ≡ 32 = search rules in
    let bytes_a : IsBytes c.args.a = λ i. let byte : Fits w8 (get_or c.args.a i 0) = search rules in byte.fits in
    let bytes_b : IsBytes c.args.b = λ i. let byte : Fits w8 (get_or c.args.b i 0) = search rules in byte.fits in
    cc (not_above c.args.a c.args.b (size_a ∙ sym size_b) bytes_a bytes_b)
