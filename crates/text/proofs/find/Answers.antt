-- `text::find` meets its contract. Assumes nothing.
use Prim.Native.Nat.{ℕ, ◌+◌, ◌-◌}
use mathlib.Core.Path.{◌≡◌, ap, ◌∙◌}
use native.Mathlib.Omega.{arith}
use lib.Dec.{eqb}
use lib.ListN.{length, take, drop, length-drop}
use lib.Seq.{take_all}
use Rattle.std.proofs.Common.{Option, rules, tests}
use Rattle.std.proofs.lemmas.Iterator.{YieldsList-from_slice}
use Rattle.std.proofs.lemmas.Iterator.Search.{position_from_yields_List}
use Rattle.std.specs.Option.{unwrap_or}
use Rattle.std.specs.List.{position}
use Rattle.text.specs.Marks.{until}
use Rattle.text.proofs.Marks.{until_first, until-within}
use Rattle.text.proofs.find.Goals as goal

pub returns : goal.returns
returns c = let a = c.args in
    let s = a.s.now in
    let rest : take (length s - a.at) (drop a.at s) ≡ drop a.at s = take_all (length s - a.at) (drop a.at s) (omega (arith, length-drop a.at s)) in
    let e : c.position.result ≡ position (λ b. eqb b a.mark) (drop a.at s) =
    position_from_yields_List (λ b. eqb b a.mark) _ _ c.position.result c.position.ensures.ran (YieldsList-from_slice (drop a.at s) (c.iter.ensures.rest ∙ rest)) (λ x b q k. search (rules, tests)) in
    let first : c.unwrap_or.result ≡ length (until a.mark a.at s) =
    c.unwrap_or.ensures ∙ ap (λ (k : ℕ). unwrap_or c.position.result k) (ap length rest) ∙ ap (λ (o : Option ℕ). unwrap_or o (length (drop a.at s))) e ∙ until_first a.mark s a.at in
    record { end = ap (λ (k : ℕ). a.at + k) first; within = omega (arith, first, until-within a.mark s a.at (omega arith)) }
