-- `text::is_hex` meets its contract. Assumes nothing.
use Rattle.std.proofs.Common.{rules, tests, ◌≡◌, ◌<◌, ◌%◌, length, sym, ◌∙◌}
use Rattle.std.proofs.lemmas.Grind.{common_steps}
use Rattle.std.proofs.lemmas.Iterator.{YieldsList-from_slice}
use Rattle.std.proofs.lemmas.Iterator.Search.{all_from_yields_List}
use Rattle.text.specs.Hex.{is_hex_digit}
use Rattle.text.proofs.Hex.{hex_empty, hex_odd, hex_whole}
use native.Mathlib.Omega.{arith}
use Rattle.text.proofs.is_hex.Goals as goal
use Rattle.text.proofs.is_hex.Goals.{then-not-is_empty, else-not-is_empty}

pub returns-then-s-eq0 : goal.returns-then-s-eq0
returns-then-s-eq0 c = let s = c.args.s.now in
    let some : 0 < length s = grind (arith, common_steps) in
    let even : length s % 2 ≡ 0 = grind (arith, common_steps) in
    all_from_yields_List is_hex_digit _ _ c.all.result c.all.ensures.ran (YieldsList-from_slice s (cc)) (λ x b q k. search (rules, tests)) ∙ sym (hex_whole s some even)

pub returns-else-s-eq0 : goal.returns-else-s-eq0
returns-else-s-eq0 c = let s = c.args.s.now in
    elim c.if-not-is_empty.branch [
      | then-not-is_empty w ↦ let odd : length s % 2 ≡ 1 = grind (arith, common_steps) in c.if-s-eq0.false ∙ sym (hex_odd s odd)
      | else-not-is_empty w ↦ let none : length s ≡ 0 = grind (arith, common_steps) in c.if-s-eq0.false ∙ sym (hex_empty s none)
    ]
