-- `enode::are_hex_digits` meets its contract. Assumes nothing.
use mathlib.Core.Path.{◌∙◌}
use Rattle.std.proofs.Common.{rules, tests}
use Rattle.std.proofs.lemmas.Iterator.{YieldsList-from_slice}
use Rattle.std.proofs.lemmas.Iterator.Search.{all_from_yields_List}
use Rattle.text.specs.Hex.{is_any_hex_digit}
use Rattle.enode.proofs.Reading.{all_is}
use Rattle.enode.proofs.are_hex_digits.Goals as goal

pub returns : goal.returns
returns c = let s = c.args.s.now in
    all_from_yields_List is_any_hex_digit _ _ _ c.all.ensures.ran (YieldsList-from_slice s c.iter.ensures.rest) (λ x b q k. search (rules, tests)) ∙ all_is is_any_hex_digit s
