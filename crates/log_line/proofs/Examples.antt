-- Lines of each form, and lines that are none. Assumes nothing.
use mathlib.Core.Path.{◌≡◌, refl}
use mathlib.Core.List.{[], ◌∷◌}
use Rattle.octets.specs.Octets.{part, same_bytes}
use Rattle.text.specs.Decimals.{decimal_of}
use Rattle.text.specs.Hex.{is_hex}
use Rattle.log_line.specs.declared.Line.TheVariants.{Own, Rx, Sweep, Unreadable}
use Rattle.log_line.specs.Fields.{span, fields}
use Rattle.log_line.specs.Forms.{has, number, signer, own_line, rx_line, sent_line, sweep_line, formed, line_of}

pub record Examples : Type 0 where
  -- own 16 ab
  pub own : line_of (111 ∷ 119 ∷ 110 ∷ 9 ∷ 49 ∷ 54 ∷ 9 ∷ 97 ∷ 98 ∷ []) ≡ Own 16 (span 7 2)
  -- own 16 aB
  pub upper_case : line_of (111 ∷ 119 ∷ 110 ∷ 9 ∷ 49 ∷ 54 ∷ 9 ∷ 97 ∷ 66 ∷ []) ≡ Unreadable
  -- own 16 abc
  pub half_a_byte : line_of (111 ∷ 119 ∷ 110 ∷ 9 ∷ 49 ∷ 54 ∷ 9 ∷ 97 ∷ 98 ∷ 99 ∷ []) ≡ Unreadable
  -- own 16, and nothing after the last tab
  pub empty_hex : line_of (111 ∷ 119 ∷ 110 ∷ 9 ∷ 49 ∷ 54 ∷ 9 ∷ []) ≡ Unreadable
  -- rx 5 0 7f 9 - 00
  pub rx : line_of (114 ∷ 120 ∷ 9 ∷ 53 ∷ 9 ∷ 48 ∷ 9 ∷ 55 ∷ 102 ∷ 9 ∷ 57 ∷ 9 ∷ 45 ∷ 9 ∷ 48 ∷ 48 ∷ []) ≡ Rx 5 0 (span 7 2) 9 (span 12 0) (span 14 2)
  -- rx 5 0 - 9 - 00
  pub dash_address : line_of (114 ∷ 120 ∷ 9 ∷ 53 ∷ 9 ∷ 48 ∷ 9 ∷ 45 ∷ 9 ∷ 57 ∷ 9 ∷ 45 ∷ 9 ∷ 48 ∷ 48 ∷ []) ≡ Unreadable
  -- sweep 0
  pub sweep : line_of (115 ∷ 119 ∷ 101 ∷ 101 ∷ 112 ∷ 9 ∷ 48 ∷ []) ≡ Sweep 0
  -- sweep 01
  pub leading-zero : line_of (115 ∷ 119 ∷ 101 ∷ 101 ∷ 112 ∷ 9 ∷ 48 ∷ 49 ∷ []) ≡ Unreadable
  -- sweep 0, with a tab or a carriage return after it
  pub tab_after : line_of (115 ∷ 119 ∷ 101 ∷ 101 ∷ 112 ∷ 9 ∷ 48 ∷ 9 ∷ []) ≡ Unreadable
  pub return_after : line_of (115 ∷ 119 ∷ 101 ∷ 101 ∷ 112 ∷ 9 ∷ 48 ∷ 13 ∷ []) ≡ Unreadable
  pub empty : line_of [] ≡ Unreadable

pub examples : Examples
unfolding part same_bytes decimal_of is_hex fields has number signer own_line rx_line sent_line sweep_line formed line_of
examples = record {
  own = refl;
  upper_case = refl;
  half_a_byte = refl;
  empty_hex = refl;
  rx = refl;
  dash_address = refl;
  sweep = refl;
  leading-zero = refl;
  tab_after = refl;
  return_after = refl;
  empty = refl;
}
