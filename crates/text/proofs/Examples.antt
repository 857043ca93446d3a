-- Numbers and bytes as text. Assumes nothing.
use Prim.Native.Nat.{◌-◌, ◌^◌}
use mathlib.Core.Path.{◌≡◌, refl}
use mathlib.Core.Bool.{true, false}
use mathlib.Core.List.{[], ◌∷◌}
use Rattle.std.specs.Prelude.{Some, None}
use Rattle.text.specs.Decimals.{digits, decimal, decimal_of}
use Rattle.text.specs.Hex.{hex, is_hex, hex_value, unhex}

pub record Examples : Type 0 where
  pub zero : decimal 0 ≡ 48 ∷ []
  pub port : decimal 30303 ≡ 51 ∷ 48 ∷ 51 ∷ 48 ∷ 51 ∷ []
  pub largest : decimal (2 ^ 64 - 1) ≡ 49 ∷ 56 ∷ 52 ∷ 52 ∷ 54 ∷ 55 ∷ 52 ∷ 52 ∷ 48 ∷ 55 ∷ 51 ∷ 55 ∷ 48 ∷ 57 ∷ 53 ∷ 53 ∷ 49 ∷ 54 ∷ 49 ∷ 53 ∷ []
  pub largest_read : decimal_of (2 ^ 64 - 1) (49 ∷ 56 ∷ 52 ∷ 52 ∷ 54 ∷ 55 ∷ 52 ∷ 52 ∷ 48 ∷ 55 ∷ 51 ∷ 55 ∷ 48 ∷ 57 ∷ 53 ∷ 53 ∷ 49 ∷ 54 ∷ 49 ∷ 53 ∷ []) ≡ Some (2 ^ 64 - 1)
  pub too_large : decimal_of (2 ^ 64 - 1) (49 ∷ 56 ∷ 52 ∷ 52 ∷ 54 ∷ 55 ∷ 52 ∷ 52 ∷ 48 ∷ 55 ∷ 51 ∷ 55 ∷ 48 ∷ 57 ∷ 53 ∷ 53 ∷ 49 ∷ 54 ∷ 49 ∷ 54 ∷ []) ≡ None
  pub port_read : decimal_of 65535 (54 ∷ 53 ∷ 53 ∷ 51 ∷ 53 ∷ []) ≡ Some 65535
  pub no_port : decimal_of 65535 (54 ∷ 53 ∷ 53 ∷ 51 ∷ 54 ∷ []) ≡ None
  pub two_zeros : decimal_of 65535 (48 ∷ 48 ∷ []) ≡ None
  pub plus : decimal_of 65535 (43 ∷ 53 ∷ []) ≡ None
  pub nothing : decimal_of 65535 [] ≡ None
  pub bytes : hex (0x01 ∷ 0xaf ∷ []) ≡ 48 ∷ 49 ∷ 97 ∷ 102 ∷ []
  pub bytes_read : unhex (48 ∷ 49 ∷ 97 ∷ 102 ∷ []) ≡ 0x01 ∷ 0xaf ∷ []
  pub lower_case : is_hex (97 ∷ 102 ∷ []) ≡ true
  pub upper_case : is_hex (97 ∷ 70 ∷ []) ≡ false
  pub half_a_byte : is_hex (97 ∷ []) ≡ false
  pub no_byte : is_hex [] ≡ false

pub examples : Examples
unfolding digits decimal decimal_of is_hex hex_value unhex
examples = record {
  zero = refl;
  port = refl;
  largest = refl;
  largest_read = refl;
  too_large = refl;
  port_read = refl;
  no_port = refl;
  two_zeros = refl;
  plus = refl;
  nothing = refl;
  bytes = refl;
  bytes_read = refl;
  lower_case = refl;
  upper_case = refl;
  half_a_byte = refl;
  no_byte = refl;
}
