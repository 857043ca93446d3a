-- Lines, and what they say. Assumes nothing.
use mathlib.Core.Path.{◌≡◌, refl}
use mathlib.Core.List.{[], ◌∷◌, ◌++◌}
use lib.ListN.{replicate}
use Rattle.std.specs.Prelude.{Some, None}
use Rattle.octets.specs.Octets.{Bytes, part, same_bytes}
use Rattle.text.specs.Decimals.{digits, decimal, decimal_of}
use Rattle.text.specs.Hex.{hex_value, unhex}
use Rattle.text.specs.Marks.{until}
use Rattle.enode.specs.Text.{scheme, discport, ports_text, enode_text}
use Rattle.enode.specs.Reading.{field_at, udp_from, ports_of, node_of, octets_from, enode_of}
use Rattle.enode.specs.Spelling.{lowered}

-- a key in upper-case hex, and `@`
abbrev begun : Bytes
begun = scheme ++ replicate 128 0x41 ++ (0x40 ∷ [])

-- `127.0.0.1:30303`
abbrev place : Bytes
place = 0x31 ∷ 0x32 ∷ 0x37 ∷ 0x2e ∷ 0x30 ∷ 0x2e ∷ 0x30 ∷ 0x2e ∷ 0x31 ∷ 0x3a ∷ 0x33 ∷ 0x30 ∷ 0x33 ∷ 0x30 ∷ 0x33 ∷ []

pub record Examples : Type 0 where
  pub one_port : enode_of (begun ++ place) ≡ Some (node_of (replicate 64 0xaa) (127 ∷ 0 ∷ 0 ∷ 1 ∷ []) 30303 30303)
  pub two_ports : enode_of (begun ++ place ++ discport ++ decimal 30301) ≡ Some (node_of (replicate 64 0xaa) (127 ∷ 0 ∷ 0 ∷ 1 ∷ []) 30301 30303)
  pub equal_ports : enode_of (begun ++ place ++ discport ++ decimal 30303) ≡ None
  pub no_udp_port : enode_of (begun ++ place ++ discport) ≡ None
  pub mark_alone : enode_of (begun ++ place ++ (0x3f ∷ [])) ≡ None
  pub carriage_return : enode_of (begun ++ place ++ (0x0d ∷ [])) ≡ None
  pub port_of_17_bits : enode_of (begun ++ place ++ (0x30 ∷ [])) ≡ None
  pub leading-zero : enode_of (begun ++ (0x30 ∷ []) ++ place) ≡ None
  pub digit_more : enode_of (scheme ++ replicate 129 0x41 ++ (0x40 ∷ []) ++ place) ≡ None
  pub nothing : enode_of [] ≡ None
  pub written : enode_text (node_of (replicate 64 0xaa) (127 ∷ 0 ∷ 0 ∷ 1 ∷ []) 30303 30303) ≡ lowered (begun ++ place)

pub examples : Examples
unfolding digits decimal decimal_of hex_value unhex until part same_bytes ports_text enode_text field_at udp_from ports_of octets_from enode_of lowered
examples = record {
  one_port = refl;
  two_ports = refl;
  equal_ports = refl;
  no_udp_port = refl;
  mark_alone = refl;
  carriage_return = refl;
  port_of_17_bits = refl;
  leading-zero = refl;
  digit_more = refl;
  nothing = refl;
  written = refl;
}
