-- The byte form of an entry: 143 bytes, numbers big-endian.
use Rattle.std.specs.Prelude.{ℕ, suc, cond, List, [], ◌∷◌, ◌++◌, eqb, get_or}
use Rattle.octets.specs.Octets.{part, number, big_endian}
use Rattle.entry.specs.declared.Entry.{Entry}
use Rattle.node.specs.declared.Endpoint.{Endpoint}
use Rattle.entry.specs.declared.Stamp.{Stamp}
use Rattle.entry.specs.declared.EndpointProof.{EndpointProof}
use Rattle.entry.specs.declared.EndpointProof.TheVariants.{Unproved, At}
use Rattle.entry.specs.declared.PingState.{PingState}
use Rattle.entry.specs.declared.PingState.TheVariants.{Quiet, Out}

-- address length 1, address 16, UDP port 2, TCP port 2
unfoldable pub encode_endpoint : Endpoint → List ℕ
encode_endpoint e = (e.len ∷ []) ++ e.address ++ big_endian 2 e.udp ++ big_endian 2 e.tcp

unfoldable pub decode_endpoint : List ℕ → Endpoint
decode_endpoint s =
    record { len = get_or s 0 0; address = part s 1 16; udp = number (part s 17 2); tcp = number (part s 19 2) }

-- flag 1, time 8
unfoldable pub encode_stamp : Stamp → List ℕ
encode_stamp s = (s.flag ∷ []) ++ big_endian 8 s.time

unfoldable pub decode_stamp : List ℕ → Stamp
decode_stamp s = record { flag = get_or s 0 0; time = number (part s 1 8) }

-- unproved, and quiet: flag 0 and time 0
abbrev pub proof_stamp : EndpointProof → Stamp
proof_stamp Unproved = record { flag = 0; time = 0 }
proof_stamp (At t) = record { flag = 1; time = t.0 }

abbrev pub ping_stamp : PingState → Stamp
ping_stamp Quiet = record { flag = 0; time = 0 }
ping_stamp (Out t) = record { flag = 1; time = t.0 }

abbrev pub proof_of : Stamp → EndpointProof
proof_of s = cond (eqb s.flag 0) Unproved (At (record { 0 = s.time }))

abbrev pub ping_of : Stamp → PingState
ping_of s = cond (eqb s.flag 0) Quiet (Out (record { 0 = s.time }))

-- key 64, endpoint 21, last seen 8, proof 9, ping 9, ping hash 32
unfoldable pub encode_entry : Entry → List ℕ
encode_entry p =
    p.key ++ encode_endpoint p.endpoint ++ big_endian 8 p.seen.0 ++ encode_stamp (proof_stamp p.proof) ++ encode_stamp (ping_stamp p.ping) ++ p.hash

unfoldable pub decode_entry : List ℕ → Entry
decode_entry s =
    record {
      key = part s 0 64;
      endpoint = decode_endpoint (part s 64 21);
      seen = record { 0 = number (part s 85 8) };
      proof = proof_of (decode_stamp (part s 93 9));
      ping = ping_of (decode_stamp (part s 102 9));
      hash = part s 111 32;
    }

-- what a read past the end of a list of entries gives
abbrev pub no_entry : Entry
no_entry =
    record {
      key = [];
      endpoint = record { len = 0; address = []; udp = 0; tcp = 0 };
      seen = record { 0 = 0 };
      proof = Unproved;
      ping = Quiet;
      hash = [];
    }
