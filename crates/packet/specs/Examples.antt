-- The answers of small data, by type: which number goes before which, and what is not examined.
use Rattle.std.specs.Prelude.{◌≡◌, [], ◌∷◌, None}
use Rattle.packet.specs.Packets.{read_data}
use Rattle.packet.specs.declared.Packet.TheVariants.{Ping, EnrRequest}
use Rattle.packet.specs.declared.Parsed.TheVariants.{Packet, Refused}

pub record Examples : Type 0 where
  -- an unknown type is never parsed
  pub unknown_type : read_data 7 98 [] ≡ Refused 8
  -- no data, and data that is not a list
  pub no_data : read_data 5 98 [] ≡ Refused 9
  pub a_string : read_data 5 98 (0x80 ∷ []) ≡ Refused 9
  pub no_field : read_data 5 98 (0xc0 ∷ []) ≡ Refused 10
  -- an expiration of 9, then an item that is ignored, then bytes after the list
  pub expiration_9 : read_data 5 98 (0xc2 ∷ 0x09 ∷ 0x80 ∷ 0xff ∷ []) ≡ Packet (EnrRequest (record { expiration = 9 }))
  -- the inside of an ignored list is not examined, its header is
  pub ignored_inside : read_data 5 98 (0xc3 ∷ 0x09 ∷ 0xc1 ∷ 0x81 ∷ []) ≡ Packet (EnrRequest (record { expiration = 9 }))
  pub ignored_torn : read_data 5 98 (0xc3 ∷ 0x09 ∷ 0xc2 ∷ 0x81 ∷ []) ≡ Refused 9
  -- integers: a header on a byte below 0x80 is 9, a leading zero 10, a list 10
  pub plain_with_header : read_data 5 98 (0xc2 ∷ 0x81 ∷ 0x7f ∷ []) ≡ Refused 9
  pub lone_zero : read_data 5 98 (0xc1 ∷ 0x00 ∷ []) ≡ Refused 10
  pub leading-zero : read_data 5 98 (0xc3 ∷ 0x82 ∷ 0x00 ∷ 0x01 ∷ []) ≡ Refused 10
  pub a_list : read_data 5 98 (0xc2 ∷ 0xc1 ∷ 0x81 ∷ []) ≡ Refused 10
  -- 9 in `from` goes before the fields that are missing after it
  pub broken_first : read_data 1 98 (0xc3 ∷ 0x04 ∷ 0xc1 ∷ 0x81 ∷ []) ≡ Refused 9
  -- 9 in a later node goes before 10 in an earlier one
  pub broken_later : read_data 4 98 (0xc5 ∷ 0xc3 ∷ 0xc0 ∷ 0xc1 ∷ 0x81 ∷ 0x09 ∷ []) ≡ Refused 9
  pub node_too_short : read_data 4 98 (0xc3 ∷ 0xc1 ∷ 0xc0 ∷ 0x09 ∷ []) ≡ Refused 10
  -- an empty address in `from` is unknown, and its ports are told; in `to` it is 10
  pub unknown_from : read_data 1 98 (0xce ∷ 0x04 ∷ 0xc3 ∷ 0x80 ∷ 0x01 ∷ 0x02 ∷ 0xc7 ∷ 0x84 ∷ 0x0a ∷ 0x00 ∷ 0x00 ∷ 0x07 ∷ 0x03 ∷ 0x80 ∷ 0x09 ∷ [])
      ≡ Packet (Ping (record {
        version = 4;
        from = record { address = None; udp = 1; tcp = 2 };
        to = record { address = record { start = 106; len = 4 }; udp = 3 };
        expiration = 9;
        enr_seq = None;
      }))
  pub empty_to : read_data 1 98 (0xce ∷ 0x04 ∷ 0xc7 ∷ 0x84 ∷ 0x0a ∷ 0x00 ∷ 0x00 ∷ 0x07 ∷ 0x01 ∷ 0x02 ∷ 0xc3 ∷ 0x80 ∷ 0x03 ∷ 0x80 ∷ 0x09 ∷ []) ≡ Refused 10
