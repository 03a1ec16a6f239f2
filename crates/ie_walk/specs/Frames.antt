-- The skip rules, in the standard's words: bit 8 is an octet's highest bit.
--   eps, five_gs, plain   the frame of an unknown IE, by its IEI octet (TS 24.007, 11.2.4)
--   family_frame        the same, by the protocol
--   comprehended         'comprehension required', by frame and octet (TS 24.007, 11.2.5)
use Rattle.std.specs.Prelude.{ℕ, ◌/◌, ◌%◌, Bool, false, cond, ◌==◌}
use Rattle.ie_walk.specs.declared.protocol.ProtocolFamily.{ProtocolFamily}
use Rattle.ie_walk.specs.declared.protocol.ProtocolFamily.TheVariants as family
use Rattle.ie_walk.specs.declared.skip.Frame.{Frame}
use Rattle.ie_walk.specs.declared.skip.Frame.TheVariants.{OneOctet, Tlv, TlvE}

abbrev pub bit_8_set : ℕ → Bool
bit_8_set octet = octet / 128 == 1

abbrev pub bits_7_to_4_set : ℕ → Bool
bits_7_to_4_set octet = octet / 8 % 16 == 15

abbrev pub bits_7_to_5_set : ℕ → Bool
bits_7_to_5_set octet = octet / 16 % 8 == 7

abbrev pub eps : ℕ → Frame
eps octet = cond (bit_8_set octet) OneOctet (cond (bits_7_to_4_set octet) TlvE Tlv)

abbrev pub five_gs : ℕ → Frame
five_gs octet = cond (bit_8_set octet) OneOctet (cond (bits_7_to_5_set octet) TlvE Tlv)

abbrev pub plain : ℕ → Frame
plain octet = cond (bit_8_set octet) OneOctet Tlv

abbrev pub family_frame : ProtocolFamily → ℕ → Frame
family_frame family.Eps octet = eps octet
family_frame family.FiveGs octet = five_gs octet
family_frame family.Plain octet = plain octet

-- TLV: bits 8 to 5 are clear; TLV-E: bit 8 is clear and bits 7 to 2 are set
abbrev pub comprehended : Frame → ℕ → Bool
comprehended OneOctet octet = false
comprehended Tlv octet = octet / 16 == 0
comprehended TlvE octet = octet / 2 == 63
