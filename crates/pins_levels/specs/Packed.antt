-- SPDX-License-Identifier: Apache-2.0
-- A token and what is due in one word, and back.
--   packed, unpacked        both ways
--   levels_of, readings_of    the readings of a look, and those around the turning of SDA, in one number
--   Small, Fits, RoundTrip  the word says all
use Rattle.std.specs.Prelude.{ℕ, ◌+◌, ◌*◌, ◌/◌, ◌%◌, ◌<◌, ◌≡◌, cond, eqb}
use Rattle.pins_levels.specs.Wave.{seen_of}
use Rattle.pins_levels.specs.Look.{Readings}
use Rattle.pins_levels.specs.declared.Seen.{Seen}
use Rattle.pins_levels.specs.declared.Token.{Token}
use Rattle.pins_levels.specs.declared.Due.{Due}

abbrev pub bits_of : Token → ℕ
bits_of t =
    cond t.scl 1 0 + cond t.sda 2 0 + cond t.pulse 4 0 + cond t.pulling 8 0 + cond t.next 16 0
    + cond t.low 32 0 + cond t.high 64 0

-- An event in four bits: no event, 8, is 0.
abbrev pub four_bits : ℕ → ℕ
four_bits e = (e + 8) % 16

abbrev pub event_in : ℕ → ℕ
event_in n = (n % 16 + 8) % 16

unfoldable pub packed : Due → ℕ
packed d =
    bits_of d.token + four_bits d.token.waiting * 0x100 + d.token.answer * 0x1000 + d.token.number * 0x10000
    + four_bits d.first * 0x1000000 + four_bits d.second * 0x10000000 + four_bits d.third * 0x100000000

unfoldable pub unpacked : ℕ → Due
unpacked n =
    record {
      token =
          record {
            scl = eqb (n % 2) 1;
            sda = eqb (n / 2 % 2) 1;
            pulse = eqb (n / 4 % 2) 1;
            pulling = eqb (n / 8 % 2) 1;
            next = eqb (n / 16 % 2) 1;
            low = eqb (n / 32 % 2) 1;
            high = eqb (n / 64 % 2) 1;
            waiting = event_in (n / 0x100);
            number = n / 0x10000 % 256;
            answer = n / 0x1000 % 16;
          };
      first = event_in (n / 0x1000000);
      second = event_in (n / 0x10000000);
      third = event_in (n / 0x100000000);
    }

-- SCL as it was read before SDA was turned, and after that, in one number.
abbrev pub readings_of : ℕ → Readings
readings_of n = record { before = eqb (n % 2) 1; after = eqb (n / 2 % 2) 1 }

abbrev pub levels_of : ℕ → Seen
levels_of n = seen_of (eqb (n % 2) 1) (eqb (n / 2 % 2) 1) (eqb (n / 4 % 2) 1)

-- The number is a byte, and all else has four bits.
pub record Small (t : Token) : Type 0 where
  pub waiting : t.waiting < 16
  pub number : t.number < 256
  pub answer : t.answer < 16

pub record Fits (d : Due) : Type 0 where
  pub token : Small d.token
  pub first : d.first < 16
  pub second : d.second < 16
  pub third : d.third < 16

abbrev pub RoundTrip : Type 0
RoundTrip = (d : Due) → Fits d → unpacked (packed d) ≡ d
