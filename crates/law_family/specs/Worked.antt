-- SPDX-License-Identifier: Apache-2.0
-- Worked lists: a fresh device, alone, in both sizes, with any memory. What a master writes and what it then reads, byte by byte, with
-- edges and power events between (02, number 5; docs/FAMILY.md).
--   write, read_from, read_here   whole transactions with the companion
--   lines                       the lines that a transaction shows: every byte acknowledged
--   Tells                       after a list of events a transaction shows these lines
--   WorkedLists                 the lists
use Rattle.std.specs.Prelude.{ℕ, ◌≡◌, Bool, true, false, List, [], ◌∷◌, ◌++◌}
use Rattle.wire.specs.Whole.{nine_bits}
use Rattle.bus.specs.Select.{lone}
use Rattle.fm31.specs.Chip.{size_of, fresh}
use Rattle.fm31.specs.Run.{run_of}
use Rattle.fm31.specs.declared.Size.{Size}
use Rattle.wire_clocks.specs.Clocks.{nine_clocks, lines_of}

-- Auxiliary: bytes that the master sends, leaving each ninth clock high.
abbrev pub sent : List ℕ → List ℕ
sent [] = []
sent (b ∷ bs) = nine_clocks b true ++ sent bs

-- Auxiliary: so many bytes that it reads: low at each ninth clock but the last.
abbrev pub taken : List ℕ → List ℕ
taken [] = []
taken (b ∷ []) = nine_clocks 0xFF true
taken (b ∷ c ∷ bs) = nine_clocks 0xFF false ++ taken (c ∷ bs)

-- Start, D0h, a register's address, data bytes, Stop.
abbrev pub write : ℕ → List ℕ → List ℕ
write a bs = 0 ∷ (sent (0xD0 ∷ a ∷ bs) ++ (1 ∷ []))

-- Start, D0h, a register's address, Start, D1h, as many bytes as there are, Stop; the same from the address as it stands.
abbrev pub read_here : List ℕ → List ℕ
read_here bs = 0 ∷ (sent (0xD1 ∷ []) ++ (taken bs ++ (1 ∷ [])))

abbrev pub read_from : ℕ → List ℕ → List ℕ
read_from a bs = 0 ∷ (sent (0xD0 ∷ a ∷ []) ++ read_here bs)

-- Auxiliary: bytes that the device acknowledges; bytes that it sends, with the master's ninth clocks.
abbrev pub heard : List ℕ → List Bool
heard [] = []
heard (b ∷ bs) = nine_bits b false ++ heard bs

abbrev pub told : List ℕ → List Bool
told [] = []
told (b ∷ []) = nine_bits b true
told (b ∷ c ∷ bs) = nine_bits b false ++ told (c ∷ bs)

abbrev pub lines_here : List ℕ → List Bool
lines_here bs = true ∷ (heard (0xD1 ∷ []) ++ (told bs ++ (true ∷ [])))

abbrev pub lines_from : ℕ → List ℕ → List Bool
lines_from a bs = true ∷ (heard (0xD0 ∷ a ∷ []) ++ lines_here bs)

-- After the events es the list x shows these lines.
abbrev pub Tells : List ℕ → List ℕ → List Bool → Type 0
Tells es x ls =
    (k : Size) (m : List ℕ)
    → let r = run_of (size_of k) lone fresh m es in
    lines_of (run_of (size_of k) lone r.state r.memory x).answers ≡ ls

-- After them a read from a register on gives these bytes.
abbrev pub Reads : List ℕ → ℕ → List ℕ → Type 0
Reads es a bs = Tells es (read_from a bs) (lines_from a bs)

-- Auxiliary: 0Ah, 0Dh and 11h written.
abbrev pub some : List ℕ
some = write 0x0A (0x15 ∷ []) ++ (write 0x0D (0x07 ∷ []) ++ write 0x11 (0x42 ∷ []))

pub record WorkedLists : Type 0 where
  -- "a fresh device has 0 elsewhere"
  pub fresh_read : Reads [] 0x09 (0x60 ∷ 0 ∷ 0 ∷ 0 ∷ 0 ∷ 0 ∷ 0 ∷ 0 ∷ 0 ∷ 0 ∷ 0 ∷ 0 ∷ 0 ∷ 0 ∷ 0 ∷ 0 ∷ [])
  -- 09h: WTR, POR and LB are cleared and never set; bit 4 is 0
  pub flags_kept : Reads (write 0x09 (0xFF ∷ [])) 0x09 (0x6F ∷ [])
  pub flags_cleared : Reads (write 0x09 (0x05 ∷ []) ++ write 0x09 (0xFF ∷ [])) 0x09 (0x0F ∷ [])
  -- 0Ah: bits 6 and 5 are 0
  pub watchdog : Reads (write 0x0A (0xFF ∷ [])) 0x0A (0x9F ∷ [])
  -- 0Bh: bits 6 and 5 are 0; SNL, once set, stays; WP1, WP0, VBC, VTP1, VTP0 can still be written
  pub control : Reads (write 0x0B (0x7F ∷ [])) 0x0B (0x1F ∷ [])
  pub control_locked : Reads (write 0x0B (0xFF ∷ []) ++ write 0x0B (0x02 ∷ [])) 0x0B (0x82 ∷ [])
  -- "writes there are acknowledged and not stored", also in the transaction that sets SNL
  pub locked_write : Tells (write 0x0B (0x80 ∷ [])) (write 0x11 (0x55 ∷ 0xAA ∷ []))
      (true ∷ (heard (0xD0 ∷ 0x11 ∷ 0x55 ∷ 0xAA ∷ []) ++ (true ∷ [])))
  pub locked_read : Reads (write 0x11 (0x01 ∷ 0x02 ∷ []) ++ (write 0x0B (0x80 ∷ []) ++ write 0x11 (0x55 ∷ 0xAA ∷ []))) 0x11
      (0x01 ∷ 0x02 ∷ [])
  -- "rolls from 18h to 09h (our ruling)": reading and writing
  pub rolls_reading : Reads (write 0x18 (0x77 ∷ [])) 0x18 (0x77 ∷ 0x60 ∷ 0x00 ∷ [])
  pub rolls_writing : Reads (write 0x18 (0x77 ∷ 0x00 ∷ 0x1B ∷ [])) 0x18 (0x77 ∷ 0x00 ∷ 0x1B ∷ [])
  -- edges on CNT1, CNT2; "rolls from FFFFh to 0000h", without a carry
  pub edges : Reads (8 ∷ 9 ∷ 8 ∷ []) 0x0D (2 ∷ 0 ∷ 1 ∷ 0 ∷ [])
  pub counter_rolls : Reads (write 0x0D (0xFF ∷ 0xFF ∷ []) ++ (8 ∷ [])) 0x0D (0 ∷ 0 ∷ 0 ∷ 0 ∷ [])
  -- CC: "the pair is one 32-bit counter on CNT1"; 003: "CNT2 is not used in this mode"
  pub pair_carries : Reads (write 0x0C (0x04 ∷ 0xFF ∷ 0xFF ∷ 0xFF ∷ 0x00 ∷ []) ++ (8 ∷ 9 ∷ [])) 0x0C (4 ∷ 0 ∷ 0 ∷ 0 ∷ 1 ∷ [])
  -- RC: reads show the snapshot while the counters run on; it clears itself once 10h was read, and not before
  pub frozen : Reads (write 0x0D (0x05 ∷ []) ++ (write 0x0C (0x08 ∷ []) ++ (8 ∷ 8 ∷ []))) 0x0D (5 ∷ 0 ∷ 0 ∷ 0 ∷ [])
  pub still_frozen : Reads (write 0x0C (0x08 ∷ []) ++ (8 ∷ read_from 0x0D (0 ∷ 0 ∷ 0 ∷ []))) 0x0C (8 ∷ 0 ∷ [])
  pub released : Reads (write 0x0C (0x08 ∷ []) ++ (8 ∷ read_from 0x0D (0 ∷ 0 ∷ 0 ∷ 0 ∷ []))) 0x0C (0 ∷ 1 ∷ [])
  -- "That loss clears 0Ch to 10h and leaves 09h with POR and LB alone (our ruling)": from main power, and from backup
  pub lost_from_power : Reads (some ++ (6 ∷ 7 ∷ [])) 0x09 (0x60 ∷ 0x15 ∷ 0 ∷ 0 ∷ 0 ∷ 0 ∷ 0 ∷ 0 ∷ 0x42 ∷ [])
  pub lost_from_backup : Reads (some ++ (5 ∷ 6 ∷ 7 ∷ [])) 0x09 (0x60 ∷ 0x15 ∷ 0 ∷ 0 ∷ 0 ∷ 0 ∷ 0 ∷ 0 ∷ 0x42 ∷ [])
  -- with backup all is kept, an edge counts, and POR is set; with no supply an edge counts nothing
  pub kept_by_backup : Reads (write 0x09 (0x00 ∷ []) ++ (some ++ (5 ∷ 8 ∷ 7 ∷ []))) 0x09 (0x40 ∷ 0x15 ∷ 0 ∷ 0 ∷ 8 ∷ 0 ∷ [])
  pub off_counts_nothing : Reads (6 ∷ 8 ∷ 7 ∷ []) 0x0D (0 ∷ 0 ∷ [])
  -- "The companion address starts at 09h, also after power loss"
  pub address_after_backup : Tells (write 0x15 (0x33 ∷ []) ++ (5 ∷ 7 ∷ [])) (read_here (0x60 ∷ [])) (lines_here (0x60 ∷ []))
  pub address_after_loss : Tells (write 0x15 (0x33 ∷ []) ++ (6 ∷ 7 ∷ [])) (read_here (0x60 ∷ [])) (lines_here (0x60 ∷ []))
