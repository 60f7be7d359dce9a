-- SPDX-License-Identifier: Apache-2.0
-- Demand 2's two sentences about memory, of the entry itself: what calls of the list run leave, as one call or with the
-- list cut into several that hand image and memory on (`Leaves` of fm3130_list/specs/Calls.antt).
--   up_to_ninth                        a list that ends with a byte and its ninth clock
--   CallsStore, CallStores           an acknowledged memory byte is stored; the same of one call
--   CallsKeep, CallKeeps             a protected address is unchanged; the same of one call
use Rattle.std.specs.Prelude.{ℕ, ◌≡◌, Bool, true, List, [], ◌∷◌, ◌++◌, get_or, Some}
use Rattle.numbers.specs.Numbers.{accepted}
use Rattle.fm3130.specs.declared.State.{State}
use Rattle.fm3130_image.specs.Image.{decode_of}
use Rattle.fm3130_list.specs.Run.{outcome_of}
use Rattle.fm3130_list.specs.Calls.{Left, left_of, Leaves}
use Rattle.law_table.specs.Stored.{clock_event, Byte, AtData, StoredAt}
use Rattle.law_table.specs.Protected.{Protected}
use Rattle.law_table.specs.Throughout.{BeforeEach}
use Rattle.law_table.specs.Table.{last_line}

-- Any events, then those of a byte, then its ninth clock, at which the master's line is as said.
abbrev pub up_to_ninth : List ℕ → List ℕ → Bool → List ℕ
up_to_ninth before byte d = before ++ (byte ++ (clock_event d ∷ []))

-- Demand 2: an acknowledged memory byte is stored at its address. The image before the byte holds a state in which a
-- data byte of a memory write begins. "Acknowledged means that the device itself pulls the ninth clock's line low,
-- whatever the master does there": with the master's line high there, bit 0 of the last answer is 0.
abbrev pub CallsStore : Type 0
CallsStore =
    (i m before byte : List ℕ) (w : ℕ) (d : Bool) (s : State) (begun high whole : Left)
    → Leaves i m before begun → decode_of begun.image ≡ Some s → AtData s → Byte w byte
    → Leaves i m (up_to_ninth before byte true) high → last_line high.answers ≡ 0
    → Leaves i m (up_to_ninth before byte d) whole
    → StoredAt begun.memory s.address w whole.memory

-- The same of one call, under number 0.
abbrev pub CallStores : Type 0
CallStores =
    (i m before byte a : List ℕ) (w : ℕ) (d : Bool) (s : State)
    → (outcome_of i m (up_to_ninth before byte d) a).number ≡ accepted
    → decode_of (outcome_of i m before a).image ≡ Some s → AtData s → Byte w byte
    → last_line (left_of (outcome_of i m (up_to_ninth before byte true) a)).answers ≡ 0
    → StoredAt (outcome_of i m before a).memory s.address w (outcome_of i m (up_to_ninth before byte d) a).memory

-- Demand 2: a protected address is never changed. One that is protected before each event of the list has what it had.
abbrev pub CallsKeep : Type 0
CallsKeep =
    (i m es : List ℕ) (a : ℕ) (s : State) (l : Left) → decode_of i ≡ Some s
    → BeforeEach (λ t e. Protected t a ≡ true) s m es → Leaves i m es l → get_or l.memory a 0 ≡ get_or m a 0

-- The same of one call, under number 0.
abbrev pub CallKeeps : Type 0
CallKeeps =
    (i m es b : List ℕ) (a : ℕ) (s : State) → (outcome_of i m es b).number ≡ accepted → decode_of i ≡ Some s
    → BeforeEach (λ t e. Protected t a ≡ true) s m es → get_or (outcome_of i m es b).memory a 0 ≡ get_or m a 0
