-- SPDX-License-Identifier: Apache-2.0
-- Of the entries themselves, over the size: demand 2's two sentences about memory, and the lock in bytes of images. (That
-- one event is the list of that event is its entry's contract: c_fm31/specs/Single.antt.)
--   up_to_ninth                a list that ends with a byte and its ninth clock
--   CallStores, CallKeeps    an acknowledged memory byte is stored; a protected address is unchanged
--   CallLocks                a locked serial number stays
--   CountByNumber            how many events were done, which the entries do not say apart
use Rattle.std.specs.Prelude.{ℕ, ◌%◌, ◌≡◌, Bool, true, cond, List, [], ◌∷◌, ◌++◌, eqb, length, get_or, take, drop, Some}
use Rattle.bits.specs.Weight.{has}
use Rattle.fm31_counters.specs.Map.{SNL}
use Rattle.bus.specs.Select.{lone}
use Rattle.numbers.specs.Numbers.{accepted}
use Rattle.fm31.specs.Chip.{companion31}
use Rattle.fm31.specs.declared.State.{State}
use Rattle.fm31_image.specs.Image.{decode_of}
use Rattle.c_fm31.specs.Run.{outcome_of}
use Rattle.law_parts.specs.Events.{clock_event}
use Rattle.law_parts.specs.Stored.{Byte, AtData, StoredAt}
use Rattle.law_larger.specs.Memory.{Protected, BeforeEach}

-- Any events, then those of a byte, then its ninth clock, at which the master's line is as said.
abbrev pub up_to_ninth : List ℕ → List ℕ → Bool → List ℕ
up_to_ninth before byte d = before ++ (byte ++ (clock_event d ∷ []))

module _ (size : ℕ) where
  -- Demand 2: an acknowledged memory byte is stored at its address. The image before the byte holds a state in which a
  -- data byte of a memory write begins; with the master's line high at the ninth clock, bit 0 of the answer to it is 0.
  abbrev pub CallStores : Type 0
  CallStores =
      (i m before byte a : List ℕ) (w : ℕ) (d : Bool) (s : State)
      → (outcome_of size i m (up_to_ninth before byte d) a).number ≡ accepted
      → decode_of size lone (outcome_of size i m before a).image ≡ Some s → AtData s.bus → Byte companion31 w byte
      → get_or (outcome_of size i m (up_to_ninth before byte true) a).answers (length (before ++ byte)) 0 % 2 ≡ 0
      → StoredAt (outcome_of size i m before a).memory s.bus.address w
      (outcome_of size i m (up_to_ninth before byte d) a).memory

  -- Demand 2: a protected address is never changed. One that is protected before each event of the list has what
  -- it had.
  abbrev pub CallKeeps : Type 0
  CallKeeps =
      (i m es b : List ℕ) (a : ℕ) (s : State) → (outcome_of size i m es b).number ≡ accepted → decode_of size lone i ≡ Some
      s
      → BeforeEach size (λ t e. Protected size t a ≡ true) s m es
      → get_or (outcome_of size i m es b).memory a 0 ≡ get_or m a 0

  -- "Once SNL is 1 no event of any kind changes registers 11h to 18h or SNL": bit 7 of an image's byte 2, and its bytes
  -- 8 to 15, whatever the call's number.
  pub record LockedIn (i i' : List ℕ) : Type 0 where
    pub lock : has (get_or i' 2 0) SNL ≡ true
    pub serial : take 8 (drop 8 i') ≡ take 8 (drop 8 i)

  abbrev pub CallLocks : Type 0
  CallLocks =
      (i m es a : List ℕ) → has (get_or i 2 0) SNL ≡ true → LockedIn i (outcome_of size i m es a).image

  -- "The count is the number of events"; "count 0, nothing written": it is told by the number.
  abbrev pub CountByNumber : Type 0
  CountByNumber =
      (i m es a : List ℕ)
      → (outcome_of size i m es a).count ≡ cond (eqb (outcome_of size i m es a).number 0) (length es) 0
