-- SPDX-License-Identifier: Apache-2.0
-- The viewer of any part, over the size of its memory and the number of its registers (01, Entries: "a part of the caller's
-- memory or of those 15 bytes, never a copy; its number is asked by a fourth, on the same inputs"; 02, number 5: 16 of them).
-- `ViewSettled` and `ViewNumberSettled` are the whole outcomes.
--   registers_in, chosen   the bytes that a selector names
--   view_number            the number           view_of      what the part holds
--   shifted, view_place    where the part lies
use Rattle.std.specs.Prelude.{ℕ, ◌+◌, ◌≡◌, cond, List, [], leb, eqb, length, take, drop}
use Rattle.std.specs.Borrow.{Bor}
use Rattle.numbers.specs.Numbers.{accepted, wrong_memory, wrong_state, unknown_selector, past_the_end}
use Rattle.fm3130_image.specs.Image.{image_size}

-- "The image's first 15 bytes are registers 00h to 0Eh"; 02, number 5: "the image begins with these 16 registers".
abbrev pub registers_in : ℕ → List ℕ → List ℕ
registers_in count i = take count i

-- "Start + length (exact sum) passes the end of the chosen bytes."
abbrev pub end_number : ℕ → ℕ → ℕ
end_number end total = cond (leb end total) accepted past_the_end

-- Auxiliary: a place, so many bytes on. (A place is a block of memory and an offset in it.)
abbrev pub shifted : ℕ × ℕ → ℕ → ℕ × ℕ
shifted p k = (p.0, k + p.1)

module _ (size count : ℕ) where
  -- "Checked in the order of the numbers"; "selector neither 0 (memory) nor 1 (registers)"; of the image "the viewer
  -- tests length only".
  unfoldable pub view_number : List ℕ → List ℕ → ℕ → ℕ → ℕ → ℕ
  view_number i m selector start len =
      cond (eqb (length m) size)
      (cond (eqb (length i) image_size)
      (cond (eqb selector 0) (end_number (start + len) (length m))
      (cond (eqb selector 1) (end_number (start + len) (length (registers_in count i))) unknown_selector))
      wrong_state)
      wrong_memory

  -- The contract of the viewer's number, in Rattle and for C.
  abbrev pub ViewNumberSettled : List ℕ → List ℕ → ℕ → ℕ → ℕ → ℕ → Type 0
  ViewNumberSettled i m selector start len n = n ≡ view_number i m selector start len

  -- The bytes that a selector of 0 or 1 names.
  abbrev pub chosen : List ℕ → List ℕ → ℕ → List ℕ
  chosen i m selector = cond (eqb selector 0) m (registers_in count i)

  -- "The viewer gives an empty part of memory under every number but 0."
  unfoldable pub view_of : List ℕ → List ℕ → ℕ → ℕ → ℕ → List ℕ
  view_of i m selector start len =
      cond (eqb (view_number i m selector start len) accepted) (take len (drop start (chosen i m selector))) []

  -- "Never a copy": the part lies in the memory or in the image, from its start on; a refused one at the memory's front.
  unfoldable pub view_place : Bor (List ℕ) → Bor (List ℕ) → ℕ → ℕ → ℕ → ℕ × ℕ
  view_place i m selector start len =
      cond (eqb (view_number i.now m.now selector start len) accepted)
      (cond (eqb selector 0) (shifted m.ref_ptr start) (shifted i.ref_ptr start))
      m.ref_ptr

  -- The contract of the viewer: what the part holds, and where it lies.
  pub record ViewSettled (i m : Bor (List ℕ)) (selector start len : ℕ) (r : Bor (List ℕ)) : Type 0 where
    pub bytes : r.now ≡ view_of i.now m.now selector start len
    pub place : r.ref_ptr ≡ view_place i m selector start len
