-- SPDX-License-Identifier: Apache-2.0
-- What a written register keeps of a byte. At 09h to 0Eh nothing gates a write, so the register then holds what it
-- stores of the byte; at 0Eh that is the byte itself, and no limit asks anything of it.
use Prim.Native.Nat.{ℕ, ◌≤◌, ◌<◌}
use mathlib.Core.Path.{◌≡◌, refl, ap, ◌∙◌}
use native.Mathlib.Omega.{arith}
use borrow.Author.Tests.{ne_eqb, lt-leb}
use Rattle.fm3130_companion.specs.declared.Companion.{Companion}
use Rattle.fm3130_registers.specs.Map.{CONTROL, TRIM, YEARS, LAST}
use Rattle.fm3130_registers.specs.Stored.{stored_at}
use Rattle.fm3130_companion.specs.Registers.{register_at, put_at}
use Rattle.fm3130_companion.specs.Change.{with_registers}
use Rattle.fm3130_companion.specs.Write.{written_of, byte_stored}
use Rattle.fm3130_companion.specs.Limits.{registers_within}
use Rattle.fm3130_companion.specs.Part.{stepped_of, store_of, is_within}
use Rattle.fm3130_companion.proofs.Bytes.{put_same}

-- nothing gates a write past the calendar
written_past : (c : Companion) (b : ℕ) → YEARS < c.address → written_of c b ≡ byte_stored c b
written_past c b h =
    rw (
      ne_eqb c.address CONTROL (λ e. omega arith),
      ne_eqb c.address TRIM (λ e. omega arith),
      lt-leb c.address YEARS h,
    )

-- nor is a byte for it refused
stored_past : (c : Companion) (b : ℕ) → YEARS < c.address → (store_of c b).companion ≡ stepped_of (written_of c b)
unfolding store_of
stored_past c b h = rw (ne_eqb c.address CONTROL (λ e. omega arith))

module _ (c : Companion) (b : ℕ) where
  -- the register holds what it stores of the byte
  pub store_kept : YEARS < c.address → c.address ≤ LAST
      → register_at (store_of c b).companion.registers c.address ≡ stored_at c.address b
  store_kept h l =
      ap (λ (d : Companion). register_at d.registers c.address) (stored_past c b h)
      ∙ ap (λ (d : Companion). register_at d.registers c.address) (written_past c b h)
      ∙ put_same c.registers c.address (stored_at c.address b) (omega arith)

  -- "All eight bits of 0Eh are stored"
  pub setup_kept : c.address ≡ LAST → (store_of c b).companion.registers.setup ≡ b
  setup_kept e =
      let h : YEARS < c.address = omega arith in
      ap (λ (d : Companion). d.registers.setup) (stored_past c b h)
      ∙ ap (λ (d : Companion). d.registers.setup) (written_past c b h) ∙ rw e

  -- "and none counts as fixed at 0 (ruling)"
  pub setup_free : is_within (with_registers c (put_at c.registers LAST b)) ≡ is_within c
  unfolding is_within registers_within
  setup_free = refl
