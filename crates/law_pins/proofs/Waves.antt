-- SPDX-License-Identifier: Apache-2.0
-- A session on the bus is a list run, and of list runs demand 3 is shown.
use Prim.Native.Nat.{ℕ}
use mathlib.Core.Path.{◌≡◌, sym, ap, ◌∙◌}
use mathlib.Core.List.{List}
use Rattle.fm3130.specs.declared.State.{State}
use Rattle.fm3130_image.specs.Image.{image_of}
use Rattle.fm3130_list.specs.Run.{run_of}
use Rattle.fm3130_list.specs.Held.{held}
use Rattle.law_merging.specs.Merge.{events_of}
use Rattle.law_isolation.specs.Demand3.{bytes_of}
use Rattle.law_isolation.specs.Entry.{bytes_at}
use Rattle.law_isolation.proofs.Demand3.{demand_three}
use Rattle.law_isolation.proofs.Entry.{demanded_left}
use Rattle.law_pins.specs.Waves.{Wave, left_by, Did, DemandThreeOfWaves}

-- what a session that has done a list leaves
module _ (i m : List ℕ) (s : State) (x : Wave) (es : List ℕ) (d : Did i m s x es) where
  image : (left_by i m x).image ≡ image_of (run_of s m es).state
  image = d.account.image ∙ ap (λ (l : List ℕ). image_of (run_of s m l).state) d.list

  memory : (left_by i m x).memory ≡ (run_of s m es).memory
  memory = d.account.memory ∙ ap (λ (l : List ℕ). (run_of s m l).memory) d.list

  at_place : (place n : ℕ) → bytes_at place n (left_by i m x).image ≡ bytes_at place n (image_of (run_of s m es).state)
  at_place place n = ap (bytes_at place n) image

pub demand_three_of_waves : DemandThreeOfWaves
demand_three_of_waves i m xs ys l q first second merged f g h =
    let s = q.state in
    let d =
    demanded_left s m (bytes_of xs) (bytes_of ys) (bytes_of (events_of l)) l
    (demand_three (held s m) xs ys l q.on q.idle q.first q.second q.merge q.steady) in
    let one = at_place i m s first (bytes_of xs) f in
    let two = at_place i m s second (bytes_of ys) g in
    let both = at_place i m s merged (bytes_of (events_of l)) h in
    record {
      memory = memory i m s merged (bytes_of (events_of l)) h ∙ d.memory ∙ sym (memory i m s first (bytes_of xs) f);
      memory_address = both 23 2 ∙ d.memory_address ∙ sym (one 23 2);
      registers = both 0 15 ∙ d.registers ∙ sym (two 0 15);
      core = both 15 7 ∙ d.core ∙ sym (two 15 7);
      companion_address = both 22 1 ∙ d.companion_address ∙ sym (two 22 1);
    }
