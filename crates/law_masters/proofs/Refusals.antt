-- SPDX-License-Identifier: Apache-2.0
-- By which numbers a master's four functions refuse: the ways through their tests, in literal numbers.
use Prim.Native.Nat.{ℕ, ◌+◌, ◌*◌}
use mathlib.Core.List.{List}
use native.Mathlib.Omega.{arith}
use lib.ListN.{length}
use borrow.Author.Tests.{le-leb, lt-ltb, eq-eqb, ne_eqb}
use Rattle.c_master.specs.Outcome.{write_events_of, read_events_of, write_told_of, read_told_of}
use Rattle.c_master.proofs.Ways.{write_too_many, write_address, write_room, read_too_many, read_none, read_address, read_room}
use Rattle.c_master.proofs.Ways.{write_told_too_many, write_told_room, write_told_answers, read_told_too_many, read_told_none, read_told_room, read_told_answers}
use Rattle.law_masters.specs.Refusals.{WriteEvents, ReadEvents, WriteTold, ReadTold, MastersNumbers}

write_events : (a : ℕ) (bs e : List ℕ) → WriteEvents a bs e
unfolding write_events_of
write_events a bs e =
    record {
      many = write_too_many a bs e;
      address = λ few l. write_address a bs e few (omega arith);
      room = λ few l r. write_room a bs e few (omega arith) r;
      taken = λ few l r.
          rw (le-leb (length bs) 256 few, lt-ltb a 8192 (omega arith), le-leb (29 + 9 * length bs) (length e) r);
    }

read_events : (a n : ℕ) (e : List ℕ) → ReadEvents a n e
unfolding read_events_of
read_events a n e =
    record {
      many = read_too_many a n e;
      none = λ z. read_none a n e (omega arith) z;
      address = λ some few l. read_address a n e few (λ z. omega arith) (omega arith);
      room = λ some few l r. read_room a n e few (λ z. omega arith) (omega arith) r;
      taken = λ some few l r. rw (
        le-leb n 256 few,
        ne_eqb n 0 (λ z. omega arith),
        lt-ltb a 8192 (omega arith),
        le-leb (39 + 9 * n) (length e) r,
      );
    }

write_told : (n : ℕ) (answers e : List ℕ) → WriteTold n answers e
unfolding write_told_of
write_told n answers e =
    record {
      many = write_told_too_many n answers e;
      room = λ few r. write_told_room n answers e few r;
      answers_wrong = λ few r w. write_told_answers n answers e few r w;
      taken = λ few r w. rw (le-leb n 256 few, le-leb n (length e) r, eq-eqb (length answers) (29 + 9 * n) w);
    }

read_told : (n : ℕ) (answers e : List ℕ) → ReadTold n answers e
unfolding read_told_of
read_told n answers e =
    record {
      many = read_told_too_many n answers e;
      none = λ z. read_told_none n answers e (omega arith) z;
      room = λ some few r. read_told_room n answers e few (λ z. omega arith) r;
      answers_wrong = λ some few r w. read_told_answers n answers e few (λ z. omega arith) r w;
      taken = λ some few r w. rw (
        le-leb n 256 few,
        ne_eqb n 0 (λ z. omega arith),
        le-leb n (length e) r,
        eq-eqb (length answers) (39 + 9 * n) w,
      );
    }

pub masters_numbers : MastersNumbers
masters_numbers =
    record { write_events = write_events; read_events = read_events; write_told = write_told; read_told = read_told }
