-- SPDX-License-Identifier: Apache-2.0
-- Who holds the bus (02, number 8: "A master asks for the bus. An ask while the other holds it, or a call with any event 0 to
-- 3 by a master that does not hold it as the call begins, is refused with a new number 7 .. Ticks and power events belong to
-- neither. The bus is freed when an answered call ends whose last Stop, event 5 or event 6 has no Start after it").
--   Holder, same_master, holds, may_ask, after_ask        a master and the holder
--   is_bus, any_bus, may_call                     a call's events, and who may do them
--   freed_by, frees, holder_after                when the bus is freed
--   master_number, holder_number                 their numbers
--   master_of, holder_of, is_known, standing_of    and back
--   bus_freed                                   the lent byte after a call
use Rattle.std.specs.Prelude.{ℕ, Bool, true, false, cond, not, ◌||◌, ◌&&◌, List, [], ◌∷◌, Option, Some, None, leb, eqb, length, get_or}
use Rattle.wire.specs.Machine.{start, stop, clock}
use Rattle.fm3130.specs.Event.{Happening, on_wire, beat, lost, gone, returned, happening}
use Rattle.masters_hold.specs.declared.Master.{Master}
use Rattle.masters_hold.specs.declared.Master.TheVariants.{Rig, Handheld}
use Rattle.masters_hold.specs.declared.Standing.{Standing}

-- Who holds the bus: nobody, or a master.
abbrev pub Holder : Type 0
Holder = Option Master

abbrev pub same_master : Master → Master → Bool
same_master Rig Rig = true
same_master Rig Handheld = false
same_master Handheld Rig = false
same_master Handheld Handheld = true

abbrev pub holds : Holder → Master → Bool
holds None x = false
holds (Some y) x = same_master y x

-- "An ask while the other holds it .. is refused": one who holds it already is answered.
abbrev pub may_ask : Holder → Master → Bool
may_ask None x = true
may_ask (Some y) x = same_master y x

-- Who holds it after an ask; a refused one "changes nothing".
abbrev pub after_ask : Holder → Master → Holder
after_ask None x = Some x
after_ask (Some y) x = Some y

-- "Any event 0 to 3"; "ticks and power events belong to neither".
abbrev pub is_bus : Happening → Bool
is_bus (on_wire x) = true
is_bus (beat t') = false
is_bus lost = false
is_bus gone = false
is_bus returned = false

abbrev pub any_bus : List ℕ → Bool
any_bus [] = false
any_bus (e ∷ es) = is_bus (happening e) || any_bus es

-- What may not be is "a call with any event 0 to 3 by a master that does not hold it as the call begins".
abbrev pub may_call : Holder → Master → List ℕ → Bool
may_call g x es = holds g x || not (any_bus es)

-- Whether a Stop, event 5 or event 6 was seen with no Start after it, after one more event.
abbrev pub freed_by : Bool → Happening → Bool
freed_by f (on_wire start) = false
freed_by f (on_wire stop) = true
freed_by f (on_wire (clock d)) = f
freed_by f (beat t') = f
freed_by f lost = true
freed_by f gone = true
freed_by f returned = f

abbrev pub frees : Bool → List ℕ → Bool
frees f [] = f
frees f (e ∷ es) = frees (freed_by f (happening e)) es

-- "The bus is freed when an answered call ends", whoever made it.
abbrev pub holder_after : Holder → List ℕ → Holder
holder_after g es = cond (frees false es) None g

-- Ours: the number of a master, and 0 for nobody.
abbrev pub master_number : Master → ℕ
master_number Rig = 1
master_number Handheld = 2

abbrev pub holder_number : Holder → ℕ
holder_number None = 0
holder_number (Some x) = master_number x

abbrev pub master_of : ℕ → Master
master_of n = cond (eqb n 1) Rig Handheld

abbrev pub holder_of : ℕ → Holder
holder_of n = cond (eqb n 0) None (cond (eqb n 1) (Some Rig) (Some Handheld))

-- One byte is lent, it says who holds the bus, and the master exists.
abbrev pub is_known : List ℕ → ℕ → Bool
is_known b x = eqb (length b) 1 && (leb (get_or b 0 0) 2 && (leb 1 x && leb x 2))

unfoldable pub standing_of : List ℕ → ℕ → Option Standing
standing_of b x = cond (is_known b x) (Some (record { holder = holder_of (get_or b 0 0); master = master_of x })) None

-- The lent byte after events that were answered.
abbrev pub bus_freed : List ℕ → List ℕ → List ℕ
bus_freed es b = cond (frees false es) (holder_number None ∷ []) b
