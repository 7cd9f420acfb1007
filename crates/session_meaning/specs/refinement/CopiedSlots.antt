-- A slot of a working copy, without where it lies in memory.
use Rattle.session_meaning.specs.Meaning as meaning
use Rattle.session_meaning.specs.declared.slots.Slot as code

abbrev pub slot_of : code.Slot → meaning.Slot
slot_of s = record { r = s.id; value = s.value; is_set = s.is_set }
