-- A journal with given entries, for a proof that names one: nothing is in memory.
use Rattle.std.proofs.Common.{◌<◌, ◌^◌, List, length, Bool, Global, refl}
use native.Mathlib.Nat.{le_refl}
use denote.RawPtr.{null_ptr}
use Rattle.office_journal.specs.declared.event.Entry.{Entry}
use Rattle.journal_weave.specs.declared.given.GivenJournal.{GivenJournal}

abbrev pub given_as : Global → (xs : List Entry) → length xs < 2 ^ 63 → Bool → GivenJournal
given_as heap xs small ends = record {
  entries = record { ptr = null_ptr; len = length xs; cap = length xs; alloc = heap; items = xs; ok = (refl, le_refl (length xs)); small = small };
  ends = ends;
}
