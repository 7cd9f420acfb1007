-- Records by the keys of their names: each key has a chain, from its last record to its first.
use Rattle.std.specs.Prelude.{◌≡◌, ℕ, suc, ◌/◌, ◌^◌, ◌<◌, ◌≤◌, List, length, get_or, Bool, true, false, ◌==◌}
use Rattle.text_lines.specs.short.refinement.Packing.{key_of}
use Rattle.office_map.specs.declared.entries.RecordEntry.{RecordEntry}

-- the place that is kept of a name's key, below 256
abbrev pub place_of_key : List ℕ → ℕ
place_of_key name = key_of name / 2 ^ 56

abbrev pub has_key : ℕ → RecordEntry → Bool
has_key k r = place_of_key r.name == k

-- of the places below m, n is one more than the last that passes, or 0 where none does
pub record IsLastBelow (p : RecordEntry → Bool) (records : List RecordEntry) (m n : ℕ) : Type 0 where
  pub within : n ≤ m
  pub passes : (j : ℕ) (d : RecordEntry) → suc j ≡ n → p (get_or records j d) ≡ true
  pub after : (j : ℕ) (d : RecordEntry) → n ≤ j → j < m → p (get_or records j d) ≡ false

-- of each record stands the last one before it that has its key
pub record HasChains (records : List RecordEntry) (before : List ℕ) : Type 0 where
  pub whole : length before ≡ length records
  pub goes_on : (i : ℕ) (d : RecordEntry) → i < length records → IsLastBelow (has_key (place_of_key (get_or records i d).name)) records i (get_or before i 0)

-- of each key stands the last record that has it
pub record HasStarts (records : List RecordEntry) (last : List ℕ) : Type 0 where
  pub all_keys : length last ≡ 256
  pub starts : (k : ℕ) → k < 256 → IsLastBelow (has_key k) records (length records) (get_or last k 0)
