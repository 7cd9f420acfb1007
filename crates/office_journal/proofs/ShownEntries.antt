-- What a journal shows at a place.
use Rattle.std.proofs.Common.{◌≡◌, ℕ, ◌<◌, List, [], ◌∷◌, length, get_or, Option, Some, None, sym, ap, ◌∙◌, arith}
use Rattle.std.specs.Prelude.{slice_get, option_map}
use Rattle.std.proofs.lemmas.Option.{none-some, slice_get-get_or}
use Rattle.office_journal.specs.declared.event.Entry.{Entry}
use Rattle.office_journal.specs.declared.event.EntryRef.{EntryRef}
use Rattle.office_journal.specs.Shown.{entry_shown}

pub entry_in : (xs : List Entry) (i : ℕ) (o : Option EntryRef) (e : EntryRef) → option_map entry_shown o ≡ slice_get xs i → o ≡ Some e → slice_get xs i ≡ Some (entry_shown e)
entry_in xs i o e h is = sym h ∙ ap (option_map entry_shown) is

pub none_in : (xs : List Entry) (i : ℕ) (o : Option EntryRef) → option_map entry_shown o ≡ slice_get xs i → o ≡ None → slice_get xs i ≡ None
none_in xs i o h is = sym h ∙ ap (option_map entry_shown) is

-- before the end there is one
pub is_there : (xs : List Entry) (i : ℕ) (o : Option EntryRef) → option_map entry_shown o ≡ slice_get xs i → i < length xs → o ≡ None → ⊥
is_there [] i o h lt is = omega (arith, lt)
is_there (x ∷ xs) i o h lt is = none-some (get_or (x ∷ xs) i x) (sym (none_in (x ∷ xs) i o h is) ∙ slice_get-get_or (x ∷ xs) i x lt)
