-- What stands, and what left of it, while a journal goes on.
use Rattle.std.proofs.Common.{ℕ, ◌≤◌, List, [], ◌∷◌, length, take, Option, Some, None, sym, ap, ◌∙◌, arith}
use Rattle.std.specs.Prelude.{All, slice_get}
use mathlib.Core.List.{IsPrefix}
use Rattle.std.proofs.lemmas.List.{take-append-le}
use Rattle.std.proofs.lemmas.List.Elements.{All-nil, All-cons, All-head, All-tail}
use Rattle.bottle_values.specs.ListLaws.{get_left}
use Rattle.office_journal.specs.declared.event.Entry.{Entry}
use Rattle.locked_office.specs.Calls.{Key}
use Rattle.journal_texts.specs.Written.{journal_text}
use Rattle.socket_pump.specs.Chains.{sent_entry}
use Rattle.stored_runs.specs.durable.Letting.{StoreHas, IsOfStanding}

pub has_on : (o : Option (List ℕ)) (k : Key) (old entries : List Entry) (n : ℕ) → n ≤ length old → IsPrefix old entries → StoreHas o k old n → StoreHas o k entries n
has_on None k old entries n le b h = tt
has_on (Some bytes) k old entries n le b h = h ∙ ap (journal_text k.0 k.1) (sym (take-append-le n old b.0 le) ∙ ap (take n) b.1)

-- what is of an entry that stands stays so while the journal goes on and more of it stands
pub standing_on : (tag : ℕ) (es fs : List Entry) (n m : ℕ) (out : List (ℕ × List ℕ)) → n ≤ m → IsPrefix es fs → All (IsOfStanding tag es n) out → All (IsOfStanding tag fs m) out
standing_on tag es fs n m [] le p h = All-nil (IsOfStanding tag fs m)
standing_on tag es fs n m (d ∷ ds) le p h =
    let one : IsOfStanding tag es n d = All-head (IsOfStanding tag es n) d ds h in
    let here : IsOfStanding tag fs m d = (one.0, one.1, one.2, omega (arith, one.3, le), ap (λ l. slice_get l one.2) (sym p.1) ∙ get_left es p.0 one.2 (sent_entry tag one.0) one.4) in
    All-cons (IsOfStanding tag fs m) d ds here (standing_on tag es fs n m ds le p (All-tail (IsOfStanding tag es n) d ds h))
