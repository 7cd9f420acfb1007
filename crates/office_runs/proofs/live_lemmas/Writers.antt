-- Who wrote what is told of an office.
use Rattle.std.proofs.Common.{◌≡◌, ◌+◌, ◌<◌, List, ◌++◌, length, get_or, take, drop, map, sym, ap, subst, ◌∙◌, append_assoc, arith, length-append, take-append-drop}
use Rattle.std.specs.Prelude.{All}
use Rattle.std.proofs.lemmas.List.{get_or_append_left}
use mathlib.Core.List.{IsPrefix}
use Rattle.own_lock.specs.Entries.{tagged}
use Rattle.session_meaning.specs.ProgramValue.{ProgramValue}
use Rattle.office_journal.specs.declared.event.Event.TheVariants.{Submit}
use Rattle.office_journal.specs.declared.event.Entry.{Entry}
use Rattle.site_core.specs.Journals.{Site}
use Rattle.locked_office.specs.Calls.{tag_of}
use Rattle.office_runs.specs.Threads.{IsNoSubmit, IsWrittenBy}
use Rattle.office_runs.proofs.live_lemmas.Beginnings.{map_begins}

all_before : (P : Entry → Type 0) (xs ys : List Entry) → IsPrefix xs ys → All P ys → All P xs
all_before P xs ys p all i d lt =
    let within : i < length ys = omega (arith, lt, length-append xs p.0, ap length p.1) in
    subst P (ap (λ (l : List Entry). get_or l i d) (sym p.1) ∙ get_or_append_left xs p.0 d i lt) (all i d within)

pub written_by : (sessions : List ProgramValue) (s : Site) (worker client : List Entry) → All (λ (e : Entry). e.tag < 2) s.entries → IsPrefix (tagged tag_of 0 s.entries) worker → IsPrefix (tagged tag_of 1 s.entries) client → All IsNoSubmit worker →
    (given left : List ProgramValue) × (given ++ left ≡ sessions) × (map (λ (e : Entry). e.event) client ≡ map Submit given) → IsWrittenBy sessions s
written_by sessions s worker client tags turns submits none (given, left, are, all) =
    let own : List Entry = tagged tag_of 1 s.entries in
    record {
      tags = tags;
      turns = all_before IsNoSubmit (tagged tag_of 0 s.entries) worker turns none;
      given = take (length own) given;
      left = drop (length own) given ++ left;
      are = sym (append_assoc (take (length own) given) (drop (length own) given) left) ∙ ap (λ (l : List ProgramValue). l ++ left) (take-append-drop (length own) given) ∙ are;
      submits = map_begins (λ (e : Entry). e.event) Submit own submits.0 client given submits.1 all;
    }
