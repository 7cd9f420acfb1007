-- Names of a plan are short, so a text that is too long for one, or has other bytes, is none of them.
use Rattle.std.proofs.Common.{◌≡◌, List, get_or, ℕ, Bool, true, false, IsTrue, Some, None, if◌then◌else◌, refl, sym, ap, ◌∙◌}
use Rattle.std.specs.List.{All, position}
use Rattle.std.specs.Str.{bytes_eq}
use Rattle.std.proofs.lemmas.Bool.{both_ways, false_from_ne_true}
use Rattle.std.proofs.lemmas.Slice.Eq.{bytes_eq-Decides}
use Rattle.text_lines.specs.short.Names.{is_short, short_of}
use Rattle.text_lines.specs.Text.{is_name}
use Rattle.text_lines.specs.TextLaws.{name_is_short}
use Rattle.office_map.specs.PlanValue.{PlanValue, office_named, record_named}
use Rattle.office_map.specs.Consistency.{IsConsistent}
use Rattle.office_map.specs.declared.entries.OfficeEntry.{OfficeEntry}
use Rattle.office_map.specs.declared.entries.RecordEntry.{RecordEntry}
use Rattle.office_map.proofs.FirstPosition.{found_nowhere}

nobody : {X : Type 0} (name_of : X → List ℕ) (xs : List X) (name : List ℕ) → All (λ x. IsTrue (is_name (name_of x))) xs → is_short name ≡ false → position (λ x. bytes_eq (name_of x) name) xs ≡ None
nobody name_of xs name named long = found_nowhere (λ x. bytes_eq (name_of x) name) xs (λ k d lt. false_from_ne_true _ (λ e.
    let same : name_of (get_or xs k d) ≡ name = (bytes_eq-Decides (name_of (get_or xs k d)) name).0 e in
    both_ways (is_short name) long (ap is_short (sym same) ∙ name_is_short (name_of (get_or xs k d)) (named k d lt))))

not_short : (name : List ℕ) → short_of name ≡ None → is_short name ≡ false
not_short name none = by_test (is_short name) none
  where
    by_test : (b : Bool) → (if b then Some name else None) ≡ None → b ≡ false
    by_test true e = (cc)
    by_test false e = refl

pub no_office : (p : PlanValue) (name : List ℕ) → IsConsistent p → short_of name ≡ None → office_named p name ≡ None
no_office p name ok none = nobody (λ (o : OfficeEntry). o.name) p.offices name ok.offices_are_named (not_short name none)

pub no_record : (p : PlanValue) (name : List ℕ) → IsConsistent p → short_of name ≡ None → record_named p name ≡ None
no_record p name ok none = nobody (λ (r : RecordEntry). r.name) p.records name ok.records_are_named (not_short name none)

-- the bytes that a short name has are those that it was made of
pub its_bytes : (bytes name : List ℕ) → short_of bytes ≡ Some name → name ≡ bytes
its_bytes bytes name is = by_test (is_short bytes) is
  where
    by_test : (b : Bool) → (if b then Some bytes else None) ≡ Some name → name ≡ bytes
    by_test true e = (cc)
    by_test false e = (cc)
