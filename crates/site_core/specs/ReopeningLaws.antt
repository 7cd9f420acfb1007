-- What begins a legal journal is one.
use Rattle.std.proofs.Common.{ℕ, List, [], ◌∷◌, ◌++◌, arith, length-append}
use Rattle.office_map.specs.PlanValue.{PlanValue}
use Rattle.office_journal.specs.declared.event.Entry.{Entry}
use Rattle.site_core.specs.Offices.{Office, opened}
use Rattle.site_core.specs.Journals.{after, AreAccepted, IsLegal}
use Rattle.site_core.specs.Reopening.{site_with}

-- what is accepted begins with what is accepted
accepted_first : (plan : PlanValue) (me : ℕ) (o : Office) (xs ys : List Entry) → AreAccepted plan me o (xs ++ ys) → AreAccepted plan me o xs
accepted_first plan me o [] ys h = tt
accepted_first plan me o (x ∷ xs) ys (a, lt, h) = (a, lt, accepted_first plan me (after plan me o x.event) xs ys h)

pub legal_first : (plan : PlanValue) (me : ℕ) (xs ys : List Entry) → IsLegal (site_with plan me (xs ++ ys)) → IsLegal (site_with plan me xs)
legal_first plan me xs ys h = record { accepted = accepted_first plan me (opened plan me) xs ys h.accepted; few = omega (arith, h.few, length-append xs ys) }
