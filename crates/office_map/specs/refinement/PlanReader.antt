-- What the functions that read a plan answer, in the words of reading.
use Rattle.std.specs.Prelude.{◌≡◌, ℕ, length, Result, Err, ◌≢◌, ◌<◌, true, IsTrue}
use Rattle.bottle_values.specs.Versions.{admits}
use Rattle.bottle_values.specs.declared.version.Version.{Version}
use Rattle.office_map.specs.declared.fault.PlanRefusal.{PlanRefusal}
use Rattle.office_map.specs.declared.fault.PlanFault.{PlanFault}
use Rattle.office_map.specs.declared.fault.PlanFault.TheVariants.{Memory, Refused, Ring}
use Rattle.office_map.specs.declared.line.Declaration as code
use Rattle.office_map.specs.declared.line.Declaration.TheVariants as variants
use Rattle.office_map.specs.PlanValue.{PlanValue, are_neighbours}
use Rattle.office_map.specs.PlanText.{Declaration, AnOffice, APair, ARecord}

-- the same without where the address lies in memory
abbrev pub seen : code.Declaration → Declaration
seen (variants.Office o) = AnOffice o.name o.address.now
seen (variants.Pair p) = APair p.a p.b p.fork_at_first
seen (variants.Record r) = ARecord r.name r.a r.b r.value r.starts_at_first

-- the value that is declared, if any, can be one of this version
abbrev pub HasAdmitted : Version → Declaration → Type 0
HasAdmitted version (AnOffice name address) = Unit {0}
HasAdmitted version (APair a b at_first) = Unit {0}
HasAdmitted version (ARecord name a b value at_first) = IsTrue (admits version value)

-- what an error says of what reading gives; a ring is told by no line
abbrev pub Fails : {A : Type 0} → PlanFault → Result A PlanRefusal → Type 0
Fails Memory read = Unit {0}
Fails (Refused r) read = read ≡ Err r
Fails (Ring r) read = ⊥

-- two different offices of the plan that are neighbours
pub record HasEnds (p : PlanValue) (a b : ℕ) : Type 0 where
  pub joined : are_neighbours p a b ≡ true
  pub first : a < length p.offices
  pub second : b < length p.offices
  pub different : a ≢ b
