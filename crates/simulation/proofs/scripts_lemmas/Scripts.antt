-- A script, read line by line.
use Rattle.std.proofs.Common.{◌≡◌, ℕ, List, [], ◌∷◌, ◌++◌, map, true, Option, Some, None, is_some, refl, sym, ap, ap₂, ◌∙◌, append_assoc}
use Rattle.std.specs.List.{cons_option}
use Rattle.std.proofs.lemmas.List.{map-append}
use Rattle.std.proofs.lemmas.List.Elements.{filter_map-append}
use Rattle.office_map.specs.PlanValue.{PlanValue}
use Rattle.session_meaning.specs.ProgramValue.{ProgramValue}
use Rattle.simulation.specs.declared.scripts.event.ScriptEvent.{ScriptEvent}
use Rattle.simulation.specs.scripts.Script.{Act, act_of, act_with, acts_with, AreActs}

-- the lines before the rest mean these events
pub record Walked (p : PlanValue) (programs : List ProgramValue) (all rest : List (ℕ × List ℕ)) (events : List ScriptEvent) : Type 0 where
  pub before : List (ℕ × List ℕ)
  pub split : all ≡ before ++ rest
  pub good : AreActs p programs before (acts_with programs events)

-- an event that is there is one
one_event : (o : Option Act) → is_some o ≡ true → o ∷ [] ≡ map Some (cons_option o [])
one_event None h = (cc)
one_event (Some e) h = refl

pub further : (p : PlanValue) (programs : List ProgramValue) (all rest more : List (ℕ × List ℕ)) (number : ℕ) (line : List ℕ) (e : ScriptEvent) (events grown : List ScriptEvent)
    → rest ≡ (number, line) ∷ more → act_of p programs line ≡ act_with programs e → is_some (act_with programs e) ≡ true → grown ≡ events ++ e ∷ []
    → Walked p programs all rest events → Walked p programs all more grown
further p programs all rest more number line e events grown first means there g w =
    let f : ℕ × List ℕ → Option Act = λ l. act_of p programs l.1 in
    let longer : acts_with programs grown ≡ acts_with programs events ++ acts_with programs (e ∷ []) =
    ap (acts_with programs) g ∙ filter_map-append (act_with programs) events (e ∷ []) in
    let both : map f (w.before ++ (number, line) ∷ []) ≡ map Some (acts_with programs events ++ acts_with programs (e ∷ [])) =
    map-append f w.before ((number, line) ∷ []) ∙ ap₂ (λ xs x. xs ++ x ∷ []) w.good means
    ∙ ap (λ xs. map Some (acts_with programs events) ++ xs) (one_event (act_with programs e) there)
    ∙ sym (map-append Some (acts_with programs events) (acts_with programs (e ∷ []))) in
    record {
      before = w.before ++ (number, line) ∷ [];
      split = w.split ∙ ap (λ r. w.before ++ r) first ∙ sym (append_assoc w.before ((number, line) ∷ []) more);
      good = both ∙ sym (ap (map Some) longer);
    }
