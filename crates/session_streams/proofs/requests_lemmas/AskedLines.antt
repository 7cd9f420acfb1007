-- Lines one after the other.
use Rattle.std.proofs.Common.{◌≡◌, ℕ, List, ◌∷◌, ◌++◌, sym, ap, ◌∙◌, append_assoc}
use Rattle.office_map.specs.PlanValue.{PlanValue}
use Rattle.session_streams.specs.declared.requests.asked.Asked.{Asked}
use Rattle.session_streams.specs.requests.Requests.{Asking, ask, ask_all}

-- what lines ask for, after what was asked before: where the stream stands, and all that was asked
pub record Asks (p : PlanValue) (me : ℕ) (a : Asking) (before : List Asked) (lines : List (ℕ × List ℕ)) (b : Asking) (after : List Asked) (left : List (ℕ × List ℕ)) : Type 0 where
  pub stands : (ask_all p me b left).0 ≡ (ask_all p me a lines).0
  pub asked : after ++ (ask_all p me b left).1 ≡ before ++ (ask_all p me a lines).1

pub asks_first : (p : PlanValue) (me : ℕ) (a b c : Asking) (before after more : List Asked) (lines left rest : List (ℕ × List ℕ)) (l : ℕ × List ℕ) → Asks p me a before lines b after left → left ≡ l ∷ rest → c ≡ (ask p me b l).0 → more ≡ after ++ (ask p me b l).1
    → Asks p me a before lines c more rest
asks_first p me a b c before after more lines left rest l h first stands asked = record {
  stands = ap (λ (s : Asking). (ask_all p me s rest).0) stands ∙ ap (λ (ls : List (ℕ × List ℕ)). (ask_all p me b ls).0) (sym first) ∙ h.stands;
  asked = ap (λ (s : Asking). more ++ (ask_all p me s rest).1) stands ∙ ap (λ (m : List Asked). m ++ (ask_all p me (ask p me b l).0 rest).1) asked
      ∙ append_assoc after (ask p me b l).1 (ask_all p me (ask p me b l).0 rest).1 ∙ ap (λ (ls : List (ℕ × List ℕ)). after ++ (ask_all p me b ls).1) (sym first) ∙ h.asked;
}
