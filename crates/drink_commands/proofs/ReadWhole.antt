-- A text of which only so much was read as shows that it is too long means what the whole text means.
use Rattle.std.proofs.Common.{◌≡◌, ◌≤◌, ℕ, List, length, Option, subst, arith, inl, inr}
use Rattle.host_files.specs.inputs.Words.{HasText, IsReadUpTo, Unread}
use Rattle.office_map.specs.PlanValue.{PlanValue}
use Rattle.session_meaning.specs.ProgramValue.{ProgramValue}
use Rattle.simulation.specs.scripts.Limits as scripts
use Rattle.simulation.specs.declared.scripts.fault.ScriptRefusal.{ScriptRefusal}
use Rattle.simulation.specs.scripts.Script.{Act, IsScript, RefusesScript}
use Rattle.serial_command.specs.reading.Texts.{WasRead}

pub same_text : (limit : ℕ) (text read : List ℕ) → length read ≤ limit → IsReadUpTo limit text read → read ≡ text
same_text limit text read short (inl e) = e
same_text limit text read short (inr (a, b)) = absurd (omega (arith, short, a))

pub script_accepted : (files : List ℕ → Option (List ℕ)) (old : Unread) (word : List ℕ) (new : Unread) (read : List ℕ) (p : PlanValue)
    (programs : List ProgramValue) (events : List Act) → WasRead files old word new scripts.most_bytes read → IsScript p programs read events
    → (text : List ℕ) (after : Unread) → HasText files old word text after → IsScript p programs text events × (new ≡ after)
script_accepted files old word new read p programs events was h text after has =
    let it = was text after has in
    (subst (λ t. IsScript p programs t events) (same_text scripts.most_bytes text read h.short it.0) h, it.1 h.short)

pub script_refused : (p : PlanValue) (programs : List ProgramValue) (text read : List ℕ) (r : ScriptRefusal) → IsReadUpTo scripts.most_bytes text read
    → RefusesScript p programs read r → RefusesScript p programs text r
script_refused p programs text read r (inl e) h = subst (λ t. RefusesScript p programs t r) e h
script_refused p programs text read r (inr (a, b)) (inl (long, line)) = inl (b, line)
script_refused p programs text read r (inr (a, b)) (inr (short, first)) = absurd (omega (arith, a, short))
