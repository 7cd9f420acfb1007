-- Datagrams that a pass hands to its office, each followed by the rules that it brings about. Entries of others may stand between.
use Rattle.std.specs.Prelude.{◌≡◌, ℕ, ◌+◌, ◌<◌, ◌⊎◌, List, [], ◌∷◌, ◌++◌, Option, Result, Ok, Err}
use Rattle.frame_codec.specs.Frame.{Fields}
use Rattle.frame_codec.specs.Spelling.{Spells}
use Rattle.office_journal.specs.declared.event.Entry.{Entry}
use Rattle.office_journal.specs.declared.event.Event.TheVariants.{Do}
use Rattle.office_journal.specs.declared.reply.Reply.{Reply}
use Rattle.office_journal.specs.declared.reply.Refusal.{Refusal}
use Rattle.office_journal.specs.declared.rule.Rule.{Rule}
use Rattle.site_core.specs.Journals.{Receives}
use Rattle.locked_office.specs.declared.advance.Stopped.{Stopped}
use Rattle.locked_office.specs.Advance.{Advances, done_of}
use Rattle.locked_office.specs.Calls.{Key, DeskPass, Does}
use Rattle.socket_pump.specs.declared.last.LastSend.{LastSend}
use Rattle.socket_pump.specs.Last.{heard_since}
use Rattle.socket_pump.specs.Chains.{Heard, Sees, one_taken, IsTook}

-- a datagram, what the office answered to it, and how many rules it did then, or at which of them it was stopped
pub record Handled : Type 0 where
  pub heard : Heard
  pub rules : Result ℕ Stopped

-- the datagrams alone
abbrev pub heard_of : List Handled → List Heard
heard_of [] = []
heard_of (h ∷ hs) = h.heard ∷ heard_of hs

-- Of what follows a datagram: where it was taken, the rules that come next, at most 64, and fewer only where none is next; where it was refused, nothing.
abbrev pub Follows : ℕ → Key → Result Reply Refusal → Result ℕ Stopped → DeskPass → DeskPass → Type 0
Follows tag k (Ok r) rules p q = Does (λ s s'. Advances tag 64 rules s s') k p q
Follows tag k (Err why) rules p q = (rules ≡ Ok 0) × (q ≡ p)

-- each is handed to the office, after the one before and the rules that followed it
abbrev pub Handles : ℕ → Key → DeskPass → List Handled → DeskPass → Type 0
Handles tag k p [] q = Sees p q
Handles tag k p (h ∷ hs) q = (m r : DeskPass) × Does (λ s s'. Receives s tag h.heard.bytes h.heard.answer s') k p m × Follows tag k h.heard.answer h.rules m r × Handles tag k r hs q

-- how many rules followed them
abbrev pub rules_after : List Handled → ℕ
rules_after [] = 0
rules_after (h ∷ hs) = done_of h.rules + rules_after hs

-- no rule was refused
abbrev pub AreDone : Result ℕ Stopped → Type 0
AreDone (Ok n) = Unit {0}
AreDone (Err stopped) = ⊥

-- none was, after any of these datagrams
abbrev pub AllDone : List Handled → Type 0
AllDone [] = Unit {0}
AllDone (h ∷ hs) = AreDone h.rules × AllDone hs

-- each of these entries does a rule
abbrev pub AreRules : ℕ → List Entry → Type 0
AreRules tag [] = Unit {0}
AreRules tag (x ∷ xs) = (r : Rule) × (x.event ≡ Do r) × (x.tag ≡ tag) × AreRules tag xs

-- the entries of those that were taken and of the rules that followed each, in order
abbrev pub AreHandled : ℕ → List Handled → List Entry → Type 0
AreHandled tag [] es = es ≡ []
AreHandled tag (h ∷ hs) es = (first rules rest : List Entry) × (es ≡ first ++ (rules ++ rest)) × IsTook tag h.heard.bytes h.heard.answer first × AreRules tag rules × AreHandled tag hs rest

-- ---- who was heard

-- a frame of v is among them, and the office took it
abbrev pub HeardOf : ℕ → List Heard → Type 0
HeardOf v [] = ⊥
HeardOf v (h ∷ hs) = ((f : Fields) × Spells h.bytes f × (f.from ≡ v) × (one_taken h.answer ≡ 1)) ⊎ HeardOf v hs

-- What is remembered of messages before and after these datagrams: of those to a neighbour that was heard, that it was since; of the others, what was.
abbrev pub Marks : (ℕ → ℕ → Option LastSend) → List Heard → (ℕ → ℕ → Option LastSend) → Type 0
Marks last heard then = (v n : ℕ) → v < 16 → (HeardOf v heard × (then v n ≡ heard_since (last v n))) ⊎ ((HeardOf v heard → ⊥) × (then v n ≡ last v n))
