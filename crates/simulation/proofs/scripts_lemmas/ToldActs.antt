-- What an act of which something was told adds: its line, and the world after it.
use Rattle.std.proofs.Common.{◌≡◌, ◌≢◌, ℕ, List, [], ◌∷◌, ◌++◌, length, Result, Ok, Err, OnOk, sym, ap, ap₂, ◌∙◌, inl, inr, ⊎_elim}
use Rattle.std.proofs.lemmas.List.{append-nil}
use Rattle.office_journal.specs.declared.reply.Reply.{Reply}
use Rattle.office_journal.specs.declared.reply.Refusal.TheVariants as refused
use Rattle.frame_world.specs.declared.event.WorldEvent.{WorldEvent}
use Rattle.frame_world.specs.declared.refusal.WorldRefusal.{WorldRefusal}
use Rattle.frame_world.specs.declared.refusal.WorldRefusal.TheVariants as refusal
use Rattle.frame_world.specs.Worlds.{World, Applies}
use Rattle.simulation.specs.declared.scripts.said.Said.{Said}
use Rattle.simulation.specs.declared.scripts.said.Said.TheVariants.{Replied}
use Rattle.simulation.specs.scripts.Script.{Act, Happens}
use Rattle.simulation.specs.scripts.Runs.{as_said, does, run_of}
use Rattle.session_reports.specs.declared.form.forms.Form.{Form}
use Rattle.simulation.specs.scripts.Transcript.{said_line, told_line}
use Rattle.simulation.specs.scripts.refinement.Steps.{Says}
use Rattle.simulation.proofs.scripts_lemmas.Steps.{lines_of}

on_both : {A E : Type 0} (res : Result A E) (P Q S : Type 0) → (P → Q → S) → OnOk res P → OnOk res Q → OnOk res S
on_both (Ok x) P Q S k h j = k h j
on_both (Err e) P Q S k h j = tt

-- where memory didn't run out
abbrev pub Lasts : Result Said WorldRefusal → Type 0
Lasts said = said ≢ Err (refusal.Office refused.Memory)

act_line : (f : Form) (w w' : World) (x : Act) (said : Result Said WorldRefusal) (k : ℕ) (old new : List ℕ) → Says (does w x) said w' → k ≡ length w'.frames → new ≡ old ++ said_line f k said → Lasts said
    → new ≡ old ++ lines_of f w (x ∷ [])
act_line f w w' x said k old new h frames line lasts = ⊎_elim
    (λ m. absurd (lasts m))
    (λ t.
    let told : said_line f k said ≡ told_line f (does w x) = ap₂ (said_line f) (frames ∙ ap (λ (v : World). length v.frames) t.1) t.0 in
    line ∙ ap (λ l. old ++ l) (told ∙ sym (append-nil (told_line f (does w x)))))
    h

act_world : (w w' : World) (x : Act) (said : Result Said WorldRefusal) → Says (does w x) said w' → Lasts said → w' ≡ run_of w (x ∷ [])
act_world w w' x said h lasts = ⊎_elim (λ m. absurd (lasts m)) (λ t. t.1) h

pub said_line_added : {A E : Type 0} (f : Form) (res : Result A E) (w w' : World) (x : Act) (said : Result Said WorldRefusal) (k : ℕ) (old new : List ℕ) → Says (does w x) said w' → k ≡ length w'.frames
    → OnOk res (new ≡ old ++ said_line f k said) → OnOk res (Lasts said) → OnOk res (new ≡ old ++ lines_of f w (x ∷ []))
said_line_added f res w w' x said k old new h frames line lasts = on_both res _ _ _ (act_line f w w' x said k old new h frames) line lasts

pub said_world : {A E : Type 0} (res : Result A E) (w w' : World) (x : Act) (said : Result Said WorldRefusal) → Says (does w x) said w' → OnOk res (Lasts said) → OnOk res (w' ≡ run_of w (x ∷ []))
said_world (Ok y) w w' x said h lasts = act_world w w' x said h lasts
said_world (Err e) w w' x said h lasts = tt

-- ---- the answer of an event

says_answer : (w w' : World) (e : WorldEvent) (r : Result Reply WorldRefusal) → Applies w e r w' → Says (does w (Happens e)) (as_said r) w'
says_answer w w' e r h = ⊎_elim (λ m. inl (ap as_said m.0)) (λ n. inr (ap as_said n.0, n.1)) h

said_so : (r : Result Reply WorldRefusal) → r ≢ Err (refusal.Office refused.Memory) → Lasts (as_said r)
said_so (Ok x) h e = let same : ◌≡◌ {A = Result Said WorldRefusal} (Ok (Replied x)) (Err (refusal.Office refused.Memory)) = e in cc
said_so (Err f) h e = let same : ◌≡◌ {A = Result Said WorldRefusal} (Err f) (Err (refusal.Office refused.Memory)) = e in h (cc)

lasting : {A E : Type 0} (res : Result A E) (r : Result Reply WorldRefusal) → OnOk res (r ≢ Err (refusal.Office refused.Memory)) → OnOk res (Lasts (as_said r))
lasting (Ok y) r h = said_so r h
lasting (Err e) r h = tt

pub answer_line_added : {A E : Type 0} (f : Form) (res : Result A E) (w w' : World) (e : WorldEvent) (r : Result Reply WorldRefusal) (k : ℕ) (old new : List ℕ) → Applies w e r w' → k ≡ length w'.frames
    → OnOk res (new ≡ old ++ said_line f k (as_said r)) → OnOk res (r ≢ Err (refusal.Office refused.Memory)) → OnOk res (new ≡ old ++ lines_of f w (Happens e ∷ []))
answer_line_added f res w w' e r k old new h frames line lasts =
    said_line_added f res w w' (Happens e) (as_said r) k old new (says_answer w w' e r h) frames line (lasting res r lasts)

pub answer_world : {A E : Type 0} (res : Result A E) (w w' : World) (e : WorldEvent) (r : Result Reply WorldRefusal) → Applies w e r w' → OnOk res (r ≢ Err (refusal.Office refused.Memory))
    → OnOk res (w' ≡ run_of w (Happens e ∷ []))
answer_world res w w' e r h lasts = said_world res w w' (Happens e) (as_said r) (says_answer w w' e r h) (lasting res r lasts)
