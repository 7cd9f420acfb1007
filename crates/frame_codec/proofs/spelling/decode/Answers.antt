use Rattle.std.proofs.Common.{◌≡◌, ℕ, ◌-◌, ◌<◌, ◌^◌, Bool, cond, List, [], length, take, drop, Some, None, Ok, ℤ, to_z, of_z, w64, sym, ap, ◌∙◌, rules}
use Rattle.std.proofs.lemmas.Bool.{eqb-true, false≢true}
use Rattle.std.proofs.lemmas.List.{drop-drop, nil_from_length, take_rest}
use Rattle.std.proofs.lemmas.Result.{err_from_is_err_and}
use Rattle.bottle_values.specs.Texts.{is_text}
use Rattle.bottle_values.specs.declared.Value.TheVariants.{Number, Text}
use Rattle.frame_codec.specs.declared.body.Form.{Form}
use Rattle.frame_codec.specs.declared.body.Form.TheVariants as forms
use Rattle.frame_codec.specs.declared.body.Part.{Part}
use Rattle.frame_codec.specs.declared.body.Part.TheVariants as parts
use Rattle.frame_codec.specs.declared.fault.FrameFault.TheVariants.{TextByte}
use Rattle.frame_codec.specs.declared.message.Msg.TheVariants.{AskBottle, Bottle}
use Rattle.frame_codec.specs.Frame.{IsMsg, carries}
use Rattle.frame_codec.specs.Spelling.{message}
use Rattle.frame_codec.specs.refinement.DecodedParts.{framed, message_fault, message_of}
use Rattle.frame_codec.proofs.FirstFaults.{first_fault-in_header, first_fault-of_message}
use Rattle.frame_codec.specs.SpellingLaws.{same_frame}
use Rattle.frame_codec.proofs.DecodeSpells.{spells_ack, spells_part, fault_of_part, some_text, none_text, spelled_text}
use Rattle.frame_codec.proofs.spelling.decode.Goals as goal

pub returns-in_err-header-clause-fault : goal.returns-in_err-header-clause-fault
returns-in_err-header-clause-fault c =
    let p = err_from_is_err_and c.from_residual.result c.from_residual.ensures.1 in
    rw (p.1, p.2) (sym (first_fault-in_header c.args.bytes.now _ (sym c.in_err-header.ensures.fault)))

pub returns-in-Ack-clause-found : goal.returns-in-Ack-clause-found
returns-in-Ack-clause-found c =
    let bytes = c.args.bytes.now in
    let none : length (take (length bytes - 26) (drop 26 bytes)) ≡ 0 = eqb-true _ _ (sym c.is_empty.ensures ∙ c.if-is_empty.true) in
    let follows : drop 26 bytes ≡ [] = nil_from_length _ (ap length (sym (take_rest bytes 26)) ∙ none) in
    rw c.ack.ensures (spells_ack bytes _ c.in_ok-header.ensures.found c.in-Ack.is follows)

pub returns-in_err-part-in-Data-clause-fault : goal.returns-in_err-part-in-Data-clause-fault
returns-in_err-part-in-Data-clause-fault c =
    let bytes = c.args.bytes.now in
    let h = c.in_ok-header.header in
    let e = c.in_ok-header.ensures in
    let p = err_from_is_err_and c.from_residual-in_err-part-in-Data.result c.from_residual-in_err-part-in-Data.ensures.1 in
    rw (p.1, p.2) (sym (first_fault-of_message bytes h e.found (sym e.fault) c.in-Data.is ∙ ap (message_fault h.version) (sym (take_rest bytes 26)) ∙ c.in_err-part-in-Data.ensures.fault))

pub returns-in-AskFork-clause-found : goal.returns-in-AskFork-clause-found
returns-in-AskFork-clause-found c =
    let bytes = c.args.bytes.now in
    let h = c.in_ok-header.header in
    let e = c.in_ok-header.ensures in
    let m = c.in_ok-part-in-Data.ensures in
    let tail : List ℕ = take (length bytes - 26) (drop 26 bytes) in
    let follows : drop 26 bytes ≡ tail = sym (take_rest bytes 26) in
    rw c.data.ensures (spells_part bytes tail h c.in_ok-part-in-Data.part (parts.AskFork) e.found c.in-Data.is follows m.spelled m.carried c.in-AskFork.is tt)

pub returns-in-Fork-clause-found : goal.returns-in-Fork-clause-found
returns-in-Fork-clause-found c =
    let bytes = c.args.bytes.now in
    let h = c.in_ok-header.header in
    let e = c.in_ok-header.ensures in
    let m = c.in_ok-part-in-Data.ensures in
    let tail : List ℕ = take (length bytes - 26) (drop 26 bytes) in
    let follows : drop 26 bytes ≡ tail = sym (take_rest bytes 26) in
    rw c.data-in-Fork.ensures (spells_part bytes tail h c.in_ok-part-in-Data.part (parts.Fork) e.found c.in-Data.is follows m.spelled m.carried c.in-Fork.is tt)

pub returns-in-AskBottle-clause-found : goal.returns-in-AskBottle-clause-found
returns-in-AskBottle-clause-found c =
    let bytes = c.args.bytes.now in
    let h = c.in_ok-header.header in
    let e = c.in_ok-header.ensures in
    let m = c.in_ok-part-in-Data.ensures in
    let tail : List ℕ = take (length bytes - 26) (drop 26 bytes) in
    let follows : drop 26 bytes ≡ tail = sym (take_rest bytes 26) in
    let fits : IsMsg (AskBottle c.in-AskBottle.bottle) = search rules in
    rw c.data-in-AskBottle.ensures (spells_part bytes tail h c.in_ok-part-in-Data.part (parts.AskBottle c.in-AskBottle.bottle) e.found c.in-Data.is follows m.spelled m.carried c.in-AskBottle.is fits)

pub returns-in-AskBottle-clause-fault : goal.returns-in-AskBottle-clause-fault
returns-in-AskBottle-clause-fault c =
    let bytes = c.args.bytes.now in
    let h = c.in_ok-header.header in
    let e = c.in_ok-header.ensures in
    let m = c.in_ok-part-in-Data.ensures in
    let tail : List ℕ = take (length bytes - 26) (drop 26 bytes) in
    let follows : drop 26 bytes ≡ tail = sym (take_rest bytes 26) in
    sym (fault_of_part bytes tail h c.in_ok-part-in-Data.part (parts.AskBottle c.in-AskBottle.bottle) e.found (sym e.fault) c.in-Data.is follows m.left c.in-AskBottle.is)

pub returns-in-Number-clause-found :
    goal.returns-in-Number-clause-found
returns-in-Number-clause-found c =
    let bytes = c.args.bytes.now in
    let h = c.in_ok-header.header in
    let e = c.in_ok-header.ensures in
    let m = c.in_ok-part-in-Data.ensures in
    let tail : List ℕ = take (length bytes - 26) (drop 26 bytes) in
    let follows : drop 26 bytes ≡ tail = sym (take_rest bytes 26) in
    let bottle = c.in-Bottle.bottle in
    let number = c.in-Number.number in
    let same = c.in-Bottle.is ∙ ap (λ (f : Form). parts.Bottle bottle f) c.in-Number.is in
    let fits : IsMsg (Bottle bottle (Number number)) = search rules in
    let told : to_z w64 (of_z w64 number) ≡ number = search rules in
    let frame = c.data-in-Number.ensures ∙ ap (λ (z : ℤ). framed h (Bottle bottle (Number z))) told in
    rw frame (spells_part bytes tail h c.in_ok-part-in-Data.part (parts.Bottle bottle (forms.Number number)) e.found c.in-Data.is follows m.spelled m.carried same fits)

pub returns-in-Number-clause-only : goal.returns-in-Number-clause-only
returns-in-Number-clause-only c f spelled =
    ap Ok (same_frame c.args.bytes.now _ f (returns-in-Number-clause-found c) spelled)

pub returns-in-Number-clause-fault :
    goal.returns-in-Number-clause-fault
returns-in-Number-clause-fault c =
    let bytes = c.args.bytes.now in
    let h = c.in_ok-header.header in
    let e = c.in_ok-header.ensures in
    let m = c.in_ok-part-in-Data.ensures in
    let tail : List ℕ = take (length bytes - 26) (drop 26 bytes) in
    let follows : drop 26 bytes ≡ tail = sym (take_rest bytes 26) in
    let bottle = c.in-Bottle.bottle in
    let number = c.in-Number.number in
    let same = c.in-Bottle.is ∙ ap (λ (f : Form). parts.Bottle bottle f) c.in-Number.is in
    sym (fault_of_part bytes tail h c.in_ok-part-in-Data.part (parts.Bottle bottle (forms.Number number)) e.found (sym e.fault) c.in-Data.is follows m.left same)

pub returns-in-Some-clause-found : goal.returns-in-Some-clause-found
returns-in-Some-clause-found c =
    let bytes = c.args.bytes.now in
    let h = c.in_ok-header.header in
    let e = c.in_ok-header.ensures in
    let m = c.in_ok-part-in-Data.ensures in
    let tail : List ℕ = take (length bytes - 26) (drop 26 bytes) in
    let follows : drop 26 bytes ≡ tail = sym (take_rest bytes 26) in
    let bottle = c.in-Bottle.bottle in
    let same = c.in-Bottle.is ∙ ap (λ (f : Form). parts.Bottle bottle f) c.in-Text.is in
    let text : List ℕ = drop 2 (drop 3 tail) in
    let rest : take (length tail - 5) (drop 5 tail) ≡ text = take_rest tail 5 ∙ sym (drop-drop 2 3 tail) in
    let made = ap (λ (l : List ℕ). cond (is_text l) (Some l) None) (sym rest) ∙ sym c.of.ensures in
    let p = some_text (is_text text) text c.in-Some.text (made ∙ c.in-Some.is) in
    let low : bottle < 2 ^ 16 = search rules in
    let frame = c.data-in-Some.ensures ∙ ap (λ (t : List ℕ). framed h (Bottle bottle (Text t))) (sym p.1) in
    rw frame (spells_part bytes tail h c.in_ok-part-in-Data.part (parts.Bottle bottle forms.Text) e.found c.in-Data.is follows m.spelled m.carried same (low, p.0))

pub returns-in-Some-clause-fault : goal.returns-in-Some-clause-fault
returns-in-Some-clause-fault c =
    let bytes = c.args.bytes.now in
    let h = c.in_ok-header.header in
    let e = c.in_ok-header.ensures in
    let m = c.in_ok-part-in-Data.ensures in
    let tail : List ℕ = take (length bytes - 26) (drop 26 bytes) in
    let follows : drop 26 bytes ≡ tail = sym (take_rest bytes 26) in
    let bottle = c.in-Bottle.bottle in
    let same = c.in-Bottle.is ∙ ap (λ (f : Form). parts.Bottle bottle f) c.in-Text.is in
    let text : List ℕ = drop 2 (drop 3 tail) in
    let rest : take (length tail - 5) (drop 5 tail) ≡ text = take_rest tail 5 ∙ sym (drop-drop 2 3 tail) in
    let made = ap (λ (l : List ℕ). cond (is_text l) (Some l) None) (sym rest) ∙ sym c.of.ensures in
    let p = some_text (is_text text) text c.in-Some.text (made ∙ c.in-Some.is) in
    sym (fault_of_part bytes tail h c.in_ok-part-in-Data.part (parts.Bottle bottle forms.Text) e.found (sym e.fault) c.in-Data.is follows m.left same ∙ ap (λ (b : Bool). cond b None (Some TextByte)) p.0)

pub returns-in-None-clause-only : goal.returns-in-None-clause-only
returns-in-None-clause-only c f spelled =
    let bytes = c.args.bytes.now in
    let h = c.in_ok-header.header in
    let e = c.in_ok-header.ensures in
    let m = c.in_ok-part-in-Data.ensures in
    let tail : List ℕ = take (length bytes - 26) (drop 26 bytes) in
    let follows : drop 26 bytes ≡ tail = sym (take_rest bytes 26) in
    let bottle = c.in-Bottle.bottle in
    let same = c.in-Bottle.is ∙ ap (λ (f : Form). parts.Bottle bottle f) c.in-Text.is in
    let text : List ℕ = drop 2 (drop 3 tail) in
    let rest : take (length tail - 5) (drop 5 tail) ≡ text = take_rest tail 5 ∙ sym (drop-drop 2 3 tail) in
    let made = ap (λ (l : List ℕ). cond (is_text l) (Some l) None) (sym rest) ∙ sym c.of.ensures in
    let no = none_text (is_text text) text (made ∙ c.in-None.is) in
    let read = follows ∙ m.spelled ∙ ap (λ (r : Part). message h.version (message_of r tail)) same in
    let carried = ap (λ (r : Part). carries h.version (message_of r tail)) (sym same) ∙ m.carried in
    absurd (false≢true (sym no ∙ spelled_text bytes text h bottle f e.found c.in-Data.is read carried spelled))

pub returns-in-None-clause-fault : goal.returns-in-None-clause-fault
returns-in-None-clause-fault c =
    let bytes = c.args.bytes.now in
    let h = c.in_ok-header.header in
    let e = c.in_ok-header.ensures in
    let m = c.in_ok-part-in-Data.ensures in
    let tail : List ℕ = take (length bytes - 26) (drop 26 bytes) in
    let follows : drop 26 bytes ≡ tail = sym (take_rest bytes 26) in
    let bottle = c.in-Bottle.bottle in
    let same = c.in-Bottle.is ∙ ap (λ (f : Form). parts.Bottle bottle f) c.in-Text.is in
    let text : List ℕ = drop 2 (drop 3 tail) in
    let rest : take (length tail - 5) (drop 5 tail) ≡ text = take_rest tail 5 ∙ sym (drop-drop 2 3 tail) in
    let made = ap (λ (l : List ℕ). cond (is_text l) (Some l) None) (sym rest) ∙ sym c.of.ensures in
    let no = none_text (is_text text) text (made ∙ c.in-None.is) in
    sym (fault_of_part bytes tail h c.in_ok-part-in-Data.part (parts.Bottle bottle forms.Text) e.found (sym e.fault) c.in-Data.is follows m.left same ∙ ap (λ (b : Bool). cond b None (Some TextByte)) no)
