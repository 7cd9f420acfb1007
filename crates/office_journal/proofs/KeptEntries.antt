-- What a journal keeps of its entries.
use Rattle.std.proofs.Common.{◌≡◌, ◌≢◌, ℕ, ◌+◌, ◌-◌, ◌<◌, ◌≤◌, min, List, [], ◌∷◌, ◌++◌, map, length, take, drop, get_or, false, Option, None, Some, refl, sym, ap, subst, ◌∙◌, arith}
use Rattle.std.specs.Prelude.{slice_get, IfSome}
use Rattle.std.proofs.lemmas.Bool.{false≢true}
use Rattle.frame_codec.specs.declared.message.Msg.{Msg}
use Rattle.office_journal.specs.pages.Framed.{text_carried, StandsAt}
use Rattle.std.proofs.lemmas.List.{append-nil, length-append, length-map, map_push, take_more, take_min, drop_min, length-take, length-drop, get_or-drop, length_push}
use Rattle.std.proofs.lemmas.Option.{slice_get_within, get_or_from_slice_get}
use Rattle.bottle_values.specs.ListLaws.{at_seam}
use Rattle.session_meaning.specs.ProgramValue.{ProgramValue}
use Rattle.office_journal.specs.pages.Told.{Told}
use Rattle.office_journal.specs.pages.Kept.{PagesValue}
use Rattle.office_journal.proofs.pages_lemmas.PagedEntries.{get_before}
use Rattle.office_journal.specs.declared.event.Entry.{Entry}
use Rattle.office_journal.specs.refinement.PackedEntries.{Beside, nothing, entry_in, IsPlaced, IsPlain}
use Rattle.office_journal.specs.refinement.JournalOfCode.{JournalValue, journal_of, ArePlaced, AreKept, texts_of}
use Rattle.office_journal.proofs.PackedKinds.{entry_same}

-- ---- more beside

pub record Extends (b b' : Beside) : Type 0 where
  pub programs : List ProgramValue
  pub texts : List (List ℕ)
  pub more_programs : b'.programs ≡ b.programs ++ programs
  pub more_texts : b'.texts ≡ b.texts ++ texts

pub extends_none : (b : Beside) → Extends b b
extends_none b = record { programs = []; texts = []; more_programs = sym (append-nil b.programs); more_texts = sym (append-nil b.texts) }

-- an entry before has none of it
entries_stay : (b b' : Beside) (ts : List Told) → Extends b b' → ArePlaced b ts → map (entry_in b') ts ≡ map (entry_in b) ts
entries_stay b b' [] more h = refl
entries_stay b b' (t ∷ ts) more h =
    ap (λ e. e ∷ map (entry_in b') ts)
    (entry_same b' b t
    (λ e. ap (λ l. slice_get l t.place) more.more_programs ∙ get_before b.programs more.programs t.place (h.0.program e))
    (λ e. ap (λ l. slice_get l t.text) more.more_texts ∙ get_before b.texts more.texts t.text (h.0.text e)))
    ∙ ap (λ es. entry_in b t ∷ es) (entries_stay b b' ts more h.1)

placed_more : (b b' : Beside) (ts : List Told) → Extends b b' → ArePlaced b ts → ArePlaced b' ts
placed_more b b' [] more h = tt
placed_more b b' (t ∷ ts) more h = (
  record {
    program = λ e. let at = h.0.program e in omega (arith, at, ap length more.more_programs, length-append b.programs more.programs);
    text = λ e. let at = h.0.text e in omega (arith, at, ap length more.more_texts, length-append b.texts more.texts);
  },
  placed_more b b' ts more h.1,
)

placed_after : (b : Beside) (ts : List Told) (t : Told) → ArePlaced b ts → IsPlaced b t → ArePlaced b (ts ++ t ∷ [])
placed_after b [] t h k = (k, tt)
placed_after b (u ∷ ts) t h k = (h.0, placed_after b ts t h.1 k)

-- ---- one entry more

pub entry_pushed : (b b' : Beside) (ts ts' : List Told) (t : Told) (e : Entry) → Extends b b' → ts' ≡ ts ++ t ∷ [] → ArePlaced b ts → entry_in b' t ≡ e → map (entry_in b') ts' ≡ map (entry_in b) ts ++ e ∷ []
entry_pushed b b' ts ts' t e more is h same =
    ap (map (entry_in b')) is ∙ map_push (entry_in b') ts t ∙ ap (λ x. map (entry_in b') ts ++ x ∷ []) same ∙ ap (λ l. l ++ e ∷ []) (entries_stay b b' ts more h)

pub kept_push : (b b' : Beside) (ts ts' : List Told) (t : Told) → Extends b b' → ts' ≡ ts ++ t ∷ [] → AreKept b ts → IsPlaced b' t → length b'.programs ≤ length b.programs + 1 → length b'.texts ≤ length b.texts + 1 → AreKept b' ts'
kept_push b b' ts ts' t more is h placed programs texts =
    let one : length ts' ≡ length ts + 1 = ap length is ∙ length_push ts t in
    record {
      placed = subst (ArePlaced b') (sym is) (placed_after b' ts t (placed_more b b' ts more h.placed) placed);
      few = omega (arith, one, h.few, programs);
      few_texts = omega (arith, one, h.few_texts, texts);
    }

-- beside a plain one nothing stands
pub plain_same : (b : Beside) (t : Told) → IsPlain t → entry_in b t ≡ entry_in nothing t
plain_same b t plain = entry_same b nothing t (λ e. absurd (plain.no_session e)) (λ e. absurd (false≢true (sym plain.no_text ∙ e)))

pub plain_placed : (b : Beside) (t : Told) → IsPlain t → IsPlaced b t
plain_placed b t plain = record { program = λ e. absurd (plain.no_session e); text = λ e. absurd (false≢true (sym plain.no_text ∙ e)) }

pub kept_still : (b b' : Beside) (ts ts' : List Told) → b' ≡ b → ts' ≡ ts → AreKept b ts → AreKept b' ts'
kept_still b b' ts ts' same is h = subst (λ (l : List Told). AreKept b' l) (sym is) (subst (λ (x : Beside). AreKept x ts) (sym same) h)

pub none_kept : AreKept nothing []
none_kept = record { placed = tt; few = omega arith; few_texts = omega arith }

-- ---- one program more

-- the program that was pushed stands at the end
pub last_program : (xs : List ProgramValue) (x : ProgramValue) (i : ℕ) → i ≡ length xs → slice_get (xs ++ x ∷ []) i ≡ Some x
last_program xs x i e = ap (slice_get (xs ++ x ∷ [])) e ∙ at_seam xs x []

pub program_extends : (programs programs' : List ProgramValue) (texts : List (List ℕ)) (x : ProgramValue) → programs' ≡ programs ++ x ∷ [] → Extends (record { programs = programs; texts = texts }) (record { programs = programs'; texts = texts })
program_extends programs programs' texts x more = record { programs = x ∷ []; texts = []; more_programs = more; more_texts = sym (append-nil texts) }

pub session_placed : (b : Beside) (t : Told) → t.has_text ≡ false → t.place < length b.programs → IsPlaced b t
session_placed b t plain lt = record { program = λ e. lt; text = λ e. absurd (false≢true (sym plain ∙ e)) }

-- ---- one text more

pub text_extends : (programs : List ProgramValue) (texts texts' : List (List ℕ)) (o : Option (List ℕ)) → texts' ≡ texts ++ texts_of o → Extends (record { programs = programs; texts = texts }) (record { programs = programs; texts = texts' })
text_extends programs texts texts' o more = record { programs = []; texts = texts_of o; more_programs = sym (append-nil programs); more_texts = more }

one_at_most : (o : Option (List ℕ)) → length (texts_of o) ≤ 1
one_at_most None = omega arith
one_at_most (Some text) = omega arith

pub text_more : (texts texts' : List (List ℕ)) (o : Option (List ℕ)) → texts' ≡ texts ++ texts_of o → length texts' ≤ length texts + 1
text_more texts texts' o more = omega (arith, ap length more, length-append texts (texts_of o), one_at_most o)

-- the text that was kept stands at the end
pub last_text : (texts texts' : List (List ℕ)) (place : ℕ) (m : Option Msg) → place ≡ length texts → texts' ≡ texts ++ texts_of (text_carried m) → StandsAt texts' place m
last_text texts texts' place m at more = go (text_carried m) more
  where
    go : (o : Option (List ℕ)) → texts' ≡ texts ++ texts_of o → IfSome o (λ text. slice_get texts' place ≡ Some text)
    go None e = tt
    go (Some text) e = ap (λ l. slice_get l place) e ∙ ap (slice_get (texts ++ text ∷ [])) at ∙ at_seam texts text []

-- ---- the journal as contracts see it

pub same_length : (pages : PagesValue) (b : Beside) (n k : ℕ) (j : JournalValue) → journal_of pages b n k ≡ j → length pages.entries ≡ length j.entries
same_length pages b n k j is = sym (length-map pages.entries (entry_in b)) ∙ ap (λ (v : JournalValue). length v.entries) is

-- ---- a part

pub part_is : (es : List Entry) (all from first most count : ℕ) → all ≡ length es → first ≡ min from all → count ≡ min most (all - first) → take ((first + count) - first) (drop first es) ≡ take most (drop from es)
part_is es all from first most count a f n =
    let there : drop first es ≡ drop from es = ap (λ k. drop k es) (f ∙ ap (min from) a) ∙ drop_min from es in
    let rest : all - first ≡ length (drop from es) = ap (λ k. k - first) a ∙ sym (length-drop first es) ∙ ap length there in
    let taken : (first + count) - first ≡ count = omega arith in
    ap (λ k. take k (drop first es)) taken ∙ ap (take count) there ∙ ap (λ k. take k (drop from es)) (n ∙ ap (min most) rest) ∙ take_min most (drop from es)

pub some_taken : (es : List Entry) (from k : ℕ) → 0 < k → from + k ≤ length es → take k (drop from es) ≢ []
some_taken es from k pos le = λ none. absurd (omega (arith, ap length none, length-take k (drop from es), length-drop from es, pos, le))

part_more : (es : List Entry) (from i : ℕ) (e : Entry) → from ≤ i → slice_get es i ≡ Some e → take (i + 1 - from) (drop from es) ≡ take (i - from) (drop from es) ++ e ∷ []
part_more es from i e after at =
    let k : ℕ = i - from in
    let next : i + 1 - from ≡ k + 1 = omega (arith, after) in
    let place : from + k ≡ i = omega (arith, after) in
    let within : i < length es = slice_get_within es i e at in
    let within_rest : k < length (drop from es) = omega (arith, within, after, length-drop from es) in
    ap (λ n. take n (drop from es)) next ∙ take_more (drop from es) k e within_rest
    ∙ ap (λ x. take k (drop from es) ++ x ∷ []) (get_or-drop from es k e ∙ ap (λ n. get_or es n e) place ∙ get_or_from_slice_get es i e e at)

-- no entry is between a place and itself
pub none_taken : (es copies : List Entry) (from end : ℕ) → copies ≡ [] → from ≡ end → copies ≡ take (end - from) (drop from es)
none_taken es copies from end none same =
    let nothing : 0 ≡ end - from = omega (arith, same) in
    none ∙ ap (λ n. take n (drop from es)) nothing

-- one entry more is copied
pub one_copied : (es copies copies' : List Entry) (from i : ℕ) (e copy : Entry) → from ≤ i → slice_get es i ≡ Some e → copies ≡ take (i - from) (drop from es) → copy ≡ e → copies' ≡ copies ++ copy ∷ [] → copies' ≡ take (i + 1 - from) (drop from es)
one_copied es copies copies' from i e copy after at so_far same pushed =
    pushed ∙ ap (λ l. l ++ copy ∷ []) so_far ∙ ap (λ x. take (i - from) (drop from es) ++ x ∷ []) same ∙ sym (part_more es from i e after at)
