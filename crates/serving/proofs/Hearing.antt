-- What is read of a client's stream, part after part.
use Rattle.std.proofs.Common.{◌≡◌, ℕ, Bool, true, false, List, [], ◌++◌, Option, None, Some, inl, inr, refl, sym, ap, subst, ◌∙◌, append-nil}
use Rattle.std.specs.Prelude.{IfSome}
use Rattle.std.specs.Io.KnownBytes.{Consumes, IsAtEnd, Keeps}
use Rattle.std.proofs.KnownBytes.{Consumes-kept, Consumes-nil, Consumes-trans}
use mathlib.Core.List.{IsPrefix}
use Rattle.office_map.specs.PlanValue.{PlanValue}
use Rattle.session_streams.specs.declared.requests.asked.Asked.{Asked}
use Rattle.session_streams.specs.requests.Bytes.{Taking, at_end, nothing_taken, taken}
use Rattle.session_streams.specs.requests.RequestLaws.{PartsAreOne}
use Rattle.serving.specs.Serving.{IsRead, asked_so}
use Rattle.serving.specs.refinement.Hearing.{Comes, Hears, Heard}

-- ---- one part

-- nothing comes
pub nothing_comes : (p : PlanValue) (me : ℕ) (old new : Option (List ℕ)) (t : Taking) (ended : Bool) (before : List Asked) → Consumes old new [] → Hears p me old new t t ended ended before before
nothing_comes p me old new t ended before none = record { part = []; consumed = none; came = []; waits = sym (append-nil before); comes = inl (refl, refl, refl, refl) }

pub kept : (old new : Option (List ℕ)) → Keeps old new → Consumes old new []
kept old new still = Consumes-kept old old new [] (Consumes-nil old) still

-- a part comes
pub part_comes : (p : PlanValue) (me : ℕ) (old new : Option (List ℕ)) (t u : Taking) (ended : Bool) (before after : List Asked) (part : List ℕ) → Consumes old new part → ended ≡ false → u ≡ (taken p me t part).0 → after ≡ before ++ (taken p me t part).1 → Hears p me old new t u ended ended before after
part_comes p me old new t u ended before after part read going stands asks = record { part = part; consumed = read; came = (taken p me t part).1; waits = asks; comes = inr (inl (going, going, stands, refl)) }

-- the end comes
pub end_comes : (p : PlanValue) (me : ℕ) (old new : Option (List ℕ)) (t u : Taking) (ended : Bool) (before after : List Asked) → Consumes old new [] → IsAtEnd new → ended ≡ false → after ≡ before ++ at_end p me t → Hears p me old new t u ended true before after
end_comes p me old new t u ended before after read end going asks = record { part = []; consumed = read; came = at_end p me t; waits = asks; comes = inr (inr (going, refl, refl, refl, end)) }

-- ---- part after part

pub none_heard : (p : PlanValue) (me : ℕ) (input : Option (List ℕ)) (t : Taking) (ended : Bool) → t ≡ nothing_taken → ended ≡ false → Heard p me input input t ended []
none_heard p me input t ended nothing going = record {
  bytes = [];
  consumed = Consumes-nil input;
  whole = λ e. let no' : true ≡ false = sym e ∙ going in absurd cc;
  stands = λ e. nothing;
  asked = ap (asked_so p me []) (sym going);
}

all_read : (input new : Option (List ℕ)) (bytes : List ℕ) → Consumes input new bytes → IsAtEnd new → IfSome input (λ text. bytes ≡ text)
all_read None new bytes h end = tt
all_read (Some text) None bytes h end = absurd h
all_read (Some text) (Some rest) bytes h end = sym (h ∙ ap (λ l. bytes ++ l) end ∙ append-nil bytes)

-- what comes then was asked too
pub heard_more : PartsAreOne → (p : PlanValue) (me : ℕ) (input old new : Option (List ℕ)) (t u : Taking) (ended over : Bool) (xs before after : List Asked) → Heard p me input old t ended xs → (h : Hears p me old new t u ended over before after) → Heard p me input new u over (xs ++ h.came)
heard_more law p me input old new t u ended over xs before after so_far h = go h.comes
  where
    all : List ℕ
    all = so_far.bytes ++ h.part

    consumed : Consumes input new all
    consumed = Consumes-trans input old new so_far.bytes h.part so_far.consumed h.consumed

    go : Comes p me t u ended over h.part h.came new → Heard p me input new u over (xs ++ h.came)
    go (inl (empty, none, same, still)) =
        let bytes : all ≡ so_far.bytes = ap (λ l. so_far.bytes ++ l) empty ∙ append-nil so_far.bytes in
        record {
          bytes = so_far.bytes;
          consumed = subst (Consumes input new) bytes consumed;
          whole = λ e. so_far.whole (sym still ∙ e);
          stands = λ e. same ∙ so_far.stands (sym still ∙ e);
          asked = ap (λ l. xs ++ l) none ∙ append-nil xs ∙ so_far.asked ∙ ap (asked_so p me so_far.bytes) (sym still);
        }
    go (inr (inl (going, on, stands, asks))) =
        let at : t ≡ (taken p me nothing_taken so_far.bytes).0 = so_far.stands going in
        let one = law p me nothing_taken so_far.bytes h.part in
        let first : xs ≡ (taken p me nothing_taken so_far.bytes).1 = so_far.asked ∙ ap (asked_so p me so_far.bytes) going in
        record {
          bytes = all;
          consumed = consumed;
          whole = λ e. let no' : true ≡ false = sym e ∙ on in absurd cc;
          stands = λ e. stands ∙ ap (λ (x : Taking). (taken p me x h.part).0) at ∙ sym one.stands;
          asked = ap (λ l. xs ++ l) asks ∙ ap (λ (x : Taking). xs ++ (taken p me x h.part).1) at ∙ ap (λ l. l ++ (taken p me (taken p me nothing_taken so_far.bytes).0 h.part).1) first
              ∙ sym one.asked ∙ ap (asked_so p me all) (sym on);
        }
    go (inr (inr (going, done, empty, asks, end))) =
        let at : t ≡ (taken p me nothing_taken so_far.bytes).0 = so_far.stands going in
        let bytes : all ≡ so_far.bytes = ap (λ l. so_far.bytes ++ l) empty ∙ append-nil so_far.bytes in
        let read : Consumes input new so_far.bytes = subst (Consumes input new) bytes consumed in
        let first : xs ≡ (taken p me nothing_taken so_far.bytes).1 = so_far.asked ∙ ap (asked_so p me so_far.bytes) going in
        record {
          bytes = so_far.bytes;
          consumed = read;
          whole = λ e. all_read input new so_far.bytes read end;
          stands = λ e. let no' : true ≡ false = sym done ∙ e in absurd cc;
          asked = ap (λ l. xs ++ l) asks ∙ ap (λ (x : Taking). xs ++ at_end p me x) at ∙ ap (λ l. l ++ at_end p me (taken p me nothing_taken so_far.bytes).0) first ∙ ap (asked_so p me so_far.bytes) (sym done);
        }

-- so these bytes were read
pub is_read : (p : PlanValue) (me : ℕ) (input now : Option (List ℕ)) (t : Taking) (ended : Bool) (xs : List Asked) → (h : Heard p me input now t ended xs) → IsRead input h.bytes ended
is_read p me input now t ended xs h = record { begins = begins input now h.consumed; whole = h.whole }
  where
    begins : (a b : Option (List ℕ)) → Consumes a b h.bytes → IfSome a (λ text. IsPrefix h.bytes text)
    begins None b c = tt
    begins (Some text) None c = absurd c
    begins (Some text) (Some rest) c = (rest, sym c)
