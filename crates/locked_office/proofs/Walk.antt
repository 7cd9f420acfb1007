-- Rules that are done one after the other.
use Rattle.std.proofs.Common.{◌≡◌, ℕ, ◌+◌, ◌<◌, List, [], ◌∷◌, ◌++◌, length, Some, Err, refl, sym, ap, subst, ◌∙◌, arith, append_assoc, append-nil, length-append}
use Rattle.office_journal.specs.declared.event.Event.TheVariants.{Do}
use Rattle.office_journal.specs.declared.event.Entry.{Entry}
use Rattle.office_journal.specs.declared.reply.Reply.{Reply}
use Rattle.office_journal.specs.declared.reply.Refusal.{Refusal}
use Rattle.office_journal.specs.declared.rule.Rule.{Rule}
use Rattle.site_core.specs.Journals.{Site, noted, Steps, LacksRoom}
use Rattle.site_core.specs.RulesInTurn.{extended, next_at, AreNext}
use Rattle.locked_office.specs.Advance.{Advances}

-- so many rules were done, from the first of these offices to the second
pub record HasDone (tag n : ℕ) (s s' : Site) : Type 0 where
  pub done : List Entry
  pub next : AreNext tag s done
  pub added : s' ≡ extended s done
  pub count : length done ≡ n

pub extended_none : (s : Site) → extended s [] ≡ s
extended_none s = ap (λ (es : List Entry). record { plan = s.plan; me = s.me; entries = es }) (append-nil s.entries)

extended_twice : (s : Site) (xs ys : List Entry) → extended (extended s xs) ys ≡ extended s (xs ++ ys)
extended_twice s xs ys = ap (λ (es : List Entry). record { plan = s.plan; me = s.me; entries = es }) (append_assoc s.entries xs ys)

next_more : (tag : ℕ) (s : Site) (xs : List Entry) (x : Entry) (r : Rule) → AreNext tag s xs → next_at (extended s xs) ≡ Some r → x.event ≡ Do r → x.tag ≡ tag → AreNext tag s (xs ++ x ∷ [])
next_more tag s [] x r a n e t = (r, sym (ap next_at (extended_none s)) ∙ n, e, t, tt)
next_more tag s (y ∷ ys) x r a n e t = (a.0, a.1, a.2, a.3, next_more tag (extended s (y ∷ [])) ys x r a.4 (ap next_at (extended_twice s (y ∷ []) ys) ∙ n) e t)

pub one_more : (tag n : ℕ) (s s' s'' : Site) (r : Rule) (reply : Reply) → HasDone tag n s s' → next_at s' ≡ Some r → s'' ≡ noted s' tag (Do r) reply → HasDone tag (n + 1) s s''
one_more tag n s s' s'' r reply h next is =
    let x : Entry = record { tag = tag; event = Do r; reply = reply } in
    record {
      done = h.done ++ x ∷ [];
      next = next_more tag s h.done x r h.next (sym (ap next_at h.added) ∙ next) refl refl;
      added = is ∙ ap (λ (o : Site). extended o (x ∷ [])) h.added ∙ extended_twice s h.done (x ∷ []);
      count = omega (arith, length-append h.done (x ∷ []), h.count);
    }

pub stops : (tag n most : ℕ) (s s' s'' : Site) (r : Rule) (why : Refusal) → HasDone tag n s s' → n < most → next_at s' ≡ Some r → Steps s' tag (Do r) (Err why) s'' → LacksRoom s' why → s'' ≡ s' →
    Advances tag most (Err (record { done = n; refusal = why })) s s''
stops tag n most s s' s'' r why h lt next steps room same =
    let here : Steps s'' tag (Do r) (Err why) s'' = subst (λ (o : Site). Steps o tag (Do r) (Err why) s'') (sym same) steps in
    record { done = h.done; next = h.next; added = same ∙ h.added; count = h.count; ends = (lt, subst (λ (o : Site). LacksRoom o why) (sym same) room, (r, ap next_at same ∙ next, here)) }
