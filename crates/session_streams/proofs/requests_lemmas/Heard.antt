-- What is asked by what is heard in parts.
use Rattle.std.proofs.Common.{◌≡◌, List, [], ◌∷◌, ◌++◌, map, refl, sym, ap, ◌∙◌, append_assoc, append-nil}
use Rattle.session_meaning.specs.ProgramValue.{ProgramValue}
use Rattle.session_streams.specs.Streams.{Told, Came}
use Rattle.session_streams.specs.declared.requests.asked.Asked.{Asked}
use Rattle.session_streams.specs.requests.Requests.{Ticket, NoTicket, Asking, asked_first, asked_of, ticket_left}

-- where no ticket was left none is
pub none_left : (ts : List Told) → ticket_left NoTicket ts ≡ NoTicket
none_left [] = refl
none_left (t ∷ ts) = refl

pub left_after : (k : Ticket) (xs ys : List Told) → ticket_left k (xs ++ ys) ≡ ticket_left (ticket_left k xs) ys
left_after k [] ys = refl
left_after k (x ∷ xs) ys = sym (none_left ys)

pub asked_after : (k : Ticket) (xs ys : List Told) → asked_of k (xs ++ ys) ≡ asked_of k xs ++ asked_of (ticket_left k xs) ys
asked_after k [] ys = refl
asked_after k (x ∷ xs) ys =
    ap (λ (a : List Asked). asked_first k x ++ a) (asked_after NoTicket xs ys ∙ ap (λ (l : Ticket). asked_of NoTicket xs ++ asked_of l ys) (none_left xs))
    ∙ sym (append_assoc (asked_first k x) (asked_of NoTicket xs) (asked_of NoTicket ys))

-- what is asked by three parts, one after the other
pub asked_thrice : (k l m : Ticket) (before first second all : List Asked) (xs ys zs : List Told) → l ≡ ticket_left k xs → m ≡ ticket_left l ys → first ≡ before ++ asked_of k xs → second ≡ first ++ asked_of l ys → all ≡ second ++ asked_of m zs
    → all ≡ before ++ asked_of k (xs ++ (ys ++ zs))
asked_thrice k l m before first second all xs ys zs to_l to_m one two three =
    let x = asked_of k xs in
    let y = asked_of (ticket_left k xs) ys in
    let z = asked_of (ticket_left (ticket_left k xs) ys) zs in
    let last : m ≡ ticket_left (ticket_left k xs) ys = to_m ∙ ap (λ (t : Ticket). ticket_left t ys) to_l in
    three ∙ ap (λ (t : Ticket). second ++ asked_of t zs) last
    ∙ ap (λ (a : List Asked). a ++ z) (two ∙ ap (λ (t : Ticket). first ++ asked_of t ys) to_l ∙ ap (λ (a : List Asked). a ++ y) one)
    ∙ append_assoc (before ++ x) y z ∙ append_assoc before x (y ++ z)
    ∙ ap (λ (a : List Asked). before ++ (x ++ a)) (sym (asked_after (ticket_left k xs) ys zs))
    ∙ ap (λ (a : List Asked). before ++ a) (sym (asked_after k xs (ys ++ zs)))

-- ---- sessions that are put one after the other

-- of all of them these are left: what they ask for after what was put is what all ask for after what was there before
pub record Puts (start : Asking) (before : List Asked) (all : List ProgramValue) (a : Asking) (after : List Asked) (left : List ProgramValue) : Type 0 where
  pub stands : record a { ticket = ticket_left a.ticket (map Came left) } ≡ record start { ticket = ticket_left start.ticket (map Came all) }
  pub asked : after ++ asked_of a.ticket (map Came left) ≡ before ++ asked_of start.ticket (map Came all)

pub none_put : (start : Asking) (before : List Asked) (all left : List ProgramValue) → left ≡ all → Puts start before all start before left
none_put start before all left same = record {
  stands = ap (λ (xs : List ProgramValue). record start { ticket = ticket_left start.ticket (map Came xs) }) same;
  asked = ap (λ (xs : List ProgramValue). before ++ asked_of start.ticket (map Came xs)) same;
}

pub one_put : (start a b : Asking) (before after more : List Asked) (all left rest : List ProgramValue) (x : ProgramValue) → Puts start before all a after left → left ≡ x ∷ rest → b ≡ record a { ticket = NoTicket } → more ≡ after ++ asked_first a.ticket (Came x)
    → Puts start before all b more rest
one_put start a b before after more all left rest x h first stands asked = record {
  stands = ap (λ (s : Asking). record s { ticket = ticket_left s.ticket (map Came rest) }) stands ∙ ap (λ (k : Ticket). record a { ticket = k }) (none_left (map Came rest))
      ∙ ap (λ (xs : List ProgramValue). record a { ticket = ticket_left a.ticket (map Came xs) }) (sym first) ∙ h.stands;
  asked = ap (λ (s : Asking). more ++ asked_of s.ticket (map Came rest)) stands ∙ ap (λ (m : List Asked). m ++ asked_of NoTicket (map Came rest)) asked
      ∙ append_assoc after (asked_first a.ticket (Came x)) (asked_of NoTicket (map Came rest)) ∙ ap (λ (xs : List ProgramValue). after ++ asked_of a.ticket (map Came xs)) (sym first) ∙ h.asked;
}

pub all_put : (start a : Asking) (before after : List Asked) (all left : List ProgramValue) → Puts start before all a after left → left ≡ []
    → (a ≡ record start { ticket = ticket_left start.ticket (map Came all) }) × (after ≡ before ++ asked_of start.ticket (map Came all))
all_put start a before after all left h none = (
  ap (λ (xs : List ProgramValue). record a { ticket = ticket_left a.ticket (map Came xs) }) (sym none) ∙ h.stands,
  sym (append-nil after) ∙ ap (λ (xs : List ProgramValue). after ++ asked_of a.ticket (map Came xs)) (sym none) ∙ h.asked,
)
