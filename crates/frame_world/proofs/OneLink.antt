-- What queueing, acknowledging and taking do to what is on the way on one link.
use Rattle.std.proofs.Common.{◌≡◌, ℕ, zero, suc, ◌+◌, ◌-◌, ◌≤◌, max, List, [], ◌∷◌, ◌++◌, length, drop, replicate, get_or, Option, None, Some, refl, sym, ap, ◌∙◌, arith, inl, inr, ◌⊎◌, ⊎_elim}
use Rattle.std.specs.Prelude.{slice_get}
use Rattle.std.proofs.lemmas.Bool.{cases_lt}
use Rattle.std.proofs.lemmas.List.{drop-append-le, drop-drop, length-drop}
use Rattle.std.proofs.lemmas.Option.{slice_get_within}
use Rattle.frame_codec.specs.declared.message.Msg.{Msg}
use Rattle.window_link.specs.declared.arrival.Arrival.{Arrival}
use Rattle.window_link.specs.declared.arrival.Arrival.TheVariants as arrival
use Rattle.window_link.specs.Windows.{Sending, Receiving, used, queued, acknowledged, arrival, next_kept, advanced, without_next, after_message}
use Rattle.window_link.specs.Links.{brings, received_from}
use Rattle.bottle_values.specs.ListLaws.{get-drop, get-set}
use Rattle.window_link.specs.WindowLaws.{Stands, stands, get-after, get-with, known_used}
use Rattle.token_channel.specs.Channels.{window_then}
use Rattle.frame_world.specs.Ways.{untaken}

-- what the other took is among what was sent, and what is known to be taken was
pub record IsLinked (s : Sending) (taken : ℕ) : Type 0 where
  pub known : s.acked ≤ taken
  pub most : taken ≤ used s

-- a message with this number is that one, unless it is known to be taken
pub data Carries (s : Sending) (number : ℕ) (m : Msg) : Type 0 where
  Known : (le : number ≤ s.acked) → Carries s number m
  Waits : (k : ℕ) (at : number ≡ s.acked + suc k) (is : slice_get s.waiting k ≡ Some m) → Carries s number m

pub length_one : (ms : List Msg) (m : Msg) → length (ms ++ m ∷ []) ≡ length ms + 1
length_one [] m = refl
length_one (x ∷ xs) m = omega (arith, length_one xs m)

-- ---- a message is queued

pub linked_queued : (s : Sending) (t : ℕ) (m : Msg) → IsLinked s t → IsLinked (queued s m) t
linked_queued s t m l = record { known = l.known; most = omega (arith, l.most, length_one s.waiting m) }

pub untaken_queued : (s : Sending) (t : ℕ) (m : Msg) → IsLinked s t → untaken (queued s m) t ≡ untaken s t ++ m ∷ []
untaken_queued s t m l = drop-append-le (t - s.acked) s.waiting (m ∷ []) (omega (arith, l.most, l.known))

grown : {X : Type 0} (xs ys : List X) (k : ℕ) (x : X) → slice_get xs k ≡ Some x → slice_get (xs ++ ys) k ≡ Some x
grown [] ys k x e = cc
grown (y ∷ xs) ys zero x e = e
grown (y ∷ xs) ys (suc k) x e = grown xs ys k x e

pub carries_queued : (s : Sending) (m : Msg) (n : ℕ) (x : Msg) → Carries s n x → Carries (queued s m) n x
carries_queued s m n x (Known le) = Known le
carries_queued s m n x (Waits k at is) = Waits k at (grown s.waiting (m ∷ []) k x is)

-- ---- a count is used

pub linked_acknowledged : (s : Sending) (t count : ℕ) → count ≤ t → IsLinked s t → IsLinked (acknowledged s count) t
linked_acknowledged s t count h l = record {
  known = ⊎_elim (λ lt. omega (arith, h, l.known, lt)) (λ ge. omega (arith, h, l.known, ge)) (cases_lt s.acked count);
  most = omega (arith, l.most, known_used s count (omega (arith, h, l.most)));
}

pub still_used : (s : Sending) (count : ℕ) → used s ≤ used (acknowledged s count)
still_used s count = ⊎_elim
    (λ lt. omega (arith, length-drop (count - s.acked) s.waiting, lt))
    (λ ge. omega (arith, length-drop (count - s.acked) s.waiting, ge))
    (cases_lt s.acked count)

pub untaken_acknowledged : (s : Sending) (t count : ℕ) → count ≤ t → s.acked ≤ t → untaken (acknowledged s count) t ≡ untaken s t
untaken_acknowledged s t count h known =
    drop-drop (t - max s.acked count) (count - s.acked) s.waiting ∙ ap (λ n. drop n s.waiting) (⊎_elim (λ lt. omega (arith, h, known, lt)) (λ ge. omega (arith, h, known, ge)) (cases_lt s.acked count))

pub carries_acknowledged : (s : Sending) (count : ℕ) (n : ℕ) (x : Msg) → Carries s n x → Carries (acknowledged s count) n x
carries_acknowledged s count n x (Known le) = Known (omega (arith, le))
carries_acknowledged s count n x (Waits k at is) = ⊎_elim
    (λ lt. Known (omega (arith, at, lt)))
    (λ ge. Waits (k - (count - s.acked)) (⊎_elim (λ lt. omega (arith, at, ge, lt)) (λ le. omega (arith, at, ge, le)) (cases_lt s.acked count)) (get-drop s.waiting (count - s.acked) (k - (count - s.acked)) ∙ ap (slice_get s.waiting) (omega (arith, ge)) ∙ is))
    (cases_lt k (count - s.acked))

-- ---- a message is taken

-- the message that an arrival brings
abbrev pub brought : Arrival → Option Msg
brought (arrival.Fresh m) = Some m
brought arrival.Acked = None
brought arrival.Repeat = None
brought arrival.Kept = None
brought arrival.Early = None

abbrev pub taken_after : Receiving → ℕ → Option Msg → ℕ
taken_after r number msg = (received_from r number msg).taken

-- of what arrives, either the next message is taken, or nothing
pub data Arrives (r : Receiving) (number : ℕ) (msg : Option Msg) : Type 0 where
  Brings : (m : Msg) (is : msg ≡ Some m) (next : number ≡ r.taken + 1) (fresh : brings r.taken number msg ≡ arrival.Fresh m) (one : taken_after r number msg ≡ r.taken + 1) → Arrives r number msg
  BringsNone : (nothing : brought (brings r.taken number msg) ≡ None) (same : taken_after r number msg ≡ r.taken) → Arrives r number msg

pub arrives : (r : Receiving) (number : ℕ) (msg : Option Msg) → Arrives r number msg
arrives r number None = BringsNone refl refl
arrives r number (Some m) = go (arrival r.taken number m) refl (stands r.taken number m)
  where
    taken : Arrival → ℕ
    taken a = (after_message r number m a).taken

    go : (a : Arrival) → arrival r.taken number m ≡ a → Stands r.taken number m a → Arrives r number (Some m)
    go (arrival.Fresh x) e s = Brings m refl s.0 (e ∙ ap arrival.Fresh (sym s.1)) (ap taken e)
    go arrival.Acked e s = absurd s
    go arrival.Repeat e s = BringsNone (ap brought e) (ap taken e)
    go arrival.Kept e s = BringsNone (ap brought e) (ap taken e)
    go arrival.Early e s = BringsNone (ap brought e) (ap taken e)

-- the next message is the first on the way
first_of : (xs : List Msg) (k : ℕ) (m : Msg) → slice_get xs k ≡ Some m → drop k xs ≡ m ∷ drop (suc k) xs
first_of [] k m e = absurd cc
first_of (x ∷ xs) zero m e = cc
first_of (x ∷ xs) (suc k) m e = first_of xs k m e

pub untaken_next : (s : Sending) (t : ℕ) (m : Msg) → IsLinked s t → Carries s (t + 1) m → untaken s t ≡ m ∷ untaken s (t + 1)
untaken_next s t m l (Known le) = absurd (omega (arith, le, l.known))
untaken_next s t m l (Waits k at is) =
    let here : t - s.acked ≡ k = omega (arith, at, l.known) in
    let later : suc k ≡ t + 1 - s.acked = omega (arith, at, l.known) in
    ap (λ n. drop n s.waiting) here ∙ first_of s.waiting k m is ∙ ap (λ n. m ∷ drop n s.waiting) later

pub linked_next : (s : Sending) (t : ℕ) (m : Msg) → IsLinked s t → Carries s (t + 1) m → IsLinked s (t + 1)
linked_next s t m l (Known le) = absurd (omega (arith, le, l.known))
linked_next s t m l (Waits k at is) = record { known = omega (arith, l.known); most = omega (arith, at, slice_get_within s.waiting k m is) }

-- ---- what is kept

-- of this number the message is kept
pub record Keeps (r : Receiving) (number : ℕ) (m : Msg) : Type 0 where
  pub place : ℕ
  pub at : number ≡ r.taken + 1 + place
  pub is : get_or r.kept place None ≡ Some m

pub keeps_next : (r : Receiving) (m : Msg) → next_kept r ≡ Some m → Keeps r (r.taken + 1) m
keeps_next r m e = record { place = 0; at = omega arith; is = e }

keeps_advanced : (r : Receiving) (n : ℕ) (m : Msg) → Keeps (advanced r) n m → Keeps r n m
keeps_advanced r n m h = record { place = suc h.place; at = omega (arith, h.at); is = sym (get-after r.kept h.place) ∙ h.is }

keeps_without : (r : Receiving) (n : ℕ) (m : Msg) → Keeps (without_next r) n m → Keeps r n m
keeps_without r n m h = elim (get-set r.kept 0 h.place None None (Some m) h.is) [
  | inl none ↦ let no : None ≡ Some m = none.1 in absurd cc
  | inr old ↦ record { place = h.place; at = h.at; is = old }
]

-- what is kept after a message was kept before, or is that message
pub keeps_received : (r : Receiving) (number : ℕ) (msg : Option Msg) (n : ℕ) (m : Msg) → Keeps (received_from r number msg) n m → Keeps r n m ⊎ ((n ≡ number) × (msg ≡ Some m))
keeps_received r number None n m h = inl h
keeps_received r number (Some x) n m h = go (arrival r.taken number x) (stands r.taken number x) h
  where
    go : (a : Arrival) → Stands r.taken number x a → Keeps (after_message r number x a) n m → Keeps r n m ⊎ ((n ≡ number) × (Some x ≡ Some m))
    go (arrival.Fresh y) s k = inl (keeps_advanced r n m k)
    go arrival.Acked s k = inl k
    go arrival.Repeat s k = inl k
    go arrival.Kept s k = elim (get-with r.kept (number - (r.taken + 1)) k.place x m k.is) [
      | inl old ↦ inl (record { place = k.place; at = k.at; is = old })
      | inr new ↦ inr (omega (arith, k.at, new.0, s.0), ap Some new.1)
    ]
    go arrival.Early s k = inl k

-- and after one that was kept followed, or was thrown out
pub keeps_then : (r : Receiving) (o : Option Msg) (n : ℕ) (m : Msg) → Keeps (window_then r o) n m → Keeps r n m
keeps_then r None n m h = keeps_without r n m h
keeps_then r (Some x) n m h = keeps_advanced r n m h

-- at the start nothing is
pub keeps_nothing : (taken count n : ℕ) (m : Msg) → Keeps (record { taken = taken; kept = replicate count None }) n m → ⊥
keeps_nothing taken count n m h = none count h.place h.is
  where
    none : (count k : ℕ) → get_or {A = Option Msg} (replicate count None) k None ≡ Some m → ⊥
    none zero k e = absurd cc
    none (suc count) zero e = absurd cc
    none (suc count) (suc k) e = none count k e

-- the count that is known says nothing new
pub acknowledged_same : (s : Sending) → acknowledged s s.acked ≡ s
acknowledged_same s =
    let most : max s.acked s.acked ≡ s.acked = omega arith in
    let none : s.acked - s.acked ≡ 0 = omega arith in
    ap (λ n. window n (drop (s.acked - s.acked) s.waiting)) most ∙ ap (λ n. window s.acked (drop n s.waiting)) none
  where
    window : ℕ → List Msg → Sending
    window n ms = record { acked = n; waiting = ms }
