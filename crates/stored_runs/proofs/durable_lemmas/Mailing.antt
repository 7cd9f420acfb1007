-- What the mail of a turn answers.
use Rattle.std.proofs.Common.{◌≡◌, ℕ, ◌+◌, ◌<◌, inl, inr, Bool, true, false, List, [], ◌∷◌, ◌++◌, length, map, take, Option, None, Some, refl, sym, ap, subst, ◌∙◌, arith, append_assoc, append-nil}
use Rattle.std.specs.Prelude.{slice_get}
use Rattle.std.proofs.lemmas.List.{take_more, take_all, length-take-le, length-map}
use Rattle.std.proofs.lemmas.Option.{slice_get_within, get_or_from_slice_get}
use Rattle.socket_pump.specs.Wires.{Account}
use Rattle.socket_pump.specs.Chains.{Heard, answers}
use Rattle.socket_pump.specs.Turns.{Ended}
use Rattle.stored_runs.specs.durable.refinement.Mailed.{Mailed, IsMail, fresh, account_of, answered, end, Gives, FetchesOne, Fetches}

-- the first n, and the next
pub next_taken : (came : List (List ℕ)) (n : ℕ) (x : List ℕ) → slice_get came n ≡ Some x → take (n + 1) came ≡ take n came ++ x ∷ []
next_taken came n x at = take_more came n x (slice_get_within came n x at) ∙ ap (λ y. take n came ++ y ∷ []) (get_or_from_slice_get came n x x at)

map_both : (xs ys : List (List ℕ)) → map (λ x. Some x) (xs ++ ys) ≡ map (λ x. Some x) xs ++ map (λ x. Some x) ys
map_both [] ys = refl
map_both (x ∷ xs) ys = ap (λ l. Some x ∷ l) (map_both xs ys)

-- one more is answered
pub answered_next : (came : List (List ℕ)) (n : ℕ) (x : List ℕ) → slice_get came n ≡ Some x → answered came (n + 1) false ≡ answered came n false ++ Some x ∷ []
answered_next came n x at =
    append-nil (map (λ y. Some y) (take (n + 1) came))
    ∙ ap (map (λ y. Some y)) (next_taken came n x at)
    ∙ map_both (take n came) (x ∷ [])
    ∙ ap (λ l. l ++ Some x ∷ []) (sym (append-nil (map (λ y. Some y) (take n came))))

pub account_next : (a b : Mailed) (x : List ℕ) → slice_get a.came a.handed ≡ Some x → b ≡ record a { handed = a.handed + 1 } → a.ended ≡ false →
    account_of b ≡ record (account_of a) { received = (account_of a).received ++ Some x ∷ [] }
account_next a b x at is goes =
    ap account_of is
    ∙ ap (λ l. record { failures = a.failures; received = map (λ y. Some y) a.came ++ None ∷ l; accepted = a.out }) (ap (answered a.came (a.handed + 1)) goes ∙ answered_next a.came a.handed x at ∙ ap (λ e. answered a.came a.handed e ++ Some x ∷ []) (sym goes))
    ∙ ap (λ l. record { failures = a.failures; received = l; accepted = a.out }) (sym (append_assoc (map (λ y. Some y) a.came) (None ∷ answered a.came a.handed a.ended) (Some x ∷ [])))

-- ---- what is fetched

gives_end : (tells : Bool) (a b d : Account) (came : List (List ℕ)) → Gives tells a came [] b → Gives tells b [] (None ∷ []) d → Gives tells a came (None ∷ []) d
gives_end tells a b d came x y = (
  y.0 ∙ x.0,
  λ t.
      let last : d ≡ record b { received = b.received ++ None ∷ [] } = y.1 t ∙ ap (λ l. record b { received = l ++ None ∷ [] }) (append-nil b.received) in
      let first : b ≡ record a { received = a.received ++ map (λ z. Some z) came } = x.1 t ∙ ap (λ l. record a { received = l }) (append-nil (a.received ++ map (λ z. Some z) came)) in
      last ∙ ap (λ (z : Account). record z { received = z.received ++ None ∷ [] }) first,
)

pub fetched_fewer : (tells : Bool) (a b d : Account) (came : List (List ℕ)) (m : Mailed) (more : Bool) → more ≡ false → length came < 32 → Gives tells a came [] b → FetchesOne tells b came more d m → Fetches tells a d m.came
fetched_fewer tells a b d came m more none few x y =
    let last : FetchesOne tells b came false d m = subst (λ o. FetchesOne tells b came o d m) none y in
    let same : came ≡ m.came = sym (ap (λ (z : Mailed). z.came) last.1) in
    subst (λ l. Fetches tells a d l) same (record { ends = None ∷ []; ended = inr (few, refl); gives = gives_end tells a b d came x last.0 })

-- ---- what is heard of it

-- where no answer is an end, the first end parts them
parted : (xs ys : List (List ℕ)) (us vs : List (Option (List ℕ))) → map (λ x. Some x) xs ++ None ∷ us ≡ map (λ x. Some x) ys ++ None ∷ vs → (xs ≡ ys) × (us ≡ vs)
parted [] [] us vs e = let same : us ≡ vs = cc in (refl, same)
parted [] (y ∷ ys) us vs e = absurd cc
parted (x ∷ xs) [] us vs e = absurd cc
parted (x ∷ xs) (y ∷ ys) us vs e =
    let here : x ≡ y = cc in
    let there : map (λ z. Some z) xs ++ None ∷ us ≡ map (λ z. Some z) ys ++ None ∷ vs = cc in
    let r = parted xs ys us vs there in
    (ap (λ z. z ∷ xs) here ∙ ap (λ l. y ∷ l) r.0, r.1)

abbrev bytes_of : List Heard → List (List ℕ)
bytes_of hs = map (λ (h : Heard). h.bytes) hs

answers_are : (hs : List Heard) (ends : List (Option (List ℕ))) → answers hs ends ≡ map (λ x. Some x) (bytes_of hs) ++ ends
answers_are [] ends = refl
answers_are (h ∷ hs) ends = ap (λ l. Some h.bytes ∷ l) (answers_are hs ends)

-- where both end there, or both don't, the datagrams are the same
no_end : (xs ys : List (List ℕ)) → map (λ x. Some x) xs ++ None ∷ [] ≡ map (λ x. Some x) ys ++ [] → ⊥
no_end [] [] e = absurd cc
no_end [] (y ∷ ys) e = absurd cc
no_end (x ∷ xs) [] e = absurd cc
no_end (x ∷ xs) (y ∷ ys) e = let there : map (λ z. Some z) xs ++ None ∷ [] ≡ map (λ z. Some z) ys ++ [] = cc in no_end xs ys there

unmapped : (xs ys : List (List ℕ)) → map (λ x. Some x) xs ++ [] ≡ map (λ x. Some x) ys ++ [] → xs ≡ ys
unmapped [] [] e = refl
unmapped [] (y ∷ ys) e = absurd cc
unmapped (x ∷ xs) [] e = absurd cc
unmapped (x ∷ xs) (y ∷ ys) e =
    let here : x ≡ y = cc in
    let there : map (λ z. Some z) xs ++ [] ≡ map (λ z. Some z) ys ++ [] = cc in
    ap (λ z. z ∷ xs) here ∙ ap (λ l. y ∷ l) (unmapped xs ys there)

-- what was heard is what came, to the end
all_heard : (came : List (List ℕ)) (handed : ℕ) (ended : Bool) (heard : List Heard) (ends last : List (Option (List ℕ))) → IsMail came handed ended → Ended (length came) last → Ended (length heard) ends →
    map (λ x. Some x) (take handed came) ++ end ended ≡ map (λ x. Some x) (bytes_of heard) ++ ends → map (λ x. Some x) came ++ last ≡ map (λ x. Some x) (bytes_of heard) ++ ends
all_heard came handed true heard ends last mail mine (inl full) e = absurd (no_end (take handed came) (bytes_of heard) (e ∙ ap (λ l. map (λ x. Some x) (bytes_of heard) ++ l) full.1))
all_heard came handed false heard ends last mail mine (inl full) e =
    let same : take handed came ≡ bytes_of heard = unmapped (take handed came) (bytes_of heard) (e ∙ ap (λ l. map (λ x. Some x) (bytes_of heard) ++ l) full.1) in
    let many : length (take handed came) ≡ 32 = ap length same ∙ length-map heard (λ h. h.bytes) ∙ full.0 in
    let few : length (take handed came) ≡ handed = length-take-le handed came mail.0 in
    filled came handed heard ends last mail mine full same (sym few ∙ many)
  where
    filled : (came : List (List ℕ)) (handed : ℕ) (heard : List Heard) (ends last : List (Option (List ℕ))) → IsMail came handed false → Ended (length came) last → (length heard ≡ 32) × (ends ≡ []) → take handed came ≡ bytes_of heard → handed ≡ 32 →
        map (λ x. Some x) came ++ last ≡ map (λ x. Some x) (bytes_of heard) ++ ends
    filled came handed heard ends last mail (inl whole) full same is =
        ap (λ l. map (λ x. Some x) l ++ last) (sym (take_all handed came (omega (arith, whole.0, is))) ∙ same) ∙ ap (λ l. map (λ x. Some x) (bytes_of heard) ++ l) (whole.1 ∙ sym full.1)
    filled came handed heard ends last mail (inr less) full same is = absurd (omega (arith, less.0, is, mail.0))
all_heard came handed false heard ends last mail mine (inr less) e = absurd (no_end (bytes_of heard) (take handed came) (ap (λ l. map (λ x. Some x) (bytes_of heard) ++ l) (sym less.1) ∙ sym e))
all_heard came handed true heard ends last mail mine (inr less) e =
    let whole : take handed came ≡ came = take_all handed came (omega (arith, mail.1 refl)) in
    let there : map (λ x. Some x) came ++ None ∷ [] ≡ map (λ x. Some x) (bytes_of heard) ++ None ∷ [] = ap (λ l. map (λ x. Some x) l ++ None ∷ []) (sym whole) ∙ e ∙ ap (λ l. map (λ x. Some x) (bytes_of heard) ++ l) less.1 in
    let same : came ≡ bytes_of heard = (parted came (bytes_of heard) [] [] there).0 in
    let many : length came ≡ length heard = ap length same ∙ length-map heard (λ h. h.bytes) in
    ended_too came heard ends last mine less same many
  where
    ended_too : (came : List (List ℕ)) (heard : List Heard) (ends last : List (Option (List ℕ))) → Ended (length came) last → (length heard < 32) × (ends ≡ None ∷ []) → came ≡ bytes_of heard → length came ≡ length heard →
        map (λ x. Some x) came ++ last ≡ map (λ x. Some x) (bytes_of heard) ++ ends
    ended_too came heard ends last (inl full) less same many = absurd (omega (arith, full.0, less.0, many))
    ended_too came heard ends last (inr few) less same many = ap (λ l. map (λ x. Some x) l ++ last) same ∙ ap (λ l. map (λ x. Some x) (bytes_of heard) ++ l) (few.1 ∙ sym less.1)

-- of the account that mail with these datagrams ends with: what the wire answered is what was heard
pub heard_is_fetched : (came : List (List ℕ)) (m : Mailed) (heard : List Heard) (ends last : List (Option (List ℕ))) → IsMail m.came m.handed m.ended → Ended (length came) last → Ended (length heard) ends →
    (account_of m).received ≡ (account_of (fresh came)).received ++ answers heard ends → map (λ x. Some x) came ++ last ≡ answers heard ends
heard_is_fetched came m heard ends last mail mine theirs e =
    let split : map (λ x. Some x) m.came ++ None ∷ answered m.came m.handed m.ended ≡ map (λ x. Some x) came ++ None ∷ answers heard ends = e ∙ append_assoc (map (λ x. Some x) came) (None ∷ []) (answers heard ends) in
    let both = parted m.came came (answered m.came m.handed m.ended) (answers heard ends) split in
    let is_mail : IsMail came m.handed m.ended = subst (λ l. IsMail l m.handed m.ended) both.0 mail in
    let told : answered came m.handed m.ended ≡ map (λ x. Some x) (bytes_of heard) ++ ends = ap (λ l. answered l m.handed m.ended) (sym both.0) ∙ both.1 ∙ answers_are heard ends in
    all_heard came m.handed m.ended heard ends last is_mail mine theirs told ∙ sym (answers_are heard ends)
