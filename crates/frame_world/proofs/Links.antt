-- All links of the offices: what a row or a frame does to what goes between them, and what each frame that was sent says.
use Rattle.std.proofs.Common.{◌≡◌, ℕ, zero, suc, ◌+◌, ◌-◌, ◌≤◌, Bool, true, false, cond, List, [], ◌∷◌, ◌++◌, length, Option, None, Some, refl, sym, ap, subst, ◌∙◌, arith, ⊎_elim, append-nil}
use Rattle.std.specs.Prelude.{◌==◌, slice_get, nat_le}
use Rattle.std.proofs.lemmas.Bool.{cases_eq}
use Rattle.bottle_values.specs.Maps.{put}
use Rattle.bottle_values.specs.MapLaws.{put_cases}
use Rattle.bottle_values.specs.declared.version.Version.{Version}
use Rattle.frame_codec.specs.declared.message.Msg.{Msg}
use Rattle.frame_codec.specs.Frame.{Fields}
use Rattle.window_link.specs.Windows.{Sending, Receiving, queued, acknowledged}
use Rattle.window_link.specs.Links.{LinkState, resumed, received_from, arrival_at, after_arrival}
use Rattle.window_link.specs.Limits.{most_kept}
use Rattle.token_channel.specs.Channels.{link_then, window_then}
use Rattle.dining_core.specs.Worlds.{with_way}
use Rattle.dining_core.specs.WayLaws.{way_at, way_off}
use Rattle.site_core.specs.Pairs.{Pairs, queued_to, sent, fork_sends, bottle_sends}
use Rattle.site_core.specs.Offices.{frame_on}
use Rattle.frame_world.specs.Ways.{untaken, between}
use Rattle.frame_world.proofs.Answers.{PairStep, Stays, ByFork, ByBottle, ByFrame, ByKept}
use Rattle.frame_world.proofs.OneLink.{IsLinked, Carries, Waits, linked_queued, untaken_queued, carries_queued, linked_acknowledged, untaken_acknowledged, carries_acknowledged, brought, taken_after, Arrives, Brings, BringsNone, arrives, untaken_next, linked_next, Keeps, keeps_received, keeps_then, keeps_nothing, acknowledged_same}

pub record AreLinked (pairs : ℕ → Pairs) : Type 0 where
  pub me : (a v : ℕ) → ((pairs a).link v).me ≡ a
  pub peer : (a v : ℕ) → ((pairs a).link v).peer ≡ v
  pub linked : (a v : ℕ) → IsLinked ((pairs a).link v).sending ((pairs v).link a).receiving.taken
  pub kept : (a v n : ℕ) (m : Msg) → Keeps ((pairs a).link v).receiving n m → Carries ((pairs v).link a).sending n m

-- what holds of each frame that was sent
pub record IsHonest (pairs : ℕ → Pairs) (f : Fields) : Type 0 where
  pub count : f.count ≤ ((pairs f.from).link f.to).receiving.taken
  pub carries : (m : Msg) → f.msg ≡ Some m → Carries ((pairs f.from).link f.to).sending f.number m

-- ---- one link of one office changed

pub way_cases : {X : Type 0} (P : X → Type 0) (way : ℕ → ℕ → X) (a v : ℕ) (n : X) (x y : ℕ) → (x ≡ a → y ≡ v → P n) → (((x ≡ a) × (y ≡ v) → ⊥) → P (way x y)) → P (with_way way a v n x y)
way_cases P way a v n x y there off = ⊎_elim
    (λ e. ⊎_elim
    (λ i. subst P (sym (way_at way a v n x y (e, i))) (there e i))
    (λ ne. subst P (sym (way_off way a v n x y (λ h. ne h.1))) (off (λ h. ne h.1)))
    (cases_eq y v))
    (λ ne. subst P (sym (way_off way a v n x y (λ h. ne h.0))) (off (λ h. ne h.0)))
    (cases_eq x a)

pub way_same : {X : Type 0} (way : ℕ → ℕ → X) (a v : ℕ) (n : X) → n ≡ way a v → (x y : ℕ) → with_way way a v n x y ≡ way x y
way_same way a v n e x y = way_cases (λ z. z ≡ way x y) way a v n x y (λ i j. e ∙ ap (λ k. way k v) (sym i) ∙ ap (way x) (sym j)) (λ ne. refl)

abbrev pub link_put : (ℕ → Pairs) → ℕ → Pairs → ℕ → LinkState → Type 0
link_put pairs a p' v l = p'.link ≡ put (pairs a).link v l

pub link_after : {X : Type 0} (g : LinkState → X) (pairs : ℕ → Pairs) (a v : ℕ) (p' : Pairs) (l : LinkState) → link_put pairs a p' v l → (x y : ℕ) → g ((put pairs a p' x).link y) ≡ with_way (λ x y. g ((pairs x).link y)) a v (g l) x y
link_after g pairs a v p' l e x y = at (x == a)
  where
    inner : (b : Bool) → g (cond b l ((pairs a).link y)) ≡ cond b (g l) (g ((pairs a).link y))
    inner true = refl
    inner false = refl

    at : (b : Bool) → g ((cond b p' (pairs x)).link y) ≡ cond b (put (λ y. g ((pairs a).link y)) v (g l)) (λ y. g ((pairs x).link y)) y
    at true = ap (λ (f : ℕ → LinkState). g (f y)) e ∙ inner (y == v)
    at false = refl

-- of a link that stays as to g, nothing of that changes
pub link_kept : {X : Type 0} (g : LinkState → X) (pairs : ℕ → Pairs) (a v : ℕ) (p' : Pairs) (l : LinkState) → link_put pairs a p' v l → g l ≡ g ((pairs a).link v) → (x y : ℕ) → g ((put pairs a p' x).link y) ≡ g ((pairs x).link y)
link_kept g pairs a v p' l e same x y = link_after g pairs a v p' l e x y ∙ way_same (λ x y. g ((pairs x).link y)) a v (g l) same x y

pub links_kept : (pairs : ℕ → Pairs) (a : ℕ) (p' : Pairs) → p'.link ≡ (pairs a).link → (x y : ℕ) → (put pairs a p' x).link y ≡ (pairs x).link y
links_kept pairs a p' e x y = put_cases pairs a p' x (λ (p : Pairs). p.link y ≡ (pairs x).link y) (λ i. ap (λ (f : ℕ → LinkState). f y) e ∙ ap (λ k. (pairs k).link y) (sym i)) (λ ne. refl)

linked_as : (s s' : Sending) (t t' : ℕ) → s' ≡ s → t' ≡ t → IsLinked s t → IsLinked s' t'
linked_as s s' t t' es et l = record { known = subst (λ (x : Sending). x.acked ≤ t') (sym es) (subst (λ x. s.acked ≤ x) (sym et) l.known); most = subst (λ (x : Sending). t' ≤ x.acked + length x.waiting) (sym es) (subst (λ x. x ≤ s.acked + length s.waiting) (sym et) l.most) }

-- ---- what is sent

-- what goes from x to y more than before, where a sends this
abbrev pub mail : ℕ → Option (ℕ × Msg) → ℕ → ℕ → List Msg
mail a None = λ x y. []
mail a (Some m) = with_way (λ x y. []) a m.0 (m.1 ∷ [])

-- the rows that send are those of forks and bottles
abbrev pub sends_of : Pairs → PairStep → Option (ℕ × Msg)
sends_of p Stays = None
sends_of p (ByFork rule) = fork_sends rule
sends_of p (ByBottle rule) = bottle_sends p.drinker rule
sends_of p (ByFrame f) = None
sends_of p (ByKept v o) = None

pub record Goes (pairs : ℕ → Pairs) (a : ℕ) (m : Option (ℕ × Msg)) (pairs' : ℕ → Pairs) : Type 0 where
  pub linked : AreLinked pairs'
  pub honest : (f : Fields) → IsHonest pairs f → IsHonest pairs' f
  pub ways : (x y : ℕ) → between pairs' x y ≡ between pairs x y ++ mail a m x y

quiet : (pairs : ℕ → Pairs) (a : ℕ) (p' : Pairs) → p'.link ≡ (pairs a).link → AreLinked pairs → Goes pairs a None (put pairs a p')
quiet pairs a p' e h = record {
  linked = record {
    me = λ x y. ap (λ (l : LinkState). l.me) (same x y) ∙ h.me x y;
    peer = λ x y. ap (λ (l : LinkState). l.peer) (same x y) ∙ h.peer x y;
    linked = λ x y. linked_as _ _ _ _ (ap (λ (l : LinkState). l.sending) (same x y)) (ap (λ (l : LinkState). l.receiving.taken) (same y x)) (h.linked x y);
    kept = λ x y n m k. subst (λ (l : LinkState). Carries l.sending n m) (sym (same y x)) (h.kept x y n m (subst (λ (l : LinkState). Keeps l.receiving n m) (same x y) k));
  };
  honest = λ f i. record {
    count = subst (λ (l : LinkState). f.count ≤ l.receiving.taken) (sym (same f.from f.to)) i.count;
    carries = λ m is. subst (λ (l : LinkState). Carries l.sending f.number m) (sym (same f.from f.to)) (i.carries m is);
  };
  ways = λ x y. ap (λ (l : LinkState). untaken l.sending ((put pairs a p' y).link x).receiving.taken) (same x y) ∙ ap (λ (l : LinkState). untaken ((pairs x).link y).sending l.receiving.taken) (same y x) ∙ sym (append-nil (between pairs x y));
}
  where
    same : (x y : ℕ) → (put pairs a p' x).link y ≡ (pairs x).link y
    same = links_kept pairs a p' e

abbrev pub queued_link : LinkState → Msg → LinkState
queued_link l m = record { run = l.run; me = l.me; peer = l.peer; sending = queued l.sending m; receiving = l.receiving; version = l.version }

queues : (pairs : ℕ → Pairs) (a v : ℕ) (m : Msg) (p' : Pairs) → p'.link ≡ queued_to (pairs a).link v m → AreLinked pairs → Goes pairs a (Some (v, m)) (put pairs a p')
queues pairs a v m p' e h = record {
  linked = record {
    me = λ x y. link_kept (λ l. l.me) pairs a v p' new e refl x y ∙ h.me x y;
    peer = λ x y. link_kept (λ l. l.peer) pairs a v p' new e refl x y ∙ h.peer x y;
    linked = λ x y. linked_as _ _ _ _ (sendings x y) (takens y x) (way_cases (λ s. IsLinked s ((pairs y).link x).receiving.taken) sending a v (queued (sending a v) m) x y
        (λ i j. linked_as _ _ _ _ refl (ap (λ k. ((pairs k).link x).receiving.taken) j ∙ ap (λ k. ((pairs v).link k).receiving.taken) i) (linked_queued (sending a v) _ m (h.linked a v)))
        (λ ne. h.linked x y));
    kept = λ x y n z k. subst (λ s. Carries s n z) (sym (sendings y x)) (still_carries y x n z (h.kept x y n z (subst (λ r. Keeps r n z) (receivings x y) k)));
  };
  honest = λ f i. record {
    count = subst (λ t. f.count ≤ t) (sym (takens f.from f.to)) i.count;
    carries = λ x is. subst (λ s. Carries s f.number x) (sym (sendings f.from f.to)) (still_carries f.from f.to f.number x (i.carries x is));
  };
  ways = λ x y. ap (λ s. untaken s ((put pairs a p' y).link x).receiving.taken) (sendings x y) ∙ ap (untaken (with_way sending a v (queued (sending a v) m) x y)) (takens y x) ∙ goes x y;
}
  where
    sending : ℕ → ℕ → Sending
    sending x y = ((pairs x).link y).sending

    new : LinkState
    new = queued_link ((pairs a).link v) m

    sendings : (x y : ℕ) → ((put pairs a p' x).link y).sending ≡ with_way sending a v (queued (sending a v) m) x y
    sendings = link_after (λ l. l.sending) pairs a v p' new e

    takens : (x y : ℕ) → ((put pairs a p' x).link y).receiving.taken ≡ ((pairs x).link y).receiving.taken
    takens = link_kept (λ l. l.receiving.taken) pairs a v p' new e refl

    receivings : (x y : ℕ) → ((put pairs a p' x).link y).receiving ≡ ((pairs x).link y).receiving
    receivings = link_kept (λ l. l.receiving) pairs a v p' new e refl

    still_carries : (x y n : ℕ) (z : Msg) → Carries (sending x y) n z → Carries (with_way sending a v (queued (sending a v) m) x y) n z
    still_carries x y n z c = way_cases (λ s. Carries s n z) sending a v (queued (sending a v) m) x y
        (λ i j. carries_queued (sending a v) m n z (subst (λ k. Carries (sending a k) n z) j (subst (λ k. Carries (sending k y) n z) i c)))
        (λ ne. c)

    goes : (x y : ℕ) → untaken (with_way sending a v (queued (sending a v) m) x y) ((pairs y).link x).receiving.taken ≡ between pairs x y ++ with_way (λ x y. []) a v (m ∷ []) x y
    goes x y = ⊎_elim
        (λ i. ⊎_elim
        (λ j. ap (λ s. untaken s ((pairs y).link x).receiving.taken) (way_at sending a v (queued (sending a v) m) x y (i, j)) ∙ there x y i j ∙ ap (λ l. between pairs x y ++ l) (sym (way_at (λ x y. []) a v (m ∷ []) x y (i, j))))
        (λ ne. off x y (λ k. ne k.1))
        (cases_eq y v))
        (λ ne. off x y (λ k. ne k.0))
        (cases_eq x a)
      where
        there : (x y : ℕ) → x ≡ a → y ≡ v → untaken (queued (sending a v) m) ((pairs y).link x).receiving.taken ≡ between pairs x y ++ m ∷ []
        there x y i j = ap (λ k. untaken (queued (sending a v) m) ((pairs k).link x).receiving.taken) j ∙ ap (λ k. untaken (queued (sending a v) m) ((pairs v).link k).receiving.taken) i
            ∙ untaken_queued (sending a v) ((pairs v).link a).receiving.taken m (h.linked a v) ∙ ap (λ k. between pairs a k ++ m ∷ []) (sym j) ∙ ap (λ k. between pairs k y ++ m ∷ []) (sym i)

        off : (x y : ℕ) → ((x ≡ a) × (y ≡ v) → ⊥) → untaken (with_way sending a v (queued (sending a v) m) x y) ((pairs y).link x).receiving.taken ≡ between pairs x y ++ with_way (λ x y. []) a v (m ∷ []) x y
        off x y ne = ap (λ s. untaken s ((pairs y).link x).receiving.taken) (way_off sending a v (queued (sending a v) m) x y ne) ∙ sym (append-nil (between pairs x y)) ∙ ap (λ l. between pairs x y ++ l) (sym (way_off (λ x y. []) a v (m ∷ []) x y ne))

pub goes_out : (pairs : ℕ → Pairs) (a : ℕ) (p' : Pairs) (m : Option (ℕ × Msg)) → p'.link ≡ sent (pairs a).link m → AreLinked pairs → Goes pairs a m (put pairs a p')
goes_out pairs a p' None e h = quiet pairs a p' e h
goes_out pairs a p' (Some m) e h = queues pairs a m.0 m.1 p' e h

-- ---- what comes

-- to whom a message goes that an arrival brings
abbrev pub brings_to : ℕ → Option Msg → Option (ℕ × Msg)
brings_to a None = None
brings_to a (Some m) = Some (a, m)

pub record Comes (pairs : ℕ → Pairs) (u a : ℕ) (m : Option Msg) (pairs' : ℕ → Pairs) : Type 0 where
  pub linked : AreLinked pairs'
  pub honest : (f : Fields) → IsHonest pairs f → IsHonest pairs' f
  pub ways : (x y : ℕ) → between pairs x y ≡ mail u (brings_to a m) x y ++ between pairs' x y

abbrev pub sending_of : (ℕ → Pairs) → ℕ → ℕ → Sending
sending_of pairs x y = ((pairs x).link y).sending

abbrev pub receiving_of : (ℕ → Pairs) → ℕ → ℕ → Receiving
receiving_of pairs x y = ((pairs x).link y).receiving

abbrev pub taken_of : (ℕ → Pairs) → ℕ → ℕ → ℕ
taken_of pairs x y = ((pairs x).link y).receiving.taken

-- each message that is kept is one that was sent
abbrev AreSent : (ℕ → Pairs) → (ℕ → Pairs) → Type 0
AreSent pairs pairs' = (x y n : ℕ) (m : Msg) → Keeps (receiving_of pairs' x y) n m → Carries (sending_of pairs y x) n m

-- where the link from a to u is acknowledged, and a has taken so many from u
module _ (pairs : ℕ → Pairs) (u a count t : ℕ) (p' : Pairs)
    (h : AreLinked pairs)
    (least : count ≤ taken_of pairs u a)
    (more : taken_of pairs a u ≤ t)
    (sendings : (x y : ℕ) → sending_of (put pairs a p') x y ≡ with_way (sending_of pairs) a u (acknowledged (sending_of pairs a u) count) x y)
    (takens : (x y : ℕ) → taken_of (put pairs a p') x y ≡ with_way (taken_of pairs) a u t x y)
    (keeps : AreSent pairs (put pairs a p'))
  where
    known : (x y : ℕ) → IsLinked (with_way (sending_of pairs) a u (acknowledged (sending_of pairs a u) count) x y) (taken_of pairs y x)
    known x y = way_cases (λ s. IsLinked s (taken_of pairs y x)) (sending_of pairs) a u (acknowledged (sending_of pairs a u) count) x y
        (λ i j. linked_as _ _ _ _ refl (ap (λ k. taken_of pairs k x) j ∙ ap (taken_of pairs u) i) (linked_acknowledged (sending_of pairs a u) (taken_of pairs u a) count least (h.linked a u)))
        (λ ne. h.linked x y)

    kept_carries : (x y n : ℕ) (m : Msg) → Carries (sending_of pairs x y) n m → Carries (with_way (sending_of pairs) a u (acknowledged (sending_of pairs a u) count) x y) n m
    kept_carries x y n m c = way_cases (λ s. Carries s n m) (sending_of pairs) a u (acknowledged (sending_of pairs a u) count) x y
        (λ i j. carries_acknowledged (sending_of pairs a u) count n m (subst (λ k. Carries (sending_of pairs a k) n m) j (subst (λ k. Carries (sending_of pairs k y) n m) i c)))
        (λ ne. c)

    grows : (x y : ℕ) → taken_of pairs x y ≤ with_way (taken_of pairs) a u t x y
    grows x y = way_cases (λ k. taken_of pairs x y ≤ k) (taken_of pairs) a u t x y
        (λ i j. subst (λ k. taken_of pairs k y ≤ t) (sym i) (subst (λ k. taken_of pairs a k ≤ t) (sym j) more))
        (λ ne. omega arith)

    still_honest : (f : Fields) → IsHonest pairs f → IsHonest (put pairs a p') f
    still_honest f i = record {
      count = subst (λ k. f.count ≤ k) (sym (takens f.from f.to)) (omega (arith, i.count, grows f.from f.to));
      carries = λ m is. subst (λ s. Carries s f.number m) (sym (sendings f.from f.to)) (kept_carries f.from f.to f.number m (i.carries m is));
    }

    still_kept : (x y n : ℕ) (m : Msg) → Keeps (receiving_of (put pairs a p') x y) n m → Carries (sending_of (put pairs a p') y x) n m
    still_kept x y n m k = subst (λ s. Carries s n m) (sym (sendings y x)) (kept_carries y x n m (keeps x y n m k))

    -- the count that is used takes nothing off the way
    same_way : (x y : ℕ) → untaken (sending_of (put pairs a p') x y) (taken_of (put pairs a p') y x) ≡ untaken (sending_of pairs x y) (with_way (taken_of pairs) a u t y x)
    same_way x y = ap (λ s. untaken s (taken_of (put pairs a p') y x)) (sendings x y) ∙ ap (untaken (with_way (sending_of pairs) a u (acknowledged (sending_of pairs a u) count) x y)) (takens y x)
        ∙ way_cases (λ s. untaken s (with_way (taken_of pairs) a u t y x) ≡ untaken (sending_of pairs x y) (with_way (taken_of pairs) a u t y x)) (sending_of pairs) a u (acknowledged (sending_of pairs a u) count) x y
        (λ i j. untaken_acknowledged (sending_of pairs a u) (with_way (taken_of pairs) a u t y x) count
        (subst (λ k. count ≤ with_way (taken_of pairs) a u t k x) (sym j) (subst (λ k. count ≤ with_way (taken_of pairs) a u t u k) (sym i) (omega (arith, least, grows u a))))
        (subst (λ k. (sending_of pairs a u).acked ≤ with_way (taken_of pairs) a u t k x) (sym j) (subst (λ k. (sending_of pairs a u).acked ≤ with_way (taken_of pairs) a u t u k) (sym i) (omega (arith, (h.linked a u).known, grows u a))))
        ∙ ap (λ k. untaken (sending_of pairs k u) (with_way (taken_of pairs) a u t y x)) (sym i) ∙ ap (λ k. untaken (sending_of pairs x k) (with_way (taken_of pairs) a u t y x)) (sym j))
        (λ ne. refl)

came_nothing : (pairs : ℕ → Pairs) (u a count t : ℕ) (p' : Pairs) → AreLinked pairs → ((x y : ℕ) → ((put pairs a p' x).link y).me ≡ ((pairs x).link y).me) → ((x y : ℕ) → ((put pairs a p' x).link y).peer ≡ ((pairs x).link y).peer) →
    count ≤ taken_of pairs u a → t ≡ taken_of pairs a u →
    ((x y : ℕ) → sending_of (put pairs a p') x y ≡ with_way (sending_of pairs) a u (acknowledged (sending_of pairs a u) count) x y) →
    ((x y : ℕ) → taken_of (put pairs a p') x y ≡ with_way (taken_of pairs) a u t x y) → AreSent pairs (put pairs a p') → Comes pairs u a None (put pairs a p')
came_nothing pairs u a count t p' h me peer least same sendings takens keeps = record {
  linked = record {
    me = λ x y. me x y ∙ h.me x y;
    peer = λ x y. peer x y ∙ h.peer x y;
    linked = λ x y. linked_as _ _ _ _ (sendings x y) (takens y x ∙ way_same (taken_of pairs) a u t same y x) (known pairs u a count t p' h least more sendings takens keeps x y);
    kept = still_kept pairs u a count t p' h least more sendings takens keeps;
  };
  honest = still_honest pairs u a count t p' h least more sendings takens keeps;
  ways = λ x y. ap (untaken (sending_of pairs x y)) (sym (way_same (taken_of pairs) a u t same y x)) ∙ sym (same_way pairs u a count t p' h least more sendings takens keeps x y);
}
  where
    more : taken_of pairs a u ≤ t
    more = omega (arith, same)

came_next : (pairs : ℕ → Pairs) (u a count t : ℕ) (m : Msg) (p' : Pairs) → AreLinked pairs → ((x y : ℕ) → ((put pairs a p' x).link y).me ≡ ((pairs x).link y).me) → ((x y : ℕ) → ((put pairs a p' x).link y).peer ≡ ((pairs x).link y).peer) →
    count ≤ taken_of pairs u a → t ≡ taken_of pairs a u + 1 → Carries (sending_of pairs u a) (taken_of pairs a u + 1) m →
    ((x y : ℕ) → sending_of (put pairs a p') x y ≡ with_way (sending_of pairs) a u (acknowledged (sending_of pairs a u) count) x y) →
    ((x y : ℕ) → taken_of (put pairs a p') x y ≡ with_way (taken_of pairs) a u t x y) → AreSent pairs (put pairs a p') → Comes pairs u a (Some m) (put pairs a p')
came_next pairs u a count t m p' h me peer least next carries sendings takens keeps = record {
  linked = record {
    me = λ x y. me x y ∙ h.me x y;
    peer = λ x y. peer x y ∙ h.peer x y;
    linked = λ x y. linked_as _ _ _ _ (sendings x y) (takens y x) (way_cases (λ k. IsLinked (with_way (sending_of pairs) a u (acknowledged (sending_of pairs a u) count) x y) k) (taken_of pairs) a u t y x
        (λ i j. subst (λ k. IsLinked (with_way (sending_of pairs) a u (acknowledged (sending_of pairs a u) count) x k) t) (sym i) (subst (λ k. IsLinked (with_way (sending_of pairs) a u (acknowledged (sending_of pairs a u) count) k a) t) (sym j) one_more))
        (λ ne. known pairs u a count t p' h least more sendings takens keeps x y));
    kept = still_kept pairs u a count t p' h least more sendings takens keeps;
  };
  honest = still_honest pairs u a count t p' h least more sendings takens keeps;
  ways = λ x y. taken_one x y ∙ ap (λ l. with_way (λ x y. []) u a (m ∷ []) x y ++ l) (sym (same_way pairs u a count t p' h least more sendings takens keeps x y));
}
  where
    more : taken_of pairs a u ≤ t
    more = omega (arith, next)

    one_more : IsLinked (with_way (sending_of pairs) a u (acknowledged (sending_of pairs a u) count) u a) t
    one_more = subst (IsLinked (with_way (sending_of pairs) a u (acknowledged (sending_of pairs a u) count) u a)) (sym next)
        (linked_next (with_way (sending_of pairs) a u (acknowledged (sending_of pairs a u) count) u a) (taken_of pairs a u) m (known pairs u a count t p' h least more sendings takens keeps u a)
        (kept_carries pairs u a count t p' h least more sendings takens keeps u a (taken_of pairs a u + 1) m carries))

    there : (x y : ℕ) → x ≡ u → y ≡ a → untaken (sending_of pairs x y) (taken_of pairs y x) ≡ (m ∷ []) ++ untaken (sending_of pairs x y) t
    there x y i j = ap (λ k. untaken (sending_of pairs k y) (taken_of pairs y k)) i ∙ ap (λ k. untaken (sending_of pairs u k) (taken_of pairs k u)) j
        ∙ untaken_next (sending_of pairs u a) (taken_of pairs a u) m (h.linked u a) carries ∙ ap (λ k. m ∷ untaken (sending_of pairs u a) k) (sym next)
        ∙ ap (λ k. m ∷ untaken (sending_of pairs u k) t) (sym j) ∙ ap (λ k. m ∷ untaken (sending_of pairs k y) t) (sym i)

    taken_one : (x y : ℕ) → untaken (sending_of pairs x y) (taken_of pairs y x) ≡ with_way (λ x y. []) u a (m ∷ []) x y ++ untaken (sending_of pairs x y) (with_way (taken_of pairs) a u t y x)
    taken_one x y = ⊎_elim
        (λ i. ⊎_elim
        (λ j. there x y i j ∙ ap (λ k. (m ∷ []) ++ untaken (sending_of pairs x y) k) (sym (way_at (taken_of pairs) a u t y x (j, i))) ∙ ap (λ l. l ++ untaken (sending_of pairs x y) (with_way (taken_of pairs) a u t y x)) (sym (way_at (λ x y. []) u a (m ∷ []) x y (i, j))))
        (λ ne. off (λ k. ne k.1) (λ k. ne k.0))
        (cases_eq y a))
        (λ ne. off (λ k. ne k.0) (λ k. ne k.1))
        (cases_eq x u)
      where
        off : ((x ≡ u) × (y ≡ a) → ⊥) → ((y ≡ a) × (x ≡ u) → ⊥) → untaken (sending_of pairs x y) (taken_of pairs y x) ≡ with_way (λ x y. []) u a (m ∷ []) x y ++ untaken (sending_of pairs x y) (with_way (taken_of pairs) a u t y x)
        off ne ne' = ap (untaken (sending_of pairs x y)) (sym (way_off (taken_of pairs) a u t y x ne')) ∙ ap (λ l. l ++ untaken (sending_of pairs x y) (with_way (taken_of pairs) a u t y x)) (sym (way_off (λ x y. []) u a (m ∷ []) x y ne))

-- where the window from u changed, and what it keeps was sent
keeps_way : (pairs : ℕ → Pairs) (a u : ℕ) (p' : Pairs) (r : Receiving) → AreLinked pairs → ((x y : ℕ) → receiving_of (put pairs a p') x y ≡ with_way (receiving_of pairs) a u r x y) →
    ((n : ℕ) (m : Msg) → Keeps r n m → Carries (sending_of pairs u a) n m) → AreSent pairs (put pairs a p')
keeps_way pairs a u p' r h receivings here x y n m k = way_cases (λ w. Keeps w n m → Carries (sending_of pairs y x) n m) (receiving_of pairs) a u r x y
    (λ i j k. subst (λ z. Carries (sending_of pairs z x) n m) (sym j) (subst (λ z. Carries (sending_of pairs u z) n m) (sym i) (here n m k)))
    (λ ne. h.kept x y n m)
    (subst (λ w. Keeps w n m) (receivings x y) k)

pub comes_in : (pairs : ℕ → Pairs) (f : Fields) (p' : Pairs) → p'.link ≡ put (pairs f.to).link f.from (after_arrival ((pairs f.to).link f.from) f) → AreLinked pairs → IsHonest pairs f →
    Comes pairs f.from f.to (brought (arrival_at ((pairs f.to).link f.from) f)) (put pairs f.to p')
comes_in pairs f p' e h i = by (arrives r f.number f.msg)
  where
    r : Receiving
    r = receiving_of pairs f.to f.from

    new : LinkState
    new = after_arrival ((pairs f.to).link f.from) f

    me : (x y : ℕ) → ((put pairs f.to p' x).link y).me ≡ ((pairs x).link y).me
    me = link_kept (λ l. l.me) pairs f.to f.from p' new e refl

    peer : (x y : ℕ) → ((put pairs f.to p' x).link y).peer ≡ ((pairs x).link y).peer
    peer = link_kept (λ l. l.peer) pairs f.to f.from p' new e refl

    sendings : (x y : ℕ) → sending_of (put pairs f.to p') x y ≡ with_way (sending_of pairs) f.to f.from (acknowledged (sending_of pairs f.to f.from) f.count) x y
    sendings = link_after (λ l. l.sending) pairs f.to f.from p' new e

    takens : (x y : ℕ) → taken_of (put pairs f.to p') x y ≡ with_way (taken_of pairs) f.to f.from (taken_after r f.number f.msg) x y
    takens = link_after (λ l. l.receiving.taken) pairs f.to f.from p' new e

    -- what is kept then was kept, or it is the frame's message
    was_sent : (n : ℕ) (m : Msg) → Keeps (received_from r f.number f.msg) n m → Carries (sending_of pairs f.from f.to) n m
    was_sent n m k = ⊎_elim (h.kept f.to f.from n m) (λ new. subst (λ z. Carries (sending_of pairs f.from f.to) z m) (sym new.0) (i.carries m new.1)) (keeps_received r f.number f.msg n m k)

    keeps : AreSent pairs (put pairs f.to p')
    keeps = keeps_way pairs f.to f.from p' (received_from r f.number f.msg) h (link_after (λ l. l.receiving) pairs f.to f.from p' new e) was_sent

    by : Arrives r f.number f.msg → Comes pairs f.from f.to (brought (arrival_at ((pairs f.to).link f.from) f)) (put pairs f.to p')
    by (Brings m is next fresh one) =
        subst (λ k. Comes pairs f.from f.to k (put pairs f.to p')) (sym (ap brought fresh))
        (came_next pairs f.from f.to f.count (taken_after r f.number f.msg) m p' h me peer i.count one (subst (λ k. Carries (sending_of pairs f.from f.to) k m) next (i.carries m is)) sendings takens keeps)
    by (BringsNone nothing same) =
        subst (λ k. Comes pairs f.from f.to k (put pairs f.to p')) (sym nothing)
        (came_nothing pairs f.from f.to f.count (taken_after r f.number f.msg) p' h me peer i.count same sendings takens keeps)

-- where what is kept of the next number follows, or is thrown out
module _ (pairs : ℕ → Pairs) (u a : ℕ) (o : Option Msg) (p' : Pairs)
    (h : AreLinked pairs)
    (e : p'.link ≡ put (pairs a).link u (link_then ((pairs a).link u) o))
  where
    then_me : (x y : ℕ) → ((put pairs a p' x).link y).me ≡ ((pairs x).link y).me
    then_me = link_kept (λ l. l.me) pairs a u p' (link_then ((pairs a).link u) o) e refl

    then_peer : (x y : ℕ) → ((put pairs a p' x).link y).peer ≡ ((pairs x).link y).peer
    then_peer = link_kept (λ l. l.peer) pairs a u p' (link_then ((pairs a).link u) o) e refl

    then_sendings : (x y : ℕ) → sending_of (put pairs a p') x y ≡ with_way (sending_of pairs) a u (acknowledged (sending_of pairs a u) (sending_of pairs a u).acked) x y
    then_sendings x y = link_after (λ l. l.sending) pairs a u p' (link_then ((pairs a).link u) o) e x y ∙ ap (λ s. with_way (sending_of pairs) a u s x y) (sym (acknowledged_same (sending_of pairs a u)))

    then_takens : (x y : ℕ) → taken_of (put pairs a p') x y ≡ with_way (taken_of pairs) a u (window_then (receiving_of pairs a u) o).taken x y
    then_takens = link_after (λ l. l.receiving.taken) pairs a u p' (link_then ((pairs a).link u) o) e

    then_keeps : AreSent pairs (put pairs a p')
    then_keeps = keeps_way pairs a u p' (window_then (receiving_of pairs a u) o) h (link_after (λ l. l.receiving) pairs a u p' (link_then ((pairs a).link u) o) e)
        (λ n m k. h.kept a u n m (keeps_then (receiving_of pairs a u) o n m k))

pub follows_in : (pairs : ℕ → Pairs) (u a : ℕ) (o : Option Msg) (p' : Pairs) → p'.link ≡ put (pairs a).link u (link_then ((pairs a).link u) o) → AreLinked pairs → ((m : Msg) → o ≡ Some m → Keeps (receiving_of pairs a u) (taken_of pairs a u + 1) m) → Comes pairs u a o (put pairs a p')
follows_in pairs u a None p' e h next =
    came_nothing pairs u a (sending_of pairs a u).acked (taken_of pairs a u) p' h (then_me pairs u a None p' h e) (then_peer pairs u a None p' h e) (h.linked a u).known refl
    (then_sendings pairs u a None p' h e) (then_takens pairs u a None p' h e) (then_keeps pairs u a None p' h e)
follows_in pairs u a (Some m) p' e h next =
    came_next pairs u a (sending_of pairs a u).acked (taken_of pairs a u + 1) m p' h (then_me pairs u a (Some m) p' h e) (then_peer pairs u a (Some m) p' h e) (h.linked a u).known refl (h.kept a u (taken_of pairs a u + 1) m (next m refl))
    (then_sendings pairs u a (Some m) p' h e) (then_takens pairs u a (Some m) p' h e) (then_keeps pairs u a (Some m) p' h e)

-- ---- at the start, and a frame that is made

pub linked_at_start : (run : ℕ) (version : Version) (pairs : ℕ → Pairs) → ((a v : ℕ) → (pairs a).link v ≡ resumed run a v 0 0 version) → AreLinked pairs
linked_at_start run version pairs e = record {
  me = λ a v. ap (λ (l : LinkState). l.me) (e a v);
  peer = λ a v. ap (λ (l : LinkState). l.peer) (e a v);
  linked = λ a v. linked_as _ _ _ _ (ap (λ (l : LinkState). l.sending) (e a v)) (ap (λ (l : LinkState). l.receiving.taken) (e v a)) (record { known = omega arith; most = omega arith });
  kept = λ a v n m k. absurd (keeps_nothing 0 most_kept n m (subst (λ (l : LinkState). Keeps l.receiving n m) (e a v) k));
}

pub made_honest : (pairs : ℕ → Pairs) (a v i : ℕ) (f : Fields) → AreLinked pairs → frame_on ((pairs a).link v) i ≡ Some f → IsHonest pairs f
made_honest pairs a v i f h e = of i e
  where
    l : LinkState
    l = (pairs a).link v

    made : ℕ → Option Msg → Fields
    made n m = record { version = l.version; run = l.run; from = l.me; to = l.peer; number = n; count = l.receiving.taken; msg = m }

    honest : (n : ℕ) (m : Option Msg) → ((x : Msg) → m ≡ Some x → Carries l.sending n x) → IsHonest pairs (made n m)
    honest n m carries = record {
      count = subst (λ k. l.receiving.taken ≤ ((pairs k).link l.peer).receiving.taken) (sym (h.me a v)) (subst (λ k. l.receiving.taken ≤ ((pairs a).link k).receiving.taken) (sym (h.peer a v)) (omega arith));
      carries = λ x is. subst (λ k. Carries ((pairs k).link l.peer).sending n x) (sym (h.me a v)) (subst (λ k. Carries ((pairs a).link k).sending n x) (sym (h.peer a v)) (carries x is));
    }

    of : (i : ℕ) → frame_on l i ≡ Some f → IsHonest pairs f
    of zero e = let same : made 0 None ≡ f = cc in subst (IsHonest pairs) same (honest 0 None (λ x is. absurd cc))
    of (suc i) e = go (nat_le (suc i) (length l.sending.waiting)) e
      where
        here : slice_get l.sending.waiting i ≡ slice_get l.sending.waiting (suc i - 1)
        here = ap (slice_get l.sending.waiting) (omega arith)

        go : (b : Bool) → cond b (Some (made (l.sending.acked + suc i) (slice_get l.sending.waiting (suc i - 1)))) None ≡ Some f → IsHonest pairs f
        go true k = let same : made (l.sending.acked + suc i) (slice_get l.sending.waiting (suc i - 1)) ≡ f = cc in subst (IsHonest pairs) same (honest (l.sending.acked + suc i) (slice_get l.sending.waiting (suc i - 1)) (λ x is. Waits i refl (here ∙ is)))
        go false k = absurd cc
