-- The count of each frame is at least what its sender had taken when it sent the frame's message.
use Rattle.std.proofs.Common.{◌≡◌, ℕ, ◌≤◌, ◌<◌, Bool, true, false, cond, List, [], ◌∷◌, ◌++◌, Some, refl, sym, ap, subst, ◌∙◌, arith, inl, inr, ◌⊎◌, ⊎_elim}
use Rattle.std.specs.Prelude.{slice_get, ◌==◌}
use Rattle.std.proofs.lemmas.Bool.{eqb-true}
use Rattle.bottle_values.specs.Maps.{put}
use Rattle.bottle_values.specs.MapLaws.{put_cases}
use Rattle.frame_codec.specs.Frame.{Fields}
use Rattle.office_map.specs.PlanValue.{PlanValue}
use Rattle.window_link.specs.Windows.{used}
use Rattle.window_link.specs.Links.{LinkState}
use Rattle.office_journal.specs.declared.event.Entry.{Entry}
use Rattle.site_core.specs.Offices.{Office, answer}
use Rattle.site_core.specs.Journals.{Site, office_of, next_or}
use Rattle.site_core.specs.Growing.{link_at, Grows, LinksOnlyGrow}
use Rattle.site_core.specs.JournalLaws.{office_noted, office_empty}
use Rattle.frame_world.specs.Worlds.{opening, run_of}
use Rattle.frame_world.specs.Headline.{Always, CountsAreTimely}
use Rattle.frame_world.specs.WorldStates.{State, state_of, starting, IsAccepted, entry_of}
use Rattle.frame_world.specs.WorldLaws.{seated, through}
use Rattle.frame_world.proofs.Following.{pairs_in, Follows, follows_on, starts, IsNew, old_or_new}
use Rattle.frame_world.proofs.SentFrames.{IsOfLink, of_link}

-- ---- beginnings of a journal that grew by one

-- the cut is behind the new entry, or it cuts the journal that was
split_last : (es before later : List Entry) (x : Entry) → es ++ x ∷ [] ≡ before ++ later → (before ≡ es ++ x ∷ []) ⊎ ((rest : List Entry) × (es ≡ before ++ rest))
split_last es [] later x e = inr (es, refl)
split_last [] (b ∷ bs) later x e = inl (only bs later (tails e))
  where
    tails : x ∷ [] ≡ b ∷ (bs ++ later) → (x ≡ b) × ([] ≡ bs ++ later)
    tails k = (cc, cc)

    only : (bs later : List Entry) → (x ≡ b) × ([] ≡ bs ++ later) → b ∷ bs ≡ x ∷ []
    only [] later k = ap (λ y. y ∷ []) (sym k.0)
    only (c ∷ cs) later k = let e = k.1 in absurd cc
split_last (y ∷ ys) (b ∷ bs) later x e =
    let head : y ≡ b = cc in
    let tail : ys ++ x ∷ [] ≡ bs ++ later = cc in
    ⊎_elim
    (λ all. inl (ap (λ z. b ∷ z) all ∙ ap (λ z. z ∷ (ys ++ x ∷ [])) (sym head)))
    (λ cut. inr (cut.0, ap (λ z. z ∷ ys) head ∙ ap (λ z. b ∷ z) cut.1))
    (split_last ys bs later x tail)

-- ---- one frame, and the journal of its sender

-- at each point of the journal where the frame's message has no number yet, no more was taken than its count
abbrev pub Timely : PlanValue → Fields → List Entry → Type 0
Timely plan f es = (before later : List Entry) → es ≡ before ++ later → used (link_at plan f.from before f.to).sending < f.number → (link_at plan f.from before f.to).receiving.taken ≤ f.count

-- and now it has its number
pub record Fits (plan : PlanValue) (f : Fields) (es : List Entry) : Type 0 where
  pub timely : Timely plan f es
  pub numbered : f.number ≤ used (link_at plan f.from es f.to).sending

more_fits : LinksOnlyGrow → (plan : PlanValue) (f : Fields) (es : List Entry) (x : Entry) → Fits plan f es → Fits plan f (es ++ x ∷ [])
more_fits grow plan f es x h = record {
  timely = λ before later e lt. ⊎_elim
      (λ all. absurd (omega (arith, h.numbered, grown.used, subst (λ b. used (link_at plan f.from b f.to).sending < f.number) all lt)))
      (λ cut. h.timely before cut.0 cut.1 lt)
      (split_last es before later x e);
  numbered = omega (arith, h.numbered, grown.used);
}
  where
    grown : Grows (link_at plan f.from es f.to) (link_at plan f.from (es ++ x ∷ []) f.to)
    grown = grow plan f.from es (x ∷ []) f.to

-- a frame that the sender makes at the end of its journal
made_fits : LinksOnlyGrow → (plan : PlanValue) (f : Fields) (es : List Entry) → f.count ≡ (link_at plan f.from es f.to).receiving.taken → f.number ≤ used (link_at plan f.from es f.to).sending → Fits plan f es
made_fits grow plan f es count numbered = record {
  timely = λ before later e lt.
      let grown = subst (λ l. Grows (link_at plan f.from before f.to) (link_at plan f.from l f.to)) (sym e) (grow plan f.from before later f.to) in
      omega (arith, grown.taken, count);
  numbered = numbered;
}

-- ---- all frames

pub record AreTold (plan : PlanValue) (s : State) : Type 0 where
  pub follows : Follows plan s
  pub ends : (a : ℕ) → s.office a ≡ office_of (record { plan = plan; me = a; entries = s.journal a })
  pub fit : (k : ℕ) (f : Fields) → slice_get s.frames k ≡ Some f → Fits plan f (s.journal f.from)

told_on : LinksOnlyGrow → (plan : PlanValue) (s s' : State) → AreTold plan s → IsAccepted plan s s' → AreTold plan s'
told_on grow plan s s' h i = record {
  follows = follows_on plan s s' h.follows i;
  ends = λ a. subst (λ (z : State). z.office a ≡ office_of (record { plan = plan; me = a; entries = z.journal a })) (sym i.led) (ends_on a);
  fit = λ k f e. subst (λ (z : State). Fits plan f (z.journal f.from)) (sym i.led) (grown f (⊎_elim (h.fit k f) (new f) (old_or_new plan s s' i k f e)));
}
  where
    x : Entry
    x = entry_of i.event i.reply

    grown : (f : Fields) → Fits plan f (s.journal f.from) → Fits plan f (put s.journal i.place (s.journal i.place ++ x ∷ []) f.from)
    grown f fits = put_cases s.journal i.place (s.journal i.place ++ x ∷ []) f.from (Fits plan f)
        (λ is. subst (λ b. Fits plan f (s.journal b ++ x ∷ [])) is (more_fits grow plan f (s.journal f.from) x fits))
        (λ ne. fits)

    new : (f : Fields) → IsNew plan (pairs_in s) f → Fits plan f (s.journal f.from)
    new f n =
        let o : IsOfLink ((pairs_in s n.sender).link n.receiver) f = of_link ((pairs_in s n.sender).link n.receiver) n.place f n.made in
        let from : n.sender ≡ f.from = sym (o.from ∙ h.follows.linked.me n.sender n.receiver) in
        let to : n.receiver ≡ f.to = sym (o.to ∙ h.follows.linked.peer n.sender n.receiver) in
        let link : (pairs_in s n.sender).link n.receiver ≡ link_at plan f.from (s.journal f.from) f.to =
        ap (λ a. (pairs_in s a).link n.receiver) from ∙ ap (λ v. (pairs_in s f.from).link v) to ∙ ap (λ (z : Office). z.pairs.link f.to) (h.ends f.from) in
        made_fits grow plan f (s.journal f.from)
        (o.count ∙ ap (λ (l : LinkState). l.receiving.taken) link)
        (subst (λ (l : LinkState). f.number ≤ used l.sending) link o.number)

    -- the office that answered is at the end of its longer journal
    there : i.new ≡ office_of (record { plan = plan; me = i.place; entries = s.journal i.place ++ x ∷ [] })
    there =
        let at : Site = record { plan = plan; me = i.place; entries = s.journal i.place } in
        sym (office_noted at 0 i.event i.reply ∙ ap (λ (o : Office). next_or o (answer plan i.place o i.event)) (sym (h.ends i.place)) ∙ ap (next_or (s.office i.place)) i.answered)

    ends_on : (a : ℕ) → put s.office i.place i.new a ≡ office_of (record { plan = plan; me = a; entries = put s.journal i.place (s.journal i.place ++ x ∷ []) a })
    ends_on a = go (a == i.place) refl
      where
        go : (b : Bool) → (a == i.place) ≡ b → cond b i.new (s.office a) ≡ office_of (record { plan = plan; me = a; entries = cond b (s.journal i.place ++ x ∷ []) (s.journal a) })
        go true e = there ∙ ap (λ m. office_of (record { plan = plan; me = m; entries = s.journal i.place ++ x ∷ [] })) (sym (eqb-true a i.place e))
        go false e = h.ends a

told_at_start : (plan : PlanValue) → AreTold plan (starting plan)
told_at_start plan = record { follows = starts plan; ends = λ a. sym (office_empty plan a); fit = λ k f e. absurd cc }

pub counts_are_timely : LinksOnlyGrow → Always CountsAreTimely
counts_are_timely grow plan es c k f e before later cut lt =
    let w = run_of (opening plan) es in
    let told : AreTold plan (state_of w) = through plan (AreTold plan) (told_at_start plan) (told_on grow plan) es in
    let planned = (seated plan es).planned in
    subst (λ q. (link_at q f.from before f.to).receiving.taken ≤ f.count) (sym planned)
    ((told.fit k f e).timely before later cut (subst (λ q. used (link_at q f.from before f.to).sending < f.number) planned lt))
