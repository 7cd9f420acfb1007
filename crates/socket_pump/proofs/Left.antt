-- What a call at the desk leaves of the pass, as one equation.
use Rattle.std.proofs.Common.{◌≡◌, false, List, [], ◌++◌, sym, ap, ◌∙◌, subst, append_assoc}
use Rattle.std.proofs.lemmas.List.{append-nil, append_cancel_left}
use Rattle.own_lock.specs.Passes.{LockView, pass_after_take}
use Rattle.office_journal.specs.declared.event.Entry.{Entry}
use Rattle.site_core.specs.Journals.{Site, IsLegal}
use Rattle.locked_office.specs.Calls.{Key, DeskPass, office_with, Stays, pass_after_adding, Did, Does}
use Rattle.socket_pump.specs.Chains.{Sees}

-- entries of others came, and then these were added
pub record Left (k : Key) (p q : DeskPass) : Type 0 where
  pub between : List Entry
  pub added : List Entry
  pub is : q ≡ record p { seen = (p.seen ++ between) ++ added; mine = p.mine ++ added }
  pub legal : IsLegal (office_with k q.seen)

-- a pass that held nothing holds nothing after a call
adding_to_idle : (p : DeskPass) (between added : List Entry) → p.holds ≡ false →
    pass_after_adding (pass_after_take p (p.seen ++ between)) added ≡ record p { seen = (p.seen ++ between) ++ added; mine = p.mine ++ added }
adding_to_idle p between added idle = λ i. record p { holds = sym idle i; seen = (p.seen ++ between) ++ added; mine = p.mine ++ added }

pub left : (k : Key) (p q : DeskPass) (what : Site → Site → Type 0) → p.holds ≡ false → Does what k p q → Left k p q
left k p q what idle (between, did) = record {
  between = between;
  added = did.added;
  is = did.left ∙ adding_to_idle p between did.added idle;
  legal = did.legal;
}

-- others' entries that were seen stand before what comes next
pub does_later : (what : Site → Site → Type 0) (k : Key) (p m q : DeskPass) → Sees p m → Does what k m q → Does what k p q
does_later what k p m q s d = subst (λ (x : DeskPass). Does what k x q → Does what k p q) (sym s.1) (λ x. (
  s.0 ++ x.0,
  subst (λ (l : List Entry). Did what k (pass_after_take p l) q) (append_assoc p.seen s.0 x.0) x.1,
)) d

pub sees_self : (p : DeskPass) → Sees p p
sees_self p = ([], λ i. record p { seen = sym (append-nil p.seen) i })

pub sees_both : (p m q : DeskPass) → Sees p m → Sees m q → Sees p q
sees_both p m q s t = subst (λ (x : DeskPass). Sees x q → Sees p q) (sym s.1) (λ x. (s.0 ++ x.0, x.1 ∙ (λ i. record p { seen = append_assoc p.seen s.0 x.0 i }))) t

-- what was added is what the journal has more
pub added_is : (k : Key) (p q : DeskPass) (l : Left k p q) (es : List Entry) → q.seen ≡ (p.seen ++ l.between) ++ es → l.added ≡ es
added_is k p q l es e = append_cancel_left (p.seen ++ l.between) l.added es (sym (ap (λ (x : DeskPass). x.seen) l.is) ∙ e)

pub stays_both : (desk : LockView Key) (p m q : DeskPass) → Stays desk p m → Stays desk m q → Stays desk p q
stays_both desk p m q x y = (y.0, y.1 ∙ x.1, y.2)
