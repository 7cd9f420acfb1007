use Rattle.std.proofs.Common.{◌++◌, ◌∷◌, [], sym, ap, subst, ◌∙◌}
use Rattle.journal_texts.specs.JournalText.{IsFaultOf}
use Rattle.day_audits.specs.audit.Gathered.{Gathered}
use Rattle.day_audits.specs.audit.Following.{Gathers, GathersSome}
use Rattle.day_audits.specs.declared.audit.fault.GatherFault.TheVariants.{Unread}
use Rattle.day_audits.proofs.audit_lemmas.Following.{gathered_as, of_plan, gathers_text, refused_more, twice}
use Rattle.day_audits.proofs.audit.journals.Journals.read.Goals as goal

pub returns-in-Err-clause-refused : goal.returns-in-Err-clause-refused
returns-in-Err-clause-refused c plan before after g =
    let v : Gathered = gathered_as c.self.inside.plan c.self.inside.slots.items in
    refused_more plan before v (subst (Gathers plan before) (sym c.self.view_is) g) c.args.text.now after (Unread c.in-Err.fault)
    (subst (λ p. IsFaultOf p c.args.text.now c.in-Err.fault) (ap (λ (x : Gathered). x.plan) c.self.view_is ∙ g.planned) c.in-Err.ensures.fault)

pub add-requires : goal.add-requires
add-requires c =
    let v : Gathered = gathered_as c.self.inside.plan c.self.inside.slots.items in
    of_plan v.plan c.self.invariant.0 v c.self.invariant.1 c.args.text.now c.in-Ok.follower.replay c.number-office.result c.number-office.ensures c.in-Ok.ensures.meaning

-- ---- the text is a journal of an office that had none

pub invariant_of-self-2 : goal.invariant_of-self-2
invariant_of-self-2 c =
    let v : Gathered = gathered_as c.self.inside.plan c.self.inside.slots.items in
    let texts = c.self.invariant.0 in (
      texts ++ c.args.text.now ∷ [],
      gathers_text v.plan texts v c.self.invariant.1 c.args.text.now c.in-Ok.follower.replay c.number-office.result c.number-office.ensures c.in-Ok.ensures.meaning c.args.alloc c.is_short.ensures c.add.new.slots.items
          (c.add.ensures.added c.if-not-add.false) (c.add.ensures.filled c.if-not-add.false),
    )

pub returns-clause-gathered : goal.returns-clause-gathered
returns-clause-gathered c plan texts g =
    let v : Gathered = gathered_as c.self.inside.plan c.self.inside.slots.items in
    gathers_text plan texts v (subst (Gathers plan texts) (sym c.self.view_is) g) c.args.text.now c.in-Ok.follower.replay c.number-office.result c.number-office.ensures c.in-Ok.ensures.meaning c.args.alloc c.is_short.ensures c.add.new.slots.items
    (c.add.ensures.added c.if-not-add.false) (c.add.ensures.filled c.if-not-add.false)

-- ---- of an office that had one

pub invariant_of-self : goal.invariant_of-self
invariant_of-self c =
    let v : Gathered = gathered_as c.self.inside.plan c.self.inside.slots.items in
    subst (λ l. GathersSome (gathered_as v.plan l)) (sym (c.add.ensures.same c.if-not-add.true)) c.self.invariant

pub returns-then-not-add-clause-refused : goal.returns-then-not-add-clause-refused
returns-then-not-add-clause-refused c plan before after g =
    let v : Gathered = gathered_as c.self.inside.plan c.self.inside.slots.items in
    twice plan before v (subst (Gathers plan before) (sym c.self.view_is) g) c.args.text.now c.in-Ok.follower.replay c.number-office.result c.number-office.ensures c.in-Ok.ensures.meaning after (c.add.ensures.there c.if-not-add.true)

pub returns-then-not-add-clause-same : goal.returns-then-not-add-clause-same
returns-then-not-add-clause-same c =
    let v : Gathered = gathered_as c.self.inside.plan c.self.inside.slots.items in
    ap (gathered_as v.plan) (c.add.ensures.same c.if-not-add.true) ∙ c.self.view_is
