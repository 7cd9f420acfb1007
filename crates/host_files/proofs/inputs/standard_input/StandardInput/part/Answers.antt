use Rattle.std.proofs.Common.{rules, ◌≡◌, ◌≤◌, ◌-◌, ℕ, suc, List, length, take, Option, Some, sym, ap, ◌∙◌, subst}
use Rattle.host_files.specs.inputs.Cut.{IsCut}
use Rattle.host_files.specs.inputs.Words.{Unread, IsReadUpTo}
use Rattle.host_files.specs.inputs.refinement.Reading.{left}
use Rattle.host_files.proofs.inputs_lemmas.CutOfPrefix.{front_is}
use Rattle.host_files.proofs.inputs_lemmas.ReadOn.{part_read}
use Rattle.host_files.proofs.inputs.standard_input.StandardInput.part.Goals as goal

unread_same : (a b : ℕ) (x y : Option (List ℕ)) → a ≡ b → x ≡ y → ◌≡◌ {A = Unread} (record { parts = a; bytes = x }) (record { parts = b; bytes = y })
unread_same a b x y e f = ap (λ n. record { parts = n; bytes = x }) e ∙ ap (λ o. record { parts = b; bytes = o }) f

pub returns : goal.returns
returns g c = record {
  text = λ n rest text back parts_is bytes_is cut.
      let cut_is : IsCut c.fill.new.bytes.items c.cut.result.0.now c.cut.result.1.now = subst (λ t. IsCut t c.cut.result.0.now c.cut.result.1.now) c.deref.ensures.value c.cut.ensures in
      let known = part_read c.args.limit (g.R.Read.remaining c.self.inside.reader) (g.R.Read.remaining c.fill.new.reader) c.self.inside.ahead.items c.fill.new.bytes.items c.cut.result.0.now c.cut.result.1.now rest text back (search rules) (search rules) cut_is cut in
      let read : c.truncate.new.self.items ≡ c.cut.result.0.now =
      c.truncate.ensures.items ∙ ap (λ v. take (length c.cut.result.0.now) v.items) c.replace-text.ensures.value
      ∙ front_is c.fill.new.bytes.items c.cut.result.0.now c.cut.result.1.now cut_is in
      let rest_is : c.replace-text.new.dest.items ≡ c.cut.result.1.now = search rules in (
        subst (IsReadUpTo c.args.limit text) (sym read) known.0,
        λ short.
            unread_same (c.self.inside.parts - 1) (suc n) (left c.replace-text.new.dest.items (g.R.Read.remaining c.fill.new.reader)) (Some back) (search rules)
            (ap (λ b. left b (g.R.Read.remaining c.fill.new.reader)) rest_is ∙ known.1 (subst (λ l. length l ≤ c.args.limit) read short)),
      );
}
