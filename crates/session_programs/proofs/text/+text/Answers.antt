use Rattle.std.proofs.Common.{rules, ◌≡◌, ◌∙◌, sym, ap, ◌∷◌, [], ◌++◌, length}
use Rattle.session_meaning.specs.declared.node.Node.{Node}
use Rattle.session_meaning.specs.declared.node.Node.TheVariants.{Literal, Variable, Read, Negate, Apply}
use Rattle.session_programs.proofs.LastNode.{before_minus, before_operator, only_literal, only_variable, only_read, no_nodes}
use Rattle.session_programs.proofs.Texts.{written}
use Rattle.session_programs.proofs.text.+text.Goals as goal

pub write_term-returns-in_default : goal.write_term-returns-in_default
write_term-returns-in_default t c = λ e is. absurd (no_nodes e c.args.nodes.now is (ap length c.in_default.ensures.none))

pub write_term-returns-in-Literal : goal.write_term-returns-in-Literal
write_term-returns-in-Literal t c = λ e is.
    let cut : c.args.nodes.now ≡ c.in-Some.rest ++ Literal c.in-Literal.value ∷ [] = c.in-Some.ensures.some ∙ ap (λ (n : Node). c.in-Some.rest ++ n ∷ []) c.in-Literal.is in
    rw (only_literal e c.in-Literal.value c.in-Some.rest (sym is ∙ cut)) c.write_literal.ensures

pub write_term-returns-in-Variable : goal.write_term-returns-in-Variable
write_term-returns-in-Variable t c = λ e is.
    let cut : c.args.nodes.now ≡ c.in-Some.rest ++ Variable c.in-Variable.place ∷ [] = c.in-Some.ensures.some ∙ ap (λ (n : Node). c.in-Some.rest ++ n ∷ []) c.in-Variable.is in
    rw (only_variable e c.in-Variable.place c.in-Some.rest (sym is ∙ cut)) c.write_variable.ensures

pub write_term-returns-in-Read : goal.write_term-returns-in-Read
write_term-returns-in-Read t c = λ e is.
    let cut : c.args.nodes.now ≡ c.in-Some.rest ++ Read c.in-Read.«record» ∷ [] = c.in-Some.ensures.some ∙ ap (λ (n : Node). c.in-Some.rest ++ n ∷ []) c.in-Read.is in
    rw (only_read e c.in-Read.«record» c.in-Some.rest (sym is ∙ cut)) c.write_read.ensures

pub write_term-returns-in_ok-push_str-in-Negate : goal.write_term-returns-in_ok-push_str-in-Negate
write_term-returns-in_ok-push_str-in-Negate t c = λ e is.
    let cut : c.args.nodes.now ≡ c.in-Some.rest ++ Negate ∷ [] = c.in-Some.ensures.some ∙ ap (λ (n : Node). c.in-Some.rest ++ n ∷ []) c.in-Negate.is in
    let inner = before_minus e c.in-Some.rest (sym is ∙ cut) in
    rw inner.1 (written c.write_factor.result _ _ _ (45 ∷ []) _ (search rules) (c.write_factor.ensures inner.0 inner.2))

pub write_term-returns-in-Apply : goal.write_term-returns-in-Apply
write_term-returns-in-Apply t c = λ e is.
    let cut : c.args.nodes.now ≡ c.in-Some.rest ++ Apply c.in-Apply.operator ∷ [] = c.in-Some.ensures.some ∙ ap (λ (n : Node). c.in-Some.rest ++ n ∷ []) c.in-Apply.is in
    let inner = before_operator e c.in-Apply.operator c.in-Some.rest (sym is ∙ cut) in
    rw inner.2 (c.write_operation.ensures inner.0 inner.1 inner.3)
