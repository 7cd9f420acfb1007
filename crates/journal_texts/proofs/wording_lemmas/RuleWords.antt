-- The words of a rule, and the rule that they say.
use Rattle.std.proofs.Common.{◌≡◌, ℕ, List, [], ◌∷◌, true, ◌&&◌, Some, option_map, codes, refl, ap, ap₂, arith}
use Rattle.std.specs.List.{list_all}
use Rattle.std.specs.Fmt.{decimal}
use Rattle.office_map.specs.PlanValue.{PlanValue}
use Rattle.office_map.specs.Consistency.{IsConsistent}
use Rattle.office_journal.specs.declared.rule.Rule.{Rule}
use Rattle.office_journal.specs.declared.rule.Rule.TheVariants as rule
use Rattle.journal_texts.specs.wording.Words.{office_name, record_name, is_word}
use Rattle.journal_texts.specs.wording.Rules.{rule_of, rule_words, IsRuleOf, RulesReadBack}
use Rattle.journal_texts.proofs.wording_lemmas.NamesAndNumbers.{number_word, count_again, office_word, office_again, record_word, record_again}

pub with_word : (a b : List ℕ) → is_word a ≡ true → is_word b ≡ true → list_all is_word (a ∷ b ∷ []) ≡ true
with_word a b h k = ap₂ (λ x y. x && (y && true)) h k

words : (p : PlanValue) (r : Rule) → IsConsistent p → IsRuleOf p r → list_all is_word (rule_words p r) ≡ true
words p rule.Start ok h = refl
words p rule.Hungry ok h = refl
words p (rule.AskFork v) ok h = with_word (codes "askfork") (office_name p v) refl (office_word p ok v h)
words p (rule.GiveFork v) ok h = with_word (codes "givefork") (office_name p v) refl (office_word p ok v h)
words p rule.Eat ok h = refl
words p rule.Leave ok h = refl
words p (rule.AskBottle r) ok h = with_word (codes "askbottle") (record_name p r) refl (record_word p ok r h)
words p (rule.GiveBottle r) ok h = with_word (codes "givebottle") (record_name p r) refl (record_word p ok r h)
words p rule.Drink ok h = refl
words p (rule.Work n) ok h = with_word (codes "work") (decimal n) refl (number_word n (omega (arith, h.1)))
words p rule.Finish ok h = refl

said : (p : PlanValue) (r : Rule) → IsConsistent p → IsRuleOf p r → rule_of p (rule_words p r) ≡ Some r
said p rule.Start ok h = refl
said p rule.Hungry ok h = refl
said p (rule.AskFork v) ok h = ap (option_map rule.AskFork) (office_again p ok v h)
said p (rule.GiveFork v) ok h = ap (option_map rule.GiveFork) (office_again p ok v h)
said p rule.Eat ok h = refl
said p rule.Leave ok h = refl
said p (rule.AskBottle r) ok h = ap (option_map rule.AskBottle) (record_again p ok r h)
said p (rule.GiveBottle r) ok h = ap (option_map rule.GiveBottle) (record_again p ok r h)
said p rule.Drink ok h = refl
said p (rule.Work n) ok h = ap (option_map rule.Work) (count_again 1000 n h.0 h.1 (omega (arith, h.1)))
said p rule.Finish ok h = refl

pub rules_read_back : RulesReadBack
rules_read_back p r ok h = (words p r ok h, said p r ok h)
