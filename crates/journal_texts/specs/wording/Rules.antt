-- The words of rules.
use Rattle.std.specs.Prelude.{◌≡◌, ℕ, ◌<◌, ◌≤◌, List, [], ◌∷◌, length, true, Option, Some, None, option_map, if◌then◌else◌, codes}
use Rattle.std.specs.List.{list_all}
use Rattle.std.specs.Str.{bytes_eq}
use Rattle.std.specs.Fmt.{decimal}
use Rattle.office_map.specs.PlanValue.{PlanValue}
use Rattle.office_map.specs.Consistency.{IsConsistent}
use Rattle.office_journal.specs.declared.rule.Rule.{Rule}
use Rattle.office_journal.specs.declared.rule.Rule.TheVariants as rule
use Rattle.site_core.specs.Limits.{longest_piece}
use Rattle.journal_texts.specs.wording.Words.{office_name, record_name, office_by, record_by, count_by, is_word}

-- ---- read

-- the rule that a word says by itself
abbrev pub rule_named : List ℕ → Option Rule
rule_named name =
    if bytes_eq name (codes "start") then Some rule.Start
    else (if bytes_eq name (codes "hungry") then Some rule.Hungry
    else (if bytes_eq name (codes "eat") then Some rule.Eat
    else (if bytes_eq name (codes "leave") then Some rule.Leave
    else (if bytes_eq name (codes "drink") then Some rule.Drink
    else (if bytes_eq name (codes "finish") then Some rule.Finish else None)))))

-- The rule that a word says with one that names an office, a record or a number: askfork OFFICE, givefork OFFICE,
-- askbottle RECORD, givebottle RECORD, work N.
abbrev pub rule_with : PlanValue → List ℕ → List ℕ → Option Rule
rule_with p name argument =
    if bytes_eq name (codes "askfork") then option_map rule.AskFork (office_by p argument)
    else (if bytes_eq name (codes "givefork") then option_map rule.GiveFork (office_by p argument)
    else (if bytes_eq name (codes "askbottle") then option_map rule.AskBottle (record_by p argument)
    else (if bytes_eq name (codes "givebottle") then option_map rule.GiveBottle (record_by p argument)
    else (if bytes_eq name (codes "work") then option_map rule.Work (count_by longest_piece argument) else None))))

-- the rule that words say
abbrev pub rule_of : PlanValue → List (List ℕ) → Option Rule
rule_of p (name ∷ []) = rule_named name
rule_of p (name ∷ argument ∷ []) = rule_with p name argument
rule_of p words = None

-- ---- written

-- the words of a rule
abbrev pub rule_words : PlanValue → Rule → List (List ℕ)
rule_words p rule.Start = codes "start" ∷ []
rule_words p rule.Hungry = codes "hungry" ∷ []
rule_words p (rule.AskFork v) = codes "askfork" ∷ office_name p v ∷ []
rule_words p (rule.GiveFork v) = codes "givefork" ∷ office_name p v ∷ []
rule_words p rule.Eat = codes "eat" ∷ []
rule_words p rule.Leave = codes "leave" ∷ []
rule_words p (rule.AskBottle r) = codes "askbottle" ∷ record_name p r ∷ []
rule_words p (rule.GiveBottle r) = codes "givebottle" ∷ record_name p r ∷ []
rule_words p rule.Drink = codes "drink" ∷ []
rule_words p (rule.Work n) = codes "work" ∷ decimal n ∷ []
rule_words p rule.Finish = codes "finish" ∷ []

-- the office or record of a rule is the plan's, and its work is of 1 to 1,000 instructions
abbrev pub IsRuleOf : PlanValue → Rule → Type 0
IsRuleOf p rule.Start = Unit {0}
IsRuleOf p rule.Hungry = Unit {0}
IsRuleOf p (rule.AskFork v) = v < length p.offices
IsRuleOf p (rule.GiveFork v) = v < length p.offices
IsRuleOf p rule.Eat = Unit {0}
IsRuleOf p rule.Leave = Unit {0}
IsRuleOf p (rule.AskBottle r) = r < length p.records
IsRuleOf p (rule.GiveBottle r) = r < length p.records
IsRuleOf p rule.Drink = Unit {0}
IsRuleOf p (rule.Work n) = (1 ≤ n) × (n ≤ longest_piece)
IsRuleOf p rule.Finish = Unit {0}

-- ---- both ways

-- what a rule is written as are words, and they say that rule
abbrev pub RulesReadBack : Type 0
RulesReadBack = (p : PlanValue) (r : Rule) → IsConsistent p → IsRuleOf p r → (list_all is_word (rule_words p r) ≡ true) × (rule_of p (rule_words p r) ≡ Some r)
