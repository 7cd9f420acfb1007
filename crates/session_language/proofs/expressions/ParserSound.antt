-- What is read is in the grammar: a state spells the tokens that it has taken.
use Rattle.std.proofs.Common.{◌≡◌, ℕ, zero, suc, List, [], ◌∷◌, ◌++◌, Option, Some, None, IfSome, refl, sym, ap, ◌∙◌, append_assoc, subst}
use Rattle.std.proofs.lemmas.List.{append-nil}
use Rattle.session_language.specs.Spelling.{Token, Leaf, Plus, Minus, Times, Open, Close}
use Rattle.session_language.specs.Parse.{Part, leaf, leading_minus, in_parentheses, Sum, NoSum, Added, Taken, Level, State, Wants, Has, negated, multiplied, summed, take_operand, take, and_take, take_all, finished, start, read_part}
use Rattle.session_language.specs.Grammar.{IsFactor, IsProduct, IsExpr, operand, negative, enclosed, one, star, alone, plus, minus}

abbrev Factor : List Token → Part → Type 0
Factor ts x = IsFactor ts x.tree x.depth

abbrev Product : List Token → Part → Type 0
Product ts x = IsProduct ts x.tree x.depth

abbrev Expr : List Token → Part → Type 0
Expr ts x = IsExpr ts x.tree x.depth

data HoldsSum : Sum → List Token → Type 0 where
  no_sum : HoldsSum NoSum []
  added : (ts : List Token) (x : Part) → Expr ts x → HoldsSum (Added x) (ts ++ Plus ∷ [])
  taken : (ts : List Token) (x : Part) → Expr ts x → HoldsSum (Taken x) (ts ++ Minus ∷ [])

data HoldsProduct : Option Part → List Token → Type 0 where
  no_product : HoldsProduct None []
  starred : (ts : List Token) (x : Part) → Product ts x → HoldsProduct (Some x) (ts ++ Times ∷ [])

abbrev leading : ℕ → List Token
leading zero = []
leading (suc n) = leading n ++ Minus ∷ []

record HoldsLevel (l : Level) (ts : List Token) : Type 0 where
  sums : List Token
  products : List Token
  sum_holds : HoldsSum l.sum sums
  product_holds : HoldsProduct l.product products
  whole : ts ≡ sums ++ (products ++ leading l.minuses)

data HoldsOuter : List Level → List Token → Type 0 where
  none_open : HoldsOuter [] []
  one_open : (l : Level) (outer : List Level) (ts us : List Token) → HoldsOuter outer ts → HoldsLevel l us → HoldsOuter (l ∷ outer) (ts ++ (us ++ Open ∷ []))

abbrev Spells : State → List Token → Type 0
Spells (Wants outer l) ts = (before here : List Token) × HoldsOuter outer before × HoldsLevel l here × (ts ≡ before ++ here)
Spells (Has outer s x) ts = (before sums last : List Token) × HoldsOuter outer before × HoldsSum s sums × Product last x × (ts ≡ before ++ (sums ++ last))

negs : (n : ℕ) (ts : List Token) (x : Part) → Factor ts x → Factor (leading n ++ ts) (negated n x)
negs zero ts x f = f
negs (suc n) ts x f = rw append_assoc (negs n (Minus ∷ ts) (leading_minus x) (negative ts x.tree x.depth f))

to_product : (o : Option Part) (before ts : List Token) (x : Part) → HoldsProduct o before → Factor ts x → Product (before ++ ts) (multiplied o x)
to_product _ _ us y no_product f = one us y.tree y.depth f
to_product _ _ us y (starred ts x p) f = rw append_assoc (star ts us x.tree y.tree x.depth y.depth p f)

to_sum : (s : Sum) (before ts : List Token) (x : Part) → HoldsSum s before → Product ts x → Expr (before ++ ts) (summed s x)
to_sum _ _ us y no_sum p = alone us y.tree y.depth p
to_sum _ _ us y (added ts x e) p = rw append_assoc (plus ts us x.tree y.tree x.depth y.depth e p)
to_sum _ _ us y (taken ts x e) p = rw append_assoc (minus ts us x.tree y.tree x.depth y.depth e p)

placed : (outer : List Level) (l : Level) (before here : List Token) → HoldsOuter outer before → HoldsLevel l here → (us : List Token) (x : Part) → Factor us x → Spells (take_operand outer l x) ((before ++ here) ++ us)
placed outer l before here o h us x f =
    let product : Product (h.products ++ (leading l.minuses ++ us)) (multiplied l.product (negated l.minuses x)) = to_product l.product h.products _ _ h.product_holds (negs l.minuses us x f) in
    let all : (before ++ here) ++ us ≡ before ++ (h.sums ++ (h.products ++ (leading l.minuses ++ us))) = ap (λ ts. (before ++ ts) ++ us) h.whole ∙ simp append_assoc in
    (before, h.sums, h.products ++ (leading l.minuses ++ us), o, h.sum_holds, product, all)

abbrev Steps : State → Token → List Token → Type 0
Steps s t ts = IfSome (take s t) (λ u. Spells u (ts ++ t ∷ []))

wants : (outer : List Level) (l : Level) (t : Token) (before here : List Token) → HoldsOuter outer before → HoldsLevel l here → Steps (Wants outer l) t (before ++ here)
wants outer l (Leaf x) before here o h = placed outer l before here o h _ (leaf x) (operand x)
wants outer l Minus before here o h =
    let longer : here ++ Minus ∷ [] ≡ h.sums ++ (h.products ++ leading (suc l.minuses)) = ap (λ ts. ts ++ Minus ∷ []) h.whole ∙ simp append_assoc in
    (before, here ++ Minus ∷ [], o, record { sums = h.sums; products = h.products; sum_holds = h.sum_holds; product_holds = h.product_holds; whole = longer }, append_assoc before here (Minus ∷ []))
wants outer l Open before here o h =
    (before ++ (here ++ Open ∷ []), [], one_open l outer before here o h, record { sums = []; products = []; sum_holds = no_sum; product_holds = no_product; whole = refl }, append_assoc before here (Open ∷ []) ∙ sym (append-nil _))
wants outer l Plus before here o h = tt
wants outer l Times before here o h = tt
wants outer l Close before here o h = tt

has : (outer : List Level) (s : Sum) (x : Part) (t : Token) (before sums last : List Token) → HoldsOuter outer before → HoldsSum s sums → Product last x → Steps (Has outer s x) t (before ++ (sums ++ last))
has outer s x Plus before sums last o h p =
    (before, (sums ++ last) ++ Plus ∷ [], o, record { sums = (sums ++ last) ++ Plus ∷ []; products = []; sum_holds = added (sums ++ last) (summed s x) (to_sum s sums last x h p); product_holds = no_product; whole = sym (append-nil _) }, append_assoc before (sums ++ last) (Plus ∷ []))
has outer s x Minus before sums last o h p =
    (before, (sums ++ last) ++ Minus ∷ [], o, record { sums = (sums ++ last) ++ Minus ∷ []; products = []; sum_holds = taken (sums ++ last) (summed s x) (to_sum s sums last x h p); product_holds = no_product; whole = sym (append-nil _) }, append_assoc before (sums ++ last) (Minus ∷ []))
has outer s x Times before sums last o h p =
    (before, sums ++ (last ++ Times ∷ []), o, record { sums = sums; products = last ++ Times ∷ []; sum_holds = h; product_holds = starred last x p; whole = ap (λ ts. sums ++ ts) (sym (append-nil _)) }, simp append_assoc)
has _ s x Close _ sums last none_open h p = tt
has _ s x Close _ sums last (one_open l outer before here o k) h p =
    let factor : Factor (Open ∷ ((sums ++ last) ++ Close ∷ [])) (in_parentheses (summed s x)) = enclosed (sums ++ last) _ _ (to_sum s sums last x h p) in
    subst (Spells (take_operand outer l (in_parentheses (summed s x)))) (simp append_assoc) (placed outer l before here o k _ (in_parentheses (summed s x)) factor)
has outer s x (Leaf y) before sums last o h p = tt
has outer s x Open before sums last o h p = tt

step : (s : State) (t : Token) (ts : List Token) → Spells s ts → Steps s t ts
step (Wants outer l) t ts (before, here, o, h, all) = rw all (wants outer l t before here o h)
step (Has outer s x) t ts (before, sums, last, o, h, p, all) = rw all (has outer s x t before sums last o h p)

further : (us : List Token) (t : Token) (ts : List Token) (go : (u : State) → Spells u (ts ++ t ∷ []) → IfSome (take_all u us) (λ v. Spells v ((ts ++ t ∷ []) ++ us))) (o : Option State)
    → IfSome o (λ u. Spells u (ts ++ t ∷ [])) → IfSome (and_take o (λ u. take_all u us)) (λ u. Spells u (ts ++ t ∷ us))
further us t ts go None h = tt
further us t ts go (Some u) h = rw (← append_assoc ts (t ∷ []) us) (go u h)

all_steps : (us : List Token) (s : State) (ts : List Token) → Spells s ts → IfSome (take_all s us) (λ u. Spells u (ts ++ us))
all_steps [] s ts h = rw append-nil h
all_steps (t ∷ us) s ts h = further us t ts (λ u k. all_steps us u (ts ++ t ∷ []) k) (take s t) (step s t ts h)

ended : (ts : List Token) (o : Option State) → IfSome o (λ u. Spells u ts) → IfSome (finished o) (λ x. Expr ts x)
ended ts None h = tt
ended ts (Some (Wants outer l)) h = tt
ended ts (Some (Has (l ∷ outer) s x)) h = tt
ended ts (Some (Has [] s x)) (_, sums, last, none_open, h, p, all) = rw all (to_sum s sums last x h p)

pub read_spells : (ts : List Token) → IfSome (read_part ts) (λ x. Expr ts x)
read_spells ts = ended ts (take_all start ts) (all_steps ts start [] ([], [], none_open, record { sums = []; products = []; sum_holds = no_sum; product_holds = no_product; whole = refl }, refl))
