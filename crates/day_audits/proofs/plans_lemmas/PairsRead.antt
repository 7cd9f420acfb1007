-- The lines of pairs are read.
use Rattle.std.proofs.Common.{◌≡◌, ◌≢◌, ℕ, ◌<◌, List, [], ◌∷◌, ◌++◌, length, Bool, true, false, ◌&&◌, Ok, Option, Some, None, if◌then◌else◌, codes, refl, sym, ap, ap₂, ◌∙◌, subst, arith, append_assoc}
use Rattle.std.proofs.lemmas.List.{append-nil}
use Rattle.std.specs.Prelude.{All, AllPairs, ◌==◌}
use Rattle.std.specs.Option.{ok_or}
use Rattle.std.specs.Str.{bytes_eq}
use Rattle.std.proofs.lemmas.Bool.{eqb-true, false_from_ne_true}
use Rattle.std.proofs.lemmas.List.Folds.{list_any_none}
use Rattle.office_map.specs.declared.entries.PairEntry.{PairEntry}
use Rattle.office_map.specs.declared.fault.PlanRule.TheVariants.{UnknownName, SelfPair, PairTwice}
use Rattle.office_map.specs.PlanValue.{PlanValue, office_named, joins, are_neighbours, fork_end, with_pair}
use Rattle.office_map.specs.PlanText.{◌>>=◌, ◌>>◌, refuse_if, APair, pair_of}
use Rattle.office_map.specs.Consistency.{IsConsistent}
use Rattle.text_lines.specs.Text.{name_of}
use Rattle.session_reports.specs.Names.{office_name}
use Rattle.journal_texts.proofs.wording_lemmas.NamesAndNumbers.{office_name_again, name_of_office}
use Rattle.day_audits.specs.plans.WrittenPlans.{pair_words}
use Rattle.day_audits.proofs.plans_lemmas.Places.{middle, before_it}
use Rattle.day_audits.proofs.plans_lemmas.PlanLines.{cut_word}
use Rattle.day_audits.proofs.plans_lemmas.Names.{cut_office, cut_end, end_told, end_is_one}
use Rattle.day_audits.proofs.plans_lemmas.LinesRead.{Reads, AreRead, all_added}

two_done : (q : PlanValue) (s j : Bool) → s ≡ false → j ≡ false → (refuse_if s SelfPair >> (refuse_if j PairTwice >> Ok q)) ≡ Ok q
two_done q true j e f = absurd cc
two_done q false true e f = absurd cc
two_done q false false e f = refl

pair_done : (a b : Option ℕ) (same joined : ℕ → ℕ → Bool) (q : ℕ → ℕ → PlanValue) (x y : ℕ) → a ≡ Some x → b ≡ Some y → same x y ≡ false → joined x y ≡ false
    → (ok_or a UnknownName >>= λ u. ok_or b UnknownName >>= λ v. refuse_if (same u v) SelfPair >> (refuse_if (joined u v) PairTwice >> Ok (q u v))) ≡ Ok (q x y)
pair_done a b same joined q x y e f s j =
    ap (λ o. ok_or o UnknownName >>= λ u. ok_or b UnknownName >>= λ v. refuse_if (same u v) SelfPair >> (refuse_if (joined u v) PairTwice >> Ok (q u v))) e
    ∙ ap (λ o. ok_or o UnknownName >>= λ v. refuse_if (same x v) SelfPair >> (refuse_if (joined x v) PairTwice >> Ok (q x v))) f
    ∙ two_done (q x y) (same x y) (joined x y) s j

module _ (p : PlanValue) (ok : IsConsistent p) where
  abbrev so_far : List PairEntry → PlanValue
  so_far pairs = record { version = p.version; run = p.run; offices = p.offices; pairs = pairs; records = [] }

  one_pair : (pre : List PairEntry) (x : PairEntry) (xs : List PairEntry) → pre ++ x ∷ xs ≡ p.pairs → Reads (so_far pre) (pair_words p x) (with_pair (so_far pre) x)
  one_pair pre x xs whole =
      let AreOffices : PairEntry → Type 0 = λ e. (e.first < length p.offices) × (e.second < length p.offices) in
      let Differ : PairEntry → Type 0 = λ e. e.first ≢ e.second in
      let Once : PairEntry → PairEntry → Type 0 = λ a b. joins b.first b.second a ≡ false in
      let ends = middle AreOffices pre x xs (subst (All AreOffices) (sym whole) ok.ends_are_offices) in
      let apart = middle Differ pre x xs (subst (All Differ) (sym whole) ok.ends_differ) in
      let fresh = before_it Once pre x xs (subst (AllPairs Once) (sym whole) ok.pairs_once) in
      let a = office_name p x.first in
      let b = office_name p x.second in
      let e = office_name p (fork_end x) in
      record {
        keyword = codes "pair";
        others = a ∷ b ∷ codes "fork" ∷ e ∷ [];
        is = refl;
        word = record { some = omega arith; bytes = refl };
        good = (cut_word (codes "pair") refl refl, (cut_office p ok x.first ends.0, (cut_office p ok x.second ends.1, (cut_word (codes "fork") refl refl, (cut_end p ok x.fork_at_first x.first x.second ends.0 ends.1, tt)))));
        declaration = APair a b x.fork_at_first;
        declares =
            ap (λ t. if t then pair_of (name_of a) (name_of b) (bytes_eq e a) else None) (end_is_one p ok x.first x.second x.fork_at_first)
            ∙ ap (λ t. pair_of (name_of a) (name_of b) t) (end_told p ok x.first x.second ends.0 ends.1 apart x.fork_at_first)
            ∙ ap₂ (λ m n. pair_of m n x.fork_at_first) (name_of_office p ok x.first ends.0) (name_of_office p ok x.second ends.1);
        accepted = pair_done (office_named p a) (office_named p b) (λ u v. u == v) (λ u v. are_neighbours (so_far pre) u v) (λ u v. with_pair (so_far pre) (record { first = u; second = v; fork_at_first = x.fork_at_first })) x.first x.second
            (office_name_again p ok x.first ends.0) (office_name_again p ok x.second ends.1) (false_from_ne_true (x.first == x.second) (λ s. apart (eqb-true x.first x.second s))) (list_any_none (joins x.first x.second) pre fresh);
      }

  are_read : (pre xs : List PairEntry) → pre ++ xs ≡ p.pairs → AreRead (pair_words p) with_pair (so_far pre) xs
  are_read pre [] whole = tt
  are_read pre (x ∷ xs) whole = (one_pair pre x xs whole, are_read (pre ++ x ∷ []) xs (append_assoc pre (x ∷ []) xs ∙ whole))

  added : (pre xs : List PairEntry) → all_added (pair_words p) with_pair (so_far pre) xs ≡ so_far (pre ++ xs)
  added pre [] = ap so_far (sym (append-nil pre))
  added pre (x ∷ xs) = added (pre ++ x ∷ []) xs ∙ ap so_far (append_assoc pre (x ∷ []) xs)

  pub pairs_read : AreRead (pair_words p) with_pair (so_far []) p.pairs
  pairs_read = are_read [] p.pairs refl

  pub pairs_added : all_added (pair_words p) with_pair (so_far []) p.pairs ≡ so_far p.pairs
  pairs_added = added [] p.pairs
