-- Files that are written one after another.
use Rattle.std.proofs.Common.{◌≡◌, ◌+◌, ◌<◌, ℕ, List, [], ◌∷◌, ◌++◌, length, map, take, get_or, Option, None, Some, Result, Ok, IfOk, OnOk, sym, subst, ap, ◌∙◌, append_assoc, arith}
use Rattle.std.proofs.lemmas.List.{append-nil, map_more}
use Rattle.std.proofs.lemmas.List.FromFn.{map-range_with_len_more}
use Rattle.host_files.specs.outputs.Written.{AddsFiles, KeepsFiles}
use Rattle.office_map.specs.PlanValue.{PlanValue}
use Rattle.command_outputs.specs.Journals.{File, file_name, files_of}

-- none is added yet
pub adds_none : (old new : Option (List File)) → KeepsFiles old new → AddsFiles old new []
adds_none None new h = tt
adds_none (Some files) new h = h ∙ ap Some (sym (append-nil files))

-- some are, and then more
pub adds_more : (old mid new : Option (List File)) (xs ys : List File) → AddsFiles old mid xs → AddsFiles mid new ys → AddsFiles old new (xs ++ ys)
adds_more None mid new xs ys a b = tt
adds_more (Some files) mid new xs ys a b = let c = subst (λ m. AddsFiles m new ys) a b in c ∙ ap Some (append_assoc files xs ys)

-- those of one office more
pub adds_office : (folder : List ℕ) (p : PlanValue) (text : ℕ → List ℕ) (a : ℕ) (old mid new : Option (List File)) → AddsFiles old mid (files_of folder p text a)
    → AddsFiles mid new ((file_name folder p a, text a) ∷ []) → AddsFiles old new (files_of folder p text (a + 1))
adds_office folder p text a old mid new h more =
    subst (AddsFiles old new) (sym (map-range_with_len_more {X = File} (λ b. (file_name folder p b, text b)) 0 a a (omega arith))) (adds_more old mid new _ _ h more)

-- a name that there was memory for
pub named_is : {X E : Type 0} (r : Result X E) (x : X) (P : X → Type 0) → r ≡ Ok x → IfOk r P → P x
named_is r x P e h = subst (λ s. IfOk s P) e h

-- a file whose name is that
pub adds_named : {A E : Type 0} (r : Result A E) (old new : Option (List File)) (name meant text : List ℕ) → name ≡ meant → OnOk r (AddsFiles old new ((name, text) ∷ [])) → OnOk r (AddsFiles old new ((meant, text) ∷ []))
adds_named r old new name meant text e h = subst (λ n. OnOk r (AddsFiles old new ((n, text) ∷ []))) e h

-- one text more goes to the file of that name
pub adds_text : {X : Type 0} (f : X → File) (xs : List X) (i : ℕ) (x : X) (old mid new : Option (List File)) → i < length xs → get_or xs i x ≡ x
    → AddsFiles old mid (map f (take i xs)) → AddsFiles mid new (f x ∷ []) → AddsFiles old new (map f (take (i + 1) xs))
adds_text f xs i x old mid new lt here h more =
    subst (AddsFiles old new) (sym (map_more f xs i x lt ∙ ap (λ y. map f (take i xs) ++ f y ∷ []) here)) (adds_more old mid new _ _ h more)

-- the name and the text are those
pub same_file : (old new : Option (List File)) (name place text meant : List ℕ) → name ≡ place → text ≡ meant → AddsFiles old new ((name, text) ∷ []) → AddsFiles old new ((place, meant) ∷ [])
same_file old new name place text meant e t h = subst (λ u. AddsFiles old new ((place, u) ∷ [])) t (subst (λ n. AddsFiles old new ((n, text) ∷ [])) e h)

-- the name and the text of a file are those, where it was written
pub adds_both : {A E : Type 0} (r : Result A E) (old new : Option (List File)) (name meant text said : List ℕ) → name ≡ meant → text ≡ said
    → OnOk r (AddsFiles old new ((name, text) ∷ [])) → OnOk r (AddsFiles old new ((meant, said) ∷ []))
adds_both r old new name meant text said e t h = adds_named r old new name meant said e (subst (λ x. OnOk r (AddsFiles old new ((name, x) ∷ []))) t h)
