-- Steps of the loops that read a session list.
use Rattle.std.proofs.Common.{◌≡◌, ◌∙◌, refl, sym, ap, subst, ℕ, ◌+◌, ◌<◌, ◌≤◌, ◌≢◌, List, [], ◌∷◌, ◌++◌, map, length, drop, get_or, Option, Some, None, append_assoc, append-nil, arith}
use Rattle.std.specs.Prelude.{option_map, option_and_then}
use Rattle.std.proofs.lemmas.List.{at_drop_all, drop_more}
use Rattle.hq_base.proofs.Loops.{next_item}
use Rattle.hq_base.specs.declared.value.Ty.{Ty}
use Rattle.hq_base.specs.declared.value.Val.{Val}
use Rattle.hq_model.specs.SessionLists.{elements_from, element_value, element_values}
use Rattle.hq_model_binding.specs.SessionReading.{read_on, if_over, Follows}
use Rattle.hq_model.specs.declared.test.Test.{Test}
use Rattle.hq_model.specs.declared.bexp.Operand.{Operand}
use Rattle.hq_model.specs.declared.bexp.Operand.TheVariants.{Const}
use Rattle.hq_model_binding.specs.declared.session_list.Next.{Next}
use Rattle.hq_model_binding.specs.declared.session_list.Next.TheVariants.{On, Over, Wrong}
use Rattle.hq_model.specs.declared.session_list.ListState.TheVariants.{Before}
use Rattle.hq_model_binding.specs.declared.session_list.Reader.{Reader}

-- nothing before a list leaves it as it is
pub mapped_itself : {A : Type 0} (o : Option (List A)) → option_map (λ xs. [] ++ xs) o ≡ o
mapped_itself None = refl
mapped_itself (Some xs) = refl

-- a reader that has read nothing
pub reads_first : (r : Reader) (es : List (List ℕ)) (bytes : List ℕ) → r ≡ record { place = Before; element = []; gap = []; elements = es }
    → es ≡ [] → read_on r bytes ≡ elements_from Before [] [] bytes
reads_first r es bytes is none =
    ap (λ (x : Reader). read_on x bytes) is ∙ ap (λ (xs : List (List ℕ)). option_map (λ ys. xs ++ ys) (elements_from Before [] [] bytes)) none ∙ mapped_itself (elements_from Before [] [] bytes)

module _ (r : Reader) (bytes : List ℕ) (i : ℕ) (whole : Option (List (List ℕ))) (lt : i < length bytes) (so_far : read_on r (drop i bytes) ≡ whole) where
  split : read_on r (get_or bytes i 0 ∷ drop (i + 1) bytes) ≡ whole
  split = ap (read_on r) (sym (drop_more bytes i 0 lt)) ∙ so_far

  -- a reader goes on behind the next byte
  pub reads_on : (n : Next) (next : Reader) → Follows r (get_or bytes i 0) n → n ≡ On next → read_on next (drop (i + 1) bytes) ≡ whole
  reads_on n next f e = let g : Follows r (get_or bytes i 0) (On next) = subst (Follows r (get_or bytes i 0)) e f in sym (g (drop (i + 1) bytes)) ∙ split

  -- the list is over there
  reads_end : (n : Next) (es : List (List ℕ)) → Follows r (get_or bytes i 0) n → n ≡ Over es → if_over es (drop (i + 1) bytes) ≡ whole
  reads_end n es f e = let g : Follows r (get_or bytes i 0) (Over es) = subst (Follows r (get_or bytes i 0)) e f in sym (g (drop (i + 1) bytes)) ∙ split

  pub reads_last : (n : Next) (es : List (List ℕ)) → Follows r (get_or bytes i 0) n → n ≡ Over es → i + 1 ≡ length bytes → Some es ≡ whole
  reads_last n es f e last = let over : length bytes ≤ i + 1 = omega arith in sym (at_drop_all (if_over es) bytes (i + 1) over) ∙ reads_end n es f e

  pub reads_more : (n : Next) (es : List (List ℕ)) → Follows r (get_or bytes i 0) n → n ≡ Over es → i + 1 ≢ length bytes → None ≡ whole
  reads_more n es f e more = let below : i + 1 < length bytes = omega arith in sym (ap (if_over es) (drop_more bytes (i + 1) 0 below)) ∙ reads_end n es f e

  -- and where it is none
  pub reads_wrong : (n : Next) → Follows r (get_or bytes i 0) n → n ≡ Wrong → None ≡ whole
  reads_wrong n f e = let g : Follows r (get_or bytes i 0) Wrong = subst (Follows r (get_or bytes i 0)) e f in sym (g (drop (i + 1) bytes)) ∙ split

-- ---- the values of elements

abbrev values_behind : List Operand → Option (List Val) → Option (List Operand)
values_behind done o = option_map (λ vs. done ++ map Const vs) o

one_behind : (done : List Operand) (v : Val) (o : Option (List Val)) → values_behind done (option_map (λ vs. v ∷ vs) o) ≡ values_behind (done ++ Const v ∷ []) o
one_behind done v None = refl
one_behind done v (Some vs) = ap Some (sym (append_assoc done (Const v ∷ []) (map Const vs)))

module _ (t : Test) (ty : Ty) (xs : List (List ℕ)) (i : ℕ) (x : List ℕ) (done : List Operand) (whole : Option (List Operand)) (lt : i < length xs) (is : x ≡ get_or xs i x)
    (so_far : values_behind done (element_values t ty (drop i xs)) ≡ whole) where
  parted : values_behind done (option_and_then (λ v. option_map (λ vs. v ∷ vs) (element_values t ty (drop (i + 1) xs))) (element_value t ty x)) ≡ whole
  parted = ap (λ ys. values_behind done (element_values t ty ys)) (sym (next_item xs i x lt is)) ∙ so_far

  -- an element that is no value
  pub values_end : element_value t ty x ≡ None → None ≡ whole
  values_end none = sym (ap (λ o. values_behind done (option_and_then (λ v. option_map (λ vs. v ∷ vs) (element_values t ty (drop (i + 1) xs))) o)) none) ∙ parted

  -- one more value
  pub values_more : (v : Val) (more : List Operand) → element_value t ty x ≡ Some v → more ≡ done ++ Const v ∷ [] → values_behind more (element_values t ty (drop (i + 1) xs)) ≡ whole
  values_more v more some grows =
      ap (λ ds. values_behind ds (element_values t ty (drop (i + 1) xs))) grows
      ∙ sym (one_behind done v (element_values t ty (drop (i + 1) xs)))
      ∙ sym (ap (λ o. values_behind done (option_and_then (λ v. option_map (λ vs. v ∷ vs) (element_values t ty (drop (i + 1) xs))) o)) some)
      ∙ parted

-- all values
pub values_all : (t : Test) (ty : Ty) (xs : List (List ℕ)) (i : ℕ) (done : List Operand) (whole : Option (List Operand)) → length xs ≤ i
    → values_behind done (element_values t ty (drop i xs)) ≡ whole → Some done ≡ whole
values_all t ty xs i done whole over so_far =
    ap Some (sym (append-nil done)) ∙ sym (at_drop_all (λ ys. values_behind done (element_values t ty ys)) xs i over) ∙ so_far
