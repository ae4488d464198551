-- The file of the table of a name, as a walk over the tables finds it.
use Rattle.std.proofs.Common.{◌≡◌, ◌∙◌, ℕ, zero, suc, ◌+◌, List, [], ◌∷◌, drop, Bool, true, false, cond, Option, Some, None, refl, ap, sym, subst, arith, slice_get}
use Rattle.std.specs.Borrow.{Bor}
use Rattle.std.specs.Prelude.{bytes_eq, option_copied, option_map}
use Rattle.hq_copy_text.specs.Parts.{table_text}
use Rattle.hq_laws_written.specs.Tables.Written.{file_of}
use Rattle.hq_model.specs.Catalog.{full_name}
use Rattle.hq_model.specs.Database.{Row}
use Rattle.hq_model.specs.declared.table.Table.{Table}

-- of rows that are lent
pub copied_map : {A B : Type 0} (f : A → B) (o : Option (Bor A)) → option_map (λ r. f r.now) o ≡ option_map f (option_copied o)
copied_map f None = refl
copied_map f (Some r) = refl

no_rows : (ts : List Table) (name : List ℕ) → table_text ts [] name ≡ None
no_rows [] name = refl
no_rows (t ∷ ts) name = refl

none_either : (b : Bool) (rest : Option (List ℕ)) → rest ≡ None → ◌≡◌ {A = Option (List ℕ)} None (cond b None rest)
none_either true rest none = refl
none_either false rest none = sym none

-- the file of the table at a place, where it has the name, and else that of the tables behind it
text_here : (ts : List Table) (d : List (List Row)) (i : ℕ) (t : Table) (name : List ℕ) → slice_get ts i ≡ Some t
    → table_text (drop i ts) (drop i d) name ≡ cond (bytes_eq (full_name t) name) (option_map (file_of t) (slice_get d i)) (table_text (drop (suc i) ts) (drop (suc i) d) name)
text_here ts [] zero t name at = no_rows ts name ∙ none_either (bytes_eq (full_name t) name) _ (no_rows (drop 1 ts) name)
text_here ts [] (suc i) t name at = no_rows (drop (suc i) ts) name ∙ none_either (bytes_eq (full_name t) name) _ (no_rows (drop (suc (suc i)) ts) name)
text_here [] (r ∷ d) i t name at = cc
text_here (u ∷ ts) (r ∷ d) zero t name at =
    let same : u ≡ t = cc in
    ap (λ w. cond (bytes_eq (full_name w) name) (Some (file_of w r)) (table_text ts d name)) same
text_here (u ∷ ts) (r ∷ d) (suc i) t name at = text_here ts d i t name at

module _ (ts : List Table) (d : List (List Row)) (i : ℕ) (t : Table) (name : List ℕ) (whole : Option (List ℕ)) (at : slice_get ts i ≡ Some t)
    (so_far : table_text (drop i ts) (drop i d) name ≡ whole) where
  -- a table of another name
  pub other_table : bytes_eq (full_name t) name ≡ false → table_text (drop (i + 1) ts) (drop (i + 1) d) name ≡ whole
  other_table other =
      let next : suc i ≡ i + 1 = omega arith in
      subst (λ k. table_text (drop k ts) (drop k d) name ≡ whole) next
      (sym (text_here ts d i t name at ∙ ap (λ b. cond b (option_map (file_of t) (slice_get d i)) (table_text (drop (suc i) ts) (drop (suc i) d) name)) other) ∙ so_far)

  -- the table of the name
  pub this_table : bytes_eq (full_name t) name ≡ true → option_map (file_of t) (slice_get d i) ≡ whole
  this_table same =
      sym (text_here ts d i t name at ∙ ap (λ b. cond b (option_map (file_of t) (slice_get d i)) (table_text (drop (suc i) ts) (drop (suc i) d) name)) same) ∙ so_far
