-- Filters and masks that take few enough numbers of aliases.
use Rattle.std.proofs.Common.{◌≡◌, ℕ, ◌+◌, ◌<◌, ◌≤◌, ◌^◌, List, [], ◌∷◌, Bool, true, false, cond, ◌==◌, None, length}
use Rattle.std.proofs.Common.{ap, subst, sym, inl, inr, lit≤}
use Rattle.std.specs.Prelude.{slice_index_or, unwrap_or}
use Rattle.std.proofs.lemmas.List.{get_or_past}
use Rattle.std.proofs.lemmas.Bool.{cases_lt}
use Rattle.hq_model.specs.Bexp.{BexpTree}
use Rattle.hq_model.specs.Grants.{Grants, grant, no_grant}
use Rattle.hq_model.specs.Permission.{Mask, Permission}
use Rattle.hq_model.specs.Permitted.{mask_of}
use Rattle.hq_model.specs.Schema.{Schema}
use Rattle.hq_translation.specs.Predicates.{own_numbers}
use Rattle.hq_laws_confine.specs.Meaning.Laws.{AreWritten}
use Rattle.hq_confine.specs.Written.{IsWritten}

module _ (s : Schema) (t : ℕ) where
  -- an expression over the table takes few enough
  abbrev pub Small : BexpTree → Type 0
  Small b = 1 + own_numbers b s t ≤ 2 ^ 64

  -- where masks do, and one in front of them
  pub mask_more : (m : Mask) (ms : List Mask) → Small m.shown → ((c : ℕ) → Small (mask_of ms c)) → (c : ℕ) → Small (mask_of (m ∷ ms) c)
  mask_more m ms first rest c =
      let by : (b : Bool) → Small (cond b m.shown (mask_of ms c)) = elim [ true ↦ first | false ↦ rest c ] in
      by (m.column == c)

  -- without masks
  pub no_masks : (c : ℕ) → Small (mask_of [] c)
  no_masks c = lit≤ tt

-- what is granted of nothing
none_written : (s : Schema) (g : Grants) (t : ℕ) → slice_index_or g t None ≡ None → IsWritten s g t
none_written s g t none =
    let is : no_grant ≡ grant g t = ap (λ o. unwrap_or o no_grant) (sym none) in
    record {
      filter = subst (λ (p : Permission). 1 + own_numbers p.filter s t ≤ 2 ^ 64) is (lit≤ tt);
      masks = λ c. subst (λ (p : Permission). 1 + own_numbers (mask_of p.masks c) s t ≤ 2 ^ 64) is (lit≤ tt);
    }

pub grant_none : (s : Schema) (g : Grants) (t : ℕ) → slice_index_or g t None ≡ None → IsWritten s g t
grant_none = none_written

-- all that is granted is written where that of each table of the list is
pub all_written : (s : Schema) (g : Grants) → ((k : ℕ) → k < length g → IsWritten s g k) → AreWritten s g
all_written s g each =
    let at : (t : ℕ) → IsWritten s g t = λ t. elim (cases_lt t (length g)) [ inl lt ↦ each t lt | inr le ↦ none_written s g t (get_or_past g t None le) ] in
    (λ t. (at t).filter, λ t c. (at t).masks c)
