-- A copy of a view is seen as the view is.
use Rattle.std.proofs.Common.{◌≡◌, ℕ, suc, ◌+◌, List, [], ◌∷◌, length, slice_get, Option, Some, ap, subst, arith}
use Rattle.hq_base.specs.Json.{obj}
use Rattle.hq_base.specs.Lists.{Zip}
use Rattle.hq_base.proofs.Zips.{zip_weaken}
use Rattle.hq_model.specs.Database.{Row}
use Rattle.hq_model.specs.Grants.{Grants, limits}
use Rattle.hq_model.specs.Permitted.{permitted, seen_by}
use Rattle.hq_model.specs.Schema.{Schema, numbered}
use Rattle.hq_model.specs.View.{View, view_rows, seen_in}
use Rattle.hq_request_tree.specs.Allowed.{Allowed}
use Rattle.hq_request_tree.specs.Fields.{FieldTrees}
use Rattle.hq_laws_renumbered.specs.Resolving.Renumbering.{Renumbering}
use Rattle.hq_laws_renumbered.specs.Resolving.Copies.{AlikeUnder, StandsAt, IsCopy, AnsweredAlike}
use Rattle.hq_laws_renumbered.proofs.Resolving.Alike.{root_alike}

-- positions, and the items of a list that is as long
placed : {A B : Type 0} (xs : List A) (zs ys : List B) (k : ℕ) → length xs ≡ length ys → ((j : ℕ) → slice_get zs (k + j) ≡ slice_get ys j)
    → Zip (λ i y. slice_get zs i ≡ Some y) (numbered (λ i x. i) k xs) ys
placed [] zs [] k e h = tt
placed [] zs (y ∷ ys) k e h = absurd (omega arith)
placed (x ∷ xs) zs [] k e h = absurd (omega arith)
placed (x ∷ xs) zs (y ∷ ys) k e h =
    let here : k + 0 ≡ k = omega arith in
    let shorter : length xs ≡ length ys = omega arith in (
      subst (λ i. slice_get zs i ≡ Some y) here (h 0),
      placed xs zs ys (suc k) shorter (λ j. let next : k + suc j ≡ suc k + j = omega arith in subst (λ i. slice_get zs i ≡ slice_get ys j) next (h (suc j))),
    )

copy_alike : (s z : Schema) (n : Renumbering) (v : View) (ok : Allowed) (g : Grants) (d : List (List Row)) → IsCopy s z n v ok g d
    → AlikeUnder s z n (seen_in v) (seen_by z g d) ok (StandsAt z n ok g d)
copy_alike s z n v ok g d c = record {
  rows = λ t h.
      let rows = permitted z g d (n.table t) in
      zip_weaken (λ i row. slice_get rows i ≡ Some row) (StandsAt z n ok g d t) (λ i row e. (h, e)) _ _
      (placed (view_rows v t) rows rows 0 (c.counts t h) (λ j. let zeroth : 0 + j ≡ j = omega arith in ap (slice_get rows) zeroth));
  cells = λ t col i row h q. c.cells t col i row h q;
  links = λ t r i row j far h q g. c.links t r i row j far h q g;
  remotes = c.remotes;
  leads = λ t r i row h q. c.leads t r q.0 h;
  keys = c.keys;
}

pub answered_alike : (fs : FieldTrees) (s z : Schema) (n : Renumbering) (v : View) (ok : Allowed) (k : ℕ → Option ℕ) (g : Grants) (d : List (List Row)) → AnsweredAlike fs s z n v ok k g d
answered_alike fs s z n v ok k g d c same stand uses =
    ap obj (root_alike (copy_alike s z n v ok g d c) k (limits g) same fs (length s) (length z) 0 [] stand uses)
