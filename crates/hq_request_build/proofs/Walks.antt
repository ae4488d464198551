-- Walks over collected fields: each field is read, and the first refusal ends the walk.
use Rattle.std.proofs.Common.{◌≡◌, ◌∙◌, refl, sym, ap, ℕ, ◌+◌, ◌<◌, length, drop, get_or, List, [], ◌∷◌, ◌++◌, Result, Ok, Err}
use Rattle.std.proofs.lemmas.List.{at_drop_more}
use Rattle.hq_base.specs.Due.{mapped, and_then}
use Rattle.hq_request_collect.specs.TreeSeen.{FieldSeen, collected_view, parts_seen}
use Rattle.hq_request_collect.specs.declared.tree.CollectedField.{CollectedField}
use Rattle.hq_request_collect.proofs.Trees.{view_out}

-- what is read so far, in front of more
abbrev pub front : {B C : Type 0} → (List ℕ → B → C → C) → List (List ℕ × B) → C → C
front put [] c = c
front put (p ∷ ps) c = put p.0 p.1 (front put ps c)

pub front_more : {B C : Type 0} (put : List ℕ → B → C → C) (ps : List (List ℕ × B)) (p : List ℕ × B) (c : C) → front put (ps ++ p ∷ []) c ≡ front put ps (put p.0 p.1 c)
front_more put [] p c = refl
front_more put (q ∷ ps) p c = ap (put q.0 q.1) (front_more put ps p c)

module _ {B C E : Type 0} (put : List ℕ → B → C → C) (here : FieldSeen → Result B E) (F : List CollectedField → Result C E)
    (first : (f : CollectedField) (fs : List CollectedField) → F (f ∷ fs) ≡ and_then (λ x. mapped (put (collected_view f).key x) (F fs)) (here (collected_view f))) where
  grown : (done : List (List ℕ × B)) (p : List ℕ × B) (rest : Result C E) → mapped (front put done) (mapped (put p.0 p.1) rest) ≡ mapped (front put (done ++ p ∷ [])) rest
  grown done p (Ok c) = ap Ok (sym (front_more put done p c))
  grown done p (Err e) = refl

  at_place : (fs : List CollectedField) (i : ℕ) (f : CollectedField) → i < length fs → f ≡ get_or fs i f
      → F (drop i fs) ≡ and_then (λ x. mapped (put (parts_seen f).key x) (F (drop (i + 1) fs))) (here (parts_seen f))
  at_place fs i f below is =
      at_drop_more F fs i f below ∙ ap (λ g. F (g ∷ drop (i + 1) fs)) (sym is) ∙ first f (drop (i + 1) fs)
      ∙ ap (λ (s : FieldSeen). and_then (λ x. mapped (put s.key x) (F (drop (i + 1) fs))) (here s)) (view_out f)

  -- a field is read, and the walk goes on behind it
  pub walk_more : (fs : List CollectedField) (i : ℕ) (f : CollectedField) (done more : List (List ℕ × B)) (x : B) (whole : Result C E)
      → whole ≡ mapped (front put done) (F (drop i fs)) → i < length fs → f ≡ get_or fs i f → here (parts_seen f) ≡ Ok x → more ≡ done ++ ((parts_seen f).key, x) ∷ []
      → whole ≡ mapped (front put more) (F (drop (i + 1) fs))
  walk_more fs i f done more x whole so_far below is given grows =
      so_far
      ∙ ap (mapped (front put done)) (at_place fs i f below is ∙ ap (and_then (λ y. mapped (put (parts_seen f).key y) (F (drop (i + 1) fs)))) given)
      ∙ grown done ((parts_seen f).key, x) (F (drop (i + 1) fs))
      ∙ ap (λ ps. mapped (front put ps) (F (drop (i + 1) fs))) (sym grows)

  -- a field is refused, and so the whole
  pub walk_refused : (fs : List CollectedField) (i : ℕ) (f : CollectedField) (done : List (List ℕ × B)) (e : E) (whole : Result C E)
      → whole ≡ mapped (front put done) (F (drop i fs)) → i < length fs → f ≡ get_or fs i f → here (parts_seen f) ≡ Err e → whole ≡ Err e
  walk_refused fs i f done e whole so_far below is given =
      so_far ∙ ap (mapped (front put done)) (at_place fs i f below is ∙ ap (and_then (λ y. mapped (put (parts_seen f).key y) (F (drop (i + 1) fs)))) given)
