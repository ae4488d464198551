-- Fields that are added to a map of groups.
use Rattle.std.proofs.Common.{◌≡◌, ◌∙◌, ℕ, true, false, List, [], ◌∷◌, ◌++◌, map, Some, None, bytes_eq, refl, ap}
use Rattle.std.proofs.lemmas.List.{map-append}
use Rattle.std.specs.Borrow.{Bor}
use Rattle.std.specs.Map.{lookup, set_value}
use Rattle.indexmap.specs.IndexMap.{insert_entry}
use Rattle.hq_gql_tree.specs.declared.selection.Field.{Field}
use Rattle.hq_gql_tree.specs.Selections.{FieldTree, field_view}
use Rattle.hq_request_collect.specs.declared.groups.Nodes.{Nodes}
use Rattle.hq_request_collect.specs.Groups.{Group, grouped}
use Rattle.hq_request_collect.specs.Seen.{group_seen, groups_seen}

-- a group with one more field
abbrev pub with_other : Group → FieldTree → Group
with_other g f = record { key = g.key; first = g.first; others = g.others ++ f ∷ [] }

-- a field goes to the group of its key, which is there
pub added_there : (k : List ℕ) (f : FieldTree) (old new : Nodes) (es : List (List ℕ × Nodes)) → Some old ≡ lookup (bytes_eq k) es
    → ((key : List ℕ) → group_seen (key, new) ≡ with_other (group_seen (key, old)) f)
    → groups_seen (set_value (bytes_eq k) es new) ≡ grouped (groups_seen es) k f
added_there k f old new [] found more = cc
added_there k f old new (e ∷ es) found more = (elim (bytes_eq k e.0) as (λ b. bytes_eq k e.0 ≡ b → groups_seen (set_value (bytes_eq k) (e ∷ es) new) ≡ grouped (groups_seen (e ∷ es)) k f) [
  | true ↦ λ t. let g = rw t at found in let same : old ≡ e.1 = cc in rw t (ap (λ x. x ∷ groups_seen es) (more e.0 ∙ ap (λ n. with_other (group_seen (e.0, n)) f) same))
  | false ↦ λ t. rw t (ap (λ gs. group_seen e ∷ gs) (added_there k f old new es (rw t at found) more))
]) refl

-- a field of a new key goes last
pub added_new : (k : List ℕ) (f : FieldTree) (name : List ℕ) (new : Nodes) (es : List (List ℕ × Nodes)) → None ≡ lookup (bytes_eq k) es → name ≡ k
    → group_seen (k, new) ≡ record { key = k; first = f; others = [] }
    → groups_seen (insert_entry bytes_eq es name new) ≡ grouped (groups_seen es) k f
added_new k f name new [] none is one = rw (is, one) refl
added_new k f name new (e ∷ es) none is one = (elim (bytes_eq k e.0) as (λ b. bytes_eq k e.0 ≡ b → groups_seen (insert_entry bytes_eq (e ∷ es) name new) ≡ grouped (groups_seen (e ∷ es)) k f) [
  | true ↦ λ t. let g = rw t at none in cc
  | false ↦ λ t. let u : bytes_eq name e.0 ≡ false = ap (λ ks. bytes_eq ks e.0) is ∙ t in rw (t, u) (ap (λ gs. group_seen e ∷ gs) (added_new k f name new es (rw t at none) is one))
]) refl

-- a field more behind the others of a group
pub one_more : (key : List ℕ) (f : Bor Field) (old new : Nodes) → new.first ≡ old.first → new.others.items ≡ old.others.items ++ f ∷ []
    → group_seen (key, new) ≡ with_other (group_seen (key, old)) (field_view f.now)
one_more key f old new same more =
    ap (λ (x : Bor Field). let g : Group = record { key = key; first = field_view x.now; others = map (λ (f : Bor Field). field_view f.now) new.others.items } in g) same
    ∙ ap (λ (xs : List FieldTree). let g : Group = record { key = key; first = field_view old.first.now; others = xs } in g)
    (ap (map (λ (f : Bor Field). field_view f.now)) more ∙ map-append (λ (f : Bor Field). field_view f.now) old.others.items (f ∷ []))

-- a group of one field
pub one_alone : (key : List ℕ) (f : Bor Field) (new : Nodes) → new.first ≡ f → new.others.items ≡ [] → group_seen (key, new) ≡ record { key = key; first = field_view f.now; others = [] }
one_alone key f new same none =
    ap (λ (x : Bor Field). let g : Group = record { key = key; first = field_view x.now; others = map (λ (f : Bor Field). field_view f.now) new.others.items } in g) same
    ∙ ap (λ (xs : List (Bor Field)). let g : Group = record { key = key; first = field_view f.now; others = map (λ (f : Bor Field). field_view f.now) xs } in g) none
