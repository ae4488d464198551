-- The selection sets of a document are the same in a schema without origins, and so are the fields that can't be merged.
use Rattle.std.proofs.Common.{◌≡◌, ◌∙◌, ℕ, ◌+◌, List, [], ◌∷◌, ◌++◌, Option, Some, is_some, cond, option_map, option_to_list, length, refl, ap, ap₂}
use Rattle.hq_schema.specs.Schema.{TypeRefTree, SchemaTree}
use Rattle.hq_schema.specs.Schema as schema
use Rattle.hq_gql_tree.specs.Selections.{FieldHead, SelectionTree, field, spread, inline, SelectionTrees, no_selection, selection}
use Rattle.hq_gql_tree.specs.Documents.{DefinitionTree, operation, fragment, DocumentTree}
use Rattle.hq_gql_nodes.specs.Fragments.{Places, fragment_named}
use Rattle.hq_gql_nodes.specs.Known.{known_field, below_field}
use Rattle.hq_gql_nodes.specs.Nodes.{below_inline}
use Rattle.hq_overlap_sets.specs.Places.{overlap_in, overlap_place}
use Rattle.hq_overlap_sets.specs.Sets.{FieldTree, SetTree, response_key, label_of, seen_field, field_count, field_count_of, own_fields_of, own_fields, own_spreads, set_of, inner_sets_of, inner_sets, parent_of, selections_of_definition, roots, below_roots, document_sets}
use Rattle.hq_overlap_sets.specs.Shapes.{ShapeTree, leaf, object, list_of, non_null, shape_of}
use Rattle.hq_laws_renumbered.specs.Schemas.Blank.{blank_field, blank}
use Rattle.hq_laws_renumbered.proofs.Rules.Lists.{and_alike, maps_alike}
use Rattle.hq_laws_renumbered.proofs.Rules.Known.{same_object, blank_known, same_below, same_inline, same_root, same_object_named}

same_shape : (s : SchemaTree) (r : TypeRefTree) → shape_of (blank s) r ≡ shape_of s r
same_shape s (schema.named t) = ap (λ o. cond (is_some o) object (leaf t)) (same_object s t)
same_shape s (schema.list_of r) = ap list_of (same_shape s r)
same_shape s (schema.non_null r) = ap non_null (same_shape s r)

same_seen : (s : SchemaTree) (parent : Option ℕ) (h : FieldHead) (n : ℕ) → seen_field (blank s) parent h n ≡ seen_field s parent h n
same_seen s parent h n =
    let of_shape : ℕ → ShapeTree → FieldTree = λ t shape. record { at = h.at; key = response_key h; parent = t; label = label_of h; shape = shape; below = n } in
    let seen : SchemaTree → ℕ → schema.FieldTree → FieldTree = λ z t f. of_shape t (shape_of z f.ty) in
    and_alike (λ t. option_map (seen (blank s) t) (known_field (blank s) (Some t) h.name)) (λ t. option_map (seen s t) (known_field s (Some t) h.name))
    (λ t. ap (option_map (seen (blank s) t)) (blank_known s (Some t) h.name)
    ∙ maps_alike blank_field (seen (blank s) t) (seen s t) (λ f. ap (of_shape t) (same_shape s f.ty)) (known_field s (Some t) h.name))
    parent

mutual
  same_own_of : (s : SchemaTree) (n : ℕ) (parent : Option ℕ) (x : SelectionTree) → own_fields_of (blank s) n parent x ≡ own_fields_of s n parent x
  same_own_of s n parent (field h below) = ap option_to_list (same_seen s parent h (n + field_count below))
  same_own_of s n parent (spread x) = refl
  same_own_of s n parent (inline h below) = ap (λ p. own_fields (blank s) n p below) (same_inline s parent h.cond) ∙ same_own s n (below_inline s parent h.cond) below

  same_own : (s : SchemaTree) (n : ℕ) (parent : Option ℕ) (xs : SelectionTrees) → own_fields (blank s) n parent xs ≡ own_fields s n parent xs
  same_own s n parent no_selection = refl
  same_own s n parent (selection x more) = ap₂ (λ (a b : List FieldTree). a ++ b) (same_own_of s n parent x) (same_own s (n + field_count_of x) parent more)

same_set : (s : SchemaTree) (places : Places) (n : ℕ) (parent : Option ℕ) (xs : SelectionTrees) → set_of (blank s) places n parent xs ≡ set_of s places n parent xs
same_set s places n parent xs =
    let make : List FieldTree → SetTree = λ fields. record { fields = fields; spreads = own_spreads places xs } in
    ap make (same_own s n parent xs)

mutual
  same_inner_of : (s : SchemaTree) (places : Places) (n : ℕ) (parent : Option ℕ) (x : SelectionTree) → inner_sets_of (blank s) places n parent x ≡ inner_sets_of s places n parent x
  same_inner_of s places n parent (field h below) =
      let t = below_field s parent h.name in
      ap (λ p. inner_sets (blank s) places n p below ++ (set_of (blank s) places n p below ∷ [])) (same_below s parent h.name)
      ∙ ap₂ (λ (a : List SetTree) (b : SetTree). a ++ (b ∷ [])) (same_inner s places n t below) (same_set s places n t below)
  same_inner_of s places n parent (spread x) = refl
  same_inner_of s places n parent (inline h below) = ap (λ p. inner_sets (blank s) places n p below) (same_inline s parent h.cond) ∙ same_inner s places n (below_inline s parent h.cond) below

  same_inner : (s : SchemaTree) (places : Places) (n : ℕ) (parent : Option ℕ) (xs : SelectionTrees) → inner_sets (blank s) places n parent xs ≡ inner_sets s places n parent xs
  same_inner s places n parent no_selection = refl
  same_inner s places n parent (selection x more) = ap₂ (λ (a b : List SetTree). a ++ b) (same_inner_of s places n parent x) (same_inner s places (n + field_count_of x) parent more)

same_parent : (s : SchemaTree) (x : DefinitionTree) → parent_of (blank s) x ≡ parent_of s x
same_parent s (operation o) = same_root s o.kind
same_parent s (fragment f) = same_object_named s f.cond.name

same_roots : (s : SchemaTree) (places : Places) (n : ℕ) (d : DocumentTree) → roots (blank s) places n d ≡ roots s places n d
same_roots s places n [] = refl
same_roots s places n (x ∷ d) =
    let xs = selections_of_definition x in
    ap (λ p. set_of (blank s) places n p xs ∷ roots (blank s) places (n + field_count xs) d) (same_parent s x)
    ∙ ap₂ (λ (a : SetTree) (b : List SetTree). a ∷ b) (same_set s places n (parent_of s x) xs) (same_roots s places (n + field_count xs) d)

same_below_roots : (s : SchemaTree) (places : Places) (n : ℕ) (d : DocumentTree) → below_roots (blank s) places n d ≡ below_roots s places n d
same_below_roots s places n [] = refl
same_below_roots s places n (x ∷ d) =
    let xs = selections_of_definition x in
    ap (λ p. inner_sets (blank s) places n p xs ++ below_roots (blank s) places (n + field_count xs) d) (same_parent s x)
    ∙ ap₂ (λ (a b : List SetTree). a ++ b) (same_inner s places n (parent_of s x) xs) (same_below_roots s places (n + field_count xs) d)

same_sets : (s : SchemaTree) (d : DocumentTree) → document_sets (blank s) d ≡ document_sets s d
same_sets s d = ap₂ (λ (a b : List SetTree). a ++ b) (same_roots s (fragment_named d) (length d) d) (same_below_roots s (fragment_named d) (length d) d)

-- fields that can't be merged
pub same_overlap : (s : SchemaTree) (d : DocumentTree) → overlap_place (blank s) d ≡ overlap_place s d
unfolding overlap_place
same_overlap s d = ap overlap_in (same_sets s d)
