-- The selection sets of a document by their numbers: those of its definitions first, by the places of these, then the set below each
-- field. A field stands in the set that it is written in, or in whose inline fragments; only fields of known types are there.
use Rattle.std.specs.Prelude.{ℕ, ◌+◌, List, [], ◌∷◌, ◌++◌, length, map, Option, Some, option_map, option_and_then, unwrap_or}
use Rattle.std.specs.Borrow.{Bor}
use Rattle.std.specs.HashMap.{HashMap}
use Rattle.std.specs.Option.{option_to_list}
use Rattle.hq_schema.specs.Schema.{SchemaTree, schema_view, type_ref_view}
use Rattle.hq_gql_tree.specs.Values.{ArgumentTree}
use Rattle.hq_gql_tree.specs.Selections.{FieldHead, SelectionTree, field, spread, inline, SelectionTrees, no_selection, selection, field_view}
use Rattle.hq_gql_tree.specs.Documents.{DefinitionTree, operation, fragment, DocumentTree}
use Rattle.hq_gql_nodes.specs.Fragments.{Places, fragment_named}
use Rattle.hq_gql_nodes.specs.Names.{get_name}
use Rattle.hq_gql_nodes.specs.Known.{known_field, below_field, object_named, root_of}
use Rattle.hq_gql_nodes.specs.Nodes.{below_inline}
use Rattle.hq_overlap_sets.specs.declared.sets.Arena.{Arena}
use Rattle.hq_overlap_sets.specs.declared.sets.Entry.{Entry}
use Rattle.hq_overlap_sets.specs.declared.sets.Set.{Set}
use Rattle.hq_overlap_sets.specs.Shapes.{ShapeTree, shape_of}

-- what two fields of one parent type have to share: the name and the arguments
pub record LabelTree : Type 0 where
  pub name : List ℕ
  pub args : List ArgumentTree

-- a field: its place, response key, parent type, label, the shape of its type, and the number of the set below it
pub record FieldTree : Type 0 where
  pub at : ℕ
  pub key : List ℕ
  pub parent : ℕ
  pub label : LabelTree
  pub shape : ShapeTree
  pub below : ℕ

-- the fields of a selection set, and the numbers of the sets that its spreads put in
pub record SetTree : Type 0 where
  pub fields : List FieldTree
  pub spreads : List ℕ

abbrev pub response_key : FieldHead → List ℕ
response_key h = unwrap_or h.alias h.name

abbrev pub label_of : FieldHead → LabelTree
label_of h = record { name = h.name; args = h.args }

-- a field of a parent type, where its type is known
abbrev pub seen_field : SchemaTree → Option ℕ → FieldHead → (below : ℕ) → Option FieldTree
seen_field s parent h below =
    option_and_then (λ t.
    option_map (λ f. record { at = h.at; key = response_key h; parent = t; label = label_of h; shape = shape_of s f.ty; below = below })
    (known_field s (Some t) h.name))
    parent

-- how many fields selections have, also below
abbrev mutual
  pub field_count_of : SelectionTree → ℕ
  field_count_of (field h below) = field_count below + 1
  field_count_of (spread x) = 0
  field_count_of (inline h below) = field_count below

  pub field_count : SelectionTrees → ℕ
  field_count no_selection = 0
  field_count (selection x more) = field_count_of x + field_count more

-- the fields that stand in selections themselves; the sets below are numbered from n, each after those within it
abbrev mutual
  pub own_fields_of : SchemaTree → (n : ℕ) → (parent : Option ℕ) → SelectionTree → List FieldTree
  own_fields_of s n parent (field h below) = option_to_list (seen_field s parent h (n + field_count below))
  own_fields_of s n parent (spread x) = []
  own_fields_of s n parent (inline h below) = own_fields s n (below_inline s parent h.cond) below

  pub own_fields : SchemaTree → (n : ℕ) → (parent : Option ℕ) → SelectionTrees → List FieldTree
  own_fields s n parent no_selection = []
  own_fields s n parent (selection x more) = own_fields_of s n parent x ++ own_fields s (n + field_count_of x) parent more

-- the fragments that they spread
abbrev mutual
  pub own_spreads_of : Places → SelectionTree → List ℕ
  own_spreads_of places (field h below) = []
  own_spreads_of places (spread x) = option_to_list (places x.name)
  own_spreads_of places (inline h below) = own_spreads places below

  pub own_spreads : Places → SelectionTrees → List ℕ
  own_spreads places no_selection = []
  own_spreads places (selection x more) = own_spreads_of places x ++ own_spreads places more

-- the set that selections are
abbrev pub set_of : SchemaTree → Places → (n : ℕ) → (parent : Option ℕ) → SelectionTrees → SetTree
set_of s places n parent xs = record { fields = own_fields s n parent xs; spreads = own_spreads places xs }

-- the sets below the fields of selections
abbrev mutual
  pub inner_sets_of : SchemaTree → Places → (n : ℕ) → (parent : Option ℕ) → SelectionTree → List SetTree
  inner_sets_of s places n parent (field h below) =
      inner_sets s places n (below_field s parent h.name) below ++ (set_of s places n (below_field s parent h.name) below ∷ [])
  inner_sets_of s places n parent (spread x) = []
  inner_sets_of s places n parent (inline h below) = inner_sets s places n (below_inline s parent h.cond) below

  pub inner_sets : SchemaTree → Places → (n : ℕ) → (parent : Option ℕ) → SelectionTrees → List SetTree
  inner_sets s places n parent no_selection = []
  inner_sets s places n parent (selection x more) = inner_sets_of s places n parent x ++ inner_sets s places (n + field_count_of x) parent more

-- the parent type and the selections of a definition
abbrev pub parent_of : SchemaTree → DefinitionTree → Option ℕ
parent_of s (operation o) = root_of s o.kind
parent_of s (fragment f) = object_named s f.cond.name

abbrev pub selections_of_definition : DefinitionTree → SelectionTrees
selections_of_definition (operation o) = o.selections
selections_of_definition (fragment f) = f.selections

-- the sets of definitions, and those below their fields
abbrev pub roots : SchemaTree → Places → (n : ℕ) → DocumentTree → List SetTree
roots s places n [] = []
roots s places n (x ∷ d) = set_of s places n (parent_of s x) (selections_of_definition x) ∷ roots s places (n + field_count (selections_of_definition x)) d

abbrev pub below_roots : SchemaTree → Places → (n : ℕ) → DocumentTree → List SetTree
below_roots s places n [] = []
below_roots s places n (x ∷ d) =
    inner_sets s places n (parent_of s x) (selections_of_definition x) ++ below_roots s places (n + field_count (selections_of_definition x)) d

abbrev pub document_sets : SchemaTree → DocumentTree → List SetTree
document_sets s d = roots s (fragment_named d) (length d) d ++ below_roots s (fragment_named d) (length d) d

-- what fields and sets in memory are seen as
abbrev pub entry_view : SchemaTree → Entry → FieldTree
entry_view s e = record {
  at = e.field.now.at;
  key = response_key (field_view e.field.now).0;
  parent = e.parent;
  label = label_of (field_view e.field.now).0;
  shape = shape_of s (type_ref_view e.def.now.ty);
  below = e.below;
}

abbrev pub set_view : SchemaTree → Set → SetTree
set_view s x = record { fields = map (entry_view s) x.entries.items; spreads = x.spreads.items }

abbrev pub arena_view : Arena → List SetTree
arena_view a = map (set_view (schema_view a.schema.now)) a.sets.items

-- a field and a set, seen by an arena's schema
abbrev pub field_in : Arena → Entry → FieldTree
field_in a e = entry_view (schema_view a.schema.now) e

abbrev pub set_in : Arena → Set → SetTree
set_in a x = set_view (schema_view a.schema.now) x

-- the place of a key, one beyond each list where it has none
abbrev pub place_in : {S : Type 0} → HashMap (Bor (List ℕ)) ℕ S → (key : List ℕ) → ℕ
place_in places key = unwrap_or (get_name places key) 18446744073709551615
