-- The pairs of fields that the rule reaches, and its answer (GraphQL October 2021, 5.3.2).
use Rattle.std.specs.Prelude.{◌≡◌, ◌≢◌, ℕ, ◌<◌, ◌≤◌, max, List, [], Option, Some, None, length, slice_get, ◌⊎◌, ⊤, MatchOption}
use Rattle.std.specs.List.{Contains}
use Rattle.hq_schema.specs.Schema.{SchemaTree}
use Rattle.hq_gql_tree.specs.Documents.{DocumentTree}
use Rattle.hq_overlap_sets.specs.Literals.{SameArguments}
use Rattle.hq_overlap_sets.specs.Sets.{LabelTree, FieldTree, SetTree, document_sets}

abbrev pub fields_in : Option SetTree → List FieldTree
fields_in None = []
fields_in (Some s) = s.fields

abbrev pub spreads_in : Option SetTree → List ℕ
spreads_in None = []
spreads_in (Some s) = s.spreads

-- the fields of the set of a number, and the sets that it spreads
abbrev pub fields_at : List SetTree → ℕ → List FieldTree
fields_at sets s = fields_in (slice_get sets s)

abbrev pub spreads_at : List SetTree → ℕ → List ℕ
spreads_at sets s = spreads_in (slice_get sets s)

-- a field of a selection set with its fragments put in
pub data Within (sets : List SetTree) : ℕ → FieldTree → Type 0 where
  here : {s : ℕ} {a : FieldTree} → Contains (fields_at sets s) a → Within sets s a
  spread : {s t : ℕ} {a : FieldTree} → Contains (spreads_at sets s) t → Within sets t a → Within sets s a

-- two fields that the rule reaches together: from a selection set, and below two such fields of one key
pub data Reached (sets : List SetTree) : FieldTree → FieldTree → Type 0 where
  in_one : {s : ℕ} {a b : FieldTree} → s < length sets → Within sets s a → Within sets s b → Reached sets a b
  below : {a b c d : FieldTree} → Reached sets a b → a.key ≡ b.key → Within sets a.below c → Within sets b.below d → Reached sets c d

-- the same name and the same arguments
abbrev pub SameLabel : LabelTree → LabelTree → Type 0
SameLabel l m = (l.name ≡ m.name) × SameArguments l.args m.args

-- two fields that cannot merge
abbrev pub Violates : FieldTree → FieldTree → Type 0
Violates a b = (a.key ≡ b.key) × ((a.shape ≢ b.shape) ⊎ ((a.parent ≡ b.parent) × (SameLabel a.label b.label → ⊥)))

-- the place of the later one
abbrev pub later : FieldTree → FieldTree → ℕ
later a b = max a.at b.at

-- at most this place, where there is one
abbrev pub AtMost : Option ℕ → ℕ → Type 0
AtMost None n = ⊥
AtMost (Some p) n = p ≤ n

-- the least place of a later field of two reached ones that cannot merge; none where there are no such two
pub record IsFirst (sets : List SetTree) (answer : Option ℕ) : Type 0 where
  pub found : MatchOption answer ⊤ (λ p. (a : FieldTree) × (b : FieldTree) × Reached sets a b × Violates a b × (later a b ≡ p))
  pub least : (a b : FieldTree) → Reached sets a b → Violates a b → AtMost answer (later a b)

-- 5.3.2: the least place at which a document violates the rule
abbrev pub IsOverlap : SchemaTree → DocumentTree → Option ℕ → Type 0
IsOverlap s d answer = IsFirst (document_sets s d) answer
