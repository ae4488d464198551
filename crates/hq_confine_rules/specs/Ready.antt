-- What a request and what it is granted must be, that its statement is confined: it uses what is granted.
use Rattle.std.specs.Prelude.{◌≡◌, ℕ, ◌<◌, ◌≤◌, ◌^◌, List, [], ◌∷◌, length, true, false, Some, None, is_some, slice_index_or, ◌==◌}
use Rattle.std.specs.List.{list_any}
use Rattle.hq_base.specs.Lists.{Each}
use Rattle.hq_model.specs.Bexp.{BexpTree, always, and_of, or_of, not_of, test, through, exists_in, two_columns, BexpTrees, no_bexp, bexp}
use Rattle.hq_model.specs.Grants.{Grants, grant}
use Rattle.hq_model.specs.Permission.{Mask}
use Rattle.hq_model.specs.Permitted.{mask_of}
use Rattle.hq_model.specs.Schema.{Schema, table, rel}
use Rattle.hq_model.specs.Selected.{ListArguments, entries}
use Rattle.hq_request_tree.specs.Fields.{Origin, from_table, along, FieldTrees, no_field, field, FieldTree, column, typename, no_queries, object, list, by_key, aggregate, introspect, PartTrees, no_part, part, PartTree, summary, nodes, part_typename}
use Rattle.hq_request_tree.specs.Resolve.{origin_table}
use Rattle.hq_translation.specs.Aggregates.{needed}
use Rattle.hq_translation.specs.Fields.{fields_used, key_used}
use Rattle.hq_translation.specs.Fine.{Has}
use Rattle.hq_translation.specs.Lists.{once, list_sorts, list_used}
use Rattle.hq_translation.specs.Looks.{name_of, is_used}
use Rattle.hq_translation.specs.Predicates.{columns_in}
use Rattle.hq_translation.specs.Sorts.{Sort, last_used}
use Rattle.hq_confine_rules.specs.Members.{has_mask, is_permitted}
use Rattle.hq_confine_rules.specs.Origins.{table_place, column_place}

-- a mask is the one of a permitted column
pub record IsMask (s : Schema) (g : Grants) (t : ℕ) (m : Mask) : Type 0 where
  pub has : Has s t m.column
  pub permitted : is_permitted (grant g t) m.column ≡ true
  pub masked : has_mask (grant g t) m.column ≡ true
  pub is : mask_of (grant g t).masks m.column ≡ m.shown

-- a table of the catalog, of which something is granted: it stands under its name, and its columns under theirs; its key is of
-- different columns
pub record Ready (s : Schema) (g : Grants) (t : ℕ) : Type 0 where
  pub place : table_place s (table s t).schema (table s t).name ≡ t
  pub granted : is_some (slice_index_or g t None) ≡ true
  pub names : (c : ℕ) → Has s t c → column_place s t (name_of (table s t).columns c) ≡ Some c
  pub key : Each (Has s t) (table s t).key
  pub first : ℕ
  pub rest : List ℕ
  pub keyed : (table s t).key ≡ first ∷ rest
  pub differ : list_any (λ d. d == first) rest ≡ false
  pub masks : Each (IsMask s g t) (grant g t).masks

-- these columns are the table's, and permitted
abbrev pub Permits : Schema → Grants → (t : ℕ) → List ℕ → Type 0
Permits s g t cs = (c : ℕ) → is_used c cs ≡ true → Has s t c × (is_permitted (grant g t) c ≡ true)

-- a relationship of a table leads to one that is ready
pub record Leads (s : Schema) (g : Grants) (t r : ℕ) : Type 0 where
  pub within : r < length (table s t).rels
  pub ready : Ready s g (rel s t r).remote

-- what a `where` asks is there and permitted
abbrev mutual
  pub Allowed : BexpTree → Schema → Grants → (t : ℕ) → Type 0
  Allowed always s g t = Unit {0}
  Allowed (and_of bs) s g t = AllAllowed bs s g t
  Allowed (or_of bs) s g t = AllAllowed bs s g t
  Allowed (not_of b) s g t = Allowed b s g t
  Allowed (test c tested vs negated) s g t = Unit {0}
  Allowed (through r b) s g t = Leads s g t r × Permits s g (rel s t r).remote (columns_in b) × Allowed b s g (rel s t r).remote
  Allowed (exists_in u b) s g t = Ready s g u × Permits s g u (columns_in b) × Allowed b s g u
  Allowed (two_columns l op r) s g t = Unit {0}

  pub AllAllowed : BexpTrees → Schema → Grants → (t : ℕ) → Type 0
  AllAllowed no_bexp s g t = Unit {0}
  AllAllowed (bexp b bs) s g t = Allowed b s g t × AllAllowed bs s g t

-- relationships one after the other, and a column at their end
abbrev pub AllowedChain : (through : List ℕ) → Schema → Grants → (t c : ℕ) → Type 0
AllowedChain [] s g t c = Unit {0}
AllowedChain (r ∷ rs) s g t c = Leads s g t r × Permits s g (rel s t r).remote (last_used rs c) × AllowedChain rs s g (rel s t r).remote c

abbrev pub AllowedSort : Schema → Grants → (t : ℕ) → Sort → Type 0
AllowedSort s g t k = AllowedChain k.key.through s g t k.key.column

-- ---- lists

-- the arguments of a list of rows of table u, which uses these further columns
pub record AllowedList (s : Schema) (g : Grants) (u : ℕ) (a : ListArguments) (more : List ℕ) : Type 0 where
  pub permits : Permits s g u (list_used s u a more)
  pub wanted : Allowed a.wanted s g u
  pub sorted : Each (λ k. AllowedSort s g u (record { own = false; key = k })) (entries (once a))
  pub few : length (list_sorts s u a) ≤ 2 ^ 64

-- a list is of a table that is ready, or along a relationship that leads to one
abbrev pub AllowedOrigin : Origin → Schema → Grants → (t : ℕ) → Type 0
AllowedOrigin (from_table u) s g t = Ready s g u
AllowedOrigin (along r) s g t = Leads s g t r

-- ---- fields

abbrev mutual
  pub AllowedFields : FieldTrees → Schema → Grants → (t : ℕ) → Type 0
  AllowedFields no_field s g t = Unit {0}
  AllowedFields (field key f fs) s g t = AllowedField f s g t × AllowedFields fs s g t

  pub AllowedField : FieldTree → Schema → Grants → (t : ℕ) → Type 0
  AllowedField (column c) s g t = Unit {0}
  AllowedField (typename name) s g t = Unit {0}
  AllowedField no_queries s g t = Unit {0}
  AllowedField (object r fs) s g t = Leads s g t r × Permits s g (rel s t r).remote (fields_used fs) × AllowedFields fs s g (rel s t r).remote
  AllowedField (list o a fs) s g t = AllowedOrigin o s g t × AllowedList s g (origin_table o s t) a (fields_used fs) × AllowedFields fs s g (origin_table o s t)
  AllowedField (by_key u key fs) s g t = Ready s g u × Permits s g u (key_used s u fs) × AllowedFields fs s g u
  AllowedField (aggregate o a ps) s g t = AllowedOrigin o s g t × AllowedParts ps s g (origin_table o s t) a
  AllowedField (introspect f) s g t = Unit {0}

  pub AllowedParts : PartTrees → Schema → Grants → (u : ℕ) → ListArguments → Type 0
  AllowedParts no_part s g u a = Unit {0}
  AllowedParts (part key p ps) s g u a = AllowedPart p s g u a × AllowedParts ps s g u a

  pub AllowedPart : PartTree → Schema → Grants → (u : ℕ) → ListArguments → Type 0
  AllowedPart (summary fs) s g u a = AllowedList s g u a (needed fs [])
  AllowedPart (nodes fs) s g u a = AllowedList s g u a (fields_used fs) × AllowedFields fs s g u
  AllowedPart (part_typename name) s g u a = Unit {0}
