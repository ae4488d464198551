-- Selection sets in classes of those that may be put together, and what is in dispute within a class.
use Rattle.std.specs.Prelude.{◌≡◌, ℕ, ◌<◌, List, [], length, filter, Bool, true, false, cond, ◌||◌, ◌&&◌, nat_eq, is_some, Option, Some, option_map, unwrap_or, slice_get}
use Rattle.std.specs.HashMap as hash
use Rattle.std.specs.List.{All}
use Rattle.hq_schema.specs.Schema.{SchemaTree}
use Rattle.hq_gql_tree.specs.Selections.{field_view}
use Rattle.hq_overlap_classes.specs.declared.classes.Classes.{Classes}
use Rattle.hq_overlap_classes.specs.declared.disputes.Disputes.{Disputes}
use Rattle.hq_overlap_classes.specs.declared.partition.Partition.{Partition}
use Rattle.hq_overlap_sets.specs.declared.sets.Entry.{Entry}
use Rattle.hq_overlap_sets.specs.Pairs.{fields_at, spreads_at, SameLabel}
use Rattle.hq_overlap_sets.specs.Sets.{FieldTree, SetTree, response_key, entry_view, place_in}

-- what is noted: the class of each set, a field of each class and key, one of each class, key and parent type, the keys in dispute in
-- a class, and the classes that have such a key or lead to one that has
pub record Noted : Type 0 where
  pub class : ℕ → ℕ
  pub first : (class : ℕ) → (key : List ℕ) → Option FieldTree
  pub label : (class : ℕ) → (key : List ℕ) → (parent : ℕ) → Option FieldTree
  pub disputed : (class : ℕ) → (key : List ℕ) → Bool
  pub concerned : (class : ℕ) → Bool

-- a field of a class shares the shape of one, and name and arguments of the one of its parent type
pub record IsSettled (n : Noted) (c : ℕ) (first a : FieldTree) : Type 0 where
  pub label : FieldTree
  pub noted : n.label c a.key a.parent ≡ Some label
  pub shape : first.shape ≡ a.shape
  pub same : SameLabel label.label a.label

-- what is noted is true of a field of a class
pub record IsTrueOf (n : Noted) (c : ℕ) (a : FieldTree) : Type 0 where
  pub first : FieldTree
  pub stands : n.first c a.key ≡ Some first
  pub below : n.class first.below ≡ n.class a.below
  pub settled : n.disputed c a.key ≡ false → IsSettled n c first a
  pub told : n.concerned c ≡ false → (n.disputed c a.key ≡ false) × (n.concerned (n.class a.below) ≡ false)

-- it is true of a set, and of all sets: classes are closed under spreads and under fields of one key
pub record IsTrueAt (n : Noted) (sets : List SetTree) (s : ℕ) : Type 0 where
  pub spreads : All (λ u. n.class u ≡ n.class s) (spreads_at sets s)
  pub fields : All (IsTrueOf n (n.class s)) (fields_at sets s)

abbrev pub IsTrueOfAll : Noted → List SetTree → Type 0
IsTrueOfAll n sets = (s : ℕ) → s < length sets → IsTrueAt n sets s

-- a field of a class is in dispute there, or leads to a class that is concerned
abbrev pub keeps : Noted → (class : ℕ) → FieldTree → Bool
keeps n c a = n.disputed c a.key || n.concerned (n.class a.below)

-- the sets without the other fields
abbrev pub kept_set : Noted → (number : ℕ) → SetTree → SetTree
kept_set n s x = cond (n.concerned (n.class s)) (record { fields = filter (keeps n (n.class s)) x.fields; spreads = x.spreads }) (record { fields = []; spreads = [] })

abbrev pub IsKeptBelow : Noted → List SetTree → List SetTree → (count : ℕ) → Type 0
IsKeptBelow n sets kept count = (s : ℕ) → s < count → slice_get kept s ≡ option_map (kept_set n s) (slice_get sets s)

pub record AreKept (n : Noted) (sets kept : List SetTree) : Type 0 where
  pub as_long : length kept ≡ length sets
  pub each : IsKeptBelow n sets kept (length sets)

-- what is noted in memory
abbrev pub class_of : Partition → ℕ → ℕ
class_of p number = unwrap_or (slice_get p.classes.items number) number

abbrev pub first_of : Classes → (class key : ℕ) → Option Entry
first_of x c k = hash.get (λ x y. nat_eq x.0 y.0 && nat_eq x.1 y.1) x.firsts (c, k)

abbrev pub label_of : Disputes → (class key parent : ℕ) → Option Entry
label_of d c k p = hash.get (λ x y. nat_eq x.0 y.0 && nat_eq x.1 y.1 && nat_eq x.2 y.2) d.labels (c, k, p)

abbrev pub is_disputed : Disputes → (class key : ℕ) → Bool
is_disputed d c k = is_some (hash.get (λ x y. nat_eq x.0 y.0 && nat_eq x.1 y.1) d.disputed (c, k))

abbrev pub is_concerned : Disputes → (class : ℕ) → Bool
is_concerned d c = unwrap_or (slice_get d.concerned.items c) true

abbrev pub key_number : Disputes → List ℕ → ℕ
key_number d key = place_in d.classes.keys key

-- whether a field in memory is kept
abbrev pub keeps_entry : Disputes → (class : ℕ) → Entry → Bool
keeps_entry d c e = is_disputed d c (key_number d (response_key (field_view e.field.now).0)) || is_concerned d (class_of d.classes.sets e.below)

abbrev pub noted_in : SchemaTree → Disputes → Noted
noted_in s d = record {
  class = class_of d.classes.sets;
  first = λ c k. option_map (entry_view s) (first_of d.classes c (key_number d k));
  label = λ c k p. option_map (entry_view s) (label_of d c (key_number d k) p);
  disputed = λ c k. is_disputed d c (key_number d k);
  concerned = is_concerned d;
}
