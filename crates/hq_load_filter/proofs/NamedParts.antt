-- What a member names is there.
use Rattle.std.proofs.Common.{◌≡◌, refl, ℕ, Bool, true, false, cond, List, [], ◌∷◌, Option, Some, None}
use Rattle.std.specs.Prelude.{⊤, slice_get, position, option_map, is_some, bytes_eq, codes}
use Rattle.std.specs.Option.{option_or}
use Rattle.std.proofs.lemmas.List.Quantifiers.{position-Some}
use Rattle.std.proofs.lemmas.Option.{slice_get-get_or}
use Rattle.hq_model.specs.Schema.{SchemaTable}
use Rattle.hq_load_filter.specs.declared.named.Named.{Named}
use Rattle.hq_load_filter.specs.declared.named.Named.TheVariants.{And, Or, Not, Exists, Column, Relationship}
use Rattle.hq_load_filter.specs.Named.{connective_named, column_named, rel_named, named}

-- a column or relationship that is named stands in the table
abbrev pub IsThere : SchemaTable → Option Named → Type 0
IsThere t None = ⊤
IsThere t (Some And) = ⊤
IsThere t (Some Or) = ⊤
IsThere t (Some Not) = ⊤
IsThere t (Some Exists) = ⊤
IsThere t (Some (Column c)) = is_some (slice_get t.columns c) ≡ true
IsThere t (Some (Relationship r)) = is_some (slice_get t.rels r) ≡ true

-- what is found at a place is there
found : {A : Type 0} (test : A → Bool) (xs : List A) (i : ℕ) → position test xs ≡ Some i → is_some (slice_get xs i) ≡ true
found test [] i e = cc
found test (x ∷ xs) i e = rw (slice_get-get_or (x ∷ xs) i x (position-Some test (x ∷ xs) i x e).0) refl

-- of two names the one that counts
either_there : (t : SchemaTable) (a b : Option Named) → IsThere t a → IsThere t b → IsThere t (option_or a b)
either_there t None b h k = k
either_there t (Some n) b h k = h

connective_there : (t : SchemaTable) (a b c d : Bool) → IsThere t (cond a (Some And) (cond b (Some Or) (cond c (Some Not) (cond d (Some Exists) None))))
connective_there t true b c d = tt
connective_there t false true c d = tt
connective_there t false false true d = tt
connective_there t false false false true = tt
connective_there t false false false false = tt

column_there : (t : SchemaTable) (o : Option ℕ) → ((c : ℕ) → o ≡ Some c → is_some (slice_get t.columns c) ≡ true) → IsThere t (option_map Column o)
column_there t None h = tt
column_there t (Some c) h = h c refl

rel_there : (t : SchemaTable) (o : Option ℕ) → ((r : ℕ) → o ≡ Some r → is_some (slice_get t.rels r) ≡ true) → IsThere t (option_map Relationship o)
rel_there t None h = tt
rel_there t (Some r) h = h r refl

-- what a member names is there
pub named_there : (t : SchemaTable) (name : List ℕ) → IsThere t (named t name)
unfolding named connective_named column_named rel_named
named_there t name =
    either_there t (connective_named name) _ (connective_there t (bytes_eq name (codes "_and")) (bytes_eq name (codes "_or")) (bytes_eq name (codes "_not")) (bytes_eq name (codes "_exists")))
    (either_there t (option_map Column (column_named t name)) (option_map Relationship (rel_named t name))
    (column_there t (column_named t name) (found (λ c. bytes_eq c.name name) t.columns))
    (rel_there t (rel_named t name) (found (λ r. bytes_eq r.name name) t.rels)))
