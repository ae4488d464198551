-- What is read of all fields.
use Rattle.std.proofs.Common.{◌≡◌, refl, ap, ℕ, List, [], ◌∷◌, map}
use Rattle.hq_request_build.specs.Summaries.{with_taken, with_summary}
use Rattle.hq_request_build.proofs.Walks.{front}
use Rattle.hq_request_tree.specs.Fields.{no_field, field, FieldTree, no_part, part, PartTree, fields_of, parts_of}
use Rattle.hq_request_tree.specs.Introspection.{IntrospectionTree, no_look, looks, looks_of}
use Rattle.hq_request_tree.specs.declared.aggregate.AggCol.{AggCol}
use Rattle.hq_request_tree.specs.declared.aggregate.AggField.{AggField}
use Rattle.hq_request_tree.specs.declared.aggregate.KeyedAggCol.{KeyedAggCol}
use Rattle.hq_request_tree.specs.declared.aggregate.KeyedAggField.{KeyedAggField}

pub fields_end : (ps : List (List ℕ × FieldTree)) → front field ps no_field ≡ fields_of ps
fields_end [] = refl
fields_end (p ∷ ps) = ap (field p.0 p.1) (fields_end ps)

pub parts_end : (ps : List (List ℕ × PartTree)) → front part ps no_part ≡ parts_of ps
parts_end [] = refl
parts_end (p ∷ ps) = ap (part p.0 p.1) (parts_end ps)

pub looks_end : (ps : List (List ℕ × IntrospectionTree)) → front looks ps no_look ≡ looks_of ps
looks_end [] = refl
looks_end (p ∷ ps) = ap (looks p.0 p.1) (looks_end ps)

-- an aggregate under its key, as a pair
abbrev pub taken_pair : KeyedAggCol → List ℕ × AggCol
taken_pair c = (c.key, c.field)

pub taken_end : (cs : List KeyedAggCol) → front with_taken (map taken_pair cs) [] ≡ cs
taken_end [] = refl
taken_end (c ∷ cs) = ap (λ (xs : List KeyedAggCol). c ∷ xs) (taken_end cs)

abbrev pub summary_pair : KeyedAggField → List ℕ × AggField
summary_pair f = (f.key, f.field)

pub summaries_end : (fs : List KeyedAggField) → front with_summary (map summary_pair fs) [] ≡ fs
summaries_end [] = refl
summaries_end (f ∷ fs) = ap (λ (xs : List KeyedAggField). f ∷ xs) (summaries_end fs)
