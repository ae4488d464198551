-- A field of introspection, without where it lies in memory.
use Rattle.std.specs.Prelude.{ℕ, Bool, List, [], ◌∷◌, Option}
use Rattle.hq_request_tree.specs.declared.introspection.IntroField.{IntroField, fold-IntroField}
use Rattle.hq_request_tree.specs.declared.introspection.IntroField.TheOpen.{IntroField-F, KeyedIntroField-F}
use Rattle.hq_request_tree.specs.declared.introspection.KeyedIntroField.{KeyedIntroField, fold-KeyedIntroField}

mutual
  -- its name, the argument name of __type, the argument includeDeprecated, and its own fields
  pub data IntrospectionTree : Type 0 where
    look : (name : List ℕ) → (type_name : Option (List ℕ)) → (deprecated : Bool) → IntrospectionTrees → IntrospectionTree

  -- fields, each under its response key
  pub data IntrospectionTrees : Type 0 where
    no_look : IntrospectionTrees
    looks : (key : List ℕ) → IntrospectionTree → IntrospectionTrees → IntrospectionTrees

-- the fields of a list
abbrev pub looks_of : List (List ℕ × IntrospectionTree) → IntrospectionTrees
looks_of [] = no_look
looks_of (f ∷ fs) = looks f.0 f.1 (looks_of fs)

-- one level, whose parts are seen already
abbrev pub introspection_step : IntroField-F IntrospectionTree (List ℕ × IntrospectionTree) → IntrospectionTree
introspection_step f = look f.name f.type_name f.deprecated (looks_of f.fields.items)

abbrev pub keyed_introspection_step : KeyedIntroField-F IntrospectionTree (List ℕ × IntrospectionTree) → List ℕ × IntrospectionTree
keyed_introspection_step f = (f.key, f.field)

-- what each is seen as
abbrev pub introspection_view : IntroField → IntrospectionTree
introspection_view = fold-IntroField IntrospectionTree (List ℕ × IntrospectionTree) introspection_step keyed_introspection_step

abbrev pub keyed_introspection_view : KeyedIntroField → List ℕ × IntrospectionTree
keyed_introspection_view = fold-KeyedIntroField IntrospectionTree (List ℕ × IntrospectionTree) introspection_step keyed_introspection_step
