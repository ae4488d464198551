-- What is collected of a document that violates no rule: fields that their types have, each with its arguments, and fields below them
-- only where their types have some.
use Rattle.std.proofs.Common.{◌≡◌, ◌∙◌, refl, sym, ap, subst, ℕ, zero, suc, ◌+◌, ◌<◌, arith, List, [], ◌∷◌, ◌++◌, length, Bool, true, false, cond, ◌==◌, Option, Some, None, is_some, is_none, option_map, option_and_then, slice_get, bytes_eq, inr}
use Rattle.std.specs.List.{Contains}
use Rattle.std.specs.Option.{option_to_list, option_map_or}
use Rattle.std.proofs.lemmas.Bool.{eqb-true, or_left, or_right, not-false}
use Rattle.std.proofs.lemmas.List.Elements.{Contains-append_left, Contains-append_right}
use Rattle.std.proofs.lemmas.Option.{slice_get_within}
use Rattle.hq_model.proofs.Names.{names_equal}
use Rattle.hq_overlap_sets.proofs.ValueLemmas.{true_bytes}
use Rattle.hq_base.specs.Lists.{Each}
use Rattle.hq_base.proofs.Lists.{each_weaken}
use Rattle.hq_schema.specs.Look.{type_at}
use Rattle.hq_schema.specs.Schema.{base, TypeTree, SchemaTree}
use Rattle.hq_schema.specs.Schema as schema
use Rattle.hq_gql_tree.specs.Documents.{OperationTree, FragmentTree, DefinitionTree, operation, fragment, DocumentTree}
use Rattle.hq_gql_tree.specs.Selections.{FieldHead, SpreadTree, InlineHead, SelectionTree, field, spread, inline, SelectionTrees, no_selection, selection, selections_in}
use Rattle.hq_gql_tree.specs.Selections as text
use Rattle.hq_gql_tree.specs.declared.selection.TypeCond.{TypeCond}
use Rattle.hq_gql_tree.specs.declared.document.OpKind.TheVariants as op
use Rattle.hq_gql_nodes.specs.Fragments.{Places, is_fragment_named, fragment_named}
use Rattle.hq_gql_nodes.specs.Known.{is_object, object_at, known_field, args_of_field, below_field, object_named, root_of}
use Rattle.hq_gql_nodes.specs.Nodes.{NodeTree, condition_node, arguments_nodes, directives_nodes, field_head_nodes, inline_head_nodes, condition_nodes, below_inline, selection_nodes, selections_nodes, definition_nodes, variables_nodes, location_of}
use Rattle.hq_gql_nodes.specs.Reach.{has}
use Rattle.hq_gql_nodes.specs.declared.node.Location.TheVariants as location
use Rattle.hq_overlap_sets.specs.Pairs.{fields_in, spreads_in, Within, here, spread as along, Reached, in_one, below, SameLabel, Violates}
use Rattle.hq_overlap_sets.specs.Sets.{SetTree, seen_field, field_count_of, field_count, own_fields_of, own_fields, own_spreads_of, own_spreads, set_of, inner_sets_of, inner_sets, document_sets}
use Rattle.hq_overlap_sets.specs.Sets as overlap
use Rattle.hq_overlap_sets.specs.Shapes.{shape_of}
use Rattle.hq_rules_doc.specs.NodeRules.{are_other, type_of_condition, type_of_fragment, condition_of}
use Rattle.hq_rules_doc.specs.declared.rules.NodeRule.TheVariants as doc_rule
use Rattle.hq_rules_fields.specs.NodeRules.{has_selections, is_wrong_leaf, lacks_any}
use Rattle.hq_rules_fields.specs.declared.rules.NodeRule.TheVariants as field_rule
use Rattle.hq_request_coerce.specs.Variables.{VarTree}
use Rattle.hq_request_collect.specs.Collect.{Request, collect, none}
use Rattle.hq_request_collect.specs.Fragments.{selections_at, fragment_selections}
use Rattle.std.specs.Prelude.{unwrap_or}
use Rattle.hq_request_collect.specs.Groups.{Group, key_or, response_key, grouped, selections_under, merged}
use Rattle.hq_request_collect.specs.Tree.{CollectedTrees, no_collected, collected, is_empty, fields_of, collected_down}
use Rattle.hq_request_collect.proofs.Kept.{collect_kept}
use Rattle.hq_request_build.specs.KnownField.{is_complete}
use Rattle.hq_laws_request.proofs.Built.BuildingSteps.{and_then_some}
use Rattle.hq_laws_request.proofs.Built.Items.{each_append}
use Rattle.hq_laws_request.proofs.Built.Literals.{Good, each_split, not_none}
use Rattle.hq_laws_request.proofs.Built.Numbered.{IsAt, at_front, at_back, at_one, count_of, counts_of, definition_at}
use Rattle.hq_laws_request.proofs.Built.Unviolated.{at_if_none}
use Rattle.hq_laws_request.proofs.Built.Usage.{found_at}

-- ---- small steps

-- known types that are no others are the same
same_type : (t : ℕ) (o : Option ℕ) (u : ℕ) → o ≡ Some u → are_other (Some t) o ≡ false → t ≡ u
same_type t o u is h = let other : are_other (Some t) (Some u) ≡ false = ap (are_other (Some t)) (sym is) ∙ h in eqb-true t u (not-false (t == u) other)

-- an object type at a place is at that place
pub object_same : (s : SchemaTree) (t u : ℕ) → object_at s t ≡ Some u → t ≡ u
object_same s t u e =
    let found = and_then_some (λ (d : TypeTree). cond (is_object d.kind) (Some t) None) (type_at s t) u e in
    by (is_object found.0.kind) found.2
  where
    by : (b : Bool) → cond b (Some t) None ≡ Some u → t ≡ u
    by true e = let same : t ≡ u = cc in same
    by false e = absurd cc

same_key : (f : text.FieldTree) → overlap.response_key f.0 ≡ response_key f
same_key f = by f.0.alias
  where
    by : (o : Option (List ℕ)) → unwrap_or o f.0.name ≡ key_or o f.0.name
    by None = refl
    by (Some a) = refl

contains_one : {A : Type 0} (o : Option A) (x : A) → o ≡ Some x → Contains (option_to_list o) x
contains_one {A = A} o x is = subst (λ (o : Option A). Contains (option_to_list o) x) (sym is) (0, omega arith, refl)

-- ---- collected fields that stand in a type

module _ (s : SchemaTree) (d : DocumentTree) (reach : List ℕ) (vars : List VarTree) where
  abbrev Fine : NodeTree → Type 0
  Fine n = Good s d reach vars n

  -- a field that its type has, whose arguments violate no rule; fields stand below it only where its type has some
  pub record SoundField (place : ℕ) (h : FieldHead) (empty : Bool) : Type 0 where
    pub def : schema.FieldTree
    pub known : known_field s (Some place) h.name ≡ Some def
    pub complete : is_complete s def empty ≡ true
    pub arguments : Each Fine (arguments_nodes s (Some def.args) h.args)
    pub required : lacks_any h.args def.args ≡ false

  abbrev pub Sound : (place : ℕ) → CollectedTrees → Type 0
  Sound place no_collected = Unit {0}
  Sound place (collected key h under others) = (f : SoundField place h (is_empty under)) × Sound (base f.def.ty) under × Sound place others

  abbrev sets : List SetTree
  sets = document_sets s d

  abbrev places : Places
  places = fragment_named d

  -- ---- selections of a set

  -- a selection in the object type t, all of whose fields stand within set u
  pub record SelectionAt (u t : ℕ) (x : SelectionTree) : Type 0 where
    pub n : ℕ
    pub fields : (a : overlap.FieldTree) → Contains (own_fields_of s n (Some t) x) a → Within sets u a
    pub spreads : (q : ℕ) → Contains (own_spreads_of places x) q → (a : overlap.FieldTree) → Within sets q a → Within sets u a
    pub inner : IsAt sets n (inner_sets_of s places n (Some t) x)
    pub nodes : Each Fine (selection_nodes s (Some t) x)

  selections_are : (u t : ℕ) (xs : SelectionTrees) (n : ℕ) → ((a : overlap.FieldTree) → Contains (own_fields s n (Some t) xs) a → Within sets u a)
      → ((q : ℕ) → Contains (own_spreads places xs) q → (a : overlap.FieldTree) → Within sets q a → Within sets u a) → IsAt sets n (inner_sets s places n (Some t) xs)
      → Each Fine (selections_nodes s (Some t) xs) → Each (SelectionAt u t) (selections_in xs)
  selections_are u t no_selection n fields spreads inner nodes = tt
  selections_are u t (selection x more) n fields spreads inner nodes =
      let m : ℕ = n + field_count_of x in
      let parts = each_split Fine (selection_nodes s (Some t) x) (selections_nodes s (Some t) more) nodes in (
        record {
          n = n;
          fields = λ a h. fields a (Contains-append_left (own_fields_of s n (Some t) x) (own_fields s m (Some t) more) a h);
          spreads = λ q h. spreads q (Contains-append_left (own_spreads_of places x) (own_spreads places more) q h);
          inner = at_front sets n (inner_sets_of s places n (Some t) x) (inner_sets s places m (Some t) more) inner;
          nodes = parts.0;
        },
        selections_are u t more m (λ a h. fields a (Contains-append_right (own_fields_of s n (Some t) x) (own_fields s m (Some t) more) a h))
            (λ q h. spreads q (Contains-append_right (own_spreads_of places x) (own_spreads places more) q h))
            (at_back sets n (field_count_of x) (inner_sets_of s places n (Some t) x) (inner_sets s places m (Some t) more) (count_of s places n (Some t) x) inner) parts.1,
      )

  -- the selections that are a whole set
  set_is : (u t n : ℕ) (xs : SelectionTrees) → slice_get sets u ≡ Some (set_of s places n (Some t) xs) → IsAt sets n (inner_sets s places n (Some t) xs) → Each Fine (selections_nodes s (Some t) xs)
      → Each (SelectionAt u t) (selections_in xs)
  set_is u t n xs set inner nodes =
      selections_are u t xs n (λ a h. here (subst (λ (x : Option SetTree). Contains (fields_in x) a) (sym set) h))
      (λ q h a w. along (subst (λ (x : Option SetTree). Contains (spreads_in x) q) (sym set) h) w) inner nodes

  -- a selection of a set whose fields stand within another one
  moved : (u v t : ℕ) → ((a : overlap.FieldTree) → Within sets v a → Within sets u a) → (x : SelectionTree) → SelectionAt v t x → SelectionAt u t x
  moved u v t into x h = record { n = h.n; fields = λ a c. into a (h.fields a c); spreads = λ q c a w. into a (h.spreads q c a w); inner = h.inner; nodes = h.nodes }

  -- ---- inline fragments and spreads

  cond_known : (c : TypeCond) → Fine (condition_node c) → (t : ℕ) × (object_named s c.name ≡ Some t)
  cond_known c h = not_none (object_named s c.name) (at_if_none (is_none (object_named s c.name)) c.at (h.holds.doc doc_rule.FragmentsOnCompositeTypes))

  inline_same : (t : ℕ) (h : InlineHead) (xs : SelectionTrees) → Each Fine (selection_nodes s (Some t) (inline h xs)) → below_inline s (Some t) h.cond ≡ Some t
  inline_same t h xs nodes =
      let other : are_other (Some t) (type_of_condition s h.cond) ≡ false = at_if_none (are_other (Some t) (type_of_condition s h.cond)) h.at (nodes.0.holds.doc doc_rule.PossibleFragmentSpreads) in
      let parts = each_split Fine (inline_head_nodes s h) (selections_nodes s (below_inline s (Some t) h.cond) xs) nodes.1 in
      let heads = each_split Fine (condition_nodes h.cond) (directives_nodes s location.InlineFragment h.directives) parts.0 in
      by h.cond other heads.0
    where
      by : (c : Option TypeCond) → are_other (Some t) (type_of_condition s c) ≡ false → Each Fine (condition_nodes c) → below_inline s (Some t) c ≡ Some t
      by None other g = refl
      by (Some c) other g = let u = cond_known c g.0 in u.1 ∙ ap Some (sym (same_type t (object_named s c.name) u.0 u.1 other))

  inline_are : (u t : ℕ) (h : InlineHead) (xs : SelectionTrees) → SelectionAt u t (inline h xs) → Each (SelectionAt u t) (selections_in xs)
  inline_are u t h xs x =
      let same : below_inline s (Some t) h.cond ≡ Some t = inline_same t h xs x.nodes in
      let parts = each_split Fine (inline_head_nodes s h) (selections_nodes s (below_inline s (Some t) h.cond) xs) x.nodes.1 in
      selections_are u t xs x.n (λ a c. x.fields a (subst (λ (p : Option ℕ). Contains (own_fields s x.n p xs) a) (sym same) c)) x.spreads
      (subst (λ (p : Option ℕ). IsAt sets x.n (inner_sets s places x.n p xs)) same x.inner) (subst (λ (p : Option ℕ). Each Fine (selections_nodes s p xs)) same parts.1)

  module _ (all_good : (i : ℕ) (x : DefinitionTree) → has reach i ≡ true → slice_get d i ≡ Some x → Each Fine (definition_nodes s x)) where
    -- the fragment that is spread stands on the type
    fragment_are : (t q : ℕ) (f : FragmentTree) → slice_get d q ≡ Some (fragment f) → has reach q ≡ true → are_other (Some t) (object_named s f.cond.name) ≡ false
        → Each (SelectionAt q t) (selections_in f.selections)
    fragment_are t q f at in_reach other =
        let nodes = all_good q (fragment f) in_reach at in
        let u = cond_known f.cond nodes.0 in
        let same : object_named s f.cond.name ≡ Some t = u.1 ∙ ap Some (sym (same_type t (object_named s f.cond.name) u.0 u.1 other)) in
        let x = definition_at s d q (fragment f) at in
        let parts = each_split Fine (directives_nodes s location.FragmentDefinition f.directives) (selections_nodes s (object_named s f.cond.name) f.selections) nodes.1 in
        set_is q t x.number f.selections (subst (λ (p : Option ℕ). slice_get sets q ≡ Some (set_of s places x.number p f.selections)) same x.set)
        (subst (λ (p : Option ℕ). IsAt sets x.number (inner_sets s places x.number p f.selections)) same x.inner) (subst (λ (p : Option ℕ). Each Fine (selections_nodes s p f.selections)) same parts.1)

    spread_are : (u t : ℕ) (x : SpreadTree) → SelectionAt u t (spread x) → Each (SelectionAt u t) (fragment_selections d x.name)
    spread_are u t x h =
        let q = not_none (places x.name) (at_if_none (is_none (places x.name)) x.at (h.nodes.0.holds.doc doc_rule.KnownFragmentNames)) in
        let r = found_at (is_fragment_named x.name) 0 d q.0 q.1 in
        let place : q.0 ≡ r.0 = omega (arith, r.2) in
        let there : slice_get d q.0 ≡ Some r.1 = ap (slice_get d) place ∙ r.3 in
        let other : are_other (Some t) (type_of_fragment s d places x.name) ≡ false =
        at_if_none (are_other (Some t) (type_of_fragment s d places x.name)) x.at (h.nodes.0.holds.doc doc_rule.PossibleFragmentSpreads) in
        let found : option_and_then (slice_get d) (places x.name) ≡ Some r.1 = ap (option_and_then (slice_get d)) q.1 ∙ there in
        let type : are_other (Some t) (type_of_condition s (condition_of r.1)) ≡ false =
        ap (λ (o : Option DefinitionTree). are_other (Some t) (type_of_condition s (option_and_then condition_of o))) (sym found) ∙ other in
        subst (λ (o : Option DefinitionTree). Each (SelectionAt u t) (selections_at o)) (sym found) (by q.0 q.1 r.1 there r.5 type)
      where
        by : (q : ℕ) → places x.name ≡ Some q → (y : DefinitionTree) → slice_get d q ≡ Some y → is_fragment_named x.name y ≡ true
            → are_other (Some t) (type_of_condition s (condition_of y)) ≡ false → Each (SelectionAt u t) (selections_at (Some y))
        by q is (operation o) at named other = absurd cc
        by q is (fragment f) at named other =
            each_weaken (SelectionAt q t) (SelectionAt u t) (λ y g. moved u q t (λ a w. h.spreads q (contains_one (places x.name) q is) a w) y g) (selections_in f.selections)
            (fragment_are t q f at (h.nodes.0.spread q is) other)

    -- ---- a field, and what stands below it

    module _ (u t : ℕ) (f : text.FieldTree) (x : SelectionAt u t (field f.0 f.1)) where
      pub field_known : (g : schema.FieldTree) × (known_field s (Some t) f.0.name ≡ Some g)
      field_known = not_none (known_field s (Some t) f.0.name) (at_if_none (is_none (known_field s (Some t) f.0.name)) f.0.at (x.nodes.0.holds.fields field_rule.FieldsOnCorrectType))

      -- the field among those of its set
      abbrev pub entry : schema.FieldTree → overlap.FieldTree
      entry g = record { at = f.0.at; key = overlap.response_key f.0; parent = t; label = overlap.label_of f.0; shape = shape_of s g.ty; below = x.n + field_count f.1 }

      pub entry_within : (g : schema.FieldTree) → known_field s (Some t) f.0.name ≡ Some g → Within sets u (entry g)
      entry_within g is = x.fields (entry g) (contains_one (seen_field s (Some t) f.0 (x.n + field_count f.1)) (entry g) (ap (λ o. option_map (λ (q : schema.FieldTree). entry q) o) is))

      -- the selections below it, where its type is an object
      pub below_are : (t' : ℕ) → below_field s (Some t) f.0.name ≡ Some t' → Each (SelectionAt (x.n + field_count f.1) t') (selections_in f.1)
      below_are t' same =
          let p : Option ℕ = below_field s (Some t) f.0.name in
          let inner : List SetTree = inner_sets s places x.n p f.1 in
          let one : List SetTree = set_of s places x.n p f.1 ∷ [] in
          let parts = each_split Fine (field_head_nodes s (Some t) f.0) (selections_nodes s p f.1) x.nodes.1 in
          let set : slice_get sets (x.n + field_count f.1) ≡ Some (set_of s places x.n p f.1) =
          at_one sets (x.n + field_count f.1) (set_of s places x.n p f.1) (at_back sets x.n (field_count f.1) inner one (counts_of s places x.n p f.1) x.inner) in
          set_is (x.n + field_count f.1) t' x.n f.1 (subst (λ (p : Option ℕ). slice_get sets (x.n + field_count f.1) ≡ Some (set_of s places x.n p f.1)) same set)
          (subst (λ (p : Option ℕ). IsAt sets x.n (inner_sets s places x.n p f.1)) same (at_front sets x.n inner one x.inner))
          (subst (λ (p : Option ℕ). Each Fine (selections_nodes s p f.1)) same parts.1)

      -- no selections stand below it, where its type is none
      pub leaf_empty : (g : schema.FieldTree) → known_field s (Some t) f.0.name ≡ Some g → object_at s (base g.ty) ≡ None → selections_in f.1 ≡ []
      leaf_empty g is none =
          let test = at_if_none _ f.0.at (x.nodes.0.holds.fields field_rule.ScalarLeafs) in
          let wrong : is_wrong_leaf (is_some (object_at s (base g.ty))) (has_selections f.1) ≡ false =
          ap (λ o. option_map_or (λ (q : schema.FieldTree). is_wrong_leaf (is_some (object_at s (base q.ty))) (has_selections f.1)) o false) (sym is) ∙ test in
          let empty : has_selections f.1 ≡ false = ap (λ (o : Option ℕ). is_wrong_leaf (is_some o) (has_selections f.1)) (sym none) ∙ wrong in
          by f.1 empty
        where
          by : (xs : SelectionTrees) → has_selections xs ≡ false → selections_in xs ≡ []
          by no_selection h = refl
          by (selection y more) h = absurd cc

    -- ---- fields of one response key

    -- the sets of which fields are collected: each two fields that stand within them are selected together
    abbrev pub Together : (ℕ → Type 0) → Type 0
    Together Src = (u v : ℕ) → Src u → Src v → (a b : overlap.FieldTree) → Within sets u a → Within sets v b → Reached sets a b

    module _ (no_overlap : (a b : overlap.FieldTree) → Reached sets a b → Violates a b → ⊥) where
      abbrev r : Request
      r = record { document = d; vars = vars }

      module _ (t : ℕ) (Src : ℕ → Type 0) where
        -- a selection of one of the sets
        abbrev pub Stands : SelectionTree → Type 0
        Stands x = (u : ℕ) × Src u × SelectionAt u t x

        -- a field of the key, and a group of such
        abbrev FieldIn : (key : List ℕ) → text.FieldTree → Type 0
        FieldIn key f = (response_key f ≡ key) × Stands (field f.0 f.1)

        abbrev GroupIn : Group → Type 0
        GroupIn g = FieldIn g.key g.first × Each (FieldIn g.key) g.others

        grouped_in : (f : text.FieldTree) (gs : List Group) → Stands (field f.0 f.1) → Each GroupIn gs → Each GroupIn (grouped gs (response_key f) f)
        grouped_in f [] x h = (((refl, x), tt), tt)
        grouped_in f (g ∷ gs) x h = by (bytes_eq (response_key f) g.key) refl (grouped_in f gs x h.1)
          where
            by : (b : Bool) → bytes_eq (response_key f) g.key ≡ b → Each GroupIn (grouped gs (response_key f) f)
                → Each GroupIn (cond b (record { key = g.key; first = g.first; others = g.others ++ f ∷ [] } ∷ gs) (g ∷ grouped gs (response_key f) f))
            by true is later = ((h.0.0, each_append (FieldIn g.key) g.others (f ∷ []) h.0.1 ((names_equal (response_key f) g.key is, x), tt)), h.1)
            by false is later = (h.0, later)

        groups_in : (w : ℕ) (ss : List SelectionTree) → Each Stands ss → Each GroupIn (collect w r ss none).groups
        groups_in w ss h =
            collect_kept (Each GroupIn) Stands r (record {
              field_in = λ f gs q g. grouped_in f gs q g;
              inline_in = λ i xs q. each_weaken (SelectionAt q.0 t) Stands (λ y g. (q.0, q.1, g)) (selections_in xs) (inline_are q.0 t i xs q.2);
              spread_in = λ x q. each_weaken (SelectionAt q.0 t) Stands (λ y g. (q.0, q.1, g)) (fragment_selections d x.name) (spread_are q.0 t x q.2);
            }) w ss none h tt

        module _ (together : Together Src) where
          -- two fields of one key have one name
          same_name : (key : List ℕ) (f g : text.FieldTree) → FieldIn key f → FieldIn key g → f.0.name ≡ g.0.name
          same_name key f g x y =
              let kf = field_known x.1.0 t f x.1.2 in
              let kg = field_known y.1.0 t g y.1.2 in
              let a : overlap.FieldTree = entry x.1.0 t f x.1.2 kf.0 in
              let b : overlap.FieldTree = entry y.1.0 t g y.1.2 kg.0 in
              let met : Reached sets a b = together x.1.0 y.1.0 x.1.1 y.1.1 a b (entry_within x.1.0 t f x.1.2 kf.0 kf.1) (entry_within y.1.0 t g y.1.2 kg.0 kg.1) in
              let keys : overlap.response_key f.0 ≡ overlap.response_key g.0 = same_key f ∙ (x.0 ∙ (sym y.0 ∙ sym (same_key g))) in
              by (bytes_eq f.0.name g.0.name) refl (λ other. no_overlap a b met (keys, inr (refl, other)))
            where
              by : (c : Bool) → bytes_eq f.0.name g.0.name ≡ c → ((SameLabel (overlap.label_of f.0) (overlap.label_of g.0) → ⊥) → ⊥) → f.0.name ≡ g.0.name
              by true is clash = names_equal f.0.name g.0.name is
              by false is clash = absurd (clash (λ label. let no : true ≡ false = sym (true_bytes f.0.name g.0.name label.0) ∙ is in cc))

          -- the sets below the fields of a key
          abbrev Below : (key : List ℕ) → ℕ → Type 0
          Below key k = (u : ℕ) × Src u × (a : overlap.FieldTree) × Within sets u a × (a.key ≡ key) × (a.below ≡ k)

          below_together : (key : List ℕ) → Together (Below key)
          below_together key k l x y a b wa wb =
              below (together x.0 y.0 x.1 y.1 x.2 y.2 x.3 y.3) (x.4 ∙ sym y.4) (subst (λ n. Within sets n a) (sym x.5) wa) (subst (λ n. Within sets n b) (sym y.5) wb)

      -- ---- collected fields

      -- a group whose first field has a definition
      module _ (t : ℕ) (Src : ℕ → Type 0) (together : Together Src) (g : Group) (h : GroupIn t Src g) (def : schema.FieldTree) (known : known_field s (Some t) g.first.0.name ≡ Some def) where
        known_of : (f : text.FieldTree) → FieldIn t Src g.key f → known_field s (Some t) f.0.name ≡ Some def
        known_of f x = ap (known_field s (Some t)) (same_name t Src together g.key f g.first x h.0) ∙ known

        -- its selections, where its type is an object
        under_are : (t' : ℕ) → object_at s (base def.ty) ≡ Some t' → (fs : List text.FieldTree) → Each (FieldIn t Src g.key) fs → Each (Stands t' (Below t Src together g.key)) (selections_under fs)
        under_are t' is [] all = tt
        under_are t' is (f ∷ fs) all =
            let x = all.0 in
            let same : below_field s (Some t) f.0.name ≡ Some t' = ap (option_and_then (λ (q : schema.FieldTree). object_at s (base q.ty))) (known_of f x) ∙ is in
            let k : ℕ = x.1.2.n + field_count f.1 in
            let source : Below t Src together g.key k = (x.1.0, x.1.1, entry x.1.0 t f x.1.2 def, entry_within x.1.0 t f x.1.2 def (known_of f x), same_key f ∙ x.0, refl) in
            each_append (Stands t' (Below t Src together g.key)) (selections_in f.1) (selections_under fs)
            (each_weaken (SelectionAt k t') (Stands t' (Below t Src together g.key)) (λ y q. (k, source, q)) (selections_in f.1) (below_are x.1.0 t f x.1.2 t' same)) (under_are t' is fs all.1)

        -- none, where it is no object
        under_none : object_at s (base def.ty) ≡ None → (fs : List text.FieldTree) → Each (FieldIn t Src g.key) fs → selections_under fs ≡ []
        under_none is [] all = refl
        under_none is (f ∷ fs) all =
            let mine : selections_in f.1 ≡ [] = leaf_empty all.0.1.0 t f all.0.1.2 def (known_of f all.0) is in
            let later : selections_under fs ≡ [] = under_none is fs all.1 in
            ap (λ xs. xs ++ selections_under fs) mine ∙ later

        abbrev field_sound : (empty : Bool) → is_complete s def empty ≡ true → SoundField t g.first.0 empty
        field_sound empty complete =
            let f : text.FieldTree = g.first in
            let x = h.0.1.2 in
            let parts = each_split Fine (field_head_nodes s (Some t) f.0) (selections_nodes s (below_field s (Some t) f.0.name) f.1) x.nodes.1 in
            let heads = each_split Fine (arguments_nodes s (args_of_field s (Some t) f.0.name) f.0.args) (directives_nodes s location.Field f.0.directives) parts.0 in
            let same : args_of_field s (Some t) f.0.name ≡ Some def.args = ap (option_map (λ (q : schema.FieldTree). q.args)) known in
            let lacking = at_if_none (option_map_or (lacks_any f.0.args) (args_of_field s (Some t) f.0.name) false) f.0.at (x.nodes.0.holds.fields field_rule.ProvidedRequiredArguments) in
            record {
              def = def;
              known = known;
              complete = complete;
              arguments = subst (λ (o : Option (List schema.ArgTree)). Each Fine (arguments_nodes s o f.0.args)) same heads.0;
              required = ap (λ o. option_map_or (lacks_any f.0.args) o false) (sym same) ∙ lacking;
            }

      nothing_collected : (w n : ℕ) → collected_down w n r [] ≡ no_collected
      unfolding collected_down collect
      nothing_collected w zero = refl
      nothing_collected zero (suc n) = refl
      nothing_collected (suc w) (suc n) = refl

      module _ (w n : ℕ) (again : (t : ℕ) (Src : ℕ → Type 0) → Together Src → (ss : List SelectionTree) → Each (Stands t Src) ss → Sound t (collected_down w n r ss)) (t : ℕ)
          (Src : ℕ → Type 0) (together : Together Src) where
        groups_sound : (gs : List Group) → Each (GroupIn t Src) gs → Sound t (fields_of (collected_down w n r) gs)
        groups_sound [] h = tt
        groups_sound (g ∷ gs) h =
            let k = field_known h.0.0.1.0 t g.first h.0.0.1.2 in
            by k.0 k.1 (object_at s (base k.0.ty)) refl (groups_sound gs h.1)
          where
            by : (def : schema.FieldTree) → known_field s (Some t) g.first.0.name ≡ Some def → (o : Option ℕ) → object_at s (base def.ty) ≡ o → Sound t (fields_of (collected_down w n r) gs)
                → Sound t (fields_of (collected_down w n r) (g ∷ gs))
            by def known (Some t') is later =
                let stand = under_are t Src together g h.0 def known t' is (g.first ∷ g.others) h.0 in
                let inside : Sound t' (collected_down w n r (merged g)) = again t' (Below t Src together g.key) (below_together t Src together g.key) (merged g) stand in
                let object : is_some (object_at s (base def.ty)) ≡ true = ap is_some is in (
                  field_sound t Src together g h.0 def known (is_empty (collected_down w n r (merged g)))
                      (or_right (is_empty (collected_down w n r (merged g))) (is_some (object_at s (base def.ty))) object),
                  subst (λ u. Sound u (collected_down w n r (merged g))) (sym (object_same s (base def.ty) t' is)) inside,
                  later,
                )
            by def known None is later =
                let none_under : merged g ≡ [] = under_none t Src together g h.0 def known is (g.first ∷ g.others) h.0 in
                let nothing : collected_down w n r (merged g) ≡ no_collected = ap (collected_down w n r) none_under ∙ nothing_collected w n in
                let empty : is_empty (collected_down w n r (merged g)) ≡ true = ap is_empty nothing in (
                  field_sound t Src together g h.0 def known (is_empty (collected_down w n r (merged g)))
                      (or_left (is_empty (collected_down w n r (merged g))) (is_some (object_at s (base def.ty))) empty),
                  subst (Sound (base def.ty)) (sym nothing) tt,
                  later,
                )

      down_sound : (w n t : ℕ) (Src : ℕ → Type 0) → Together Src → (ss : List SelectionTree) → Each (Stands t Src) ss → Sound t (collected_down w n r ss)
      unfolding collected_down
      down_sound w zero t Src together ss h = tt
      down_sound w (suc n) t Src together ss h = groups_sound w n (λ t Src together ss h. down_sound w n t Src together ss h) t Src together (collect w r ss none).groups (groups_in t Src w ss h)

      -- the collected fields of a query
      pub query_sound : (q : ℕ) (o : OperationTree) → slice_get d q ≡ Some (operation o) → has reach q ≡ true → o.kind ≡ op.Query → root_of s op.Query ≡ Some s.query
          → Sound s.query (collected_down 50 50 r (selections_in o.selections))
      query_sound q o at in_reach query root =
          let x = definition_at s d q (operation o) at in
          let same : root_of s o.kind ≡ Some s.query = ap (root_of s) query ∙ root in
          let within : q < length sets = slice_get_within sets q (set_of s places x.number (root_of s o.kind) o.selections) x.set in
          let one = each_split Fine (variables_nodes s o.vars) (directives_nodes s (location_of o.kind) o.directives ++ selections_nodes s (root_of s o.kind) o.selections)
          (all_good q (operation o) in_reach at) in
          let two = each_split Fine (directives_nodes s (location_of o.kind) o.directives) (selections_nodes s (root_of s o.kind) o.selections) one.1 in
          let stand : Each (SelectionAt q s.query) (selections_in o.selections) =
          set_is q s.query x.number o.selections (subst (λ (p : Option ℕ). slice_get sets q ≡ Some (set_of s places x.number p o.selections)) same x.set)
          (subst (λ (p : Option ℕ). IsAt sets x.number (inner_sets s places x.number p o.selections)) same x.inner)
          (subst (λ (p : Option ℕ). Each Fine (selections_nodes s p o.selections)) same two.1) in
          down_sound 50 50 s.query (λ u. u ≡ q) (λ u v hu hv a b wa wb. in_one (subst (λ n. n < length sets) (sym hu) within) wa (subst (λ n. Within sets n b) (hv ∙ sym hu) wb))
          (selections_in o.selections)
          (each_weaken (SelectionAt q s.query) (Stands s.query (λ u. u ≡ q)) (λ y g. (q, refl, g)) (selections_in o.selections) stand)
