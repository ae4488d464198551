-- The nodes of a document in a schema without origins are those in the schema, without the origins of arguments.
use Rattle.std.proofs.Common.{◌≡◌, ◌∙◌, ℕ, List, [], ◌∷◌, ◌++◌, map, Option, Some, None, refl, sym, ap, ap₂}
use Rattle.hq_schema.specs.Schema.{ArgTree, SchemaTree}
use Rattle.hq_gql_tree.specs.Values.{ValueTree, int, float, str, bool, null, enum, list, object, variable, ElementTrees, no_element, element, MemberTrees, no_member, member, PlacedTree, ArgumentTree, DirectiveTree}
use Rattle.hq_gql_tree.specs.Selections.{FieldHead, InlineHead, SelectionTree, field, spread, inline, SelectionTrees, no_selection, selection}
use Rattle.hq_gql_tree.specs.Documents.{VarDefTree, DefinitionTree, operation, fragment, DocumentTree}
use Rattle.hq_gql_tree.specs.declared.selection.TypeCond.{TypeCond}
use Rattle.hq_gql_nodes.specs.Known.{PlaceTree, element_place, input_of, member_place, arg_place, args_of_field, below_field, args_of_directive, object_named, root_of, resolved, default_place}
use Rattle.hq_gql_nodes.specs.Nodes.{NodeTree, variable_node, condition_node, field_node, spread_node, inline_node, directives_node, directive_node, argument_node, value_node, member_node, nodes_in_value, elements_nodes, members_nodes, value_nodes, argument_nodes, arguments_nodes, directive_nodes, each_directive, directives_nodes, condition_nodes, below_inline, field_head_nodes, inline_head_nodes, selection_nodes, selections_nodes, default_nodes, variable_nodes, variables_nodes, location_of, definition_nodes, PartTree, document_parts}
use Rattle.hq_gql_nodes.specs.declared.node.Location.{Location}
use Rattle.hq_gql_nodes.specs.declared.node.Location.TheVariants as location
use Rattle.hq_laws_renumbered.specs.Schemas.Blank.{blank}
use Rattle.hq_laws_renumbered.proofs.Rules.Lists.{map_append}
use Rattle.hq_laws_renumbered.proofs.Rules.Known.{blank_args, same_input_of, same_member, same_arg, blank_args_of, same_below, blank_args_of_directive, same_object_named, same_inline, same_root, same_resolved, same_default}

-- a node without the origins of arguments
abbrev pub blank_node : NodeTree → NodeTree
blank_node (argument_node a args) = argument_node a (blank_args args)
blank_node n = n

abbrev pub blank_nodes : List NodeTree → List NodeTree
blank_nodes ns = map blank_node ns

-- nodes in two parts
both : (as' bs as_ bs_ : List NodeTree) → as' ≡ blank_nodes as_ → bs ≡ blank_nodes bs_ → as' ++ bs ≡ blank_nodes (as_ ++ bs_)
both as' bs as_ bs_ p q = ap₂ (λ (x y : List NodeTree). x ++ y) p q ∙ sym (map_append blank_node as_ bs_)

mutual
  -- what stands in a value
  blank_value : (s : SchemaTree) (place : Option PlaceTree) (v : ValueTree) → nodes_in_value (blank s) place v ≡ blank_nodes (nodes_in_value s place v)
  blank_value s place (int text) = refl
  blank_value s place (float text) = refl
  blank_value s place (str text) = refl
  blank_value s place (bool b) = refl
  blank_value s place null = refl
  blank_value s place (enum name) = refl
  blank_value s place (list vs) = blank_elements s (element_place place) vs
  blank_value s place (object ms) = ap (λ i. members_nodes (blank s) i ms) (same_input_of s place) ∙ blank_members s (input_of s place) ms
  blank_value s place (variable name) = refl

  blank_elements : (s : SchemaTree) (place : Option PlaceTree) (vs : ElementTrees) → elements_nodes (blank s) place vs ≡ blank_nodes (elements_nodes s place vs)
  blank_elements s place no_element = refl
  blank_elements s place (element at v vs) =
      ap (λ l. value_node (record { at = at; value = v }) place ∷ l)
      (both (nodes_in_value (blank s) place v) (elements_nodes (blank s) place vs) (nodes_in_value s place v) (elements_nodes s place vs) (blank_value s place v) (blank_elements s place vs))

  blank_members : (s : SchemaTree) (input : Option ℕ) (ms : MemberTrees) → members_nodes (blank s) input ms ≡ blank_nodes (members_nodes s input ms)
  blank_members s input no_member = refl
  blank_members s input (member at name value_at v ms) =
      let place = member_place s input name in
      let first = member_node (record { at = at; name = name; value = record { at = value_at; value = v } }) input in
      ap (λ p. first ∷ (value_node (record { at = value_at; value = v }) p ∷ (nodes_in_value (blank s) p v ++ members_nodes (blank s) input ms))) (same_member s input name)
      ∙ ap (λ l. first ∷ (value_node (record { at = value_at; value = v }) place ∷ l))
      (both (nodes_in_value (blank s) place v) (members_nodes (blank s) input ms) (nodes_in_value s place v) (members_nodes s input ms) (blank_value s place v) (blank_members s input ms))

blank_placed : (s : SchemaTree) (place : Option PlaceTree) (p : PlacedTree) → value_nodes (blank s) place p ≡ blank_nodes (value_nodes s place p)
blank_placed s place p = ap (λ l. value_node p place ∷ l) (blank_value s place p.value)

-- ---- arguments and directives

blank_argument : (s : SchemaTree) (args : Option (List ArgTree)) (a : ArgumentTree) → argument_nodes (blank s) (blank_args args) a ≡ blank_nodes (argument_nodes s args a)
blank_argument s args a =
    ap (λ p. argument_node a (blank_args args) ∷ value_nodes (blank s) p a.value) (same_arg args a.name)
    ∙ ap (λ l. argument_node a (blank_args args) ∷ l) (blank_placed s (arg_place args a.name) a.value)

blank_arguments : (s : SchemaTree) (args : Option (List ArgTree)) (as_ : List ArgumentTree) → arguments_nodes (blank s) (blank_args args) as_ ≡ blank_nodes (arguments_nodes s args as_)
blank_arguments s args [] = refl
blank_arguments s args (a ∷ more) =
    both (argument_nodes (blank s) (blank_args args) a) (arguments_nodes (blank s) (blank_args args) more) (argument_nodes s args a)
    (arguments_nodes s args more) (blank_argument s args a) (blank_arguments s args more)

blank_directive : (s : SchemaTree) (l : Location) (d : DirectiveTree) → directive_nodes (blank s) l d ≡ blank_nodes (directive_nodes s l d)
blank_directive s l d =
    ap (λ args. directive_node d l ∷ arguments_nodes (blank s) args d.args) (blank_args_of_directive s d.name)
    ∙ ap (λ ns. directive_node d l ∷ ns) (blank_arguments s (args_of_directive s d.name) d.args)

blank_each : (s : SchemaTree) (l : Location) (ds : List DirectiveTree) → each_directive (blank s) l ds ≡ blank_nodes (each_directive s l ds)
blank_each s l [] = refl
blank_each s l (d ∷ ds) = both (directive_nodes (blank s) l d) (each_directive (blank s) l ds) (directive_nodes s l d) (each_directive s l ds) (blank_directive s l d) (blank_each s l ds)

blank_directives : (s : SchemaTree) (l : Location) (ds : List DirectiveTree) → directives_nodes (blank s) l ds ≡ blank_nodes (directives_nodes s l ds)
blank_directives s l ds = ap (λ ns. directives_node ds ∷ ns) (blank_each s l ds)

-- ---- selections

blank_condition : (c : Option TypeCond) → condition_nodes c ≡ blank_nodes (condition_nodes c)
blank_condition None = refl
blank_condition (Some c) = refl

blank_head : (s : SchemaTree) (parent : Option ℕ) (h : FieldHead) → field_head_nodes (blank s) parent h ≡ blank_nodes (field_head_nodes s parent h)
blank_head s parent h =
    let args = args_of_field s parent h.name in
    ap (λ a. arguments_nodes (blank s) a h.args ++ directives_nodes (blank s) location.Field h.directives) (blank_args_of s parent h.name)
    ∙ both (arguments_nodes (blank s) (blank_args args) h.args) (directives_nodes (blank s) location.Field h.directives)
    (arguments_nodes s args h.args) (directives_nodes s location.Field h.directives)
    (blank_arguments s args h.args) (blank_directives s location.Field h.directives)

blank_inline : (s : SchemaTree) (h : InlineHead) → inline_head_nodes (blank s) h ≡ blank_nodes (inline_head_nodes s h)
blank_inline s h =
    both (condition_nodes h.cond) (directives_nodes (blank s) location.InlineFragment h.directives) (condition_nodes h.cond) (directives_nodes s location.InlineFragment h.directives)
    (blank_condition h.cond) (blank_directives s location.InlineFragment h.directives)

mutual
  blank_selection : (s : SchemaTree) (parent : Option ℕ) (x : SelectionTree) → selection_nodes (blank s) parent x ≡ blank_nodes (selection_nodes s parent x)
  blank_selection s parent (field h below) =
      let t = below_field s parent h.name in
      ap (λ p. field_node h below parent ∷ (field_head_nodes (blank s) parent h ++ selections_nodes (blank s) p below)) (same_below s parent h.name)
      ∙ ap (λ l. field_node h below parent ∷ l)
      (both (field_head_nodes (blank s) parent h) (selections_nodes (blank s) t below) (field_head_nodes s parent h) (selections_nodes s t below) (blank_head s parent h) (blank_selections s t below))
  blank_selection s parent (spread x) = ap (λ l. spread_node x parent ∷ l) (blank_directives s location.FragmentSpread x.directives)
  blank_selection s parent (inline h below) =
      let t = below_inline s parent h.cond in
      ap (λ p. inline_node h parent ∷ (inline_head_nodes (blank s) h ++ selections_nodes (blank s) p below)) (same_inline s parent h.cond)
      ∙ ap (λ l. inline_node h parent ∷ l)
      (both (inline_head_nodes (blank s) h) (selections_nodes (blank s) t below) (inline_head_nodes s h) (selections_nodes s t below) (blank_inline s h) (blank_selections s t below))

  blank_selections : (s : SchemaTree) (parent : Option ℕ) (xs : SelectionTrees) → selections_nodes (blank s) parent xs ≡ blank_nodes (selections_nodes s parent xs)
  blank_selections s parent no_selection = refl
  blank_selections s parent (selection x more) =
      both (selection_nodes (blank s) parent x) (selections_nodes (blank s) parent more) (selection_nodes s parent x)
      (selections_nodes s parent more) (blank_selection s parent x) (blank_selections s parent more)

-- ---- definitions

blank_default : (s : SchemaTree) (place : Option PlaceTree) (v : Option PlacedTree) → default_nodes (blank s) place v ≡ blank_nodes (default_nodes s place v)
blank_default s place None = refl
blank_default s place (Some v) = blank_placed s place v

blank_variable : (s : SchemaTree) (v : VarDefTree) → variable_nodes (blank s) v ≡ blank_nodes (variable_nodes s v)
blank_variable s v =
    let ty = resolved s v.ty in
    let rest = directives_nodes (blank s) location.VariableDefinition v.directives in
    ap (λ r. variable_node v r ∷ (default_nodes (blank s) (default_place (blank s) r) v.default ++ rest)) (same_resolved s v.ty)
    ∙ ap (λ p. variable_node v ty ∷ (default_nodes (blank s) p v.default ++ rest)) (same_default s ty)
    ∙ ap (λ l. variable_node v ty ∷ l)
    (both (default_nodes (blank s) (default_place s ty) v.default) rest (default_nodes s (default_place s ty) v.default) (directives_nodes s location.VariableDefinition v.directives)
    (blank_default s (default_place s ty) v.default) (blank_directives s location.VariableDefinition v.directives))

blank_variables : (s : SchemaTree) (vs : List VarDefTree) → variables_nodes (blank s) vs ≡ blank_nodes (variables_nodes s vs)
blank_variables s [] = refl
blank_variables s (v ∷ vs) = both (variable_nodes (blank s) v) (variables_nodes (blank s) vs) (variable_nodes s v) (variables_nodes s vs) (blank_variable s v) (blank_variables s vs)

blank_definition : (s : SchemaTree) (d : DefinitionTree) → definition_nodes (blank s) d ≡ blank_nodes (definition_nodes s d)
blank_definition s (operation o) =
    let root = root_of s o.kind in
    let l = location_of o.kind in
    let own = variables_nodes (blank s) o.vars in
    let heads = directives_nodes (blank s) l o.directives in
    ap (λ p. own ++ (heads ++ selections_nodes (blank s) p o.selections)) (same_root s o.kind)
    ∙ both own (heads ++ selections_nodes (blank s) root o.selections) (variables_nodes s o.vars) (directives_nodes s l o.directives ++ selections_nodes s root o.selections) (blank_variables s o.vars)
    (both heads (selections_nodes (blank s) root o.selections) (directives_nodes s l o.directives) (selections_nodes s root o.selections)
    (blank_directives s l o.directives) (blank_selections s root o.selections))
blank_definition s (fragment f) =
    let t = object_named s f.cond.name in
    let heads = directives_nodes (blank s) location.FragmentDefinition f.directives in
    ap (λ p. condition_node f.cond ∷ (heads ++ selections_nodes (blank s) p f.selections)) (same_object_named s f.cond.name)
    ∙ ap (λ l. condition_node f.cond ∷ l)
    (both heads (selections_nodes (blank s) t f.selections) (directives_nodes s location.FragmentDefinition f.directives)
    (selections_nodes s t f.selections) (blank_directives s location.FragmentDefinition f.directives) (blank_selections s t f.selections))

-- a part of a document without the origins of arguments
abbrev pub blank_part : PartTree → PartTree
blank_part p = record p { nodes = blank_nodes p.nodes }

-- the parts of a document
pub blank_parts : (s : SchemaTree) (d : DocumentTree) → document_parts (blank s) d ≡ map blank_part (document_parts s d)
blank_parts s [] = refl
blank_parts s (x ∷ d) =
    let make : List NodeTree → PartTree = λ ns. record { definition = x; nodes = ns } in
    ap₂ (λ (p : PartTree) (ps : List PartTree). p ∷ ps) (ap make (blank_definition s x)) (blank_parts s d)
