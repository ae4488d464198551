-- What a field and an inline fragment are seen as, by their parts.
use Rattle.std.proofs.Common.{◌≡◌, map, ap, ◌∙◌}
use Rattle.hq_gql_tree.specs.Values.{argument_view, directive_view}
use Rattle.hq_gql_tree.specs.declared.selection.Selection.{Selection, roll-Selection, fold-roll-Selection}
use Rattle.hq_gql_tree.specs.declared.selection.Selection.TheVariants as selections
use Rattle.hq_gql_tree.specs.declared.selection.Selection.TheOpen.{Selection-F, Field-F, Inline-F}
use Rattle.hq_gql_tree.specs.declared.selection.Field.{Field, roll-Field, fold-roll-Field}
use Rattle.hq_gql_tree.specs.declared.selection.Inline.{Inline, roll-Inline, fold-roll-Inline}
use Rattle.hq_gql_tree.specs.Selections.{SelectionTree, field, inline, FieldTree, InlineTree, selections_of, selection_view, selection_step, field_step, inline_step}

pub field_seen : (f : Field-F Selection Field Inline) → selection_view (selections.Field (roll-Field f))
    ≡ field
    (record {
      at = f.at;
      alias = f.alias;
      name = f.name;
      args = map argument_view f.args.items;
      directives = map directive_view f.directives.items;
    })
    (selections_of (map selection_view f.selections.items))
unfolding roll-Selection denote.Hole.Carrier.roll
field_seen f =
    fold-roll-Selection SelectionTree FieldTree InlineTree selection_step field_step inline_step (Selection-F.Field (roll-Field f))
    ∙ ap (λ x. field x.0 x.1) (fold-roll-Field SelectionTree FieldTree InlineTree selection_step field_step inline_step f)

pub inline_seen : (f : Inline-F Selection Field Inline) → selection_view (selections.Inline (roll-Inline f))
    ≡ inline (record { at = f.at; cond = f.cond; directives = map directive_view f.directives.items }) (selections_of (map selection_view f.selections.items))
unfolding roll-Selection denote.Hole.Carrier.roll
inline_seen f =
    fold-roll-Selection SelectionTree FieldTree InlineTree selection_step field_step inline_step (Selection-F.Inline (roll-Inline f))
    ∙ ap (λ x. inline x.0 x.1) (fold-roll-Inline SelectionTree FieldTree InlineTree selection_step field_step inline_step f)
