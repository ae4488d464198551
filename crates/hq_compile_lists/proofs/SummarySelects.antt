-- The select of `aggregate`, put together from its parts.
use Rattle.std.proofs.Common.{◌≡◌, ◌∙◌, ℕ, List, [], true, false, cond, Option, refl, sym, ap}
use Rattle.hq_model.specs.Schema.{Schema, table}
use Rattle.hq_model.specs.Selected.{ListArguments}
use Rattle.hq_model.specs.declared.table.Column.{Column}
use Rattle.hq_request_tree.specs.declared.aggregate.KeyedAggField.{KeyedAggField}
use Rattle.hq_sql_tree.specs.Tree.{object, pairs_of, OutTree, SelectTree, fold, JoinTree, PredTree}
use Rattle.hq_translation.specs.Aggregates.{needed, needed_outputs, summary_pairs, some_aggregate, folded_select, plain_select, summary_select}
use Rattle.hq_translation.specs.Lists.{list_used, list_rows}
use Rattle.hq_translation.specs.Looks.{Look}
use Rattle.hq_translation.specs.Masks.{shown_look}
use Rattle.hq_translation.specs.Names.{fold_alias, value_name}
use Rattle.hq_translation.specs.GrantedTables.{GrantedTables}
use Rattle.hq_compile_lists.specs.Bodies.{IsBody, rows_of}
use Rattle.hq_compile_lists.specs.declared.list.ListBody.{ListBody}

-- the output of the object of the values of fields
abbrev pub output_of : List Column → (n : ℕ) → (cs : List ℕ) → List KeyedAggField → OutTree
output_of columns n cs fs = record { value = object (pairs_of (summary_pairs columns n cs fs)); name = value_name }

module _ (s : Schema) (g : GrantedTables) (t n : ℕ) (a : ListArguments) (tie : PredTree) where
  -- the rows of an aggregate, from the parts by the names that they have in the code
  pub needed_rows_of : (needs cs : List ℕ) (b : ListBody) (look : Look) (f : SelectTree) (outs : List OutTree) (none : List JoinTree) (limit : Option ℕ)
      → IsBody s g t cs a n tie b → f ≡ rows_of s t n b limit outs none a.offset
      → limit ≡ a.limit → none ≡ [] → outs ≡ needed_outputs look needs → look ≡ shown_look s g t cs n → cs ≡ list_used s t a needs
      → f ≡ list_rows s g t (list_used s t a needs) a n tie a.limit (needed_outputs (shown_look s g t (list_used s t a needs) n) needs) []
  needed_rows_of needs cs b look f outs none limit body is l e o k u =
      let same : list_rows s g t cs a n tie limit outs none
      ≡ list_rows s g t (list_used s t a needs) a n tie a.limit (needed_outputs (shown_look s g t (list_used s t a needs) n) needs) [] = rw (l, e, o, k, u) refl in
      is ∙ body.rows limit outs none ∙ same

  -- an aggregate
  pub folded_of : (fs : List KeyedAggField) (needs : List ℕ) (f given : SelectTree) (out : OutTree) (alias : List ℕ)
      → f ≡ fold out given alias
      → given ≡ list_rows s g t (list_used s t a needs) a n tie a.limit (needed_outputs (shown_look s g t (list_used s t a needs) n) needs) []
      → out ≡ output_of (table s t).columns n needs fs → alias ≡ fold_alias n → needs ≡ needed fs []
      → f ≡ folded_select fs s g t a n tie
  folded_of fs needs f given out alias is r o l e = rw (is, r, o, l, e) refl

  -- the one of both that is taken
  pub summary_folded : (fs : List KeyedAggField) → some_aggregate fs ≡ true → folded_select fs s g t a n tie ≡ summary_select fs s g t a n tie
  summary_folded fs e = sym (ap (λ b. cond b (folded_select fs s g t a n tie) (plain_select fs s t n)) e)

  pub summary_plain : (fs : List KeyedAggField) → some_aggregate fs ≡ false → plain_select fs s t n ≡ summary_select fs s g t a n tie
  summary_plain fs e = sym (ap (λ b. cond b (folded_select fs s g t a n tie) (plain_select fs s t n)) e)
