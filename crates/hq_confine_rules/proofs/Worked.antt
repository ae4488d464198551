-- The rules on worked statements, by computing the definitions: each compiled statement is confined for its own session, and
-- statements that break a rule have the fault that is due.
use Rattle.std.proofs.Common.{◌≡◌, ℕ, pos, List, [], ◌∷◌, true, false, Option, Some, None, codes, refl}
use Rattle.std.specs.Fmt.{digits}
use Rattle.hq_base.specs.declared.aggregate.Aggregate.TheVariants.{Max}
use Rattle.hq_base.specs.declared.value.Ty.TheVariants.{Integer, Bigint, Text, Boolean}
use Rattle.hq_base.specs.declared.value.Val.TheVariants as val
use Rattle.hq_model.specs.Bexp.{BexpTree, always, and_of, test, or_of, through, bexp, no_bexp}
use Rattle.hq_model.specs.Grants.{Grants}
use Rattle.hq_model.specs.Permission.{Permission}
use Rattle.hq_model.specs.Schema.{Schema}
use Rattle.hq_model.specs.Selected.{ListArguments, SortKey}
use Rattle.hq_model.specs.declared.bexp.Operands.TheVariants as operands
use Rattle.hq_model.specs.declared.bexp.Operand.TheVariants.{Const}
use Rattle.hq_model.specs.declared.op.Op.TheVariants.{Eq}
use Rattle.hq_model.specs.declared.table.Column.{Column}
use Rattle.hq_model.specs.declared.test.Test.TheVariants.{Compare}
use Rattle.hq_request_tree.specs.declared.aggregate.AggCol.TheVariants as of
use Rattle.hq_request_tree.specs.declared.aggregate.AggField.TheVariants as take
use Rattle.hq_request_tree.specs.Fields.{FieldTrees, no_field, field, FieldTree, column, object, list, by_key, aggregate, from_table, along, no_part, part, summary, nodes}
use Rattle.hq_sql_tree.specs.declared.expr.ColumnForm.TheVariants.{Plain}
use Rattle.hq_sql_tree.specs.Tree as tree
use Rattle.hq_sql_tree.specs.Tree.{ExprTree, OrderTree, SelectTree, JoinTrees, FilterTree, PredTree}
use Rattle.hq_translation.specs.GrantedTables.{granted_of}
use Rattle.hq_translation.specs.Names.{table_alias, fold_alias, join_alias, value_name, key_name, needed_name, unit_name}
use Rattle.hq_translation.specs.Statement.{statement}
use Rattle.hq_confine_rules.specs.Uses.{Fault}
use Rattle.hq_confine_rules.specs.Faults.{faults, worst}

-- authors and their articles
abbrev schema : Schema
schema =
    record {
      schema = codes "public";
      name = codes "author";
      columns =
          record { name = codes "id"; ty = Integer; of = []; nullable = false }
          ∷ record { name = codes "name"; ty = Text; of = []; nullable = false }
          ∷ record { name = codes "email"; ty = Text; of = []; nullable = true } ∷ [];
      key = 0 ∷ [];
      rels = record { name = codes "articles"; remote = 1; pairs = record { own = 0; remote = 1 } ∷ []; many = true } ∷ [];
    }
    ∷ record {
      schema = codes "public";
      name = codes "article";
      columns =
          record { name = codes "id"; ty = Integer; of = []; nullable = false }
          ∷ record { name = codes "author_id"; ty = Integer; of = []; nullable = true }
          ∷ record { name = codes "title"; ty = Text; of = []; nullable = false }
          ∷ record { name = codes "published"; ty = Boolean; of = []; nullable = false } ∷ record { name = codes "rating"; ty = Bigint; of = []; nullable = true } ∷ [];
      key = 2 ∷ 0 ∷ [];
      rels = record { name = codes "author"; remote = 0; pairs = record { own = 1; remote = 0 } ∷ []; many = false } ∷ [];
    }
    ∷ []

abbrev is_published : BexpTree
is_published = test 3 (Compare Eq) (operands.List (Const (val.Bool true) ∷ [])) false

abbrev is_own : BexpTree
is_own = test 1 (Compare Eq) (operands.List (Const (val.Int (pos 1)) ∷ [])) false

-- a user sees all authors, and the articles that are published or his own, without part of their key
abbrev author : Permission
author = record { columns = 0 ∷ 1 ∷ []; filter = always; limit = None; aggregations = false; masks = [] }

abbrev article : Permission
article = record { columns = 2 ∷ 4 ∷ []; filter = or_of (bexp is_published (bexp is_own no_bexp)); limit = None; aggregations = true; masks = [] }

abbrev user : Grants
user = Some author ∷ Some article ∷ []

-- one whose filters reach further, and to whom part of the key and the rating show of some articles alone
abbrev guest : Grants
guest =
    Some (record author { filter = through 0 is_published; masks = record { column = 1; shown = test 0 (Compare Eq) (operands.List (Const (val.Int (pos 1)) ∷ [])) false } ∷ [] })
    ∷ Some
    (record article {
      filter = and_of
          (bexp is_published (bexp (through 0 (test 1 (Compare Eq) (operands.List (Const (val.Text (codes "Ann")) ∷ [])) false)) no_bexp));
      masks = record { column = 2; shown = and_of (bexp is_own (bexp is_published no_bexp)) }
          ∷ record { column = 4; shown = through 0 always } ∷ [];
    })
    ∷ []

abbrev admin : Grants
admin = Some (record author { columns = 0 ∷ 1 ∷ 2 ∷ [] }) ∷ Some (record article { columns = 0 ∷ 1 ∷ 2 ∷ 3 ∷ 4 ∷ []; filter = always }) ∷ []

abbrev plain : ListArguments
plain = record { wanted = always; sorts = []; distinct = []; limit = None; offset = None }

abbrev by : List ℕ → ℕ → SortKey
by path c = record { through = path; column = c; desc = true; nulls_first = true }

abbrev one : FieldTree → FieldTrees
one f = field (codes "f") f no_field

abbrev of_titles : FieldTrees
of_titles = field (codes "title") (column 2) (field (codes "rating") (column 4) no_field)

-- {author(where:{articles:{rating:{_eq:5}}}){name articles(distinct_on:title,order_by:[{title:desc},{author:{name:desc}}],limit:2){title rating author{name}}}}
abbrev nested : FieldTrees
nested =
    one (list (from_table 0) (record plain { wanted = through 0 (test 4 (Compare Eq) (operands.List (Const (val.Int (pos 5)) ∷ [])) false) })
    (field (codes "name") (column 1)
    (field (codes "a")
    (list (along 0) (record plain { distinct = 2 ∷ []; sorts = by [] 2 ∷ by (0 ∷ []) 1 ∷ []; limit = Some 2 })
    (field (codes "title") (column 2) (field (codes "rating") (column 4) (field (codes "author") (object 0 (field (codes "name") (column 1) no_field)) no_field))))
    no_field)))

-- {article_aggregate(order_by:{rating:desc}){aggregate{count(columns:rating,distinct:true) max{title}} nodes{title rating}} author_by_pk(id:1){name}}
abbrev summed : FieldTrees
summed =
    field (codes "s")
    (aggregate (from_table 1) (record plain { sorts = by [] 4 ∷ [] })
    (part (codes "a")
    (summary
    (record { key = codes "count"; field = take.Count (Some 4) true }
    ∷ record { key = codes "max"; field = take.Columns Max (record { key = codes "title"; field = of.Column 2 } ∷ []) } ∷ []))
    (part (codes "n") (nodes of_titles) no_part)))
    (field (codes "k") (by_key 0 (val.Int (pos 1) ∷ []) (field (codes "name") (column 1) no_field)) no_field)

user_nested : faults schema user (statement nested schema (granted_of user)) ≡ []
unfolding table_alias fold_alias join_alias value_name key_name needed_name unit_name digits
user_nested = refl

user_summed : faults schema user (statement summed schema (granted_of user)) ≡ []
unfolding table_alias fold_alias join_alias value_name key_name needed_name unit_name digits
user_summed = refl

guest_nested : faults schema guest (statement nested schema (granted_of guest)) ≡ []
unfolding table_alias fold_alias join_alias value_name key_name needed_name unit_name digits
guest_nested = refl

guest_summed : faults schema guest (statement summed schema (granted_of guest)) ≡ []
unfolding table_alias fold_alias join_alias value_name key_name needed_name unit_name digits
guest_summed = refl

-- ---- statements that break one rule

abbrev due : ℕ → List ℕ → Option Fault
due rule alias = Some (record { rule = rule; alias = alias })

-- what admin asks, for the user: the filter is not there
admin_breaks_2 : worst (faults schema user (statement (one (list (from_table 1) plain (field (codes "title") (column 2) no_field))) schema (granted_of admin))) ≡ due 2 (codes "t1")
unfolding table_alias fold_alias join_alias value_name key_name needed_name unit_name digits
admin_breaks_2 = refl

-- a table of which nothing is granted
nobody_breaks_1 : worst (faults schema (None ∷ []) (statement nested schema (granted_of user))) ≡ due 1 (codes "t1")
unfolding table_alias fold_alias join_alias value_name key_name needed_name unit_name digits
nobody_breaks_1 = refl

abbrev at_a : List ℕ → ExprTree
at_a name = tree.column (codes "a") name Plain

abbrev sorted : ExprTree → OrderTree
sorted e = record { value = e; desc = false; nulls_first = false }

-- the array of these values, over authors
abbrev authors : (value : ExprTree) → JoinTrees → FilterTree → List OrderTree → (limit : Option ℕ) → SelectTree
authors value joins condition keys limit =
    tree.fold (record { value = tree.aggregate (tree.json_agg (tree.column (codes "s") (codes "v") Plain) (tree.order (tree.bool true) false false tree.no_order)); name = codes "v" })
    (tree.rows [] (record { value = tree.object (tree.pair (codes "x") value tree.no_pair); name = codes "v" } ∷ [])
    (tree.table (codes "public") (codes "author") (codes "a")) joins condition keys limit None)
    (codes "s")

abbrev by_id : List OrderTree
by_id = sorted (at_a (codes "id")) ∷ []

plain_is_confined : faults schema user (authors (at_a (codes "name")) tree.no_join tree.no_filter by_id None) ≡ []
unfolding table_alias fold_alias join_alias value_name key_name needed_name unit_name digits
plain_is_confined = refl

hidden_breaks_3 : worst (faults schema user (authors (at_a (codes "email")) tree.no_join tree.no_filter by_id None)) ≡ due 3 (codes "a")
unfolding table_alias fold_alias join_alias value_name key_name needed_name unit_name digits
hidden_breaks_3 = refl

compared_breaks_3 : worst
    (faults schema user
    (authors (at_a (codes "name")) tree.no_join (tree.filter (tree.test (at_a (codes "email")) (Compare Eq) (tree.text (codes "e") ∷ [])))
    by_id None))
    ≡ due 3 (codes "a")
unfolding table_alias fold_alias join_alias value_name key_name needed_name unit_name digits
compared_breaks_3 = refl

unordered_breaks_6 : worst (faults schema user (authors (at_a (codes "name")) tree.no_join tree.no_filter [] (Some 1))) ≡ due 6 (codes "a")
unfolding table_alias fold_alias join_alias value_name key_name needed_name unit_name digits
unordered_breaks_6 = refl

-- a guest's name of an author, without its mask, and behind a mask with another constant
abbrev unlike : ℕ → FilterTree
unlike n = tree.filter (tree.test (at_a (codes "id")) (Compare Eq) (tree.int (pos n) ∷ []))

abbrev mask_of_name : ℕ → JoinTrees
mask_of_name n = tree.join (tree.rows [] (record { value = at_a (codes "name"); name = codes "v" } ∷ []) (tree.one (codes "o")) tree.no_join (unlike n) [] None None) (codes "m") tree.no_join

abbrev masked_authors : Grants
masked_authors = Some (record author { masks = record { column = 1; shown = test 0 (Compare Eq) (operands.List (Const (val.Int (pos 1)) ∷ [])) false } ∷ [] }) ∷ []

mask_is_confined : faults schema masked_authors (authors (tree.column (codes "m") (codes "v") Plain) (mask_of_name 1) tree.no_filter by_id None) ≡ []
unfolding table_alias fold_alias join_alias value_name key_name needed_name unit_name digits
mask_is_confined = refl

unmasked_breaks_4 : worst (faults schema masked_authors (authors (at_a (codes "name")) tree.no_join tree.no_filter by_id None)) ≡ due 4 (codes "a")
unfolding table_alias fold_alias join_alias value_name key_name needed_name unit_name digits
unmasked_breaks_4 = refl

other_mask_breaks_4 : worst (faults schema masked_authors (authors (tree.column (codes "m") (codes "v") Plain) (mask_of_name 2) tree.no_filter by_id None)) ≡ due 4 (codes "a")
unfolding table_alias fold_alias join_alias value_name key_name needed_name unit_name digits
other_mask_breaks_4 = refl

-- a hidden key that is compared
abbrev keyless : Grants
keyless = Some (record author { columns = 1 ∷ [] }) ∷ []

compared_key_breaks_5 : worst (faults schema keyless (authors (at_a (codes "name")) tree.no_join (unlike 1) by_id None)) ≡ due 5 (codes "a")
unfolding table_alias fold_alias join_alias value_name key_name needed_name unit_name digits
compared_key_breaks_5 = refl

-- and one that is sorted by downwards
downwards_breaks_5 : worst
    (faults schema keyless
    (authors (at_a (codes "name")) tree.no_join tree.no_filter
    (record { value = at_a (codes "id"); desc = true; nulls_first = false } ∷ by_id) None))
    ≡ due 5 (codes "a")
unfolding table_alias fold_alias join_alias value_name key_name needed_name unit_name digits
downwards_breaks_5 = refl

-- ---- what must not be taken for what it is like

-- a filter's conjunct with another constant is none of the filter
abbrev other_article : Permission
other_article = record article { filter = or_of (bexp is_published (bexp (test 1 (Compare Eq) (operands.List (Const (val.Int (pos 2)) ∷ [])) false) no_bexp)) }

constant_breaks_2 : worst
    (faults schema (Some author ∷ Some other_article ∷ [])
    (statement (one (list (from_table 1) plain (field (codes "title") (column 2) no_field))) schema (granted_of user)))
    ≡ due 2 (codes "t1")
unfolding table_alias fold_alias join_alias value_name key_name needed_name unit_name digits
constant_breaks_2 = refl

-- the rows of an EXISTS may stand in no order, but not with LIMIT
abbrev some_author : (limit : Option ℕ) → FilterTree
some_author limit =
    tree.filter
    (tree.exists
    (tree.rows [] (record { value = tree.bool true; name = codes "u" } ∷ []) (tree.table (codes "public") (codes "author") (codes "b"))
    tree.no_join tree.no_filter [] limit None))

exists_is_confined : faults schema user (authors (at_a (codes "name")) tree.no_join (some_author None) by_id None) ≡ []
unfolding table_alias fold_alias join_alias value_name key_name needed_name unit_name digits
exists_is_confined = refl

limited_breaks_6 : worst (faults schema user (authors (at_a (codes "name")) tree.no_join (some_author (Some 1)) by_id None)) ≡ due 6 (codes "b")
unfolding table_alias fold_alias join_alias value_name key_name needed_name unit_name digits
limited_breaks_6 = refl

-- a relationship of two pairs is a whole link by both of them, and by one of them none
abbrev whole : Column
whole = record { name = codes "k"; ty = Integer; of = []; nullable = false }

abbrev places : Schema
places =
    record {
      schema = codes "public";
      name = codes "place";
      columns = whole ∷ record whole { name = codes "a" } ∷ record whole { name = codes "b" } ∷ [];
      key = 0 ∷ [];
      rels = record { name = codes "visits"; remote = 1; pairs = record { own = 1; remote = 1 } ∷ record { own = 2; remote = 2 } ∷ []; many = true } ∷ [];
    }
    ∷ record {
      schema = codes "public";
      name = codes "visit";
      columns = whole ∷ record whole { name = codes "a" } ∷ record whole { name = codes "b" } ∷ [];
      key = 0 ∷ [];
      rels = [];
    }
    ∷ []

abbrev visitor : Grants
visitor = Some (record author { columns = 0 ∷ [] }) ∷ Some (record author { columns = 0 ∷ [] }) ∷ []

abbrev equals : List ℕ → PredTree
equals name = tree.test (tree.column (codes "b") name Plain) (Compare Eq) (tree.column (codes "a") name Plain ∷ [])

abbrev visited : PredTree → SelectTree
visited tie =
    tree.rows [] (record { value = at_a (codes "k"); name = codes "v" } ∷ []) (tree.table (codes "public") (codes "place") (codes "a")) tree.no_join
    (tree.filter
    (tree.exists
    (tree.rows [] (record { value = tree.bool true; name = codes "u" } ∷ []) (tree.table (codes "public") (codes "visit") (codes "b"))
    tree.no_join (tree.filter tie) [] None None)))
    (sorted (at_a (codes "k")) ∷ []) None None

link_is_confined : faults places visitor (visited (tree.all_of (tree.pred (equals (codes "a")) (tree.pred (equals (codes "b")) tree.no_pred)))) ≡ []
unfolding table_alias fold_alias join_alias value_name key_name needed_name unit_name digits
link_is_confined = refl

part_of_link_breaks_3 : worst (faults places visitor (visited (equals (codes "a")))) ≡ due 3 (codes "b")
unfolding table_alias fold_alias join_alias value_name key_name needed_name unit_name digits
part_of_link_breaks_3 = refl
