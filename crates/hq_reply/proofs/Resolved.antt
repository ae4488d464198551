-- What resolvers give for the root fields that start at a table.
use Rattle.std.proofs.Common.{◌≡◌, List, [], length, false, refl, ap}
use Rattle.hq_request_tree.specs.Fields.{FieldTrees, no_field, field, FieldTree, column, typename, no_queries, object, list, by_key, aggregate, introspect}
use Rattle.hq_request_tree.specs.Resolve.{resolve_all}
use Rattle.hq_request_tree.specs.Root.{table_fields}
use Rattle.hq_base.specs.Json.{JsonTree, obj, member, no_member}
use Rattle.hq_model.specs.Database.{Row}
use Rattle.hq_model.specs.Grants.{Grants, limits}
use Rattle.hq_model.specs.Permitted.{seen_by}
use Rattle.hq_model.specs.Schema.{Schema}
use Rattle.hq_reply.specs.RootObject.{of_database, has_table_field}
use Rattle.hq_reply.specs.TableObject.{table_members, table_object, IsResolved}

members_resolved : (s : Schema) (g : Grants) (d : List (List Row)) (fs : FieldTrees) → resolve_all (table_fields fs) s (limits g) (seen_by s g d) (length s) [] ≡ table_members (of_database s g d) fs
members_resolved s g d no_field = refl
members_resolved s g d (field key (column c) fs) = members_resolved s g d fs
members_resolved s g d (field key (typename n) fs) = members_resolved s g d fs
members_resolved s g d (field key no_queries fs) = members_resolved s g d fs
members_resolved s g d (field key (object r f) fs) = members_resolved s g d fs
members_resolved s g d (field key (list o a f) fs) = ap (member key (of_database s g d (list o a f))) (members_resolved s g d fs)
members_resolved s g d (field key (by_key t k f) fs) = ap (member key (of_database s g d (by_key t k f))) (members_resolved s g d fs)
members_resolved s g d (field key (aggregate o a ps) fs) = ap (member key (of_database s g d (aggregate o a ps))) (members_resolved s g d fs)
members_resolved s g d (field key (introspect f) fs) = members_resolved s g d fs

-- the object has the value of each field under its key
pub is_resolved : (s : Schema) (g : Grants) (d : List (List Row)) (fs : FieldTrees) → IsResolved s g d fs
is_resolved s g d fs = ap obj (members_resolved s g d fs)

-- of fields that start at no table there is no member
none_members : (of_table : FieldTree → JsonTree) (fs : FieldTrees) → has_table_field fs ≡ false → table_members of_table fs ≡ no_member
none_members of_table no_field h = refl
none_members of_table (field key (column c) fs) h = none_members of_table fs h
none_members of_table (field key (typename n) fs) h = none_members of_table fs h
none_members of_table (field key no_queries fs) h = none_members of_table fs h
none_members of_table (field key (object r f) fs) h = none_members of_table fs h
none_members of_table (field key (list o a f) fs) h = absurd cc
none_members of_table (field key (by_key t k f) fs) h = absurd cc
none_members of_table (field key (aggregate o a ps) fs) h = absurd cc
none_members of_table (field key (introspect f) fs) h = none_members of_table fs h

pub none_object : (of_table : FieldTree → JsonTree) (fs : FieldTrees) → has_table_field fs ≡ false → table_object of_table fs ≡ obj no_member
none_object of_table fs h = ap obj (none_members of_table fs h)
