-- Laws of typed requests.
use Rattle.std.specs.Prelude.{◌≡◌, ℕ, List, length, true}
use Rattle.hq_base.specs.Lists.{Each}
use Rattle.hq_model.specs.Database.{Row}
use Rattle.hq_model.specs.Fits.{fits}
use Rattle.hq_model.specs.Grants.{Grants, grant, grants_of}
use Rattle.hq_model.specs.Meta.{MetaTree}
use Rattle.hq_model.specs.Schema.{Schema, schema_of}
use Rattle.hq_model.specs.declared.session.Session.{Session}
use Rattle.hq_model.specs.declared.table.Table.{Table}
use Rattle.hq_request_tree.specs.Allowed.{allowed_to, existing}
use Rattle.hq_request_tree.specs.Fields.{FieldTrees}
use Rattle.hq_request_tree.specs.Request.{AskTree, grants_in}
use Rattle.hq_request_tree.specs.Resolve.{resolved}
use Rattle.hq_request_tree.specs.Sessions.{IsFor}
use Rattle.hq_request_tree.specs.Touched.{tables_of}
use Rattle.hq_request_tree.specs.Uses.{UsesAll}
use Rattle.hq_request_tree.specs.WellFormed.{IsRequest}

-- two grants are the same on tables
abbrev pub GrantedAlike : (g h : Grants) → List ℕ → Type 0
GrantedAlike g h ts = Each (λ t. grant g t ≡ grant h t) ts

-- what a request gives depends on what is granted of the tables that it touches alone
abbrev pub TouchedDecide : FieldTrees → Schema → (g h : Grants) → List (List Row) → Type 0
TouchedDecide fs s g h d = GrantedAlike g h (tables_of fs s (length s)) → resolved fs s g d ≡ resolved fs s h d

-- a well-formed request uses what its role may use, and no more
abbrev pub UsesPermitted : List Table → MetaTree → AskTree → Type 0
UsesPermitted tables m a =
    IsRequest tables m a → UsesAll a.fields (schema_of tables m) (allowed_to a.role m (schema_of tables m)) (length tables)

-- what it uses is there, where the metadata fits the catalog
abbrev pub UsesExisting : List Table → MetaTree → AskTree → Type 0
UsesExisting tables m a =
    fits tables m ≡ true → IsRequest tables m a → UsesAll a.fields (schema_of tables m) (existing m (schema_of tables m)) (length tables)

-- what a well-formed request of a session gives for what it grants itself, is what it gives for what the session is granted
abbrev pub GrantsDecide : List Table → MetaTree → Session → AskTree → List (List Row) → Type 0
GrantsDecide tables m session a d =
    let s = schema_of tables m in
    IsFor s m session a → IsRequest tables m a → resolved a.fields s (grants_in a m s) d ≡ resolved a.fields s (grants_of session tables m) d
