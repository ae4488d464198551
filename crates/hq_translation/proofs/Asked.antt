-- The statement of a typed request is well-formed for the catalog, and means what nested resolvers give.
use Rattle.std.proofs.Common.{◌≡◌, ℕ, ◌+◌, ◌*◌, ◌≤◌, List, [], ◌∷◌, length, refl, sym, ap, subst, ◌∙◌, suc, arith}
use Rattle.hq_model.specs.Database.{Row}
use Rattle.hq_model.specs.Meta.{MetaTree}
use Rattle.hq_model.specs.Schema.{Schema, schema_of, schema_table, numbered}
use Rattle.hq_model.specs.declared.session.Session.{Session}
use Rattle.hq_model.specs.declared.table.Table.{Table}
use Rattle.hq_request_tree.specs.Allowed.{existing}
use Rattle.hq_request_tree.specs.Conditions.{FieldFits, PartFits}
use Rattle.hq_request_tree.specs.Everywhere.{Everywhere}
use Rattle.hq_request_tree.specs.Laws.{UsesExisting, GrantsDecide}
use Rattle.hq_request_tree.specs.ResponseKeys.{keys_of, FieldKeys, PartKeys}
use Rattle.hq_request_tree.specs.Uses.{UsesHere, UsesPart}
use Rattle.hq_request_tree.specs.WellFormed.{IsRequest}
use Rattle.hq_request_tree.specs.Fields.{FieldTrees}
use Rattle.hq_request_tree.specs.Request.{AskTree, grants_in}
use Rattle.hq_request_tree.specs.Root.{table_fields}
use Rattle.hq_translation.specs.Fine.{Known, FineGranted}
use Rattle.hq_translation.specs.GrantedTables.{GrantedTables}
use Rattle.hq_translation.specs.Shallow.{LowGranted, fields_height}
use Rattle.hq_translation.proofs.Meaning.{means_resolved}
use Rattle.hq_translation.proofs.WellFormed.{is_well_formed}
use Rattle.hq_translation.specs.Asked.{asked_granted, table_request, IsAsked, MeansAsked}
use Rattle.hq_translation.proofs.Relationships.{rel_fine}
use Rattle.hq_translation.proofs.FineRequests.{fields_fine, keys_differ}
use Rattle.hq_translation.proofs.FineGrants.{grant_fine}
use Rattle.hq_translation.proofs.LowRequests.{height_levels, fields_low}
use Rattle.hq_translation.proofs.TableRequests.{tables_asked}

pub numbered_long : {A B : Type 0} (f : ℕ → A → B) (k : ℕ) (xs : List A) → length (numbered f k xs) ≡ length xs
numbered_long f k [] = refl
numbered_long f k (x ∷ xs) = ap suc (numbered_long f (suc k) xs)

pub well_asked : (tables : List Table) (m : MetaTree) (a : AskTree) → UsesExisting tables m (table_request a) → IsAsked tables m a
well_asked tables m a there catalog fitting request held fits =
    let s : Schema = schema_of tables m in
    let g : GrantedTables = asked_granted tables m a in
    let fs : FieldTrees = table_fields a.fields in
    let r : IsRequest tables m (table_request a) = tables_asked tables m a request in
    let long : length tables ≡ length s = sym (numbered_long (schema_table m) 0 tables) in
    let granted = grant_fine s (rel_fine tables m fitting) m a request.bound in
    let used : Everywhere (UsesHere s (existing m s)) (UsesPart (existing m s)) fs s (length tables) = there fitting r in
    let fine = fields_fine tables m fitting fs (length s)
    (subst (Everywhere (UsesHere s (existing m s)) (UsesPart (existing m s)) fs s) long used)
    (subst (Everywhere (FieldFits s) (PartFits s) fs s) long r.fit)
    (subst (Everywhere FieldKeys PartKeys fs s) long r.keys.1) held.1 in
    let allowed : (t : ℕ) → Known s t → FineGranted s g t = λ t known. record { filter = (granted t).filter; masks = (granted t).masks } in
    let low : LowGranted g 301 = (λ t. (granted t).low, λ t. (granted t).low_masks) in
    let high = height_levels fs in
    let few : 2 * fields_height fs + (2 * 400 + 2 * 301 + 200 + 6) ≤ 2000 = let l = r.shallow in omega (arith, high, l) in
    is_well_formed fs tables m g 301 400 200 catalog allowed fine (keys_differ (keys_of fs) r.keys.0) held.0 low (fields_low s fs (length tables) r.fit) few fits

pub means_asked : (tables : List Table) (m : MetaTree) (session : Session) (a : AskTree) (d : List (List Row)) → GrantsDecide tables m session (table_request a) d → MeansAsked tables m session a d
means_asked tables m session a d decide catalog database request is held =
    let s : Schema = schema_of tables m in
    let r : IsRequest tables m (table_request a) = tables_asked tables m a request in
    means_resolved (table_fields a.fields) tables m (grants_in a m s) d catalog database held.0 held.1
    ∙ decide (record { role = is.role; bound = is.bound }) r
