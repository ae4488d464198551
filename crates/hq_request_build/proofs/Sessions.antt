-- The touched tables that are bound for a session.
use Rattle.std.proofs.Common.{◌≡◌, ◌∙◌, refl, sym, ap, subst, ℕ, List, [], ◌∷◌, map, length, Bool, true, false, cond, ◌||◌, Option, Some, None, Result, Ok, Err}
use Rattle.std.specs.Prelude.{◌==◌, find, is_ok, option_map, option_and_then}
use Rattle.std.specs.Result.{result_ok}
use Rattle.std.specs.List.{list_any}
use Rattle.std.proofs.lemmas.Bool.{eq-eqb, eqb-true, false≢true}
use Rattle.hq_base.specs.Due.{mapped, and_then}
use Rattle.hq_base.specs.Lists.{Each}
use Rattle.hq_base.proofs.Lists.{each_weaken}
use Rattle.hq_model.specs.Bexp.{BexpTree}
use Rattle.hq_model.specs.Binding.{bound, bound_masks, bound_permission}
use Rattle.hq_model.specs.Laws.{MasksBind}
use Rattle.hq_model.specs.Meta.{MetaTree}
use Rattle.hq_model.specs.Permission.{Mask, Permission, permission, role_of}
use Rattle.hq_model.specs.Schema.{Schema, schema_of}
use Rattle.hq_model.specs.declared.bind.BindRefusal.{BindRefusal}
use Rattle.hq_model.specs.declared.role.Role.{Role}
use Rattle.hq_model.specs.declared.session.Session.{Session}
use Rattle.hq_model.specs.declared.session.Var.{Var}
use Rattle.hq_model.specs.declared.table.Table.{Table}
use Rattle.hq_request_tree.specs.Sessions.{session_grant}
use Rattle.hq_request_tree.specs.Touched.{touched}
use Rattle.hq_request_tree.specs.Fields.{FieldTrees}
use Rattle.hq_request_tree.specs.Request.{BoundTree, with_bound, bound_table, grant_in}
use Rattle.hq_request_build.specs.Bound.{of_table, bound_of, bound_due, bounds_due}
use Rattle.hq_request_build.specs.Laws.{request_of, BoundForSession, FiltersRefuse}

-- what is bound of a permission is the permission with what is bound of its filter and masks
bound_parts : (p q : Permission) (s : Schema) (vars : List Var) (t : ℕ) → bound_permission p s vars t ≡ Ok q → with_bound p (of_table t q) ≡ q
bound_parts p q s vars t is = by (bound p.filter s vars t) (bound_masks p.masks s vars t) is
  where
    by : (r : Result BexpTree BindRefusal) (ms : Result (List Mask) BindRefusal)
        → and_then (λ f. mapped (λ ks. record p { filter = f; masks = ks }) ms) r ≡ Ok q → with_bound p (of_table t q) ≡ q
    by (Ok f) (Ok ks) e = let same : record p { filter = f; masks = ks } ≡ q = cc in subst (λ (x : Permission). with_bound p (of_table t x) ≡ x) same refl
    by (Ok f) (Err x) e = cc
    by (Err x) ms e = cc

module _ (role : Role) (m : MetaTree) (s : Schema) (vars : List Var) where
  -- an entry is what is due for its table
  abbrev Due : BoundTree → Type 0
  Due b = bound_due role m s vars b.table ≡ Ok b

  -- what is due for a table is an entry of it
  due_table : (t : ℕ) (b : BoundTree) → bound_due role m s vars t ≡ Ok b → b.table ≡ t
  due_table t b is = by (permission role m t) is
    where
      bound_in : (r : Result Permission BindRefusal) → mapped (of_table t) r ≡ Ok b → b.table ≡ t
      bound_in (Ok q) e = let same : of_table t q ≡ b = cc in sym (ap (λ (x : BoundTree). x.table) same)
      bound_in (Err x) e = cc

      by : (o : Option Permission) → bound_of o s vars t ≡ Ok b → b.table ≡ t
      by None e = ap (λ (r : Result BoundTree BindRefusal). table_in r) (sym e)
        where
          table_in : Result BoundTree BindRefusal → ℕ
          table_in (Ok x) = x.table
          table_in (Err x) = t
      by (Some p) e = bound_in (bound_permission p s vars t) e

  -- the entries are those of the tables, each what is due
  entries : (ts : List ℕ) (bs : List BoundTree) → bounds_due role m s vars ts ≡ Ok bs → (map (λ b. b.table) bs ≡ ts) × Each Due bs
  entries [] bs is = let none : [] ≡ bs = cc in subst (λ (xs : List BoundTree). (map (λ b. b.table) xs ≡ []) × Each Due xs) none (refl, tt)
  entries (t ∷ ts) bs is = by (bound_due role m s vars t) (bounds_due role m s vars ts) refl (λ more e. entries ts more e) is
    where
      by : (r : Result BoundTree BindRefusal) (rest : Result (List BoundTree) BindRefusal) → bound_due role m s vars t ≡ r
          → ((more : List BoundTree) → rest ≡ Ok more → (map (λ b. b.table) more ≡ ts) × Each Due more)
          → and_then (λ b. mapped (λ more. b ∷ more) rest) r ≡ Ok bs → (map (λ b. b.table) bs ≡ t ∷ ts) × Each Due bs
      by (Ok b) (Ok more) e1 later e =
          let same : b ∷ more ≡ bs = cc in
          let at : b.table ≡ t = due_table t b e1 in
          subst (λ (xs : List BoundTree). (map (λ b. b.table) xs ≡ t ∷ ts) × Each Due xs) same
          (ap (λ u. u ∷ map (λ b. b.table) more) at ∙ ap (λ xs. t ∷ xs) (later more refl).0, (ap (bound_due role m s vars) at ∙ e1, (later more refl).1))
      by (Ok b) (Err x) e1 later e = cc
      by (Err x) rest e1 later e = cc

  -- an entry is found for a table of theirs, and is what is due for it
  abbrev Found : ℕ → List BoundTree → Type 0
  Found t bs = (b : BoundTree) × ((find (λ c. c.table == t) bs ≡ Some b) × (bound_due role m s vars t ≡ Ok b))

  found : (t : ℕ) (bs : List BoundTree) → Each Due bs → list_any (λ c. c.table == t) bs ≡ true → Found t bs
  found t [] h among = absurd (false≢true among)
  found t (b ∷ bs) h among =
      let go : (x : Bool) → (b.table == t) ≡ x → (x || list_any (λ c. c.table == t) bs) ≡ true
      → (d : BoundTree) × ((cond x (Some b) (find (λ c. c.table == t) bs) ≡ Some d) × (bound_due role m s vars t ≡ Ok d)) = elim [
        | true ↦ λ e g. (b, (refl, subst (λ u. bound_due role m s vars u ≡ Ok b) (eqb-true b.table t e) h.0))
        | false ↦ λ e g. found t bs h.1 g
      ] in
      go (b.table == t) refl among

  -- what an entry grants is what is due
  granted : (all : List BoundTree) (t : ℕ) → Found t all
      → option_and_then (λ p. option_map (with_bound p) (bound_table all t)) (permission role m t) ≡ option_and_then (λ p. result_ok (bound_permission p s vars t)) (permission role m t)
  granted all t h = by (permission role m t) refl
    where
      bound_in : (p : Permission) (r : Result Permission BindRefusal) → bound_permission p s vars t ≡ r → mapped (of_table t) r ≡ Ok (h.0) → Some (with_bound p (h.0)) ≡ result_ok r
      bound_in p (Ok q) is e = let same : of_table t q ≡ h.0 = cc in ap (λ (b : BoundTree). Some (with_bound p b)) (sym same) ∙ ap Some (bound_parts p q s vars t is)
      bound_in p (Err x) is e = cc

      by : (o : Option Permission) → permission role m t ≡ o
          → option_and_then (λ p. option_map (with_bound p) (bound_table all t)) o ≡ option_and_then (λ p. result_ok (bound_permission p s vars t)) o
      by None e = refl
      by (Some p) e = ap (option_map (with_bound p)) h.1.0 ∙ bound_in p (bound_permission p s vars t) refl (sym (ap (λ o. bound_of o s vars t) e) ∙ h.1.1)

-- each entry is among the entries
among_all : (bs : List BoundTree) → Each (λ b. list_any (λ c. c.table == b.table) bs ≡ true) bs
among_all [] = tt
among_all (b ∷ bs) =
    let more : (x : BoundTree) → list_any (λ c. c.table == x.table) bs ≡ true → list_any (λ c. c.table == x.table) (b ∷ bs) ≡ true =
    λ x h. let go : (y : Bool) → (y || list_any (λ c. c.table == x.table) bs) ≡ true = elim [ true ↦ refl | false ↦ h ] in go (b.table == x.table) in (
      ap (λ y. y || list_any (λ c. c.table == b.table) bs) (eq-eqb b.table b.table refl),
      each_weaken (λ x. list_any (λ c. c.table == x.table) bs ≡ true) (λ x. list_any (λ c. c.table == x.table) (b ∷ bs) ≡ true) more bs (among_all bs),
    )

pub bound_for_session : (tables : List Table) (m : MetaTree) (session : Session) (fs : FieldTrees) → BoundForSession tables m session fs
bound_for_session tables m session fs bs is =
    let s : Schema = schema_of tables m in
    let role : Role = role_of session.role in
    let all = entries role m s session.vars (touched fs s (length tables)) bs is in
    record {
      touches = all.0;
      is_for = record {
        role = refl;
        bound = each_weaken (λ b. list_any (λ c. c.table == b.table) bs ≡ true) (λ b. grant_in (request_of session fs bs) m b.table ≡ session_grant session m s b.table)
            (λ b h. granted role m s session.vars bs b.table (found role m s session.vars b.table bs all.1 h)) bs (among_all bs);
      };
    }

-- the fault of a table is that of its filter
pub filter_refuses : (role : Role) (m : MetaTree) (s : Schema) (vars : List Var) (t : ℕ) → MasksBind role m s vars t → FiltersRefuse role m s vars t
filter_refuses role m s vars t bind p e at due = by (bound p.filter s vars t) (bound_masks p.masks s vars t) (bind p at) (sym (ap (λ o. bound_of o s vars t) at) ∙ due)
  where
    by : (r : Result BexpTree BindRefusal) (ms : Result (List Mask) BindRefusal) → (is_ok r ≡ true → is_ok ms ≡ true)
        → mapped (of_table t) (and_then (λ f. mapped (λ ks. record p { filter = f; masks = ks }) ms) r) ≡ Err e → r ≡ Err e
    by (Ok f) (Ok ks) h g = cc
    by (Ok f) (Err x) h g = absurd (false≢true (h refl))
    by (Err x) ms h g = let same : x ≡ e = cc in ap Err same
