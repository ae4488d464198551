-- What a request of a session grants of the tables that it touches is what the session is granted of them.
use Rattle.std.proofs.Common.{◌≡◌, ℕ, suc, List, [], ◌∷◌, map, length, true, ◌==◌, Option, Some, None, refl, sym, ap, ◌∙◌, subst}
use Rattle.std.proofs.lemmas.Bool.{eqb-true}
use Rattle.std.proofs.lemmas.Option.{unwrap_or-slice_get}
use Rattle.std.specs.List.{list_any}
use Rattle.std.specs.Prelude.{option_map, slice_get, unwrap_or}
use Rattle.hq_base.specs.Lists.{Each, firsts}
use Rattle.hq_base.proofs.Lists.{firsts_any}
use Rattle.hq_model.specs.Database.{Row}
use Rattle.hq_model.specs.Grants.{grant, grant_of, grants_of, no_grant}
use Rattle.hq_model.specs.Meta.{MetaTree}
use Rattle.hq_model.specs.Schema.{Schema, SchemaTable, schema_of, schema_table, numbered}
use Rattle.hq_model.specs.declared.session.Session.{Session}
use Rattle.hq_model.specs.declared.table.Table.{Table}
use Rattle.hq_model.proofs.Places.{at_0}
use Rattle.hq_request_tree.specs.Request.{AskTree, grant_in, grants_in}
use Rattle.hq_request_tree.specs.Laws.{GrantsDecide}
use Rattle.hq_request_tree.specs.Sessions.{session_grant}
use Rattle.hq_request_tree.specs.Touched.{tables_of}
use Rattle.hq_request_tree.proofs.Among.{among_itself, holds_among}
use Rattle.hq_request_tree.proofs.Touching.{touched_decide}

each_mapped : {A B : Type 0} (P : B → Type 0) (f : A → B) (xs : List A) → Each (λ x. P (f x)) xs → Each P (map f xs)
each_mapped P f [] h = tt
each_mapped P f (x ∷ xs) h = (h.0, each_mapped P f xs h.1)

each_of : {A : Type 0} (P Q : A → Type 0) (xs : List A) → Each P xs → ((x : A) → P x → Q x) → Each Q xs
each_of P Q [] h step = tt
each_of P Q (x ∷ xs) h step = (step x h.0, each_of P Q xs h.1 step)

pub numbered_long : {A B : Type 0} (f : ℕ → A → B) (k : ℕ) (xs : List A) → length (numbered f k xs) ≡ length xs
numbered_long f k [] = refl
numbered_long f k (x ∷ xs) = ap suc (numbered_long f (suc k) xs)

-- what holds of the first of each group of places holds of all places
each_of_firsts : (P : ℕ → Type 0) (ts : List ℕ) → Each P (firsts (λ t u. t == u) ts) → Each P ts
each_of_firsts P ts h =
    each_of (λ t. list_any (λ u. u == t) ts ≡ true) P ts (among_itself ts)
    (λ t among. holds_among P (firsts (λ u v. u == v) ts) t h
    (firsts_any (λ u v. u == v) (λ u. u == t) (λ x y same. ap (λ z. z == t) (eqb-true x y same)) ts ∙ among))

module _ (tables : List Table) (m : MetaTree) (session : Session) (a : AskTree) where
  abbrev s : Schema
  s = schema_of tables m

  -- the grant on a table is the same, where what is granted of the table is
  same_grant : (t : ℕ) → grant_in a m t ≡ session_grant session m s t → grant (grants_in a m s) t ≡ grant (grants_of session tables m) t
  same_grant t h =
      let go : (o : Option SchemaTable) → unwrap_or (option_map (λ x. grant_in a m t) o) None ≡ unwrap_or (option_map (grant_of session m s t) o) None =
      elim [ None ↦ refl | Some x ↦ h ] in
      ap (λ o. unwrap_or o no_grant)
      (sym (unwrap_or-slice_get (grants_in a m s) t None) ∙ ap (λ o. unwrap_or o None) (at_0 (λ u x. grant_in a m u) s t)
      ∙ go (slice_get s t)
      ∙ sym (ap (λ o. unwrap_or o None) (at_0 (grant_of session m s) s t)) ∙ unwrap_or-slice_get (grants_of session tables m) t None)

pub grants_decide : (tables : List Table) (m : MetaTree) (session : Session) (a : AskTree) (d : List (List Row)) → GrantsDecide tables m session a d
grants_decide tables m session a d is h =
    let s : Schema = schema_of tables m in
    let Same : ℕ → Type 0 = λ t. grant (grants_in a m s) t ≡ grant (grants_of session tables m) t in
    let bound : Each Same (map (λ b. b.table) a.bound) =
    each_mapped Same (λ b. b.table) a.bound
    (each_of (λ b. grant_in a m b.table ≡ session_grant session m s b.table) (λ b. Same b.table) a.bound is.bound (λ b g. same_grant tables m session a b.table g)) in
    let long : length tables ≡ length s = sym (numbered_long (schema_table m) 0 tables) in
    touched_decide a.fields s (grants_in a m s) (grants_of session tables m) d
    (subst (λ n. Each Same (tables_of a.fields s n)) long (each_of_firsts Same (tables_of a.fields s (length tables)) (subst (Each Same) h.touched bound)))
