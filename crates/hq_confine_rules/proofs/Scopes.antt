-- What a scope shows of aliases, by their numbers.
use Rattle.std.proofs.Common.{◌≡◌, ℕ, ◌+◌, ◌<◌, ◌≤◌, ◌^◌, List, [], ◌∷◌, ◌++◌, true, cond, refl, sym, ap, ◌∙◌, arith, append_assoc, append-nil}
use Rattle.hq_model.specs.Grants.{Grants}
use Rattle.hq_model.specs.Schema.{Schema, table}
use Rattle.hq_sql_tree.specs.declared.expr.ColumnForm.{ColumnForm}
use Rattle.hq_sql_tree.specs.Tree.{column, SelectTree, JoinTree, joins_of}
use Rattle.hq_translation.specs.Fine.{Has}
use Rattle.hq_translation.specs.Looks.{Look, name_of, is_used}
use Rattle.hq_translation.specs.Names.{table_alias, join_alias, value_name}
use Rattle.hq_translation.proofs.Names.{same_text, used_left, used_right}
use Rattle.hq_translation.proofs.Scopes.{Under, under_table, under_join, under_later, LooksUnder}
use Rattle.hq_confine_rules.specs.Origins.{Origin, made, of, Shape, scan, outputs, Shapes, shape_at, origin_in, origin_at, column_of, behind, output_named}
use Rattle.hq_confine_rules.specs.Uses.{is_plain, expr_faults}
use Rattle.hq_confine_rules.specs.Members.{is_mask_join}
use Rattle.hq_confine_rules.specs.Faults.{outputs_of, joined_shapes, select_faults, joins_faults}
use Rattle.hq_confine_rules.specs.Ready.{Ready}
use Rattle.hq_confine_rules.proofs.Clean.{none}

-- nothing of the aliases below n is hidden
abbrev pub Grows : ℕ → Shapes → Shapes → Type 0
Grows n before after = (a : List ℕ) → Under n a → shape_at after a ≡ shape_at before a

-- the alias of number p is a scan of t
abbrev pub Scans : Shapes → (p t : ℕ) → Type 0
Scans scope p t = shape_at scope (table_alias p) ≡ scan t

pub grows_one : (n : ℕ) (sh : Shape) (scope : Shapes) → n < 2 ^ 64 → Grows n scope ((table_alias n, sh) ∷ scope)
grows_one n sh scope bound a under = rw ((under n (omega arith) bound).0) refl

pub scans_here : (t n : ℕ) (scope : Shapes) → Scans ((table_alias n, scan t) ∷ scope) n t
scans_here t n scope = rw (same_text (table_alias n)) refl

pub scans_behind : (before after : Shapes) (p n t : ℕ) → p < n → Grows n before after → Scans before p t → Scans after p t
scans_behind before after p n t lt g k = g (table_alias p) (under_later (p + 1) n (table_alias p) (omega arith) (under_table p)) ∙ k

module _ (s : Schema) (g : Grants) where
  -- a column of a scan
  pub own_origin : (scope : Shapes) (p t c : ℕ) → Ready s g t → Has s t c → Scans scope p t → origin_at s scope (table_alias p) (name_of (table s t).columns c) ≡ of t (table_alias p ∷ []) c
  own_origin scope p t c ready has k = ap (λ sh. origin_in s sh (table_alias p) (name_of (table s t).columns c)) k ∙ ap (column_of t (table_alias p)) (ready.names c has)

  pub behind_plain : (a : List ℕ) (o : Origin) → is_plain g o ≡ true → is_plain g (behind a o) ≡ true
  behind_plain a made h = refl
  behind_plain a (of t path c) h = h

  -- the places of these columns show cells that are plain
  abbrev pub Shows : Shapes → Look → List ℕ → Type 0
  Shows scope look cs = (c : ℕ) → is_used c cs ≡ true → is_plain g (origin_at s scope (look c).alias (look c).name) ≡ true

  pub shows_behind : (before after : Shapes) (n : ℕ) (look : Look) (cs : List ℕ) → Grows n before after → LooksUnder n look → Shows before look cs → Shows after look cs
  shows_behind before after n look cs grown u k c used = ap (λ sh. is_plain g (origin_in s sh (look c).alias (look c).name)) (grown (look c).alias (u c)) ∙ k c used

  pub shows_left : (scope : Shapes) (look : Look) (cs ds : List ℕ) → Shows scope look (cs ++ ds) → Shows scope look cs
  shows_left scope look cs ds k c used = k c (used_left c cs ds used)

  pub shows_right : (scope : Shapes) (look : Look) (cs ds : List ℕ) → Shows scope look (cs ++ ds) → Shows scope look ds
  shows_right scope look cs ds k c used = k c (used_right c cs ds used)

  -- a column that is plain has no fault
  pub column_clean : (scope : Shapes) (alias name : List ℕ) (form : ColumnForm) → is_plain g (origin_at s scope alias name) ≡ true → expr_faults s g scope (column alias name form) ≡ []
  column_clean scope alias name form h = rw h refl

  -- ---- joins

  -- Joins with the numbers from n on, below m, in front of others: they are without faults where those are in the scope behind
  -- them; they hide no alias below n; and V holds in each scope that hides no alias below m of that one.
  pub record Joined (scope : Shapes) (n m : ℕ) (J : List JoinTree) (V : Shapes → Type 0) : Type 0 where
    pub after : Shapes
    pub clean : (js : List JoinTree) → joins_faults s g after (joins_of js) ≡ [] → joins_faults s g scope (joins_of (J ++ js)) ≡ []
    pub joined : (js : List JoinTree) → joined_shapes s g scope (joins_of (J ++ js)) ≡ joined_shapes s g after (joins_of js)
    pub grows : Grows n scope after
    pub seen : (final : Shapes) → Grows m after final → V final

  pub joined_none : (scope : Shapes) (n m : ℕ) (V : Shapes → Type 0) → ((final : Shapes) → Grows m scope final → V final) → Joined scope n m [] V
  joined_none scope n m V v = record { after = scope; clean = λ js h. h; joined = λ js. refl; grows = λ a u. refl; seen = v }

  pub joined_then : (scope : Shapes) (n mid m : ℕ) (J K : List JoinTree) (V W : Shapes → Type 0) → n ≤ mid → mid ≤ m
      → (first : Joined scope n mid J V) → Joined first.after mid m K W → Joined scope n m (J ++ K) (λ final. V final × W final)
  joined_then scope n mid m J K V W a b first second = record {
    after = second.after;
    clean = λ js h. rw (append_assoc J K js) (first.clean (K ++ js) (second.clean js h));
    joined = λ js. ap (λ l. joined_shapes s g scope (joins_of l)) (append_assoc J K js) ∙ (first.joined (K ++ js) ∙ second.joined js);
    grows = λ x u. second.grows x (under_later n mid x a u) ∙ first.grows x u;
    seen = λ final grown. (first.seen final (λ x u. grown x (under_later mid m x b u) ∙ second.grows x u), second.seen final grown);
  }

  -- what a select of a value is: without faults, or the join of a mask; and its value is plain
  pub record First (scope : Shapes) (q : SelectTree) : Type 0 where
    pub clean : cond (is_mask_join s g scope q) [] (select_faults s g scope true q) ≡ []
    pub shows : is_plain g (output_named (cond (is_mask_join s g scope q) [] (outputs_of s g scope q)) value_name) ≡ true

  pub joined_one : (scope : Shapes) (n m : ℕ) (q : SelectTree) → n < m → n < 2 ^ 64 → First scope q
      → Joined scope n m (record { select = q; alias = join_alias n } ∷ []) (λ final. is_plain g (origin_at s final (join_alias n) value_name) ≡ true)
  joined_one scope n m q lt bound first =
      let sh : Shape = outputs (cond (is_mask_join s g scope q) [] (outputs_of s g scope q)) in
      record {
        after = (join_alias n, sh) ∷ scope;
        clean = λ js h. none (cond (is_mask_join s g scope q) [] (select_faults s g scope true q)) (joins_faults s g ((join_alias n, sh) ∷ scope) (joins_of js)) first.clean h;
        joined = λ js. refl;
        grows = λ a u. rw ((u n (omega arith) bound).1.1) refl;
        seen = λ final grown.
            let at : shape_at final (join_alias n) ≡ sh = grown (join_alias n) (under_later (n + 1) m (join_alias n) (omega arith) (under_join n)) ∙ rw (same_text (join_alias n)) refl in
            ap (λ x. is_plain g (origin_in s x (join_alias n) value_name)) at
            ∙ behind_plain (join_alias n) (output_named (cond (is_mask_join s g scope q) [] (outputs_of s g scope q)) value_name)
            first.shows;
      }

  pub joined_as : (scope : Shapes) (n m m' : ℕ) (J : List JoinTree) (V W : Shapes → Type 0) → m ≤ m' → ((final : Shapes) → V final → W final) → Joined scope n m J V → Joined scope n m' J W
  joined_as scope n m m' J V W le weaker j = record {
    after = j.after;
    clean = j.clean;
    joined = j.joined;
    grows = j.grows;
    seen = λ final grown. weaker final (j.seen final (λ a u. grown a (under_later m m' a le u)));
  }

  -- joins that begin later
  pub sooner : (scope : Shapes) (n n' m : ℕ) (J : List JoinTree) (V : Shapes → Type 0) → n ≤ n' → Joined scope n' m J V → Joined scope n m J V
  sooner scope n n' m J V le j = record { after = j.after; clean = j.clean; joined = j.joined; grows = λ a u. j.grows a (under_later n n' a le u); seen = j.seen }

  -- all the joins of a select
  pub joins_clean : (scope : Shapes) (n m : ℕ) (J : List JoinTree) (V : Shapes → Type 0) → (j : Joined scope n m J V) → joins_faults s g scope (joins_of J) ≡ []
  joins_clean scope n m J V j = ap (λ l. joins_faults s g scope (joins_of l)) (sym (append-nil J)) ∙ j.clean [] refl

  pub joins_shapes : (scope : Shapes) (n m : ℕ) (J : List JoinTree) (V : Shapes → Type 0) → (j : Joined scope n m J V) → joined_shapes s g scope (joins_of J) ≡ j.after
  joins_shapes scope n m J V j = ap (λ l. joined_shapes s g scope (joins_of l)) (sym (append-nil J)) ∙ j.joined []
