-- The joins of sort keys through relationships are without faults.
use Rattle.std.proofs.Common.{◌≡◌, ℕ, ◌+◌, ◌<◌, ◌≤◌, ◌^◌, List, [], ◌∷◌, ◌++◌, true, false, refl, arith}
use Rattle.hq_model.specs.Grants.{Grants}
use Rattle.hq_model.specs.Schema.{Schema, rel}
use Rattle.hq_translation.specs.Looks.{Look, ColumnName, cell_at, is_used}
use Rattle.hq_translation.specs.Masks.{extra, shown_look}
use Rattle.hq_translation.specs.Predicates.{link}
use Rattle.hq_translation.specs.GrantedTables.{GrantedTables, granted_of}
use Rattle.hq_translation.specs.Selects.{behind_filter}
use Rattle.hq_translation.specs.Sorts.{last_used, sort_place, sort_numbers, sort_joins}
use Rattle.hq_translation.proofs.Names.{used_one}
use Rattle.hq_translation.proofs.Scopes.{under_later, looks_under_later}
use Rattle.hq_confine_rules.specs.Conjuncts.{opened}
use Rattle.hq_confine_rules.specs.Origins.{Origin, made, of, Shapes, origin_at, origin}
use Rattle.hq_confine_rules.specs.Uses.{is_plain, may_pass, out_faults}
use Rattle.hq_confine_rules.specs.Faults.{is_exempt}
use Rattle.hq_confine_rules.specs.Ready.{Leads, AllowedChain}
use Rattle.hq_confine_rules.proofs.Clean.{exempt_free}
use Rattle.hq_confine_rules.proofs.Exempt.{link_exempt, shown_under}
use Rattle.hq_confine_rules.proofs.Scopes.{Grows, Scans, scans_behind, Shows, shows_behind, Joined, joined_none, joined_one, joined_as}
use Rattle.hq_confine_rules.proofs.Wanted.{from_of, Behind, IsTied, first_clean}

module _ (s : Schema) (g : Grants) where
  passes : (o : Origin) → is_plain g o ≡ true → may_pass s g o ≡ true
  passes made h = refl
  passes (of t path c) h = rw h refl

  -- a cell that is plain may be an output
  pub plain_out : (final : Shapes) (p : ColumnName) → is_plain g (origin_at s final p.alias p.name) ≡ true → out_faults s g final (cell_at p) ≡ []
  plain_out final p h =
      let may : may_pass s g (origin_at s final p.alias p.name) ≡ true = passes (origin_at s final p.alias p.name) h in
      rw may refl

  -- a link to the row of table t at the alias of number p ties a row
  pub link_ties : (t r p n : ℕ) (scope final : Shapes) (cs : List ℕ) → Leads s g t r → p < n → n < 2 ^ 64 → Scans scope p t
      → Behind s g scope (rel s t r).remote n cs final → IsTied s g final (rel s t r).remote n (link s t (rel s t r) p n)
  link_ties t r p n scope final cs leads lt bound own behind ys =
      exempt_free s g final (is_exempt s g final (opened (link s t (rel s t r) p n) ++ ys) (from_of s g (rel s t r).remote n)) (link s t (rel s t r) p n)
      (link_exempt s g t r p n final ys leads.ready lt bound (scans_behind scope final p n t lt behind.grows own) leads.within)

  -- where the cell of a chain of relationships stands, it is plain
  abbrev pub PlainAt : Shapes → ColumnName → Type 0
  PlainAt final p = is_plain g (origin_at s final p.alias p.name) ≡ true

  -- what is plain behind an alias's masks stays so
  later : (at final : Shapes) (n behind : ℕ) (cs : List ℕ) (far c : ℕ) → (b : n + 1 + extra s (granted_of g) far cs ≤ behind)
      → behind ≤ 2 ^ 64 → Grows behind at final → Shows s g at (shown_look s (granted_of g) far cs n) cs → is_used c cs ≡ true
      → PlainAt final (shown_look s (granted_of g) far cs n c)
  later at final n behind cs far c le bound grown shown used =
      shows_behind s g at final behind (shown_look s (granted_of g) far cs n) cs grown
      (looks_under_later (n + 1 + extra s (granted_of g) far cs) behind (shown_look s (granted_of g) far cs n) le
      (shown_under s g far n cs (omega (arith, le, bound))))
      shown c used

  pub chain_clean : (rs : List ℕ) (scope : Shapes) (t p n c : ℕ) (look : Look) → AllowedChain rs s g t c → Scans scope p t → p < n → n + sort_numbers rs s (granted_of g) t c ≤ 2 ^ 64
      → ((final : Shapes) → Grows n scope final → is_used c (last_used rs c) ≡ true → PlainAt final (look c))
      → Joined s g scope n (n + sort_numbers rs s (granted_of g) t c) (sort_joins rs s (granted_of g) t p n c) (λ final. PlainAt final (sort_place false rs s look t p n c))
  chain_clean [] scope t p n c look f own lt bound here =
      joined_none s g scope n (n + 0) (λ final. PlainAt final (look c)) (λ final grown. here final (λ a u. grown a (under_later n (n + 0) a (omega arith) u)) (used_one c))
  chain_clean (r ∷ rs) scope t p n c look f own lt bound here =
      let R : GrantedTables = granted_of g in
      let far : ℕ = (rel s t r).remote in
      let cs : List ℕ = last_used rs c in
      let behind : ℕ = behind_filter s R far cs n in
      let m : ℕ = behind + sort_numbers rs s R far c in
      let inner : Look = shown_look s R far cs n in
      let place : ColumnName = sort_place false rs s inner far n behind c in
      let first = first_clean s g scope far n m cs (link s t (rel s t r) p n) (cell_at place) (sort_joins rs s R far n behind c) f.0.ready f.1 (omega arith) (omega arith)
      (λ final b. link_ties t r p n scope final cs f.0 lt (omega arith) own b)
      (λ at b. joined_as s g at behind m m (sort_joins rs s R far n behind c) (λ final. PlainAt final place)
      (λ final. (out_faults s g final (cell_at place) ≡ []) × (is_plain g (origin s final (cell_at place)) ≡ true)) (omega arith)
      (λ final h. (plain_out final place h, h))
      (chain_clean rs at far n behind c inner f.2 b.own (omega arith) (omega arith) (λ final grown used. later at final n behind cs far c (omega arith) (omega arith) grown b.shown used))) in
      joined_one s g scope n (n + sort_numbers (r ∷ rs) s R t c) _ (omega arith) (omega arith) first
