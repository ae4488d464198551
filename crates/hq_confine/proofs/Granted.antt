-- What is granted of tables one after the other.
use Rattle.std.proofs.Common.{◌≡◌, ◌∙◌, ℕ, ◌+◌, ◌<◌, ◌≤◌, List, [], ◌∷◌, ◌++◌, Option, length, drop, get_or, sym, ap, ap₂, add-one}
use Rattle.std.proofs.lemmas.List.{append-nil, at_drop_all, drop_more}
use Rattle.hq_base.proofs.Loops.{piece_more}
use Rattle.hq_model.specs.Permission.{Permission}
use Rattle.hq_model.specs.Schema.{Schema, SchemaTable, no_table, numbered}

module _ (h : ℕ → SchemaTable → Option Permission) (s : Schema) (whole : List (Option Permission)) where
  -- one table more
  pub granted_more : (i : ℕ) (done more : List (Option Permission)) (v : Option Permission) → i < length s → v ≡ h i (get_or s i no_table) → more ≡ done ++ v ∷ []
      → done ++ numbered h i (drop i s) ≡ whole → more ++ numbered h (i + 1) (drop (i + 1) s) ≡ whole
  granted_more i done more v lt is grows so_far =
      let rest : List (Option Permission) = numbered h (i + 1) (drop (i + 1) s) in
      let split : numbered h i (drop i s) ≡ (v ∷ []) ++ rest = ap (numbered h i) (drop_more s i no_table lt)
      ∙ ap₂ (λ (x : Option Permission) (n : ℕ). x ∷ numbered h n (drop (i + 1) s)) (sym is) (sym (add-one i)) in
      piece_more done more (v ∷ []) rest (numbered h i (drop i s)) whole grows split so_far

  -- all tables
  pub granted_all : (i : ℕ) (done : List (Option Permission)) → length s ≤ i → done ++ numbered h i (drop i s) ≡ whole → done ≡ whole
  granted_all i done over so_far = sym (append-nil done) ∙ sym (at_drop_all (λ (l : Schema). done ++ numbered h i l) s i over) ∙ so_far
