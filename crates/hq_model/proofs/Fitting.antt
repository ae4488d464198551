-- What is read as a constant fits the column's type and the test.
use Rattle.std.proofs.Common.{◌≡◌, ◌∙◌, refl, sym, ap, subst, ℕ, ℤ, List, Bool, true, false, cond, ◌&&◌, Option, Some, None, Ok, Err}
use Rattle.std.specs.Prelude.{is_ok, ok_or, option_map}
use Rattle.std.proofs.lemmas.Bool.{and_parts}
use Rattle.std.proofs.lemmas.Option.{cond_some}
use Rattle.std.specs.Str.Parse.{signed_digits_value}
use Rattle.hq_base.specs.Json.{JsonTree, null, bool, int, str, arr, obj}
use Rattle.hq_base.specs.Look.{str_in}
use Rattle.hq_base.specs.Patterns.{pattern_of}
use Rattle.hq_base.specs.Uuids.{uuid_form, is_uuid_form}
use Rattle.hq_base.proofs.Uuids.{form_is_uuid}
use Rattle.hq_base.specs.declared.value.Ty.{Ty}
use Rattle.hq_base.specs.declared.value.Ty.TheVariants.{Integer, Bigint, Text, Boolean, Uuid, Opaque}
use Rattle.hq_base.specs.declared.value.Val.{Val}
use Rattle.hq_base.specs.declared.value.Val.TheVariants as val
use Rattle.hq_model.specs.Constants.{text_constant, truth_constant, constant_in}
use Rattle.hq_model.specs.Database.{int_fits}
use Rattle.hq_model.specs.Filters.{constant_fits, is_pattern}
use Rattle.hq_model.specs.Reading.{is_whole_number, whole_number, truth_value, read_as, read_pattern}
use Rattle.hq_model.specs.Tests.{applies}
use Rattle.hq_model.specs.declared.test.Test.TheVariants.{Like}
use Rattle.hq_model.specs.declared.want.Want.{Want}
use Rattle.hq_model.specs.declared.want.Want.TheVariants as want

-- a whole number that a text spells is one of the type
pub whole_fits : (n : ℤ) (ty : Ty) (s : List ℕ) → whole_number ty s ≡ Some n → int_fits ty n ≡ true
whole_fits n ty s e =
    let both = cond_some (is_whole_number s && int_fits ty (signed_digits_value 10 s)) (signed_digits_value 10 s) n e in
    ap (int_fits ty) (sym both.1) ∙ (and_parts _ _ both.0).1

int_some : (ty : Ty) (o : Option ℤ) (v : Val) → ((n : ℤ) → o ≡ Some n → int_fits ty n ≡ true) → option_map val.Int o ≡ Some v → constant_fits ty v ≡ true
int_some ty None v h e = cc
int_some ty (Some n) v h e = let same : val.Int n ≡ v = cc in subst (λ w. constant_fits ty w ≡ true) same (h n refl)

int_ok : (ty : Ty) (wanted : Want) (o : Option ℤ) (v : Val) → ((n : ℤ) → o ≡ Some n → int_fits ty n ≡ true) → ok_or (option_map val.Int o) wanted ≡ Ok v → constant_fits ty v ≡ true
int_ok ty wanted None v h e = cc
int_ok ty wanted (Some n) v h e = let same : val.Int n ≡ v = cc in subst (λ w. constant_fits ty w ≡ true) same (h n refl)

bool_ok : (o : Option Bool) (v : Val) → ok_or (option_map val.Bool o) want.Boolean ≡ Ok v → constant_fits Boolean v ≡ true
bool_ok None v e = cc
bool_ok (Some b) v e = let same : val.Bool b ≡ v = cc in subst (λ w. constant_fits Boolean w ≡ true) same refl

uuid_some : (o : Option (List ℕ)) (v : Val) → ((u : List ℕ) → o ≡ Some u → is_uuid_form u ≡ true) → option_map val.Text o ≡ Some v → constant_fits Uuid v ≡ true
uuid_some None v h e = cc
uuid_some (Some u) v h e = let same : val.Text u ≡ v = cc in subst (λ w. constant_fits Uuid w ≡ true) same (h u refl)

uuid_ok : (o : Option (List ℕ)) (v : Val) → ((u : List ℕ) → o ≡ Some u → is_uuid_form u ≡ true) → ok_or (option_map val.Text o) want.Uuid ≡ Ok v → constant_fits Uuid v ≡ true
uuid_ok None v h e = cc
uuid_ok (Some u) v h e = let same : val.Text u ≡ v = cc in subst (λ w. constant_fits Uuid w ≡ true) same (h u refl)

-- the value that a text is read as is one of the type
pub read_fits : (ty : Ty) (s : List ℕ) (v : Val) → read_as ty s ≡ Ok v → constant_fits ty v ≡ true
read_fits Integer s v e = int_ok Integer want.Integer (whole_number Integer s) v (λ n. whole_fits n Integer s) e
read_fits Bigint s v e = int_ok Bigint want.Bigint (whole_number Bigint s) v (λ n. whole_fits n Bigint s) e
read_fits Text s v e = let same : val.Text s ≡ v = cc in subst (λ w. constant_fits Text w ≡ true) same refl
read_fits Boolean s v e = bool_ok (truth_value s) v e
read_fits Opaque s v e = let same : val.Text s ≡ v = cc in subst (λ w. constant_fits Opaque w ≡ true) same refl
read_fits Uuid s v e = uuid_ok (uuid_form s) v (form_is_uuid s) e

-- a text that is read as a pattern is one
pub pattern_read : (s : List ℕ) (v : Val) → read_pattern s ≡ Ok v → is_pattern v ≡ true
pattern_read s v e = by (is_ok (pattern_of s)) refl e
  where
    by : (b : Bool) → is_ok (pattern_of s) ≡ b → cond b (Ok (val.Text s)) (Err want.Pattern) ≡ Ok v → is_pattern v ≡ true
    by true is f = let same : val.Text s ≡ v = cc in subst (λ w. is_pattern w ≡ true) same is
    by false is f = cc

text_fits : (ty : Ty) (s : List ℕ) (v : Val) → text_constant ty s ≡ Some v → constant_fits ty v ≡ true
text_fits Integer s v e = cc
text_fits Bigint s v e = int_some Bigint (whole_number Bigint s) v (λ n. whole_fits n Bigint s) e
text_fits Text s v e = let same : val.Text s ≡ v = cc in subst (λ w. constant_fits Text w ≡ true) same refl
text_fits Boolean s v e = cc
text_fits Opaque s v e = let same : val.Text s ≡ v = cc in subst (λ w. constant_fits Opaque w ≡ true) same refl
text_fits Uuid s v e = uuid_some (uuid_form s) v (form_is_uuid s) e

truth_fits : (ty : Ty) (b : Bool) (v : Val) → truth_constant ty b ≡ Some v → constant_fits ty v ≡ true
truth_fits Integer b v e = cc
truth_fits Bigint b v e = cc
truth_fits Text b v e = cc
truth_fits Uuid b v e = cc
truth_fits Opaque b v e = cc
truth_fits Boolean b v e = let same : val.Bool b ≡ v = cc in subst (λ w. constant_fits Boolean w ≡ true) same refl

number_fits : (ty : Ty) (n : ℤ) (v : Val) (b : Bool) → int_fits ty n ≡ b → cond b (Some (val.Int n)) None ≡ Some v → constant_fits ty v ≡ true
number_fits ty n v true is e = let same : val.Int n ≡ v = cc in subst (λ w. constant_fits ty w ≡ true) same is
number_fits ty n v false is e = cc

-- a constant that JSON writes fits its type
pub constant_read : (ty : Ty) (j : JsonTree) (v : Val) → constant_in ty j ≡ Some v → constant_fits ty v ≡ true
constant_read ty null v e = cc
constant_read ty (bool b) v e = truth_fits ty b v e
constant_read ty (int n) v e = number_fits ty n v (int_fits ty n) refl e
constant_read ty (str s) v e = text_fits ty s v e
constant_read ty (arr js) v e = cc
constant_read ty (obj ms) v e = cc

-- nothing but a text is a constant of the type text
text_alone : (j : JsonTree) (v : Val) → str_in j ≡ None → constant_in Text j ≡ Some v → ⊥
text_alone null v other e = cc
text_alone (bool b) v other e = cc
text_alone (int n) v other e = cc
text_alone (str s) v other e = cc
text_alone (arr js) v other e = cc
text_alone (obj ms) v other e = cc

-- no constant but a text stands where a pattern is due
pub no_pattern : (ty : Ty) (j : JsonTree) (v : Val) → str_in j ≡ None → applies (Like true) ty ≡ true → constant_in ty j ≡ Some v → ⊥
no_pattern Text j v other is e = text_alone j v other e
no_pattern Integer j v other is e = cc
no_pattern Bigint j v other is e = cc
no_pattern Boolean j v other is e = cc
no_pattern Uuid j v other is e = cc
no_pattern Opaque j v other is e = cc
