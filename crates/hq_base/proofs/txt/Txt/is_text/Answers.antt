use Rattle.std.proofs.Common.{◌≡◌, true, subst}
use Rattle.std.specs.Str.{is_utf8}
use Rattle.std.proofs.lemmas.Str.{is_utf8-from_IsUtf8, IsUtf8-string_bytes}
use Rattle.hq_base.proofs.txt.Txt.is_text.Goals as goal

-- the bytes of a string are UTF-8
pub returns-clause-utf8 : goal.returns-clause-utf8
returns-clause-utf8 c = subst (λ bytes. is_utf8 bytes ≡ true) c.self.view_is (is_utf8-from_IsUtf8 _ (IsUtf8-string_bytes c.self.inside.text))
