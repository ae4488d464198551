-- Which bytes are no text, and why.
use Rattle.std.specs.Prelude.{ℕ, List, Result, Ok, Err, if◌then◌else◌}
use Rattle.std.specs.Str.{is_utf8}
use Rattle.hq_base.specs.Text.{has_zero}
use Rattle.hq_base.specs.declared.txt.TxtRefusal.{TxtRefusal}
use Rattle.hq_base.specs.declared.txt.TxtRefusal.TheVariants.{NotUtf8, ZeroByte}

-- the text of these bytes, or the first reason why they are none
abbrev pub text_of : List ℕ → Result (List ℕ) TxtRefusal
text_of bytes = if is_utf8 bytes then (if has_zero bytes then Err ZeroByte else Ok bytes) else Err NotUtf8
