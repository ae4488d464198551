-- The causes for which no part of a copy is written: a name, and fields, each after a space.
use Rattle.std.specs.Prelude.{ℕ, List, ◌++◌, codes, Some}
use Rattle.std.specs.Fmt.{decimal}
use Rattle.hq_copy_definition.specs.declared.refusal.CopyRefusal.{CopyRefusal}
use Rattle.hq_copy_definition.specs.declared.refusal.CopyRefusal.TheVariants as copy
use Rattle.hq_copy_text.specs.declared.refusal.PartRefusal.{PartRefusal}
use Rattle.hq_copy_text.specs.declared.refusal.PartRefusal.TheVariants as part
use Rattle.hq_faults.specs.FaultTexts.{want_text}

-- a cause and a name
abbrev pub with_name : (cause name : List ℕ) → List ℕ
with_name cause name = cause ++ codes " " ++ name

-- a text and a number
abbrev pub with_number : (text : List ℕ) → ℕ → List ℕ
with_number text n = text ++ codes " " ++ decimal n

-- of a copy; what a variable was to be read as is told as a fault of a request tells it
abbrev pub copy_cause : CopyRefusal → List ℕ
copy_cause (copy.NoVariable name) = with_name (codes "NoVariable") name
copy_cause (copy.BadVariable name want) = with_name (codes "BadVariable") name ++ codes " " ++ want_text (Some want)
copy_cause (copy.NameTaken name) = with_name (codes "NameTaken") name
copy_cause (copy.MaskedKey table) = with_name (codes "MaskedKey") table
copy_cause (copy.TooWide table) = with_name (codes "TooWide") table
copy_cause (copy.NotWritable table position) = with_number (with_name (codes "NotWritable") table) position
copy_cause (copy.Failed before after) = with_number (with_number (codes "Failed") before) after
copy_cause copy.Memory = codes "Memory"

-- of a part
abbrev pub part_cause : PartRefusal → List ℕ
part_cause part.NoSuchPart = codes "NoSuchPart"
part_cause part.TooLarge = codes "TooLarge"
part_cause part.Memory = codes "Memory"
