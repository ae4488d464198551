-- Worked files.
use Rattle.std.proofs.Common.{◌≡◌, [], ◌∷◌, pos, codes, true, false, refl, arith}
use Rattle.std.specs.Fmt.{digits}
use Rattle.std.specs.Str.{is_utf8, chars}
use lib.Utf8.{encode}
use Rattle.csv.specs.Writing.{escaped, fields_text, is_blank}
use Rattle.hq_base.specs.declared.value.Ty.TheVariants.{Integer, Bigint, Text}
use Rattle.hq_base.specs.declared.value.Val.TheVariants.{Null, Int, Text as Words}
use Rattle.hq_model.specs.declared.table.Table.{Table}
use Rattle.hq_laws_written.specs.Tables.Written.{IsWritable, file_of}

-- articles: a title is a text, and the last column may be NULL
abbrev articles : Table
articles = record {
  schema = codes "public";
  name = codes "article";
  columns =
      record { name = codes "id"; ty = Integer; of = []; nullable = false }
      ∷ record { name = codes "title"; ty = Text; of = []; nullable = false }
      ∷ record { name = codes "hq_r1_to"; ty = Bigint; of = []; nullable = true } ∷ [];
  key = 0 ∷ [];
  foreign = [];
}

-- a comma, a quote, an empty text and NULL
article_file : file_of articles ((Int (pos 10) ∷ Words (codes "A, B") ∷ Int (pos 1) ∷ []) ∷ (Int (pos 13) ∷ Words (codes "\"D\"") ∷ Null ∷ []) ∷ (Int (pos 14) ∷ Words [] ∷ Null ∷ []) ∷ [])
    ≡ codes "id,title,hq_r1_to\n10,\"A, B\",1\n13,\"\"\"D\"\"\",\\N\n14,,\\N\n"
unfolding digits escaped fields_text is_blank
article_file = refl

-- tags: one text column
abbrev tags : Table
tags = record { schema = codes "public"; name = codes "tag"; columns = record { name = codes "name"; ty = Text; of = []; nullable = false } ∷ []; key = 0 ∷ []; foreign = [] }

-- an empty text that stands alone is written in quotes, since an empty line is passed over
tag_file : file_of tags ((Words (codes "x") ∷ []) ∷ (Words [] ∷ []) ∷ []) ≡ codes "name\nx\n\"\"\n"
unfolding digits escaped fields_text is_blank
tag_file = refl

-- such rows can be read back
tags_writable : IsWritable tags ((Words (codes "x") ∷ []) ∷ (Words [] ∷ []) ∷ [])
unfolding is_utf8 chars encode
tags_writable = record { some = omega arith; differ = refl; valid = refl; plain = refl; unmarked = refl }
