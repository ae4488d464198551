-- A worked value: its text, how deep it nests, and what its text is read as.
use Rattle.std.proofs.Common.{◌≡◌, pos, codes, true, refl, arith}
use Rattle.std.specs.Fmt.{digits}
use Rattle.std.specs.Str.{is_utf8, chars}
use lib.Utf8.{encode}
use Rattle.hq_base.specs.Compact.{compact, escaped}
use Rattle.hq_base.specs.Json.{JsonTree, null, int, str, arr, obj, no_element, element, no_member, member, has_distinct_names}
use Rattle.hq_laws_written.specs.Json.ReadBack.{IsReadable, in_name_order, has_clean_parts, nesting}

-- an object in a list in an object, with names in descending order
abbrev descending : JsonTree
descending =
    let inner = obj (member (codes "z") (int (pos 1)) (member (codes "y") null no_member)) in
    obj (member (codes "b") (arr (element inner no_element)) (member (codes "a") (str (codes "q")) no_member))

text_of_it : compact descending ≡ codes "{\"b\":[{\"z\":1,\"y\":null}],\"a\":\"q\"}"
unfolding escaped digits
text_of_it = refl

clean_parts : has_clean_parts descending ≡ true
unfolding is_utf8 chars encode
clean_parts = refl

names_differ : has_distinct_names descending ≡ true
names_differ = refl

three_deep : nesting descending ≡ 3
three_deep = refl

is_readable : IsReadable descending
is_readable = record { clean = clean_parts; distinct = names_differ; shallow = omega (arith, three_deep) }

-- both objects have their names in ascending order
ascending : compact (in_name_order descending) ≡ codes "{\"a\":\"q\",\"b\":[{\"y\":null,\"z\":1}]}"
unfolding escaped digits
ascending = refl
