-- Worked values: how many objects stand in one another.
use Rattle.std.proofs.Common.{◌≡◌, refl, codes}
use Rattle.hq_base.specs.Json.{null, str, arr, obj, no_element, element, no_member, member}
use Rattle.hq_laws_request.specs.Formed.ObjectsNest.{objects_nest}

-- "a"
text_nests : objects_nest (str (codes "a")) ≡ 0
text_nests = refl

-- {}
empty_nests : objects_nest (obj no_member) ≡ 1
empty_nests = refl

-- [[null]]
lists_nest : objects_nest (arr (element (arr (element null no_element)) no_element)) ≡ 0
lists_nest = refl

-- {"_and": [{"id": {}}], "_not": {}}
filter_nests : objects_nest (obj (member (codes "_and") (arr (element (obj (member (codes "id") (obj no_member) no_member)) no_element)) (member (codes "_not") (obj no_member) no_member))) ≡ 3
filter_nests = refl
