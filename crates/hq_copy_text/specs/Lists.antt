-- Parts of what is written.
use Rattle.std.specs.Prelude.{List, filter, Bool, not, cond}
use Rattle.hq_model.specs.declared.meta.Rel.{Rel}

-- the array relationships, or the object ones
abbrev pub those : (many : Bool) → List Rel → List Rel
those many rels = cond many (filter (λ r. r.many) rels) (filter (λ r. not r.many) rels)
