use Rattle.std.proofs.Common.{◌≡◌, ◌∷◌, take}
use Rattle.hq_confine_uses.specs.Views.{texts}
use Rattle.hq_confine_uses.proofs.origins.path_list.Given as goal

-- the nearest alias, and those behind it so far
abbrev pub invariant-loop-alias : goal.invariant-loop-alias
invariant-loop-alias l = texts l.aliases.items ≡ l.path.first.now ∷ texts (take l.alias-index l.alias-items)
