use Rattle.std.proofs.Common.{◌≡◌, map, take, vec_items, string_bytes}
use Rattle.texts.specs.Texts.{quotation}
use Rattle.texts.proofs.names.names_of.Given as goal

abbrev pub invariant-loop-resource : goal.invariant-loop-resource
invariant-loop-resource l = map string_bytes (vec_items l.names) ≡ map (λ r. quotation r.name) (take l.resource-index l.resources)
