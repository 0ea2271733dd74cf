use Rattle.std.proofs.Common.{◌≡◌, [], ◌∷◌, ◌++◌, take, string_bytes}
use Rattle.std.specs.List.{flat_map}
use Rattle.texts.specs.Texts.{shown}
use Rattle.texts.proofs.names.quoted.Given as goal

abbrev pub invariant-loop-byte : goal.invariant-loop-byte
invariant-loop-byte l = string_bytes l.text ≡ (34 ∷ []) ++ flat_map shown (take l.byte-index l.name)
