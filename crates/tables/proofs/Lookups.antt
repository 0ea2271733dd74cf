-- A part of what stands at a place of a table, against the list of those parts.
use Rattle.std.proofs.Common.{◌≡◌, ℕ, List, map, get_or, Some, None, Option, sym, ap, ◌∙◌, Bor}
use mathlib.Core.List.{map-map}
use lib.ListN.{length-map}
use Rattle.std.specs.Slice.{IsGetResult}
use Rattle.std.proofs.lemmas.List.{get_or-map, get_or_past}
use Rattle.tables.specs.declared.position.Position.{Position}
use Rattle.tables.specs.Model.{Pos, pos_of, positions_of}
use Rattle.tables.specs.Found.{part_or}

pub looked-up : {X Y : Type 0} (f : X → Y) (xs : List X) (i : ℕ) (e : Y) (o : Option (Bor X)) → IsGetResult xs i i o → get_or (map f xs) i e ≡ part_or o f e
looked-up f xs i e None h = get_or_past (map f xs) i e (simp length-map h.3)
looked-up f xs i e (Some x) h = get_or-map f xs i x.now e h.3.0 ∙ ap f (sym h.1)

pub part-looked-up : {Y : Type 0} (f : Pos → Y) (ps : List Position) (i : ℕ) (e : Y) (o : Option (Bor Position)) → IsGetResult ps i i o → get_or (map f (positions_of ps)) i e ≡ part_or o (λ x. f (pos_of x)) e
part-looked-up f ps i e o h = ap (λ l. get_or l i e) (map-map f pos_of ps) ∙ looked-up (λ x. f (pos_of x)) ps i e o h
