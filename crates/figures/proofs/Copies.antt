-- Figures that were copied to a row are the sheet.
use Rattle.std.proofs.Common.{◌≡◌, ℕ, ◌<◌, ◌≤◌, List, ◌++◌, length, get_or, take, drop, Ok, Err, Result, ap, ◌∙◌, arith, length-take}
use Rattle.std.proofs.lemmas.List.{get_or_default, get_or_append_left, get_or-take}
use Rattle.std.proofs.lemmas.Slice.{drop-append-drop}
use Rattle.refusals.specs.declared.Refusal.{Refusal}
use Rattle.tables.specs.Plan.{Plan, count}
use Rattle.figures.specs.Sheets.{Sheet, Copied}

-- the row xs has the figure of each position in its front
pub copied-sheet : {V : Type 0} (t : Plan) (f : ℕ → V) (xs before after : List V) (d : V) → length (take (count t) xs) ≡ count t → ((p : ℕ) → p < count t → get_or xs p d ≡ f p) → (answer : Result (Unit {0}) Refusal) → Copied (take (count t) xs) before answer after → Sheet t f before answer after
copied-sheet t f xs before after d long held (Err e) h = (omega (arith, h.0, long), h.1, h.2)
copied-sheet t f xs before after d long held (Ok u) h =
    let n = count t in
    let all : n ≤ length xs = omega (arith, long, length-take n xs) in
    let is : after ≡ take n xs ++ drop n before = h.1 ∙ ap (λ m. take n xs ++ drop m before) long in (
      omega (arith, h.0, long),
      λ p e lt.
          ap (λ row. get_or row p e) is
          ∙ get_or_append_left (take n xs) (drop n before) e p (omega arith)
          ∙ get_or-take n xs p e lt
          ∙ get_or_default xs p e d (omega arith)
          ∙ held p lt,
      ap (drop n) is ∙ drop-append-drop n before (take n xs) n (omega (arith, h.0, long)) long,
    )
