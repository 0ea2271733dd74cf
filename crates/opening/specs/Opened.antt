-- What opening a pair of files gives.
use Rattle.std.specs.Prelude.{◌≡◌, Ok, Err, Result}
use Rattle.tables.specs.Contents.{Contents, contents}
use Rattle.faults.specs.declared.layers.FitFault.{FitFault}
use Rattle.figures.specs.declared.stage.Stage.{Stage}

-- the answer is a stage whose tables hold just this
abbrev pub Opens : Result Stage FitFault → Contents → Type 0
Opens (Ok s) c = contents s.tables ≡ c
Opens (Err f) c = ⊥
