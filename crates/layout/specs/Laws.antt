-- What the rules of reading come to.
use Rattle.std.specs.Prelude.{◌≡◌, true}
use Rattle.refusals.specs.Refusals.{number_of}
use Rattle.fields.specs.Bytes.{tag}
use Rattle.fields.specs.Fields.{familiar}
use Rattle.faults.specs.declared.layers.FitFault.{FitFault}
use Rattle.faults.specs.Faults.{refusal_of, spot_of}
use Rattle.layout.specs.Reading.{Standing, Fine, FirstBad}

-- a field with an unfamiliar tag is never passed over
abbrev pub OnlyFamiliar : Type 0
OnlyFamiliar = (s : Standing) → Fine s → familiar (tag s.point.left) ≡ true

-- there is one first bad field only, and one number for it
abbrev pub OneFault : Type 0
OneFault =
    (s : Standing) (f g : FitFault) → FirstBad s f → FirstBad s g → (number_of (refusal_of f) ≡ number_of (refusal_of g)) × (spot_of f ≡ spot_of g)
