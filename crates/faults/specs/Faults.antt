-- What a fault says, and the field that it speaks of.
use Rattle.std.specs.Prelude.{ℕ, List, take, drop}
use Rattle.refusals.specs.declared.Refusal.{Refusal}
use Rattle.refusals.specs.declared.Refusal.TheVariants as refusal
use Rattle.fields.specs.Bytes.{field_size}
use Rattle.fields.specs.declared.spot.File.{File}
use Rattle.fields.specs.declared.spot.File.TheVariants.{Venue, Show}
use Rattle.fields.specs.declared.spot.Spot.{Spot}
use Rattle.fields.specs.declared.faults.ByteFault.{ByteFault}
use Rattle.fields.specs.declared.faults.ByteFault.TheVariants.{HeadCut, BodyCut, AfterEnd}
use Rattle.fields.specs.declared.faults.FieldFault.{FieldFault}
use Rattle.fields.specs.declared.faults.FieldFault.TheVariants.{Bytes, UnfamiliarTag, OutOfTurn, WrongLength, OutOfRange, TooMany}
use Rattle.faults.specs.declared.layers.TableFault.{TableFault}
use Rattle.faults.specs.declared.layers.TableFault.TheVariants.{Fields, WrongNext}
use Rattle.faults.specs.declared.layers.FitFault.{FitFault}
use Rattle.faults.specs.declared.layers.FitFault.TheVariants.{Tables, NotInVenue, AboveCapacity}
use Rattle.faults.specs.declared.fault.Layer.{Layer}
use Rattle.faults.specs.declared.fault.Layer.TheVariants as layer

-- the refusal, the layer that raised it, and where; a fault that is carried says so for itself
abbrev pub byte_entry : ByteFault → Refusal × Layer × Spot
byte_entry (HeadCut s) = (refusal.HeadCut, layer.Bytes, s)
byte_entry (BodyCut s) = (refusal.BodyCut, layer.Bytes, s)
byte_entry (AfterEnd s) = (refusal.AfterEnd, layer.Bytes, s)

abbrev pub field_entry : FieldFault → Refusal × Layer × Spot
field_entry (Bytes e) = byte_entry e
field_entry (UnfamiliarTag s) = (refusal.UnfamiliarTag, layer.Fields, s)
field_entry (OutOfTurn s) = (refusal.OutOfTurn, layer.Fields, s)
field_entry (WrongLength s) = (refusal.WrongLength, layer.Fields, s)
field_entry (OutOfRange s) = (refusal.OutOfRange, layer.Fields, s)
field_entry (TooMany s) = (refusal.TooMany, layer.Fields, s)

abbrev pub table_entry : TableFault → Refusal × Layer × Spot
table_entry (Fields e) = field_entry e
table_entry (WrongNext s) = (refusal.WrongNext, layer.Tables, s)

abbrev pub entry : FitFault → Refusal × Layer × Spot
entry (Tables e) = table_entry e
entry (NotInVenue s) = (refusal.NotInVenue, layer.Fit, s)
entry (AboveCapacity s) = (refusal.AboveCapacity, layer.Fit, s)

abbrev pub refusal_of : FitFault → Refusal
refusal_of f = (entry f).0

abbrev pub layer_of : FitFault → Layer
layer_of f = (entry f).1

abbrev pub spot_of : FitFault → Spot
spot_of f = (entry f).2

abbrev pub layer_number : Layer → ℕ
layer_number layer.Bytes = 1
layer_number layer.Fields = 2
layer_number layer.Tables = 3
layer_number layer.Fit = 4

abbrev pub number_of_file : File → ℕ
number_of_file Venue = 1
number_of_file Show = 2

-- from a place to the end of the field there, or to the file's end
abbrev pub field_at : ℕ → List ℕ → List ℕ
field_at place bytes = take (field_size (drop place bytes)) (drop place bytes)

abbrev pub in_file : File → ℕ → List ℕ → List ℕ → List ℕ
in_file Venue place venue show = field_at place venue
in_file Show place venue show = field_at place show

abbrev pub offending_of : FitFault → List ℕ → List ℕ → List ℕ
offending_of f venue show = in_file (spot_of f).file (spot_of f).place venue show
