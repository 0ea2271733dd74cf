-- Reading a file field by field, and the first field that breaks a rule.
use Rattle.std.specs.Prelude.{◌≡◌, ℕ, zero, suc, ◌≤◌, true, ◌⊎◌, List, [], ◌∷◌, ◌≢◌}
use Rattle.refusals.specs.declared.Refusal.{Refusal}
use Rattle.refusals.specs.Refusals.{number_of}
use Rattle.fields.specs.Bytes.{tag, body, Point, past, spot_at}
use Rattle.fields.specs.declared.spot.File.TheVariants.{Venue, Show}
use Rattle.tables.specs.declared.resource.Resource.{Resource}
use Rattle.tables.specs.Model.{Pos}
use Rattle.tables.specs.Valid.{valid_venue}
use Rattle.faults.specs.declared.layers.FitFault.{FitFault}
use Rattle.faults.specs.Faults.{refusal_of, spot_of}
use Rattle.layout.specs.Layout.{venue_file}
use Rattle.layout.specs.Rules.{outset, over, Context, Rule, rules, with_field}

-- the refusal applies: its rule is in the list, and broken
abbrev pub Applies : Refusal → List Rule → Type 0
Applies r [] = ⊥
Applies r (x ∷ xs) = ((x.refusal ≡ r) × (x.broken ≡ true)) ⊎ Applies r xs

-- it applies, and no lower number does
abbrev pub Lowest : Refusal → List Rule → Type 0
Lowest r xs = Applies r xs × ((q : Refusal) → Applies q xs → number_of r ≤ number_of q)

-- where a reader stands in a file, with what it has read
pub record Standing : Type 0 where
  pub context : Context
  pub point : Point

abbrev pub rules_here : Standing → List Rule
rules_here s = rules s.context s.point

-- a field stands here that no refusal applies to
abbrev pub Fine : Standing → Type 0
Fine s = (s.context.moment ≢ over) × ((r : Refusal) → Applies r (rules_here s) → ⊥)

-- behind that field
abbrev pub onward : Standing → Standing
onward s = record { context = with_field s.context (tag s.point.left) (body s.point.left); point = past s.point }

-- n fields that no refusal applies to lead from s to t
abbrev pub Leads : ℕ → Standing → Standing → Type 0
Leads zero s t = s ≡ t
Leads (suc n) s t = Fine s × Leads n (onward s) t

abbrev pub Reaches : Standing → Standing → Type 0
Reaches s t = (n : ℕ) × Leads n s t

-- a fault is of the first bad field from s on, by the lowest number that applies to it, and names its place
pub record FirstBad (s : Standing) (f : FitFault) : Type 0 where
  pub at : Standing
  pub reached : Reaches s at
  pub lowest : Lowest (refusal_of f) (rules_here at)
  pub spot : spot_of f ≡ spot_at at.point

-- a file is over, with these tables read, and no byte is left
pub record Ends (s : Standing) (rs : List Resource) (ns : List ℕ) (ps : List Pos) : Type 0 where
  pub at : Standing
  pub reached : Reaches s at
  pub ended : at.context.moment ≡ over
  pub none : at.point.left ≡ []
  pub resources : at.context.resources ≡ rs
  pub counts : at.context.counts ≡ ns
  pub positions : at.context.positions ≡ ps

abbrev pub fresh : List Resource → Context
fresh rs = record { moment = outset; resources = rs; counts = []; positions = []; pending = 0 }

abbrev pub venue_start : List ℕ → Standing
venue_start bytes = record { context = fresh []; point = record { file = Venue; place = 0; left = bytes } }

abbrev pub show_start : List Resource → List ℕ → Standing
show_start rs bytes = record { context = fresh rs; point = record { file = Show; place = 0; left = bytes } }

-- the fault of a pair: of the venue file, or, if that one is good, of the show file
abbrev pub FaultOf : List ℕ → List ℕ → FitFault → Type 0
FaultOf venue show f =
    FirstBad (venue_start venue) f
    ⊎ ((rs : List Resource) × (valid_venue rs ≡ true) × (venue ≡ venue_file rs) × FirstBad (show_start rs show) f)
