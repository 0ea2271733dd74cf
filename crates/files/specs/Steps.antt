-- What the readers of one position give: the procedure's own steps, which the laws of reading rest on.
use Rattle.std.specs.Prelude.{◌≡◌, ℕ, ◌<◌, Bool, cond, List, Ok, Err, Result}
use Rattle.fields.specs.Bytes.{Point}
use Rattle.fields.specs.Fields.{Part, header, resource, route, position, end, part_of}
use Rattle.fields.specs.declared.spot.Spot.{Spot}
use Rattle.fields.specs.declared.field.Field.{Field}
use Rattle.fields.specs.declared.faults.FieldFault.{FieldFault}
use Rattle.fields.specs.declared.faults.FieldFault.TheVariants.{OutOfTurn}
use Rattle.faults.specs.declared.layers.TableFault.{TableFault}
use Rattle.faults.specs.declared.layers.TableFault.TheVariants.{Fields, WrongNext}
use Rattle.faults.specs.declared.layers.FitFault.{FitFault}
use Rattle.faults.specs.declared.layers.FitFault.TheVariants.{Tables, NotInVenue, AboveCapacity}
use Rattle.tables.specs.declared.resource.Resource.{Resource}
use Rattle.tables.specs.declared.position.Position.{Position}
use Rattle.tables.specs.Model.{Pos, pos_of}
use Rattle.tables.specs.Valid.{nexts_ok}
use Rattle.layout.specs.Rules.{inside, lacks, exceeds, row_of_needs}
use Rattle.layout.specs.Reading.{Standing}
use Rattle.files.specs.declared.position.Parts.{Parts}

-- next positions and needs, as the bytes name them
pub record Named : Type 0 where
  pub nexts : List ℕ
  pub needs : List ℕ

abbrev pub named_as : Result Parts TableFault → Result Named TableFault
named_as (Ok x) = Ok (record { nexts = x.nexts.now; needs = x.needs.now })
named_as (Err e) = Err e

abbrev pub placed_as : Result Position FitFault → Result Pos FitFault
placed_as (Ok x) = Ok (pos_of x)
placed_as (Err e) = Err e

-- a position's next positions, judged; where a position is asked for, no other field comes
abbrev pub named : ℕ → ℕ → Spot → Result Part FieldFault → Result Named TableFault
named own last s (Err e) = Err (Fields e)
named own last s (Ok (position a b)) = cond (nexts_ok own last a) (Ok (record { nexts = a; needs = b })) (Err (WrongNext s))
named own last s (Ok (header k v)) = Err (Fields (OutOfTurn s))
named own last s (Ok (resource c o n)) = Err (Fields (OutOfTurn s))
named own last s (Ok (route n)) = Err (Fields (OutOfTurn s))
named own last s (Ok end) = Err (Fields (OutOfTurn s))

-- and its needs
abbrev pub placed : List Resource → Spot → Result Named TableFault → Result Pos FitFault
placed rs s (Err e) = Err (Tables e)
placed rs s (Ok x) =
    cond (lacks rs x.needs) (Err (NotInVenue s))
    (cond (exceeds rs x.needs) (Err (AboveCapacity s)) (Ok (record { nexts = x.nexts; needs = row_of_needs 16 0 x.needs })))

-- inside a show file, with so many positions still to come
abbrev pub show_at : List Resource → List ℕ → List Pos → ℕ → Point → Standing
show_at rs ns ps o p = record { context = record { moment = inside; resources = rs; counts = ns; positions = ps; pending = o }; point = p }

-- the tables' layer carries a fault of the fields whole
abbrev pub carried_as : {X : Type 0} → TableFault → Result X FieldFault → Type 0
carried_as (Fields e) o = o ≡ Err e
carried_as (WrongNext s) o = ⊥

abbrev pub field_as : Result Field TableFault → Result Part FieldFault → Type 0
field_as (Ok f) o = o ≡ Ok (part_of f)
field_as (Err e) o = carried_as e o

abbrev pub closed_as : Result (Unit {0}) TableFault → Result (Unit {0}) FieldFault → Type 0
closed_as (Ok u) o = o ≡ Ok u
closed_as (Err e) o = carried_as e o

-- the calls of a test of two numbers, of one byte and of two bytes, answer as `p` does
abbrev pub Tests : (ℕ × ℕ → Bool) → (ℕ → ℕ → Bool → Type 0) → Type 0
Tests p calls = (n a : ℕ) (b : Bool) → n < 256 → a < 65536 → calls n a b → b ≡ p (n, a)
