-- What reading a pair of files gives.
use Rattle.std.specs.Prelude.{◌≡◌, ℕ, true, List, Ok, Err, Result}
use Rattle.faults.specs.declared.layers.FitFault.{FitFault}
use Rattle.tables.specs.declared.position.Position.{Position}
use Rattle.tables.specs.declared.resource.Resource.{Resource}
use Rattle.tables.specs.declared.route.Route.{Route}
use Rattle.tables.specs.declared.tables.Tables.{Tables}
use Rattle.tables.specs.Model.{counts_of, firsts_of, positions_of, starts}
use Rattle.tables.specs.Valid.{valid_show, fits_venue}
use Rattle.tables.specs.Contents.{Contents, contents, Valid}
use Rattle.layout.specs.Layout.{venue_file, show_file}

-- the two files are the layout of these tables
pub record Laid (venue show : List ℕ) (c : Contents) : Type 0 where
  pub valid : Valid c
  pub venue_laid : venue ≡ venue_file c.resources
  pub show_laid : show ≡ show_file c.counts c.positions

-- routes and positions that a show file is the layout of, valid, and fit for these resources
pub record ShowIn (rs : List Resource) (file : List ℕ) (routes : List Route) (positions : List Position) : Type 0 where
  pub valid : valid_show (counts_of routes) (positions_of positions) ≡ true
  pub firsts : firsts_of routes ≡ starts 0 (counts_of routes)
  pub fits : fits_venue rs (positions_of positions) ≡ true
  pub laid : file ≡ show_file (counts_of routes) (positions_of positions)

-- the answer is tables that hold just this
abbrev pub Holds : Result Tables FitFault → Contents → Type 0
Holds (Ok t) c = contents t ≡ c
Holds (Err f) c = ⊥
