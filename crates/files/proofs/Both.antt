-- A pair of files has one outcome only.
use Rattle.std.proofs.Common.{◌≡◌, ℕ, true, List, [], sym, subst, inr, ⊎_elim}
use Rattle.faults.specs.declared.layers.FitFault.{FitFault}
use Rattle.tables.specs.declared.resource.Resource.{Resource}
use Rattle.tables.specs.declared.route.Route.{Route}
use Rattle.tables.specs.declared.position.Position.{Position}
use Rattle.tables.specs.Model.{Pos, counts_of, positions_of}
use Rattle.tables.specs.Valid.{valid_venue, valid_show, fits_venue}
use Rattle.tables.specs.Contents.{Contents}
use Rattle.layout.specs.Layout.{venue_file, show_file}
use Rattle.layout.specs.Reading.{FirstBad, Ends, venue_start, show_start, FaultOf}
use Rattle.layout.proofs.Paths.{one_end, not-both}
use Rattle.layout.proofs.VenueLaw.{venue-there}
use Rattle.layout.proofs.ShowThere.{show-there}
use Rattle.files.specs.Pairs.{Laid, ShowIn}

-- bytes that are the layout of valid tables are read to their end
pub venue-ends : (bytes : List ℕ) (rs : List Resource) → valid_venue rs ≡ true → bytes ≡ venue_file rs → Ends (venue_start bytes) rs [] []
venue-ends bytes rs v e = subst (λ l. Ends (venue_start l) rs [] []) (sym e) (venue-there rs v)

pub show-ends : (bytes : List ℕ) (rs : List Resource) (ns : List ℕ) (ps : List Pos) → valid_show ns ps ≡ true → fits_venue rs ps ≡ true → bytes ≡ show_file ns ps → Ends (show_start rs bytes) rs ns ps
show-ends bytes rs ns ps v f e = subst (λ l. Ends (show_start rs l) rs ns ps) (sym e) (show-there rs ns ps v f)

module _ (venue show : List ℕ) where
  laid-ends : (c : Contents) → Laid venue show c → Ends (show_start c.resources show) c.resources c.counts c.positions
  laid-ends c l = show-ends show c.resources c.counts c.positions l.valid.show l.valid.fits l.show_laid

  same-venue : (c : Contents) → Laid venue show c → (rs : List Resource) → valid_venue rs ≡ true → venue ≡ venue_file rs → rs ≡ c.resources
  same-venue c l rs v e = (one_end (venue-ends venue rs v e) (venue-ends venue c.resources l.valid.venue l.venue_laid)).0

  pub one-contents : (c d : Contents) → Laid venue show c → Laid venue show d → c ≡ d
  one-contents c d k l =
      let same = same-venue d l c.resources k.valid.venue k.venue_laid in
      let ends = one_end (subst (λ rs. Ends (show_start rs show) c.resources c.counts c.positions) same (laid-ends c k)) (laid-ends d l) in
      λ i. record { resources = same i; counts = ends.1 i; positions = ends.2 i }

  pub no-fault : (c : Contents) → Laid venue show c → (f : FitFault) → FaultOf venue show f → ⊥
  no-fault c l f h = ⊎_elim
      (λ (b : FirstBad (venue_start venue) f). not-both (venue-ends venue c.resources l.valid.venue l.venue_laid) b)
      (λ (b : (rs : List Resource) × (valid_venue rs ≡ true) × (venue ≡ venue_file rs) × FirstBad (show_start rs show) f).
      not-both (laid-ends c l) (subst (λ rs. FirstBad (show_start rs show) f) (same-venue c l b.0 b.1 b.2) b.3))
      h

-- the venue was read; `lent` is what the reader of the show was lent of it
module _ (show : List ℕ) (rs lent : List Resource) (same : lent ≡ rs) (valid : valid_venue rs ≡ true) where
  pub laid : (routes : List Route) (positions : List Position) → ShowIn lent show routes positions → (venue : List ℕ) → venue ≡ venue_file rs → Laid venue show (record { resources = rs; counts = counts_of routes; positions = positions_of positions })
  laid routes positions s venue is =
      record {
        valid = record { venue = valid; show = s.valid; fits = subst (λ l. fits_venue l (positions_of positions) ≡ true) same s.fits };
        venue_laid = is;
        show_laid = s.laid;
      }

  pub show-fault : (f : FitFault) → FirstBad (show_start lent show) f → (venue : List ℕ) → venue ≡ venue_file rs → FaultOf venue show f
  show-fault f b venue is = inr (rs, valid, is, subst (λ l. FirstBad (show_start l show) f) same b)
