-- The figures of a sound plan keep to the laws.
use Rattle.std.proofs.Common.{ℕ, ◌≤◌, List, [], ◌∷◌, arith}
use Rattle.std.specs.List.{AllByRecursion as All}
use Rattle.std.proofs.ByRecursion.{sum_by_le}
use Rattle.std.proofs.lemmas.Bool.Decides.{nat_tests}
use Rattle.tables.specs.Plan.{Plan}
use Rattle.figures.specs.Sound.{Sound}
use Rattle.figures.specs.Way.{way_length}
use Rattle.figures.specs.Placing.{if_on}
use Rattle.figures.specs.Laws.{Laws}
use Rattle.figures.proofs.Ways.{main-ahead}
use Rattle.figures.proofs.Lengths.{length-step, length_last, length-any}
use Rattle.figures.proofs.Bounds.{need-le-claim, claim-le, claim-falls}

module _ (t : Plan) (sound : Sound t) where
  one : (p : ℕ) → if_on (way_length t) p ≤ 128
  one p = let most = length-any t sound p in grind (arith, nat_tests)

  each : (w : List ℕ) → All (λ p. if_on (way_length t) p ≤ 128) w
  each [] = tt
  each (p ∷ w) = (one p, each w)

  pub laws : Laws t
  laws = record {
    stays = λ p q e. (main-ahead t sound p q e).1;
    shortens = length-step t sound;
    ends = length_last t sound;
    lengths = λ p lt. (omega arith, length-any t sound p);
    distances = λ w e. omega (arith, sum_by_le (if_on (way_length t)) 128 w (each w), e);
    covers = λ r p h. need-le-claim t sound r p h;
    covered = λ r p. claim-le t sound r p;
    falls = λ r p q lt e h. claim-falls t sound r p q lt e h;
  }
