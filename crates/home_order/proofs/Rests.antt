-- What is left while pieces are taken off, one that can go home at a time.
use Rattle.std.proofs.Common.{ℕ, ◌<◌, List, get_or, set, refl, arith}
use Rattle.tables.specs.Plan.{Plan}
use Rattle.figures.specs.Sound.{Sound}
use Rattle.figures.specs.Placing.{off}
use Rattle.rules.specs.Placing.{Formed, Fits, on_count}
use Rattle.rules.specs.Placings.{on_below, if-on, if-off, total-set, formed-off}
use Rattle.home_order.specs.HomeOrder.{HasOrder}
use Rattle.home_order.specs.Goers.{Goer}
use Rattle.home_order.specs.Sums.{SumsOf, Less}
use Rattle.home_order.specs.Homes.{has-removal, goes_back}
use Rattle.home_order.specs.Peaks.{held-off, fits-removal}

-- of the placing w the pieces of rest are left, which can go home if those of w can
pub record Rest (t : Plan) (w sums rest : List ℕ) : Type 0 where
  pub formed : Formed t rest
  pub is : SumsOf t rest sums
  pub down : HasOrder (Fits t) t w → HasOrder (Fits t) t rest
  pub up : HasOrder (Fits t) t rest → HasOrder (Fits t) t w

module _ (t : Plan) (sound : Sound t) (w sums rest : List ℕ) (k : ℕ) (here : Rest t w sums rest) (goer : Goer (Fits t) t rest k) where
  pub rest-off : (after : List ℕ) → Less t (get_or rest k off) sums after → Rest t w after (set rest k off)
  rest-off after less = record {
    formed = formed-off t rest k (omega (arith, on_below rest k goer.on, here.formed.0)) here.formed;
    is = λ r known. omega (arith, less r known, here.is r known, held-off t sound rest k r goer.on);
    down = λ h. has-removal (Fits t) t (fits-removal t sound) rest k (here.down h);
    up = λ h. here.up (goes_back (Fits t) t rest k goer.on goer.goes h);
  }

  pub fewer : on_count (set rest k off) < on_count rest
  fewer = omega (arith, total-set (λ _. 1) rest k off (on_below rest k goer.on), if-on (λ _. 1) (get_or rest k off) goer.on, if-off (λ _. 1) off refl)
