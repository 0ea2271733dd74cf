-- Along every history under the ordered rule, the marking is the count of the placing.
use Rattle.std.proofs.Common.{◌≡◌, ℕ, ◌<◌, List, [], ◌∷◌, get_or, set, Some, subst, arith, Ok, Err}
use Rattle.refusals.specs.declared.Refusal.{Refusal}
use Rattle.std.specs.List.{ContainsAt as Has}
use Rattle.tables.specs.Plan.{Plan, count, first, next}
use Rattle.figures.specs.Sound.{Sound}
use Rattle.figures.specs.Claims.{claim}
use Rattle.figures.specs.Placing.{off, stepped}
use Rattle.figures.proofs.Bounds.{claim-le}
use Rattle.rules.specs.Ordered.{Ordered, OrderedNames}
use Rattle.rules.specs.Placings.{on_below}
use Rattle.rules.specs.Kept.{kept-empty, kept-alone, kept-removal}
use Rattle.rules.specs.Orders.{ordered-fits, ordered-goes}
use Rattle.history.specs.declared.calls.Call.{Call}
use Rattle.history.specs.declared.calls.Call.TheVariants.{Start, Move, Leave, Clear}
use Rattle.history.specs.Answer.{Answer}
use Rattle.history.specs.declared.calls.Granted.TheVariants.{Moved, Cleared}
use Rattle.history.specs.Calls.{Answers, after}
use Rattle.history.specs.History.{History, placing, Right, Stands, Promised}
use Rattle.history.specs.Points.{Points}
use Rattle.history.proofs.Answered.{Passed, answered, passed}
use Rattle.history.proofs.Evenings.{reached}
use Rattle.net.specs.Net.{Place, IsPlace, Marking, Enabled, fired, marking, counts, source, target, Checked, AsTheNet}
use Rattle.net.proofs.Tokens.{Agrees, agrees-initial, agrees-fire, allowed-enabled, enabled-allowed}

not-refused : (n : Refusal) → ◌≡◌ {A = Answer} (Err n) (Ok Moved) → ⊥
not-refused n e = let z : ◌≡◌ {A = ℕ} 0 1 = cc in omega arith

not-cleared : (k : ℕ) → ◌≡◌ {A = Answer} (Ok (Cleared k)) (Ok Moved) → ⊥
not-cleared k e = let z : ◌≡◌ {A = ℕ} 0 1 = cc in omega arith

-- a next position is a position
next-within : (t : Plan) → Sound t → (p q : ℕ) → Has (next t p) q → q < count t
next-within t sound p q has = subst (λ x. x < count t) (has.2 0) (sound.ahead p has.0 has.1).1

module _ (t : Plan) (sound : Sound t) where
  ordered-points : Points t (Ordered t) (OrderedNames t)
  ordered-points = record {
    formed = λ w h. h.0;
    empty = kept-empty t (claim t) (claim-le t sound);
    alone = kept-alone t (claim t) (claim-le t sound);
    fits = ordered-fits t sound;
    removal = λ w k h lt. kept-removal t (claim t) (claim-le t sound) w k lt h;
    goes = ordered-goes t sound;
  }

  -- what a call fires is what it does to the counts
  agrees_after : (w : List ℕ) (c : Call) (a : Answer) (m : Marking) → Ordered t w → Answers t (Ordered t) (OrderedNames t) w c a → Agrees t m w → Agrees t (fired t w c a m) (after t w c a)
  agrees_after w c a m ordered answers agrees =
      answered t (Ordered t) (OrderedNames t) w (λ b. Agrees t (fired t w c b m) (after t w c b)) (λ _. agrees) c a (granted c) cleared answers
    where
      granted : (c : Call) → Passed t (Ordered t) w c → Agrees t (fired t w c (Ok Moved) m) (after t w c (Ok Moved))
      granted (Start k j) ok = agrees-fire t sound w k (first t j) ordered ok.0 m ok.1 agrees
      granted (Move k p) ok = agrees-fire t sound w k p ordered ok.0 m ok.1 agrees
      granted (Leave k) ok = agrees-fire t sound w k off ordered ok m (kept-removal t (claim t) (claim-le t sound) w k ok ordered) agrees
      granted Clear ok = absurd ok

      cleared : (k : ℕ) → OrderedNames t w (Some k) → Agrees t (fired t w c (Ok (Cleared k)) m) (after t w c (Ok (Cleared k)))
      cleared k is =
          let goes = ordered-goes t sound w (Some k) is in
          agrees-fire t sound w k (stepped t (get_or w k off)) ordered (omega (arith, on_below w k goes.1, ordered.0.0)) m goes.2 agrees

  -- the marking of a right history
  agrees-all : (h : History) → Right t (Ordered t) (OrderedNames t) h → Agrees t (marking t h) (placing t h)
  agrees-all [] right = agrees-initial t sound
  agrees-all (e ∷ h) right = agrees_after (placing t h) e.0 e.1 (marking t h) (reached t sound (Ordered t) (OrderedNames t) ordered-points h right.1) right.0 (agrees-all h right.1)

  -- a call and its answer, of every history that stands before it
  module _ (w : List ℕ) (c : Call) (a : Answer) (v : List ℕ) (answers : Answers t (Ordered t) (OrderedNames t) w c a) (promise : Promised t (Ordered t) (OrderedNames t) w c a v) where
    module _ (h : History) (s : Stands t (Ordered t) (OrderedNames t) h w) where
      ordered : Ordered t w
      ordered = subst (Ordered t) s.there (reached t sound (Ordered t) (OrderedNames t) ordered-points h s.right)

      agrees : Agrees t (marking t h) w
      agrees = subst (Agrees t (marking t h)) s.there (agrees-all h s.right)

      allows : (k q : ℕ) → k < 64 → ((q ≡ off → ⊥) → q < count t) → Enabled t (marking t h) (get_or w k off) q → Ordered t (set w k q)
      allows k q lt at enabled = enabled-allowed t sound w k q ordered lt (marking t h) at agrees enabled

      grants : (c : Call) → Answers t (Ordered t) (OrderedNames t) w c a → Checked t w c → Enabled t (marking t h) (source w c) (target t c) → a ≡ Ok Moved
      grants (Start k j) answers ok enabled =
          passed ok.0 (passed ok.1 (passed ok.2 (passed (allows k (first t j) ok.0 (λ _. sound.begins j ok.1) enabled) (λ e. e)))) answers
      grants (Move k p) answers ok enabled =
          passed ok.0 (passed ok.1 (passed ok.2 (passed (allows k p ok.0 (λ _. next-within t sound (get_or w k off) p ok.2) enabled) (λ e. e)))) answers
      grants (Leave k) answers ok enabled = passed ok.0 (passed ok.1 (passed ok.2 (λ e. e))) answers
      grants Clear answers ok enabled = absurd ok

      enables : (c : Call) → Passed t (Ordered t) w c → Enabled t (marking t h) (source w c) (target t c)
      enables (Start k j) ok = allowed-enabled t sound w k (first t j) ordered ok.0 (marking t h) ok.1 agrees
      enables (Move k p) ok = allowed-enabled t sound w k p ordered ok.0 (marking t h) ok.1 agrees
      enables (Leave k) ok = allowed-enabled t sound w k off ordered ok (marking t h) (kept-removal t (claim t) (claim-le t sound) w k ok ordered) agrees
      enables Clear ok = absurd ok

      only : a ≡ Ok Moved → Enabled t (marking t h) (source w c) (target t c)
      only = answered t (Ordered t) (OrderedNames t) w (λ b. b ≡ Ok Moved → Enabled t (marking t h) (source w c) (target t c))
          (λ n e. absurd (not-refused n e)) c a (λ ok _. enables c ok) (λ k _ e. absurd (not-cleared k e)) answers

      counted : (place : Place) → IsPlace t place → counts t v place ≡ marking t ((c, a) ∷ h) place
      counted place is =
          let more = (promise h s).0 in
          subst (λ x. counts t x place ≡ marking t ((c, a) ∷ h) place) more.there (agrees-all ((c, a) ∷ h) more.right place is)

    pub as-the-net : AsTheNet t (Ordered t) (OrderedNames t) w c a v
    as-the-net = record {
      grants = λ h s ok enabled. grants h s c answers ok enabled;
      only = λ h s ok e. only h s e;
      counted = counted;
    }
