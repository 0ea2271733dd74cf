-- Every right history keeps the promise.
use Rattle.std.proofs.Common.{◌≡◌, ℕ, ◌+◌, ◌<◌, ◌≤◌, List, [], ◌∷◌, ◌++◌, length, Some, None, Option, sym, subst, inl, inr, ⊎_elim, arith, Ok, Err}
use Rattle.refusals.specs.declared.Refusal.TheVariants.{NoSuchPiece, NoSuchRoute, NoRoom}
use Rattle.tables.specs.Plan.{Plan, routes, first}
use Rattle.figures.specs.Sound.{Sound}
use Rattle.figures.specs.Placing.{distance}
use Rattle.figures.proofs.Lawful.{laws}
use Rattle.rules.specs.Placing.{nobody}
use Rattle.rules.specs.Placings.{off-all}
use Rattle.history.specs.declared.calls.Call.{Call}
use Rattle.history.specs.declared.calls.Call.TheVariants.{Start, Move, Leave, Clear}
use Rattle.history.specs.Answer.{Answer}
use Rattle.history.specs.declared.calls.Granted.TheVariants.{Moved, Cleared}
use Rattle.history.specs.Calls.{Answers, StartAnswers, ClearAnswers, after}
use Rattle.history.specs.History.{History, placing, Right, clears, AllCleared, Kept, Promised}
use Rattle.history.specs.Points.{Points}
use Rattle.history.proofs.Answered.{Passed, answered, passed}
use Rattle.history.proofs.Distances.{nearer, home, away}

never-route : ◌≡◌ {A = Answer} (Err NoRoom) (Err NoSuchRoute) → ⊥
never-route e = let z : ◌≡◌ {A = ℕ} 0 1 = cc in omega arith

never-piece : ◌≡◌ {A = Answer} (Err NoRoom) (Err NoSuchPiece) → ⊥
never-piece e = let z : ◌≡◌ {A = ℕ} 0 1 = cc in omega arith

module _ (t : Plan) (sound : Sound t) (allowed : List ℕ → Type 0) (named : List ℕ → Option ℕ → Type 0) (points : Points t allowed named) where
  stays : (w : List ℕ) (c : Call) (a : Answer) → allowed w → Answers t allowed named w c a → allowed (after t w c a)
  stays w c a al h = answered t allowed named w (λ b. allowed (after t w c b)) (λ _. al) c a (granted w c al) (λ k is. (points.goes w (Some k) is).2) h
    where
      granted : (w : List ℕ) (c : Call) → allowed w → Passed t allowed w c → allowed (after t w c (Ok Moved))
      granted w (Start k j) al p = p.1
      granted w (Move k q) al p = p.1
      granted w (Leave k) al p = points.removal w k al p
      granted w Clear al p = absurd p

  -- the placing of a right history is allowed
  pub reached : (h : History) → Right t allowed named h → allowed (placing t h)
  reached [] r = points.empty
  reached (e ∷ h) r = stays (placing t h) e.0 e.1 (reached h r.1) r.0

  -- one clear: a piece goes home while one is on
  cleared : (w : List ℕ) (a : Answer) → allowed w → ClearAnswers named w a → 0 < distance t w → ((k : ℕ) × (a ≡ Ok (Cleared k))) × (distance t (after t w Clear a) + 1 ≡ distance t w)
  cleared w a al (inl h) d = ((h.0, h.2), rw h.2 (nearer t sound w h.0 (points.formed w al) (points.goes w (Some h.0) h.1).1))
  cleared w a al (inr h) d = let someone = away t sound w d in absurd (points.goes w None h.0 al someone.0 someone.1)

  -- clears bring the distance down one by one
  clearing : (h : History) (answers : List Answer) → Right t allowed named (clears answers ++ h) → length answers ≤ distance t (placing t h) → AllCleared answers × (distance t (placing t (clears answers ++ h)) + length answers ≡ distance t (placing t h))
  clearing h [] r le = (tt, omega arith)
  clearing h (a ∷ answers) r le =
      let before = clearing h answers r.1 (omega arith) in
      let one = cleared (placing t (clears answers ++ h)) a (reached (clears answers ++ h) r.1) r.0 (omega (arith, before.1)) in
      ((one.0, before.0), omega (arith, one.1, before.1))

  emptied : (h : History) (answers : List Answer) → Right t allowed named (clears answers ++ h) → length answers ≡ distance t (placing t h) → placing t (clears answers ++ h) ≡ nobody
  emptied h answers r d =
      let down = clearing h answers r (omega arith) in
      home t sound (placing t (clears answers ++ h)) (points.formed _ (reached (clears answers ++ h) r)) (omega (arith, down.1))

  -- a start that was refused for room only named a piece and a route
  known : (k j : ℕ) (w : List ℕ) → StartAnswers t allowed w k j (Err NoRoom) → (k < 64) × (j < routes t)
  known k j w (inl h) = (h.0, ⊎_elim (λ x. x.0) (λ x. absurd (never-route x.1)) h.1)
  known k j w (inr h) = absurd (never-piece h.1)

  -- on the empty stage such a start is granted
  again : (k j : ℕ) (a : Answer) → k < 64 → j < routes t → StartAnswers t allowed nobody k j a → a ≡ Ok Moved
  again k j a piece route h = passed piece (passed route (passed (off-all 64 k) (passed (points.alone k (first t j) piece (sound.begins j route)) (λ e. e)))) h

  -- every right history keeps the promise
  pub kept : (h : History) → Right t allowed named h → Kept t allowed named h
  kept h r =
      let ok = reached h r in
      record {
        fits = points.fits _ ok;
        near = (laws t sound).distances (placing t h) (points.formed _ ok).0;
        granted = λ answers r' le. (clearing h answers r' le).0;
        fewer = λ answers r' lt. away t sound _ (omega (arith, (clearing h answers r' (omega arith)).1));
        emptied = emptied h;
        started = λ k j past is answers d a r'.
            let first = known k j (placing t past) (subst (Right t allowed named) is r).0 in
            again k j a first.0 first.1 (subst (λ w. StartAnswers t allowed w k j a) (emptied h answers r'.1 d) r'.0);
      }

  -- one call more
  pub promised : (w : List ℕ) (c : Call) (a : Answer) (v : List ℕ) → Answers t allowed named w c a → v ≡ after t w c a → Promised t allowed named w c a v
  promised w c a v answers e h s =
      let right : Right t allowed named ((c, a) ∷ h) = (subst (λ x. Answers t allowed named x c a) (sym s.there) answers, s.right) in
      (record { right = right; there = subst (λ x. after t x c a ≡ v) (sym s.there) (sym e) }, kept ((c, a) ∷ h) right)
