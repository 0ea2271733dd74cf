-- A run, step by step.
use Rattle.std.proofs.Common.{◌≡◌, ℕ, ◌+◌, ◌<◌, ◌≤◌, List, [], ◌∷◌, ◌++◌, map, length, get_or, take, set, Option, sym, refl, ap, ◌∙◌, subst, ⊎_elim, arith, length-set, get_or-set_other, get_or-set_same}
use lib.Seq.{take-set-le, map-set_same}
use Rattle.std.proofs.lemmas.List.{take_more}
use Rattle.std.proofs.lemmas.Bool.{cases_eq, cases_lt}
use Rattle.tables.specs.Plan.{Plan}
use Rattle.figures.specs.Placing.{distance}
use Rattle.rules.specs.Placing.{on_count}
use Rattle.history.specs.History.{History, Right, Kept, Stands, Promised}
use Rattle.evening.specs.declared.step.Step.{Step}
use Rattle.evening.specs.Run.{on_top, after, HomeAt, Run}

on-top-push : (h : History) (steps : List Step) (s : Step) → on_top h (steps ++ s ∷ []) ≡ (s.call, s.answer) ∷ on_top h steps
on-top-push h [] s = refl
on-top-push h (x ∷ steps) s = on-top-push ((x.call, x.answer) ∷ h) steps s

-- after n steps of a run, whose placing is w
pub record Sofar (t : Plan) (allowed : List ℕ → Type 0) (named : List ℕ → Option ℕ → Type 0) (before : List Step) (n : ℕ) (steps : List Step) (w : List ℕ) : Type 0 where
  pub calls : map (λ s. s.call) steps ≡ map (λ s. s.call) before
  pub stands : Stands t allowed named (after steps n) w
  pub right : (m : ℕ) → m ≤ n → Right t allowed named (after steps m)
  pub kept : (m : ℕ) → m ≤ n → Kept t allowed named (after steps m)
  pub home : (m : ℕ) (d : Step) → m < n → HomeAt t (after steps (m + 1)) (get_or steps m d)

module _ (t : Plan) (allowed : List ℕ → Type 0) (named : List ℕ → Option ℕ → Type 0) (before : List Step) where
  pub sofar-none : (w : List ℕ) → Stands t allowed named [] w → Kept t allowed named [] → Sofar t allowed named before 0 before w
  sofar-none w stands kept = record {
    calls = refl;
    stands = stands;
    right = λ m le. let zero : m ≡ 0 = omega arith in rw zero stands.right;
    kept = λ m le. let zero : m ≡ 0 = omega arith in rw zero kept;
    home = λ m d lt. absurd (omega arith);
  }

  module _ (n : ℕ) (steps : List Step) (w v : List ℕ) (s : Step) (d : Step) (lt : n < length steps) (so : Sofar t allowed named before n steps w) (call : s.call ≡ (get_or steps n d).call) (promise : Promised t allowed named w s.call s.answer v) (pieces : s.pieces ≡ on_count v) (far : s.distance ≡ distance t v) where
    abbrev more : List Step
    more = set steps n s

    -- what was before stays
    same : (m : ℕ) → m ≤ n → after steps m ≡ after more m
    same m le = sym (ap (on_top []) (take-set-le m steps n s le))

    newest : (s.call, s.answer) ∷ after steps n ≡ after more (n + 1)
    newest =
        let long : n < length more = omega (arith, length-set steps n s) in
        let last = take_more more n d long ∙ ap (λ xs. xs ++ get_or more n d ∷ []) (take-set-le n steps n s (omega arith)) ∙ ap (λ x. take n steps ++ x ∷ []) (get_or-set_same steps n s d lt) in
        sym (ap (on_top []) last ∙ on-top-push [] (take n steps) s)

    -- what holds of the histories so far and of the newest
    at_each : (P : History → Type 0) → ((m : ℕ) → m ≤ n → P (after steps m)) → P ((s.call, s.answer) ∷ after steps n) → (m : ℕ) → m ≤ n + 1 → P (after more m)
    at_each P old new m le = ⊎_elim
        (λ (below : m < n + 1). subst P (same m (omega arith)) (old m (omega arith)))
        (λ (top : n + 1 ≤ m). let is : m ≡ n + 1 = omega arith in rw is (subst P newest new))
        (cases_lt m (n + 1))

    pub sofar-more : Sofar t allowed named before (n + 1) more v
    sofar-more =
        let done = promise (after steps n) so.stands in
        let stands = subst (λ h. Stands t allowed named h v) newest done.0 in
        record {
          calls = map-set_same (λ x. x.call) steps n s d call ∙ so.calls;
          stands = stands;
          right = at_each (Right t allowed named) so.right done.0.right;
          kept = at_each (Kept t allowed named) so.kept done.1;
          home = λ m e below. ⊎_elim
              (λ is. rw is (subst (HomeAt t (after more (n + 1))) (sym (get_or-set_same steps n s e lt)) (record { pieces = pieces ∙ ap on_count (sym stands.there); distance = far ∙ ap (distance t) (sym stands.there) })))
              (λ other.
              let old : HomeAt t (after more (m + 1)) (get_or steps m e) = subst (λ h. HomeAt t h (get_or steps m e)) (same (m + 1) (omega (arith, other))) (so.home m e (omega (arith, other))) in
              subst (HomeAt t (after more (m + 1))) (sym (get_or-set_other steps n m s e other)) old)
              (cases_eq m n);
        }

  pub sofar-all : (n : ℕ) (steps : List Step) (w : List ℕ) → length steps ≤ n → Sofar t allowed named before n steps w → Run t allowed named before steps
  sofar-all n steps w all so = record {
    calls = so.calls;
    right = λ m le. so.right m (omega arith);
    kept = λ m le. so.kept m (omega arith);
    home = λ m d lt. so.home m d (omega arith);
  }
