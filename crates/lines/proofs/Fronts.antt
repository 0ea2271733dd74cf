-- The front of a line is enough.
use Rattle.std.proofs.Common.{◌≡◌, ℕ, ◌+◌, ◌<◌, ◌≤◌, List, [], ◌∷◌, ◌++◌, length, get_or, take, set, Some, None, codes, Option, sym, refl, ap, ◌∙◌, subst, arith, length-append, length-set, length-take, length-take-le, take_all, get_or-set_same, MatchOption}
use lib.Seq.{take-append-le, take-set-le}
use Rattle.std.proofs.lemmas.List.{take_more}
use Rattle.history.specs.declared.calls.Call.{Call}
use Rattle.history.specs.declared.calls.Call.TheVariants.{Start, Move, Leave, Clear}
use Rattle.lines.specs.Lines.{Numbers, space, Says}

numbers-short : (text : List ℕ) (k j : ℕ) → Numbers text k j → length text ≤ 11
numbers-short text k j h = omega (arith, ap length h.2, length-append h.0 (space ∷ h.1), h.3.few, h.4.few)

-- no line that says something is longer than 17 bytes
says-short : (line : List ℕ) (c : Call) → Says line c → length line ≤ 17
says-short line (Start k j) s = omega (arith, ap length s.1, length-append (codes "start ") s.0, numbers-short s.0 k j s.2)
says-short line (Move k p) s = omega (arith, ap length s.1, length-append (codes "move ") s.0, numbers-short s.0 k p s.2)
says-short line (Leave k) s = omega (arith, ap length s.1, length-append (codes "leave ") s.0, s.2.few)
says-short line Clear s = omega (arith, ap length s)

module _ (line : List ℕ) where
  -- a front of less than 18 bytes is the whole line
  whole : length (take 18 line) ≤ 17 → take 18 line ≡ line
  whole short = take_all 18 line (omega (arith, length-take 18 line))

  pub front-says : (r : Option Call) (front : List ℕ) → front ≡ take 18 line → MatchOption r ((c : Call) → Says front c → ⊥) (λ c. Says front c) → MatchOption r ((c : Call) → Says line c → ⊥) (λ c. Says line c)
  front-says None front e none = λ c s. none c (subst (λ x. Says x c) (sym (e ∙ take_all 18 line (omega (arith, says-short line c s)))) s)
  front-says (Some c) front e s =
      let short = says-short front c s in
      subst (λ x. Says x c) (e ∙ whole (subst (λ x. length x ≤ 17) e short)) s

  -- another byte, while there is room, and once there is none
  module _ (bytes : List ℕ) (n byte : ℕ) (long : length bytes ≡ 18) (held : take n bytes ≡ take 18 line) where
    pub front-more : n < 18 → take (n + 1) (set bytes n byte) ≡ take 18 (line ++ byte ∷ [])
    front-more lt =
        let size : length (take n bytes) ≡ n = length-take-le n bytes (omega arith) in
        let same : take n bytes ≡ line = held ∙ whole (omega (arith, ap length held)) in
        let known : n < length (set bytes n byte) = omega (arith, length-set bytes n byte) in
        take_more (set bytes n byte) n 0 known
        ∙ ap (λ xs. xs ++ get_or (set bytes n byte) n 0 ∷ []) (take-set-le n bytes n byte (omega arith) ∙ same)
        ∙ ap (λ x. line ++ x ∷ []) (get_or-set_same bytes n byte 0 (omega arith))
        ∙ sym (take_all 18 (line ++ byte ∷ []) (omega (arith, length-append line (byte ∷ []), ap length same)))

    pub front-full : 18 ≤ n → take n bytes ≡ take 18 (line ++ byte ∷ [])
    front-full ge =
        let all : take n bytes ≡ bytes = take_all n bytes (omega arith) in
        held ∙ sym (take-append-le 18 line (byte ∷ []) (omega (arith, ap length (sym all ∙ held), length-take 18 line)))
