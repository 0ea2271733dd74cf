-- What a line of a run is answered, and what is shown of it.
use Rattle.std.specs.Prelude.{◌≡◌, ℕ, ◌⊎◌, List, ◌++◌, Ok, Err, codes, decimal}
use Rattle.refusals.specs.declared.Refusal.TheVariants.{LineNotUnderstood}
use Rattle.refusals.specs.Refusals.{number_of}
use Rattle.tables.specs.Plan.{Plan}
use Rattle.figures.specs.Placing.{distance}
use Rattle.history.specs.declared.calls.Call.{Call}
use Rattle.history.specs.Answer.{Answer}
use Rattle.net.specs.Net.{OrderedCall}
use Rattle.lines.specs.Lines.{Says}
use Rattle.session.specs.declared.shown.Shown.{Shown}

-- 0 for what is granted, else the refusal's number
abbrev pub answer_number : Answer → ℕ
answer_number (Ok done) = 0
answer_number (Err r) = number_of r

-- a line that says a call: the call is made under the ordered rule, from placing w to placing v
pub record Called (t : Plan) (w line : List ℕ) (answer : Answer) (v : List ℕ) : Type 0 where
  pub call : Call
  pub says : Says line call
  pub made : OrderedCall t w call answer v

-- a line that says none is refused for that, and changes nothing
pub record NotUnderstood (w line : List ℕ) (answer : Answer) (v : List ℕ) : Type 0 where
  pub none : (c : Call) → Says line c → ⊥
  pub shown : answer ≡ Err LineNotUnderstood
  pub same : v ≡ w

abbrev pub Answered : Plan → List ℕ → List ℕ → Answer → List ℕ → Type 0
Answered t w line answer v = Called t w line answer v ⊎ NotUnderstood w line answer v

-- what is shown of a line: its answer, and the distance home after it
pub record LineAnswered (t : Plan) (w line : List ℕ) (s : Shown) (v : List ℕ) : Type 0 where
  pub answer : Answered t w line s.answer v
  pub home : s.distance ≡ distance t v

-- the row of the n-th line
abbrev pub row_text : ℕ → ℕ → ℕ → List ℕ
row_text n answer far = decimal n ++ (codes " " ++ (decimal answer ++ (codes " " ++ decimal far)))
