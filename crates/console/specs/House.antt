-- What no call changes.
use Rattle.std.specs.Prelude.{◌≡◌}
use Rattle.console.specs.declared.console.Console.{Console}

-- of two consoles the stage and the rule are the same; the placing may be another
pub record SameHouse {R : Type 0} (before after : Console R) : Type 0 where
  pub stage : after.stage ≡ before.stage
  pub rule : after.rule ≡ before.rule
