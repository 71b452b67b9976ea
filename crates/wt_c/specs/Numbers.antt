-- Numbers that C passes.
use Rattle.std.specs.Prelude.{ℕ, ◌<◌, ◌^◌}
use Rattle.wtp_core.specs.Ids.{IsSession}

-- the number is a valid session ID
pub record IsSessionNumber (id : ℕ) : Type 0 where
  pub below : id < 2 ^ 62
  pub session : IsSession id
