-- The two byte streams of a console (this machine's own: input and output are redirected).
use Rattle.std.specs.Prelude.{ℕ, Bool, List}

-- what contracts see of a console: the input that is not read yet; whether more may come after it; all output so far;
-- and the room, how many more bytes can be written without an allocation
pub record Streams : Type 0 where
  pub input : List ℕ
  pub more : Bool
  pub output : List ℕ
  pub room : ℕ
