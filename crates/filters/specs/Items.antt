-- What a contract sees of an own list.
use Rattle.std.specs.Prelude.{ℕ, List}

-- the rows, in order
pub record Items : Type 0 where
  pub items : List ℕ
