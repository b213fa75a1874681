-- The content of a query that is handed out.
use Rattle.std.specs.Prelude.{ℕ, List}

-- a query that was handed out: its content, the last moment at which it can be answered, the maximum length of the
-- packet of its response, and the node to which it was handed out
pub record DeliveredQuery : Type 0 where
  pub time : ℕ
  pub id : ℕ
  pub name : List ℕ
  pub payload : List ℕ
  pub source : List ℕ
  pub addr : List ℕ
  pub port : ℕ
  pub relay_factor : ℕ
  pub deadline : ℕ
  pub response_limit : ℕ
  pub node : List ℕ
