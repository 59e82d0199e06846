-- The node and the token that come next.
use Rattle.std.specs.Prelude.{ℕ}
use Rattle.set_pass.specs.declared.next.Next.{Next}

abbrev pub next_node : Next → ℕ
next_node next = next.node

abbrev pub next_token : Next → ℕ
next_token next = next.token
