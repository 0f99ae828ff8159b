-- A record that ends the proof. No call open to others cites this file.
use Rattle.std.specs.Prelude.{ℕ}
use Rattle.small.specs.declared.Stop.{Stop}

abbrev pub stop_at : ℕ → ℕ → Stop
stop_at number offset = record { number = number; offset = offset }
