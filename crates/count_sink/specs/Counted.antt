-- What a sink tells that only counts.
use Rattle.std.specs.Prelude.{ℕ, None, Some}
use Rattle.outside.specs.Sink.{Account}

-- an amount, no content, and that there were no faults
abbrev pub counted : ℕ → Account
counted n = record { taken = None; amount = Some n; faults = 0 }
