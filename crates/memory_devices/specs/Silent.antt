-- What a sink tells that tells nothing.
use Rattle.std.specs.Prelude.{None}
use Rattle.outside.specs.Sink.{Account}

-- no content, no amount, and that there were no faults
abbrev pub silent : Account
silent = record { taken = None; amount = None; faults = 0 }
