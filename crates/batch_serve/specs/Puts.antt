-- How many tickets a sender has put.
use Rattle.std.specs.Prelude.{◌≡◌, ℕ, ◌≤◌}
use Rattle.batch_serve.specs.Desks.{IsSenderOf, number_of, put_of}
use Rattle.batch_serve.specs.declared.desk.Desk.{Desk}
use Rattle.batch_serve.specs.declared.desk.Sender.{Sender}

-- the desk's sender with this number, which has put no more tickets than there are jobs
abbrev pub HasPut : Desk → Sender → ℕ → ℕ → Type 0
HasPut desk sender number jobs = IsSenderOf desk sender × (number_of sender ≡ number) × (put_of sender ≤ jobs)
