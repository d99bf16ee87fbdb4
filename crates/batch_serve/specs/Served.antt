-- When all is served.
use Rattle.std.specs.Prelude.{◌≡◌, ◌+◌, List, length}
use Rattle.batch_serve.specs.Answered.{IsAnswered, ticket_count}
use Rattle.batch_serve.specs.Desks.{IsTakerOf, taken_of}
use Rattle.batch_serve.specs.Puts.{HasPut}
use Rattle.batch_serve.specs.declared.desk.Desk.{Desk}
use Rattle.batch_serve.specs.declared.serving.Served.{Served}

-- each submitter has put no more tickets than it has jobs, and as many tickets were taken as there are jobs, each of them answered
abbrev pub IsServed : {J A : Type 0} → (J → A → Type 0) → Desk → List J → List J → Served A → Type 0
IsServed IsAnswer desk first second s =
    HasPut desk s.first 0 (length first) × HasPut desk s.second 1 (length second) × IsTakerOf desk s.taker
    × IsAnswered IsAnswer first second (taken_of s.taker) s.answers.first.items s.answers.second.items
    × (ticket_count (taken_of s.taker) ≡ length first + length second)
