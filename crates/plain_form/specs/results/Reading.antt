-- Reading results of allocators.
use Rattle.std.specs.Prelude.{ℕ, zero, suc, Option, Some, None, Ok}
use Rattle.lir_core.specs.declared.places.Place.{Place}
use Rattle.lir_core.specs.declared.places.Place.TheVariants.{Reg, Home, Out}
use Rattle.lir_core.specs.declared.places.Move.{Move}
use Rattle.lir_core.specs.declared.places.Places.{Places}
use Rattle.lir_core.specs.declared.places.Line.{Line}
use Rattle.lir_core.specs.declared.places.Line.TheVariants as lines
use Rattle.lir_core.specs.declared.places.TraceOut.{TraceOut}
use Rattle.plain_form.specs.Reading.{Reading, ◌>>=◌, number_at, up_to_at, register_at, list_at}

abbrev pub held_by : ℕ → Option ℕ
held_by zero = None
held_by (suc v) = Some v

unfoldable pub held_at : ℕ → Reading (Option ℕ)
held_at total bytes = number_at total bytes >>= λ n. Ok (held_by n.0, n.1)

unfoldable pub places_at : ℕ → Reading Places
places_at total bytes = list_at (held_at total) total bytes >>= λ regs. list_at (number_at total) total regs.1 >>= λ homed. Ok (record { regs = regs.0; homed = homed.0 }, homed.1)

abbrev pub kind_of_place : ℕ → ℕ → Reading Place
kind_of_place zero total bytes = register_at total bytes >>= λ r. Ok (Reg r.0, r.1)
kind_of_place (suc zero) total bytes = number_at total bytes >>= λ v. Ok (Home v.0, v.1)
kind_of_place (suc (suc k)) total bytes = number_at total bytes >>= λ s. Ok (Out s.0, s.1)

unfoldable pub place_at : ℕ → Reading Place
place_at total bytes = up_to_at 2 total bytes >>= λ kind. kind_of_place kind.0 total kind.1

unfoldable pub move_at : ℕ → Reading Move
move_at total bytes = place_at total bytes >>= λ to. place_at total to.1 >>= λ from. Ok (record { to = to.0; from = from.0 }, from.1)

-- a register and a value
unfoldable pub stored_at : ℕ → Reading (ℕ × ℕ)
stored_at total bytes = register_at total bytes >>= λ r. number_at total r.1 >>= λ v. Ok ((r.0, v.0), v.1)

abbrev pub kind_of_line : ℕ → ℕ → Reading Line
kind_of_line zero total bytes = number_at total bytes >>= λ i. Ok (lines.Lir i.0, i.1)
kind_of_line (suc zero) total bytes = stored_at total bytes >>= λ s. Ok (lines.Store s.0.0 s.0.1, s.1)
kind_of_line (suc (suc zero)) total bytes = stored_at total bytes >>= λ s. Ok (lines.Load s.0.0 s.0.1, s.1)
kind_of_line (suc (suc (suc zero))) total bytes = list_at (move_at total) total bytes >>= λ ms. Ok (lines.Moves ms.0, ms.1)
kind_of_line (suc (suc (suc (suc zero)))) total bytes = register_at total bytes >>= λ r. Ok (lines.Result r.0, r.1)
kind_of_line (suc (suc (suc (suc (suc k))))) total bytes = place_at total bytes >>= λ p. Ok (lines.Target p.0, p.1)

unfoldable pub line_at : ℕ → Reading Line
line_at total bytes = up_to_at 5 total bytes >>= λ kind. kind_of_line kind.0 total kind.1

unfoldable pub result_at : ℕ → Reading TraceOut
result_at total bytes =
    number_at total bytes >>= λ trace.
    list_at (places_at total) total trace.1 >>= λ starts.
    list_at (places_at total) total starts.1 >>= λ ends.
    list_at (list_at (line_at total) total) total ends.1 >>= λ lines.
    list_at (list_at (register_at total) total) total lines.1 >>= λ regs.
    Ok (record { trace = trace.0; starts = starts.0; ends = ends.0; lines = lines.0; regs = regs.0 }, regs.1)
