-- Variables take eight bytes a cell at most, in whole words.
use Rattle.std.proofs.Common.{◌≡◌, ℕ, ◌*◌, ◌≤◌, List, [], ◌∷◌, map, take, length, true, ap, arith}
use Rattle.std.specs.Prelude.{◌%◌}
use Rattle.std.specs.List.{sum_by}
use Rattle.std.proofs.lemmas.List.Sums.{sum_by-cons}
use Rattle.ob_types.specs.Layout.{cells, cells_of_all}
use Rattle.ob_types.specs.Table.{Table}
use Rattle.ob_types.specs.declared.program.Module.{Module}
use Rattle.ob_types.specs.declared.program.Program.{Program}
use Rattle.ssa_lowered.specs.Data.{Layout, layout, globals_room, room, room_of_all}
use Rattle.ssa_lowered.specs.Limits.{global_cells}
use Rattle.ssa_lowered.proofs.Layouts.{packed_by_trees, rounded_few}
use Rattle.ssa_tables.proofs.Placing.{take_all}

pub room_few : (t : Table) (k : ℕ) → room (layout t) k ≤ 8 * cells t k
room_few t k = rounded_few true t (layout t) (packed_by_trees t) k

module _ (t : Table) where
  abbrev l : Layout
  l = layout t

  rooms_few : (ks : List ℕ) → room_of_all l ks ≤ 8 * cells_of_all t ks
  rooms_few [] = omega arith
  rooms_few (k ∷ ks) =
      let a = sum_by-cons (λ x. x) (room l k) (map (room l) ks) in
      let b = sum_by-cons (λ x. x) (cells t k) (map (cells t) ks) in
      let c = room_few t k in
      let more = rooms_few ks in
      omega (arith, a, b, c, more)

  rooms_whole : (ks : List ℕ) → room_of_all l ks % 8 ≡ 0
  rooms_whole [] = omega arith
  rooms_whole (k ∷ ks) =
      let a = sum_by-cons (λ x. x) (room l k) (map (room l) ks) in
      let more = rooms_whole ks in
      omega (arith, a, more)

  abbrev module_room : Module → ℕ
  module_room m = room_of_all l m.variables

  modules_few : (ms : List Module) → sum_by module_room ms ≤ 8 * sum_by (λ m. cells_of_all t m.variables) ms
  modules_few [] = omega arith
  modules_few (m ∷ ms) =
      let a = sum_by-cons module_room m ms in
      let b = sum_by-cons (λ (x : Module). cells_of_all t x.variables) m ms in
      let c = rooms_few m.variables in
      let more = modules_few ms in
      omega (arith, a, b, c, more)

  modules_whole : (ms : List Module) → sum_by module_room ms % 8 ≡ 0
  modules_whole [] = omega arith
  modules_whole (m ∷ ms) =
      let a = sum_by-cons module_room m ms in
      let c = rooms_whole m.variables in
      let more = modules_whole ms in
      omega (arith, a, c, more)

module _ (p : Program) where
  all_modules : sum_by (module_room p.types) (take (length p.modules) p.modules) ≡ sum_by (module_room p.types) p.modules
  all_modules = ap (λ ms. sum_by (module_room p.types) ms) (take_all p.modules (length p.modules) (omega arith))

  pub globals_length : globals_room p (layout p.types) ≤ 8 * global_cells p
  globals_length = let a = modules_few p.types p.modules in let b = all_modules in omega (arith, a, b)

  pub globals_whole : globals_room p (layout p.types) % 8 ≡ 0
  globals_whole = let a = modules_whole p.types p.modules in let b = all_modules in omega (arith, a, b)
