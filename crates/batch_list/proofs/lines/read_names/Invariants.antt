use Rattle.std.proofs.Common.{◌≡◌, ℕ, ◌<◌, [], length, map, take, get_or}
use Rattle.batch_list.proofs.lines.read_names.Given as goal

abbrev pub invariant-loop-i : goal.invariant-loop-i
invariant-loop-i l =
    (map (λ n. n.items) l.names.items ≡ take l.i (map (λ w. w.now) l.words))
    × ((k : ℕ) → k < l.i → 0 < length (get_or (map (λ w. w.now) l.words) k []))
