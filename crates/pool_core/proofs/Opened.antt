-- The machine of a pool that opens.
use Rattle.std.proofs.Common.{◌≡◌, ℕ, zero, suc, ◌*◌, ◌≤◌, List, [], ◌∷◌, length, replicate, false, sym, refl, ap, ◌∙◌, subst, arith}
use Rattle.std.specs.Prelude.{Option, None}
use Rattle.std.proofs.lemmas.Grind.{merely}
use Rattle.std.proofs.lemmas.List.{length-replicate}
use mathlib.Core.Option.{some, some-injective, some-ne-none}
use lib.ListN.{get_elem?}
use Rattle.pool_core.specs.Tree.{roots, IsTree}
use Rattle.pool_core.specs.Events.{state}
use Rattle.pool_core.specs.Rule.{Kept}
use Rattle.pool_core.specs.Runs.{opening, opening_cells, fresh}
use Rattle.pool_core.specs.Machine.{one_share, workers_from, state_of, IsNextOf, IsSound}
use Rattle.pool_core.specs.declared.model.Stage.TheVariants.{Idle}
use Rattle.pool_core.specs.declared.model.Worker.{Worker}
use Rattle.pool_core.specs.declared.workers.Hand.{Hand}
use Rattle.pool_core.specs.declared.workers.Entry.{Entry}
use Rattle.pool_core.proofs.Opens.{opens_with}

abbrev pub idle : Hand
idle = record { stage = Idle; next = None; draws = 0 }

fresh_from : (n i : ℕ) → workers_from i (replicate n idle) [] ≡ replicate n (fresh one_share)
fresh_from zero i = refl
fresh_from (suc n) i = ap (λ (ws : List Worker). fresh one_share ∷ ws) (fresh_from n (suc i))

pub opens_state : (P : List (Option ℕ)) (n shown : ℕ) (cells : List ℕ) (hs : List Hand) (log : List Entry)
    → shown ≡ length (roots P) → cells ≡ opening_cells P → hs ≡ replicate n idle → log ≡ [] → state_of 0 shown false cells hs log ≡ opening P (replicate n (fresh one_share))
opens_state P n shown cells hs log s c h l =
    (λ i. state_of 0 (s i) false (c i) (h i) (l i)) ∙ ap (state 0 (length (roots P)) 0 0 (opening_cells P)) (fresh_from n 0)

each_idle : (P : List (Option ℕ)) (n i : ℕ) (h : Hand) → get_elem? (replicate n idle) i ≡ some h → IsNextOf P h.stage h.next
each_idle P zero i h at = absurd (some-ne-none h (sym at))
each_idle P (suc n) zero h at = subst (λ (x : Hand). IsNextOf P x.stage x.next) (some-injective idle h at) tt
each_idle P (suc n) (suc i) h at = each_idle P n i h at

pub opens_sound : (P Q : List (Option ℕ)) (n shown cap : ℕ) (cells : List ℕ) (hs : List Hand) (log : List Entry) → Q ≡ P → IsTree P → length P ≤ 262144 → n ≤ 64 → length P ≤ cap
    → shown ≡ length (roots P) → cells ≡ opening_cells P → hs ≡ replicate n idle → log ≡ [] → IsSound Q (state_of 0 shown false cells hs log) hs cap
opens_sound P Q n shown cap cells hs log same tree small few room s c h l =
    let long : length hs ≡ n = ap length h ∙ length-replicate n idle in
    subst (λ (R : List (Option ℕ)). IsSound R (state_of 0 shown false cells hs log) hs cap) (sym same) (record {
      tree = tree;
      small = small;
      few = omega arith;
      kept = merely (subst (λ (k : ℕ). Kept P (k * one_share) (state_of 0 shown false cells hs log)) (sym long) (subst (Kept P (n * one_share)) (sym (opens_state P n shown cells hs log s c h l)) ([], opens_with P n)));
      next = subst (λ (xs : List Hand). (i : ℕ) (x : Hand) → get_elem? xs i ≡ some x → IsNextOf P x.stage x.next) (sym h) (each_idle P n);
      room_left = room;
    })
