-- Sound lines have a line for each operation, and no more.
use Rattle.std.proofs.Common.{◌≡◌, ℕ, zero, suc, ◌+◌, ◌-◌, ◌≤◌, List, [], ◌∷◌, length, map, Option, Some, None, refl, arith, sym, ap, ◌∙◌}
use Rattle.std.specs.Prelude.{slice_get}
use Rattle.block_runs.specs.Blocks.{Operation}
use Rattle.lir_core.specs.declared.places.Places.{Places}
use Rattle.lir_core.specs.declared.places.Line.{Line}
use Rattle.lir_core.specs.declared.places.Line.TheVariants.{Store, Load, Moves, Result, Target}
use Rattle.lir_core.specs.declared.places.Line.TheVariants.{Lir as Does}
use Rattle.lir_core.specs.Spots.{Spot, view_of}
use Rattle.lir_core.specs.Lines.{Room}
use Rattle.lir_core.specs.Sound.{Running, Performs, Simulates, Ends, AreSoundLines, performed, shifted}
use Rattle.placed_code.specs.Results.{lines_behind}
use Rattle.link_blocks.proofs.Flat.{beyond}

-- how many operations lines do
abbrev deeds : List Line → ℕ
deeds [] = 0
deeds (Does i ∷ ls) = suc (deeds ls)
deeds (Store r v ∷ ls) = deeds ls
deeds (Load r v ∷ ls) = deeds ls
deeds (Moves ms ∷ ls) = deeds ls
deeds (Result r ∷ ls) = deeds ls
deeds (Target from ∷ ls) = deeds ls

no_more : (ls : List Line) → deeds ls ≡ 0 → lines_behind ls ≡ []
no_more [] e = refl
no_more (Does i ∷ ls) e = cc
no_more (Store r v ∷ ls) e = no_more ls e
no_more (Load r v ∷ ls) e = no_more ls e
no_more (Moves ms ∷ ls) e = no_more ls e
no_more (Result r ∷ ls) e = no_more ls e
no_more (Target from ∷ ls) e = no_more ls e

one_less : (ls : List Line) (n : ℕ) → deeds ls ≤ suc n → deeds (lines_behind ls) ≤ n
one_less [] n l = omega arith
one_less (Does i ∷ ls) n l = omega (arith, l)
one_less (Store r v ∷ ls) n l = one_less ls n l
one_less (Load r v ∷ ls) n l = one_less ls n l
one_less (Moves ms ∷ ls) n l = one_less ls n l
one_less (Result r ∷ ls) n l = one_less ls n l
one_less (Target from ∷ ls) n l = one_less ls n l

all_done : (ops : List Operation) (ls : List Line) → deeds ls ≤ length ops → beyond ops ls ≡ []
all_done [] ls l = no_more ls (omega (arith, l))
all_done (op ∷ ops) ls l = all_done ops (lines_behind ls) (one_less ls (length ops) l)

module _ (ops : List Operation) (last : List ℕ) (end : Places) where
  counted : (ls : List Line) (s : Running) → Simulates ops ls (Ends ops last end) s → s.next + deeds ls ≡ length ops
  counted [] s h = let d = h.done in omega (arith, d)
  counted (Does i ∷ ls) s h = done_one (slice_get ops i) h (λ t. counted ls t)
    where
      done_one : (o : Option Operation) → Performs o i s (Simulates ops ls (Ends ops last end)) → ((t : Running) → Simulates ops ls (Ends ops last end) t → t.next + deeds ls ≡ length ops) → s.next + suc (deeds ls) ≡ length ops
      done_one None h on = absurd h
      done_one (Some op) h on = let r = on (performed op s 0 s.content) (h.3 0 s.content (λ p e. refl)) in omega (arith, r)
  counted (Store r v ∷ ls) s h = counted ls (shifted (Store r v) s) h
  counted (Load r v ∷ ls) s h = counted ls (shifted (Load r v) s) h
  counted (Moves ms ∷ ls) s h = counted ls (shifted (Moves ms) s) h
  counted (Result r ∷ ls) s h = counted ls (shifted (Result r) s) h
  counted (Target from ∷ ls) s h = counted ls (shifted (Target from) s) h

pub none_beyond : (room : Room) (ops : List Operation) (last : List ℕ) (start : Places) (ls : List Line) (named : List ℕ) (end : Places) → AreSoundLines room ops last start ls named end → beyond ops ls ≡ []
none_beyond room ops last start ls named end sound =
    let n = counted ops last end ls (record { next = 0; named = named; values = λ v. 0; content = λ p. 0 }) (sound.simulates (λ v. 0) (λ p. 0) (λ p v e. refl)) in
    all_done ops ls (omega (arith, n))

-- where there are no lines there are no operations
pub no_lines : (room : Room) (ops : List Operation) (last : List ℕ) (start : Places) (ls : List Line) (named : List ℕ) (end : Places) → AreSoundLines room ops last start ls named end → ls ≡ [] → ops ≡ []
no_lines room ops last start ls named end sound e =
    let n = counted ops last end ls (record { next = 0; named = named; values = λ v. 0; content = λ p. 0 }) (sound.simulates (λ v. 0) (λ p. 0) (λ p v e. refl)) in
    let z : deeds ls ≡ 0 = ap deeds e in
    empty ops (omega (arith, n, z))
  where
    empty : (xs : List Operation) → length xs ≡ 0 → xs ≡ []
    empty [] e = refl
    empty (x ∷ xs) e = cc
