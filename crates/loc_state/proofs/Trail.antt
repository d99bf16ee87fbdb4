-- What each call keeps of a whole walk, where it is its step.
use Rattle.std.proofs.Common.{◌≡◌, ℕ, ◌+◌, ◌<◌, List, [], ◌∷◌, ◌++◌, length, Option, Some, sym, ap, ◌∙◌, subst}
use Rattle.std.specs.Prelude.{slice_get}
use Rattle.block_runs.specs.Blocks.{Operation}
use Rattle.lir_core.specs.declared.places.Places.{Places}
use Rattle.lir_core.specs.declared.places.Line.{Line}
use Rattle.lir_core.specs.Lines.{Room}
use Rattle.lir_core.specs.Walks.{Walks}
use Rattle.loc_state.specs.declared.part.Part.{Part}
use Rattle.loc_state.specs.declared.forward.Forward.{Forward}
use Rattle.loc_state.specs.Steps.{places, started, in_part, closed, brought, evicted, dropped, defines, called}
use Rattle.loc_state.specs.Walked.{Walked, AreValues, CanBring, CanDefine, CanCall, Task, task, AllWalk, IsWalked, Course, Simulates}
use Rattle.loc_state.proofs.Stepping.{brings, evicts, drops, defines_kept, begins, ends}
use Rattle.loc_state.proofs.Calling.{called_kept}

module _ (x : Course) (new old : Forward) (step : Part → Part) (is : new ≡ in_part step old) where
  stepped : (n m : ℕ) (noted more : List ℕ) → Simulates x n noted old → (Walked x.room x.ops n noted old.part → Walked x.room x.ops m more (step old.part)) → Simulates x m more new
  stepped n m noted more s on = subst (Simulates x m more) (sym is) (record { before = s.before; here = on s.here })

pub starts_to : (x : Course) (f : Forward) (start : Places) → f ≡ started start → x.done ≡ [] → length start.regs ≡ x.room.regs → AreValues x.room.values start → Simulates x 0 [] f
starts_to x f start is none l v = subst (Simulates x 0 []) (sym is) (record { before = subst (λ d. IsWalked x.room d (started start)) (sym none) tt; here = begins x.room x.ops start l v })

pub brings_to : (new old : Forward) (v : ℕ) (o : Option ℕ) → new ≡ in_part (brought v o) old → (x : Course) (n : ℕ) (noted : List ℕ) → CanBring v o old.part → Simulates x n noted old → Simulates x n (noted ++ v ∷ []) new
brings_to new old v o is x n noted can s = stepped x new old (brought v o) is n n noted (noted ++ v ∷ []) s (λ w. brings x.room x.ops n noted old.part w v o can)

pub evicts_to : (new old : Forward) (r : ℕ) → new ≡ in_part (evicted r) old → r < length old.part.regs → (x : Course) (n : ℕ) (noted : List ℕ) → Simulates x n noted old → Simulates x n noted new
evicts_to new old r is l x n noted s = stepped x new old (evicted r) is n n noted noted s (λ w. evicts x.room x.ops n noted old.part w r l)

pub drops_to : (new old : Forward) (v : ℕ) → new ≡ in_part (dropped v) old → (x : Course) (n : ℕ) (noted : List ℕ) → Simulates x n noted old → Simulates x n noted new
drops_to new old v is x n noted s = stepped x new old (dropped v) is n n noted noted s (λ w. drops x.room x.ops n noted old.part w v)

pub defines_to : (new old : Forward) (i : ℕ) (op : Operation) (place : Option ℕ) → new ≡ in_part (defines i op.def place) old → (x : Course) → slice_get x.ops i ≡ Some op → CanDefine x.room.values op place old.part → Simulates x i op.uses old → Simulates x (i + 1) [] new
defines_to new old i op place is x here can s = stepped x new old (defines i op.def place) is i (i + 1) op.uses [] s (λ w. defines_kept x.room x.ops i op place old.part here can w)

pub calls_to : (new old : Forward) (i : ℕ) (op : Operation) (keep : List ℕ) → new ≡ in_part (called i op keep) old → (x : Course) → slice_get x.ops i ≡ Some op → CanCall x.room op old.part → Simulates x i [] old → Simulates x (i + 1) [] new
calls_to new old i op keep is x here can s = stepped x new old (called i op keep) is i (i + 1) [] [] s (λ w. called_kept x.room x.ops i op keep old.part here can w)

---- Nodes

pub all_more : (room : Room) (done : List Task) (ss : List Places) (ls : List (List Line)) (rs : List (List ℕ)) (es : List Places) (b : Task) (s : Places) (l : List Line) (r : List ℕ) (e : Places) → AllWalk room done ss ls rs es → Walks room b.ops b.last s l r e → AllWalk room (done ++ b ∷ []) (ss ++ s ∷ []) (ls ++ l ∷ []) (rs ++ r ∷ []) (es ++ e ∷ [])
all_more room [] [] [] [] [] b s l r e h w = (w, tt)
all_more room (d ∷ done) (s' ∷ ss) (l' ∷ ls) (r' ∷ rs) (e' ∷ es) b s l r e h w = (h.0, all_more room done ss ls rs es b s l r e h.1 w)
all_more room [] [] [] [] (y ∷ es) b s l r e h w = absurd h
all_more room [] [] [] (y ∷ rs) es b s l r e h w = absurd h
all_more room [] [] (y ∷ ls) rs es b s l r e h w = absurd h
all_more room [] (y ∷ ss) ls rs es b s l r e h w = absurd h
all_more room (d ∷ done) [] ls rs es b s l r e h w = absurd h
all_more room (d ∷ done) (y ∷ ss) [] rs es b s l r e h w = absurd h
all_more room (d ∷ done) (y ∷ ss) (z ∷ ls) [] es b s l r e h w = absurd h
all_more room (d ∷ done) (y ∷ ss) (z ∷ ls) (r' ∷ rs) [] b s l r e h w = absurd h

pub ended_to : (new old : Forward) (next : Option Places) (last : List ℕ) → new ≡ closed next old → (x : Course) → Simulates x (length x.ops) last old → IsWalked x.room (x.done ++ task x.ops last ∷ []) new
ended_to new old next last is x s = subst (IsWalked x.room (x.done ++ task x.ops last ∷ [])) (sym is) (all_more x.room x.done old.starts old.lines old.regs old.ends (task x.ops last) old.part.start old.part.lines old.part.named (places old.part) s.before (ends x.room x.ops last old.part s.here))

pub begun_to : (new old : Forward) (next : Option Places) → new ≡ closed next old → (room : Room) (ops : List Operation) (q : Places) → next ≡ Some q → length q.regs ≡ room.regs → AreValues room.values q → Walked room ops 0 [] new.part
begun_to new old next is room ops q some l v = subst (λ f. Walked room ops 0 [] f.part) (sym (is ∙ ap (λ o. closed o old) some)) (begins room ops q l v)
