-- The object of a call comes, zeroed, and goes; texts are read byte by byte.
use Rattle.std.proofs.Common.{◌≡◌, ℕ, ◌+◌, ◌^◌, ◌<◌, List, length, replicate, false, sym, subst, arith, Some, None}
use Rattle.std.proofs.lemmas.List.{length-replicate}
use Rattle.a64_memory.specs.Memory.{Area, with_bytes, loaded1}
use Rattle.a64_memory.proofs.Shapes.{zero_bytes}
use Rattle.object_bytes.specs.Layouts.{Spot, Body, Fine}
use Rattle.object_bytes.specs.Objects.{Cell, Number, Objects, create, Placing, with_new, Means, load, Kept, Spare}
use Rattle.object_bytes.proofs.Kept.{kept_load, scalar_room}
use Rattle.object_bytes.proofs.Lives.{kept_create, spare_part, zero_scalar}
use Rattle.object_bytes.proofs.Blocks.{kept_spare, spare_bytes, zeros_made, text_byte}

module _ (o : Objects) (p : Placing) (m : List Area) (h : Kept o p m) (k a n : ℕ) (f : Body) (cells : ℕ → Cell) (fine : Fine f) (some : 0 < a)
    (fresh : p.place k ≡ None) (unnamed : p.heap k ≡ None) (spare : Spare o p m a (f.bytes + n)) (blank : (c : ℕ) → cells c ≡ Number 0) where
  abbrev pub zeroed : List Area
  zeroed = with_bytes m a (replicate f.bytes 0)

  size : length {A = ℕ} (replicate f.bytes 0) ≡ f.bytes
  size = length-replicate {A = ℕ} f.bytes 0

  mine : Spare o p m a f.bytes
  mine = spare_part o p m a (f.bytes + n) a f.bytes spare (omega arith) (omega arith)

  pub kept_zeroed : Kept o p zeroed
  kept_zeroed = kept_spare o p m a (replicate f.bytes 0) h (subst (λ l. Spare o p m a l) (sym size) mine) (zero_bytes f.bytes)

  pub kept_local : Kept (create k f cells o) (with_new false k a p) zeroed
  kept_local = kept_create o k f cells false a p zeroed kept_zeroed fresh unnamed (spare_bytes o p m a (replicate f.bytes 0) a f.bytes mine) some fine
      (λ c s is. subst (λ v. Means (with_new false k a p) v (load s.small zeroed (a + s.at))) (sym (blank c)) (zero_scalar zeroed a f c s fine (zeros_made m a f.bytes h.areas mine.room) is))

-- a character of a text, whether it takes one byte or eight
pub text_at : (o : Objects) (p : Placing) (m : List Area) (k a c : ℕ) (s : Spot) (x : ℕ) → Kept o p m → p.place k ≡ Some a → (o.form k).spot c ≡ Some s → o.cell k c ≡ Number x → x < 2 ^ 8 → loaded1 m (a + s.at) ≡ x
text_at o p m k a c s x h at is has lt =
    text_byte s.small m (a + s.at) x h.areas h.bytes (scalar_room o p m k a c s h at is) (subst (λ v. Means p v (load s.small m (a + s.at))) has (kept_load o p m k a c s h at is)) lt
