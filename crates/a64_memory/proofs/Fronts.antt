-- A region's bytes: the front of its chunks.
use Rattle.std.proofs.Common.{◌≡◌, ℕ, ◌+◌, ◌-◌, ◌≤◌, List, [], ◌∷◌, take, length, get_or, nat_le, true, arith, sym, ap, ◌∙◌}
use Rattle.std.proofs.lemmas.Bool.Decides.{nat_tests}
use Rattle.std.proofs.lemmas.List.{length-take-le, drop_more}
use Rattle.a64_memory.specs.Bytes.{splice, slab}
use Rattle.a64_memory.specs.Chunks.{joined, Chunked}
use Rattle.a64_memory.specs.Memory.{Area, lies, written}
use Rattle.a64_memory.proofs.Slabs.{slab-take, splice-take}
use Rattle.a64_memory.proofs.Stores.{lies-end}
use Rattle.a64_memory.proofs.Joining.{length-joined}

-- what a region with that base, size and chunks is
abbrev pub front : ℕ → ℕ → List (List ℕ) → Area
front base size cs = record { base = base; bytes = take size (joined cs) }

module _ (base size : ℕ) (cs : List (List ℕ)) (chunked : Chunked 1048576 size cs) where
  pub room_joined : size ≤ length (joined cs)
  room_joined = let all = length-joined cs chunked.even in let room = chunked.room in omega (arith, all, room)

  pub length-front : length (front base size cs).bytes ≡ size
  length-front = length-take-le size (joined cs) room_joined

  -- whether bytes lie in it
  pub front_lies : (p n : ℕ) → base ≤ p → p - base ≤ size → nat_le n (size - (p - base)) ≡ lies (front base size cs) p n
  front_lies p n l g = let all = length-front in grind (arith, nat_tests)

  pub front_end : (p n : ℕ) → lies (front base size cs) p n ≡ true → p - base + n ≤ size
  front_end p n h = let all = length-front in let e = lies-end (front base size cs) p n h in omega (arith, all, e)

  -- what is read of it is read of the chunks
  pub front_slab : (p n : ℕ) → lies (front base size cs) p n ≡ true → slab (front base size cs).bytes (p - base) n ≡ slab (joined cs) (p - base) n
  front_slab p n h = slab-take (joined cs) size (p - base) n (front_end p n h)

  pub front_byte : (p : ℕ) → lies (front base size cs) p 1 ≡ true → slab (front base size cs).bytes (p - base) 1 ≡ get_or (joined cs) (p - base) 0 ∷ []
  front_byte p h = let l = front_end p 1 h in let room = room_joined in front_slab p 1 h ∙ ap (take 1) (drop_more (joined cs) (p - base) 0 (omega (arith, l, room)))

  -- and what is stored into it is stored into them
  pub front_stored : (p : ℕ) (bs : List ℕ) (ds : List (List ℕ)) → lies (front base size cs) p (length bs) ≡ true → joined ds ≡ splice (joined cs) (p - base) bs → front base size ds ≡ written (front base size cs) p bs
  front_stored p bs ds h e =
      ap (λ l. record { base = base; bytes = take size l }) e
      ∙ ap (λ l. record { base = base; bytes = l }) (sym (splice-take (joined cs) size (p - base) bs (front_end p (length bs) h) room_joined))
