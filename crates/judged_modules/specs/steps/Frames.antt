-- What parts of the judgement leave as it was.
use Rattle.std.specs.Prelude.{◌≡◌, ◌<◌, ◌≤◌, ℕ, List, [], ◌∷◌, ◌++◌, length, Option, Some, slice_get}
use Rattle.ob_judge.specs.Scopes.{no_names}
use Rattle.ob_judge.specs.Making.{Making, without_last}

-- pointer types point to what they pointed to
pub record Begins (before now : List (Option ℕ)) : Type 0 where
  pub long : length before ≤ length now
  pub same : (n : ℕ) → n < length before → slice_get now n ≡ slice_get before n

-- earlier modules, procedures, what pointer types point to, and those whose base comes later
pub record Held (s t : Making) : Type 0 where
  pub modules : t.world.modules ≡ s.world.modules
  pub procedures : t.procedures ≡ s.procedures
  pub bases : t.world.known.bases ≡ s.world.known.bases
  pub forward : t.forward ≡ s.forward

-- earlier modules, procedures, and what those pointer types point to that there were
pub record Steady (s t : Making) : Type 0 where
  pub modules : t.world.modules ≡ s.world.modules
  pub procedures : t.procedures ≡ s.procedures
  pub begins : Begins s.world.known.bases t.world.known.bases

-- the judgement where a procedure's scope was opened: `within_procedure`, as it begins
abbrev pub entered : (procedure : ℕ) → Making → Making
entered f s = record s { world = record s.world { levels = s.world.levels ++ no_names ∷ []; procedure = Some f }; standing = []; values = 0; variables = [] }

-- and as it ends: t is what was made in the scope
abbrev pub left : (s t : Making) → Making
left s t = record s { world = record s.world { levels = without_last t.world.levels; known = t.world.known }; objects = t.objects; procedures = t.procedures }
