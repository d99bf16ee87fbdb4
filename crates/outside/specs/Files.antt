-- What files tell of their content, and what their calls' answers say of it.
use Rattle.std.specs.Prelude.{◌≡◌, ◌≢◌, ℕ, ◌<◌, List, length, Option, Some, None, Result, Ok, Err, Vec}
use Rattle.std.specs.Global.{Global}
use Rattle.outside.specs.declared.files.GetFault.{GetFault}
use Rattle.outside.specs.declared.files.GetFault.TheVariants.{NoSuchFile, TooLong, Failed, Memory}
use Rattle.outside.specs.declared.files.PutFault.{PutFault}

-- what each name holds: nothing, or its bytes
abbrev pub Held : Type 0
Held = List ℕ → Option (List ℕ)

-- the answer for a name that holds this, asked for at most so many bytes
abbrev pub ReadOf : Option (List ℕ) → ℕ → Result (Vec ℕ Global) GetFault → Type 0
ReadOf content most (Ok v) = content ≡ Some v.items
ReadOf content most (Err NoSuchFile) = content ≡ None
ReadOf content most (Err TooLong) = (bytes : List ℕ) × (content ≡ Some bytes) × (most < length bytes)
ReadOf content most (Err Failed) = Unit {0}
ReadOf content most (Err Memory) = Unit {0}

-- the answer of a read, where it is told what is held
abbrev pub ToldOfRead : Option Held → List ℕ → ℕ → Result (Vec ℕ Global) GetFault → Type 0
ToldOfRead None name most answer = Unit {0}
ToldOfRead (Some held) name most answer = ReadOf (held name) most answer

-- every name but one holds what it held
abbrev pub OthersStay : Held → List ℕ → Held → Type 0
OthersStay old name new = (other : List ℕ) → other ≢ name → new other ≡ old other

-- what is held after a write: the bytes under the name and all else as before, or, after a fault, all else as before
abbrev pub WriteOf : Held → List ℕ → List ℕ → Held → Result (Unit {0}) PutFault → Type 0
WriteOf old name bytes new (Ok u) = (new name ≡ Some bytes) × OthersStay old name new
WriteOf old name bytes new (Err e) = OthersStay old name new

-- what is told to be held after a write
abbrev pub ToldOfWrite : Option Held → List ℕ → List ℕ → Option Held → Result (Unit {0}) PutFault → Type 0
ToldOfWrite None name bytes new answer = new ≡ None
ToldOfWrite (Some old) name bytes new answer = (held : Held) × (new ≡ Some held) × WriteOf old name bytes held answer
